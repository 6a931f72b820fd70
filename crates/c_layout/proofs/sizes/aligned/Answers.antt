use Rattle.std.proofs.Common.{◌∙◌}
use Rattle.c_layout.proofs.Caps.{aligned_more}
use Rattle.c_layout.proofs.sizes.aligned.Goals as goal

pub loop-derivation-preserved : goal.loop-derivation-preserved
loop-derivation-preserved c =
    rw c.derived_alignment-alignment.ensures
    (aligned_more c.args.derivations.now c.loop-derivation.derivation-index c.derivation-item.result c.loop-derivation.alignment c.loop-derivation-test.true c.derivation-item.is ∙ c.loop-derivation.invariant)
