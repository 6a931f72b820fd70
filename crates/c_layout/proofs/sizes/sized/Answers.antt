use Rattle.std.proofs.Common.{◌∙◌, []}
use Rattle.c_layout.specs.Sizes.{derived_size}
use Rattle.c_layout.proofs.Caps.{sized_more, sized_capped}
use Rattle.c_layout.proofs.sizes.sized.Goals as goal

pub loop-derivation-preserved : goal.loop-derivation-preserved
loop-derivation-preserved c = record {
  rest =
      rw c.derived_size-size.ensures
      (sized_more c.args.derivations.now c.loop-derivation.derivation-index c.derivation-item.result c.loop-derivation.size c.loop-derivation-test.true c.derivation-item.is ∙ c.loop-derivation.invariant.rest);
  told = rw c.derived_size-size.ensures (sized_capped [] (derived_size c.loop-derivation.size c.derivation-item.result));
}
