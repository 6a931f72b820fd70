use Rattle.std.proofs.Common.{◌≡◌, drop}
use Rattle.c_layout.specs.Sizes.{aligned}
use Rattle.c_layout.proofs.sizes.aligned.Given as goal

abbrev pub invariant-loop-derivation : goal.invariant-loop-derivation
invariant-loop-derivation l = aligned l.alignment (drop l.derivation-index l.derivations) ≡ aligned l.fn.before l.fn.derivations
