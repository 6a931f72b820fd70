use Rattle.std.proofs.Common.{◌≡◌, drop}
use Rattle.c_layout.specs.Sizes.{capped_size, sized}
use Rattle.c_layout.proofs.sizes.sized.Given as goal

abbrev pub invariant-loop-derivation : goal.invariant-loop-derivation
invariant-loop-derivation l = record {
  rest : capped_size (sized l.size (drop l.derivation-index l.derivations)) ≡ capped_size (sized l.fn.before l.fn.derivations);
  told : capped_size l.size ≡ l.size;
}
