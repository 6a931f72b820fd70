-- The loop over the derivations of a type:
-- those that were passed are arrays.
use Rattle.std.proofs.Common.{◌≡◌, drop}
use Rattle.c_typing.specs.Expressions as spec
use Rattle.c_type_rules.proofs.modifiable.only_arrays.Given as goal

abbrev pub invariant-loop-derivation : goal.invariant-loop-derivation
invariant-loop-derivation l = spec.only_arrays (drop l.derivation-index l.derived) ≡ spec.only_arrays l.derived
