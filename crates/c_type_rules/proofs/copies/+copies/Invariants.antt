-- The loops over derivations and over parameters:
-- those that were passed are copied.
use Rattle.std.proofs.Common.{◌≡◌, take}
use Rattle.c_type_rules.proofs.copies.+copies.Given as goal

abbrev pub invariant-copied_derivations-loop-one : goal.invariant-copied_derivations-loop-one
invariant-copied_derivations-loop-one l = l.copies.items ≡ take l.one-index l.list

abbrev pub invariant-copied_types-loop-one : goal.invariant-copied_types-loop-one
invariant-copied_types-loop-one l = l.copies.items ≡ take l.one-index l.list
