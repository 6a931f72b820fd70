-- The loops over two lists:
-- those that were passed are put together.
use Rattle.std.proofs.Common.{◌≡◌, take}
use Rattle.c_typing.specs.Types.{with_each, composite_derived, composite}
use Rattle.c_type_rules.proofs.composites.+composites.Given as goal

abbrev pub invariant-composite_derivations-loop-at : goal.invariant-composite_derivations-loop-at
invariant-composite_derivations-loop-at l = l.all.items ≡ take l.at (with_each composite_derived l.list l.others)

abbrev pub invariant-composite_types-loop-at : goal.invariant-composite_types-loop-at
invariant-composite_types-loop-at l = l.all.items ≡ take l.at (with_each composite l.list l.others)
