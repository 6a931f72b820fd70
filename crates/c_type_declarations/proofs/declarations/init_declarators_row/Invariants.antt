-- `init_declarators_row` of src/declarations.rt: what holds in its loop.
-- The declarators of a declaration, in order: what one declares is visible in the next (C11 6.2.1p7).
use Rattle.std.proofs.Common.{drop, map}
use Rattle.std.specs.Option.{option_copied}
use Rattle.c_typing.specs.Declarations as spec
use Rattle.c_type_walk.specs.Walks.{fixed}
use Rattle.c_type_declarations.proofs.InTurn.{SoFar}
use Rattle.c_type_declarations.proofs.declarations.init_declarators_row.Given as goal

abbrev pub invariant-loop-one : goal.invariant-loop-one
invariant-loop-one l =
    SoFar (spec.init_declarators_row l.first (option_copied l.basis) (map spec.beginning_of l.list))
    (spec.init_declarators_row l.first (option_copied l.basis) (map spec.beginning_of (drop l.one-index l.list)))
    (fixed l.around) l.initial.found l.found l.made
