-- `outers_row` of src/unit.rt: what holds in its loop.
-- Declarations and definitions, in order.
use Rattle.std.proofs.Common.{drop, map}
use Rattle.c_typing.specs.Units as spec
use Rattle.c_type_walk.specs.Walks.{fixed}
use Rattle.c_type_declarations.proofs.InTurn.{SoFar}
use Rattle.c_types.proofs.unit.outers_row.Given as goal

abbrev pub invariant-loop-one : goal.invariant-loop-one
invariant-loop-one l =
    SoFar (spec.outers_row (map spec.outer_of l.list)) (spec.outers_row (map spec.outer_of (drop l.one-index l.list)))
    (fixed l.around) l.initial.found l.found l.made
