-- `parts_row` of src/switches.rt: what holds in its loop.
-- The body of a `switch` from label to label.
use Rattle.std.proofs.Common.{true, drop, map}
use Rattle.c_typing.specs.OfStatements as spec
use Rattle.c_typing.specs.Statements.{block_item_typing}
use Rattle.c_type_walk.specs.Walks.{fixed}
use Rattle.c_type_statements.specs.Statements.{parting_of}
use Rattle.c_type_statements.proofs.Left.{Left}
use Rattle.c_type_statements.proofs.walker.Walker.parts_row.Given as goal

abbrev pub invariant-loop-item : goal.invariant-loop-item
invariant-loop-item g l =
    Left (spec.parts_row spec.no_parts true (map block_item_typing l.items))
    (spec.parts_row (parting_of l.parting) l.good (map block_item_typing (drop l.item-index l.items)))
    (fixed l.around) l.initial.found l.found
