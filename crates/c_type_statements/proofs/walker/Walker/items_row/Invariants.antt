-- `items_row` of src/items.rt: what holds in its loop.
-- What stands in a block, in order.
use Rattle.std.proofs.Common.{drop, map}
use Rattle.c_typing.specs.OfStatements as spec
use Rattle.c_typing.specs.Statements.{block_item_typing}
use Rattle.c_type_walk.specs.Walks.{fixed}
use Rattle.c_type_declarations.proofs.InTurn.{SoFar}
use Rattle.c_type_statements.proofs.walker.Walker.items_row.Given as goal

abbrev pub invariant-loop-item : goal.invariant-loop-item
invariant-loop-item g l =
    SoFar (spec.items_row (map block_item_typing l.items)) (spec.items_row (map block_item_typing (drop l.item-index l.items)))
    (fixed l.around) l.initial.found l.found l.made
