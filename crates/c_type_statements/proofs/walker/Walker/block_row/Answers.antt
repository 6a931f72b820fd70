-- `block_row` of src/items.rt: what the check leaves open of its proof.
-- A block (C11 6.8.2).
use Rattle.std.proofs.Common.{map}
use Rattle.c_typing.specs.OfStatements as spec
use Rattle.c_typing.specs.Statements.{block_item_typing}
use Rattle.c_type_walk.specs.Walks.{fixed}
use Rattle.c_type_statements.proofs.Rows.{objects_walked, blocked}
use Rattle.c_type_statements.proofs.walker.Walker.block_row.Goals as goal

pub returns : goal.returns
returns g c =
    let items = map block_item_typing c.args.items.now in
    rw (← c.in_ok-count.ensures) (blocked c.in_ok-count.count (spec.items_row items) (fixed c.args.around.now) c.args.found.now _ c.in-Ok-end_objects.objects c.in-Ok.made c.block_of.result
    (objects_walked c.in_ok-count.count (spec.items_row items) c.args.around.now c.in_scope-scope.result c.in_ok-outside.within c.args.found.now _ _ _ _ _ _ _ _
    c.in_scope-scope.ensures c.begin_objects.ensures.faults c.in_ok-outside.ensures.state c.in_ok-outside.ensures.outside.0 c.in_ok-outside.ensures.outside.1 c.in_ok-outside.ensures.within
    c.in-Ok.ensures c.in-Ok-end_objects.ensures.given c.end_objects.ensures.faults c.in-Ok-end_objects.ensures.state c.close.ensures.faults c.close.ensures.state) c.block_of.ensures)
