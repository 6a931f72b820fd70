-- `items_row` of src/items.rt: what the check leaves open of its proof.
-- What stands in a block, in order.
use Rattle.std.proofs.Common.{◌≡◌, ◌+◌, ◌<◌, refl, sym, subst, Option, length, drop, map, arith}
use Rattle.c_typing.specs.Declarations.{Made}
use Rattle.c_typing.specs.OfStatements as spec
use Rattle.c_typing.specs.Statements.{block_item_typing}
use Rattle.c_type_walk.specs.Walks.{fixed}
use Rattle.c_type_declarations.specs.Rows.{both}
use Rattle.c_type_declarations.proofs.InTurn.{SoFar, further_each}
use Rattle.c_type_statements.proofs.walker.Walker.items_row.Goals as goal

pub loop-item-preserved : goal.loop-item-preserved
loop-item-preserved g c =
    let items = c.args.items.now in
    let i = c.loop-item.item-index in
    let around = fixed c.args.around.now in
    let below : i < length items = omega arith in
    let both_made : c.in_ok-made.made ≡ both c.loop-item.made c.in-Ok.next = c.in_ok-made.ensures in
    let P : Option Made → Type 0 = λ made. SoFar (spec.items_row (map block_item_typing items)) (spec.items_row (map block_item_typing (drop (i + 1) items))) around c.args.found.now c.item_row.new.found made in
    subst P (sym both_made) (further_each spec.items_row spec.item_row (λ d ds. refl) block_item_typing items i c.item-item.result below c.item-item.is
    around c.args.found.now c.loop-item.found c.item_row.new.found c.loop-item.made c.in-Ok.next c.loop-item.invariant c.in-Ok.ensures)
