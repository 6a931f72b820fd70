-- `fill` of src/initialisers.rt: what the check leaves open of its proof.
-- What an initialiser fills of an object of a type, which begins so many bytes from the start of the whole (C11 6.7.9).
use Rattle.std.proofs.Common.{◌∙◌, sym, ◌<◌, length, arith}
use Rattle.c_typing.specs.Initialisers.{initialiser_typing-Expression, initialiser_typing-List}
use Rattle.c_type_initialisers.specs.Stacks.{stack}
use Rattle.c_type_initialisers.proofs.Braced.{scalar_one, scalar_many}
use Rattle.c_type_initialisers.proofs.Items.{item_expression, item_list}
use Rattle.c_type_initialisers.proofs.Loops.{items_turn, items_nothing}
use Rattle.c_type_initialisers.proofs.Typed.{next_typed}
use Rattle.c_type_initialisers.proofs.initialisers.+fill.Goals as goal

pub fill-returns-in-Expression : goal.fill-returns-in-Expression
fill-returns-in-Expression t c = rw (c.in-Expression.is, initialiser_typing-Expression) c.fill_single.ensures

pub fill-returns-in-List : goal.fill-returns-in-List
fill-returns-in-List t c = rw (c.in-List.is, initialiser_typing-List, ← c.as_slice.ensures) c.fill_list.ensures

pub item_row-returns-in-Expression : goal.item_row-returns-in-Expression
item_row-returns-in-Expression t c =
    item_expression c.args.list c.args.item.now c.in-Expression.expression (stack c.args.frames.now) c.next_piece.new.frames c.expression_item.new.frames
    c.in_ok-piece.field-0 c.in-Some.piece c.args.around.now c.args.found.now c.expression_item.new.found c.expression_item.result
    c.in_ok-piece.ensures.piece c.in_ok-piece.ensures.open c.in-Some.is c.in-Expression.is c.expression_item.ensures

pub item_row-returns-in_ok-filled-in-List : goal.item_row-returns-in_ok-filled-in-List
item_row-returns-in_ok-filled-in-List t c =
    item_list c.args.list c.args.item.now c.in-List.opening c.in-List.items c.in-List.comma c.in-List.closing (stack c.args.frames.now) c.next_piece.new.frames
    c.in_ok-piece.field-0 c.in-Some.piece c.args.around.now c.args.found.now c.fill_list.new.found c.in_ok-filled-in-List.filled c.leaves_of-in-List.result
    c.in_ok-piece.ensures.piece c.in_ok-piece.ensures.open c.in-Some.is c.in-List.is
    (rw c.as_slice-items.ensures at c.in_ok-filled-in-List.ensures) c.leaves_of-in-List.ensures

pub items_row-returns-in_default-placed : goal.items_row-returns-in_default-placed
items_row-returns-in_default-placed t c =
    let within : c.loop-item.item-index < length c.args.items.now = omega arith in
    items_nothing c.args.around.now c.args.found.now c.loop-item.found c.item_row.new.found c.args.list _ _ _ (stack c.loop-item.frames) c.item_row.new.frames
    c.in-Ok.placed _ c.loop-item.leaves
    (next_typed c.args.items.now c.loop-item.item-index c.item-item.result within c.item-item.is) c.in_default-placed.is c.in-Ok.ensures c.loop-item.invariant

pub items_row-loop-item-preserved : goal.items_row-loop-item-preserved
items_row-loop-item-preserved t c =
    let within : c.loop-item.item-index < length c.args.items.now = omega arith in
    items_turn c.args.around.now c.loop-item.found c.item_row.new.found c.args.list _ _ _ (stack c.loop-item.frames) c.item_row.new.frames
    c.in-Ok.placed c.in-Some.more _ _ c.loop-item.leaves c.append.new.self
    (next_typed c.args.items.now c.loop-item.item-index c.item-item.result within c.item-item.is) c.in-Some.is c.in-Ok-append.ensures c.in-Ok.ensures c.loop-item.invariant

pub scalar_list-returns-then-is_empty : goal.scalar_list-returns-then-is_empty
scalar_list-returns-then-is_empty t c =
    scalar_one c.args.list c.args.offset c.args.ctype c.args.items.now _ _ c.args.around.now c.args.found.now c.fill.new.found c.in_ok-filled.filled
    c.in-Some.ensures.cases.0 (sym c.is_empty.ensures ∙ c.if-is_empty.true) c.in_ok-filled.ensures

pub scalar_list-returns : goal.scalar_list-returns
scalar_list-returns t c =
    scalar_many c.args.list c.args.offset c.args.ctype c.args.items.now _ _ c.args.around.now c.args.found.now c.fill.new.found c.too_many.new.found
    c.in_ok-filled.filled c.too_many.result c.in-Some.ensures.cases.0 (sym c.is_empty.ensures ∙ c.if-is_empty.false) c.in_ok-filled.ensures c.too_many.ensures
