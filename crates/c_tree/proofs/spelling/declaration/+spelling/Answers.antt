use Rattle.std.proofs.Common.{append_assoc}
use Rattle.c_tree.specs.Spelling.Initialisers.{initialiser_item_spelling, initialiser_item_spelling-is, initialiser_spelling-Expression, initialiser_spelling-List}
use Rattle.c_tree.proofs.Appends.{joined_more, told-append}
use Rattle.c_tree.proofs.spelling.declaration.+spelling.Goals as goal

pub initialiser-returns-in_ok-expr-in-Expression : goal.initialiser-returns-in_ok-expr-in-Expression
initialiser-returns-in_ok-expr-in-Expression g t c = rw (c.in-Expression.is, initialiser_spelling-Expression, c.in_ok-expr-in-Expression.ensures)

pub initialiser-returns-in_ok-punct-in-List-2 : goal.initialiser-returns-in_ok-punct-in-List-2
initialiser-returns-in_ok-punct-in-List-2 g t c = rw (c.in-List.is, initialiser_spelling-List, c.in_ok-punct-in-List-2.ensures, c.in_ok-comma_at-in-List.ensures, c.in_ok-initialiser_items-in-List.ensures, c.as_slice.ensures, c.in_ok-punct-in-List.ensures) (simp (told-append g.S.Taker.shown, append_assoc))

pub initialiser_items-loop-one-preserved : goal.initialiser_items-loop-one-preserved
initialiser_items-loop-one-preserved g t c =
    let more = joined_more g.S.Taker.shown initialiser_item_spelling c.args.all.now c.loop-one.one-index c.one-item.result c.loop-one-test.true c.one-item.is in
    rw (more, c.in_ok-initialiser.ensures, c.in_ok-comma_at.ensures, c.loop-one.invariant, initialiser_item_spelling-is c.one-item.result) (simp (told-append g.S.Taker.shown, append_assoc))
