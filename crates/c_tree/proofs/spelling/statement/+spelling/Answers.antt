use Rattle.std.proofs.Common.{append_assoc}
use Rattle.c_tree.specs.Spelling.Statements.{block_item_spelling, block_item_spelling-Case, block_item_spelling-Declaration, block_item_spelling-Default, block_item_spelling-Statement, block_spelling-is, else_spelling, else_spelling-is, stmt_spelling-Block, stmt_spelling-Break, stmt_spelling-Continue, stmt_spelling-Do, stmt_spelling-Expression, stmt_spelling-For, stmt_spelling-If, stmt_spelling-Return, stmt_spelling-Switch, stmt_spelling-While}
use Rattle.c_tree.proofs.Appends.{joined_more, told-append}
use Rattle.c_tree.proofs.spelling.statement.+spelling.Goals as goal

pub stmt-returns-in_ok-block-in-Block : goal.stmt-returns-in_ok-block-in-Block
stmt-returns-in_ok-block-in-Block g t c = rw (c.in-Block.is, stmt_spelling-Block, c.in_ok-block-in-Block.ensures)

pub stmt-returns-in_ok-punct-in-Expression : goal.stmt-returns-in_ok-punct-in-Expression
stmt-returns-in_ok-punct-in-Expression g t c = rw (c.in-Expression.is, stmt_spelling-Expression, c.in_ok-punct-in-Expression.ensures, c.in_ok-value_at-in-Expression.ensures) (simp (told-append g.S.Taker.shown, append_assoc))

pub stmt-returns-in_ok-elses-in-If : goal.stmt-returns-in_ok-elses-in-If
stmt-returns-in_ok-elses-in-If g t c = rw (c.in-If.is, stmt_spelling-If, c.in_ok-elses-in-If.ensures, c.as_slice.ensures, c.in_ok-stmt-in-If.ensures, c.get.ensures, c.in_ok-condition-in-If.ensures, c.in_ok-keyword-in-If.ensures) (simp (told-append g.S.Taker.shown, append_assoc))

pub stmt-returns-in_ok-stmt-in-While : goal.stmt-returns-in_ok-stmt-in-While
stmt-returns-in_ok-stmt-in-While g t c = rw (c.in-While.is, stmt_spelling-While, c.in_ok-stmt-in-While.ensures, c.get-in-While.ensures, c.in_ok-condition-in-While.ensures, c.in_ok-keyword-in-While.ensures) (simp (told-append g.S.Taker.shown, append_assoc))

pub stmt-returns-in_ok-punct-in-Do : goal.stmt-returns-in_ok-punct-in-Do
stmt-returns-in_ok-punct-in-Do g t c = rw (c.in-Do.is, stmt_spelling-Do, c.in_ok-punct-in-Do.ensures, c.in_ok-condition-in-Do.ensures, c.in_ok-keyword-in-Do-2.ensures, c.in_ok-stmt-in-Do.ensures, c.get-in-Do.ensures, c.in_ok-keyword-in-Do.ensures) (simp (told-append g.S.Taker.shown, append_assoc))

pub stmt-returns-in_ok-stmt-in-For : goal.stmt-returns-in_ok-stmt-in-For
stmt-returns-in_ok-stmt-in-For g t c = rw (c.in-For.is, stmt_spelling-For, c.in_ok-stmt-in-For.ensures, c.get-in-For.ensures, c.in_ok-for_control-in-For.ensures, c.in_ok-keyword-in-For.ensures) (simp (told-append g.S.Taker.shown, append_assoc))

pub stmt-returns-in_ok-block-in-Switch : goal.stmt-returns-in_ok-block-in-Switch
stmt-returns-in_ok-block-in-Switch g t c = rw (c.in-Switch.is, stmt_spelling-Switch, c.in_ok-block-in-Switch.ensures, c.in_ok-condition-in-Switch.ensures, c.in_ok-keyword-in-Switch.ensures) (simp (told-append g.S.Taker.shown, append_assoc))

pub stmt-returns-in_ok-punct-in-Break : goal.stmt-returns-in_ok-punct-in-Break
stmt-returns-in_ok-punct-in-Break g t c = rw (c.in-Break.is, stmt_spelling-Break, c.in_ok-punct-in-Break.ensures, c.in_ok-keyword-in-Break.ensures) (simp append_assoc)

pub stmt-returns-in_ok-punct-in-Continue : goal.stmt-returns-in_ok-punct-in-Continue
stmt-returns-in_ok-punct-in-Continue g t c = rw (c.in-Continue.is, stmt_spelling-Continue, c.in_ok-punct-in-Continue.ensures, c.in_ok-keyword-in-Continue.ensures) (simp append_assoc)

pub stmt-returns-in_ok-punct-in-Return : goal.stmt-returns-in_ok-punct-in-Return
stmt-returns-in_ok-punct-in-Return g t c = rw (c.in-Return.is, stmt_spelling-Return, c.in_ok-punct-in-Return.ensures, c.in_ok-value_at-in-Return.ensures, c.in_ok-keyword-in-Return.ensures) (simp (told-append g.S.Taker.shown, append_assoc))

pub elses-loop-one-preserved : goal.elses-loop-one-preserved
elses-loop-one-preserved g t c =
    let more = joined_more g.S.Taker.shown else_spelling c.args.all.now c.loop-one.one-index c.one-item.result c.loop-one-test.true c.one-item.is in
    rw (more, c.in_ok-stmt.ensures, c.in_ok-if_head.ensures, c.in_ok-keyword.ensures, c.loop-one.invariant, else_spelling-is c.one-item.result) (simp (told-append g.S.Taker.shown, append_assoc))

pub block-returns : goal.block-returns
block-returns g t c = rw (block_spelling-is c.args.tree.now, c.in_ok-punct-2.ensures, c.in_ok-block_items.ensures, c.as_slice.ensures, c.in_ok-punct.ensures) (simp (told-append g.S.Taker.shown, append_assoc))

pub block_items-loop-one-preserved : goal.block_items-loop-one-preserved
block_items-loop-one-preserved g t c =
    let more = joined_more g.S.Taker.shown block_item_spelling c.args.all.now c.loop-one.one-index c.one-item.result c.loop-one-test.true c.one-item.is in
    rw (more, c.in_ok-block_item.ensures, c.loop-one.invariant) (simp append_assoc)

pub block_item-returns-in_ok-declaration-in-Declaration : goal.block_item-returns-in_ok-declaration-in-Declaration
block_item-returns-in_ok-declaration-in-Declaration g t c = rw (c.in-Declaration.is, block_item_spelling-Declaration, c.in_ok-declaration-in-Declaration.ensures)

pub block_item-returns-in_ok-stmt-in-Statement : goal.block_item-returns-in_ok-stmt-in-Statement
block_item-returns-in_ok-stmt-in-Statement g t c = rw (c.in-Statement.is, block_item_spelling-Statement, c.in_ok-stmt-in-Statement.ensures)

pub block_item-returns-in_ok-punct-in-Case : goal.block_item-returns-in_ok-punct-in-Case
block_item-returns-in_ok-punct-in-Case g t c = rw (c.in-Case.is, block_item_spelling-Case, c.in_ok-punct-in-Case.ensures, c.in_ok-expr-in-Case.ensures, c.in_ok-keyword-in-Case.ensures) (simp (told-append g.S.Taker.shown, append_assoc))

pub block_item-returns-in_ok-punct-in-Default : goal.block_item-returns-in_ok-punct-in-Default
block_item-returns-in_ok-punct-in-Default g t c = rw (c.in-Default.is, block_item_spelling-Default, c.in_ok-punct-in-Default.ensures, c.in_ok-keyword-in-Default.ensures) (simp append_assoc)
