-- `stmt_row` of src/inside.rt: what the check leaves open of its proof.
-- A statement (C11 6.8).
use Rattle.c_typing.specs.Statements.{block_typing-is, stmt_typing-Block, stmt_typing-If, stmt_typing-While, stmt_typing-Do, stmt_typing-For, stmt_typing-Switch, stmt_typing-Break, stmt_typing-Continue, stmt_typing-Return, stmt_typing-Expression}
use Rattle.c_type_statements.proofs.Rows.{expression_typed}
use Rattle.c_type_statements.proofs.walker.Walker.stmt_row.Goals as goal

pub returns-in-Block : goal.returns-in-Block
returns-in-Block g c = rw (c.in-Block.is, stmt_typing-Block, block_typing-is) (rw c.as_slice.ensures at c.block_row.ensures)

pub returns-in-If : goal.returns-in-If
returns-in-If g c = rw (c.in-If.is, stmt_typing-If) (rw (c.get.ensures, c.as_slice-others.ensures) at c.if_row.ensures)

pub returns-in-While : goal.returns-in-While
returns-in-While g c = rw (c.in-While.is, stmt_typing-While) (rw c.get-in-While.ensures at c.while_row.ensures)

pub returns-in-Do : goal.returns-in-Do
returns-in-Do g c = rw (c.in-Do.is, stmt_typing-Do) (rw c.get-in-Do.ensures at c.do_row.ensures)

pub returns-in-For : goal.returns-in-For
returns-in-For g c = rw (c.in-For.is, stmt_typing-For) (rw c.get-in-For.ensures at c.for_row.ensures)

pub returns-in-Switch : goal.returns-in-Switch
returns-in-Switch g c = rw (c.in-Switch.is, stmt_typing-Switch, block_typing-is) (rw c.as_slice-items.ensures at c.switch_row.ensures)

pub returns-in-Break : goal.returns-in-Break
returns-in-Break g c = rw (c.in-Break.is, stmt_typing-Break) c.break_row.ensures

pub returns-in-Continue : goal.returns-in-Continue
returns-in-Continue g c = rw (c.in-Continue.is, stmt_typing-Continue) c.continue_row.ensures

pub returns-in-Return : goal.returns-in-Return
returns-in-Return g c = rw (c.in-Return.is, stmt_typing-Return) (rw c.as_ref-in-Return.ensures.value at c.return_row.ensures)

pub returns-in-Expression : goal.returns-in-Expression
returns-in-Expression g c = rw (c.in-Expression.is, stmt_typing-Expression, expression_typed) (rw c.as_ref.ensures.value at c.expression_row.ensures)
