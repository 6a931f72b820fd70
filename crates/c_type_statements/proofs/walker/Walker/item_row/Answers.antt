-- `item_row` of src/items.rt: what the check leaves open of its proof.
-- A declaration or a statement; labels stand in the block of a `switch` alone.
use Rattle.c_typing.specs.Statements.{stmt_typing, block_item_typing-Case, block_item_typing-Declaration, block_item_typing-Default, block_item_typing-Statement}
use Rattle.c_type_walk.specs.Walks.{fixed}
use Rattle.c_type_statements.proofs.Rows.{nothing_walked, stated, unstated}
use Rattle.c_type_statements.proofs.walker.Walker.item_row.Goals as goal

pub returns-in-Declaration : goal.returns-in-Declaration
returns-in-Declaration g c = rw (c.in-Declaration.is, block_item_typing-Declaration) c.declaration_row.ensures

pub returns-in_ok-one-in-Statement : goal.returns-in_ok-one-in-Statement
returns-in_ok-one-in-Statement g c = rw (c.in-Statement.is, block_item_typing-Statement) (stated (stmt_typing c.in-Statement.tree) (fixed c.args.around.now) _ _ _ _ _ c.in_ok-made-in-Statement.ensures c.in-Some.is c.in_ok-one-in-Statement.ensures)

pub returns-in_default : goal.returns-in_default
returns-in_default g c = rw (c.in-Statement.is, block_item_typing-Statement) (unstated (stmt_typing c.in-Statement.tree) (fixed c.args.around.now) _ _ _ c.in_ok-made-in-Statement.ensures c.in_default.is)

pub returns-in-Case : goal.returns-in-Case
returns-in-Case g c = rw (c.in-Case.is, block_item_typing-Case) (nothing_walked (fixed c.args.around.now) c.args.found.now _ c.new.ensures)

pub returns-in-Default : goal.returns-in-Default
returns-in-Default g c = rw (c.in-Default.is, block_item_typing-Default) (nothing_walked (fixed c.args.around.now) c.args.found.now _ c.new-in-Default.ensures)
