-- `part_row` of src/switches.rt: what the check leaves open of its proof.
-- One item of the body of a `switch`; whether no fault stands in it.
use Rattle.c_typing.specs.Statements.{block_item_typing-Case, block_item_typing-Declaration, block_item_typing-Default, block_item_typing-Statement}
use Rattle.c_type_statements.proofs.walker.Walker.part_row.Goals as goal

pub returns-in-Case : goal.returns-in-Case
returns-in-Case g c = rw (c.in-Case.is, block_item_typing-Case) c.case_row.ensures

pub returns-in-Default : goal.returns-in-Default
returns-in-Default g c = rw (c.in-Default.is, block_item_typing-Default) c.default_row.ensures

pub returns-in-Declaration : goal.returns-in-Declaration
returns-in-Declaration g c = rw (c.in-Declaration.is, block_item_typing-Declaration) (rw (c.in-Declaration.is, block_item_typing-Declaration) at c.stated_row.ensures)

pub returns-in-Statement : goal.returns-in-Statement
returns-in-Statement g c = rw (c.in-Statement.is, block_item_typing-Statement) (rw (c.in-Statement.is, block_item_typing-Statement) at c.stated_row-in-Statement.ensures)
