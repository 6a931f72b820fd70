-- `count_item` of src/blocks.rt: what the check leaves open of its proof.
-- How many an item of a block declares; `names` are then those behind it.
use Rattle.std.proofs.Common.{refl}
use Rattle.c_typing.specs.Statements.{block_item_typing-Case, block_item_typing-Declaration, block_item_typing-Default, block_item_typing-Statement}
use Rattle.c_type_statements.proofs.blocks.count_item.Goals as goal

pub returns-in-Declaration-clause-count : goal.returns-in-Declaration-clause-count
returns-in-Declaration-clause-count c = rw (c.in-Declaration.is, block_item_typing-Declaration) c.automatic_count.ensures.count

pub returns-in-Declaration-clause-names : goal.returns-in-Declaration-clause-names
returns-in-Declaration-clause-names c = rw (c.in-Declaration.is, block_item_typing-Declaration) c.automatic_count.ensures.names

pub returns-in-Statement-clause-count : goal.returns-in-Statement-clause-count
returns-in-Statement-clause-count c = rw (c.in-Statement.is, block_item_typing-Statement) refl

pub returns-in-Statement-clause-names : goal.returns-in-Statement-clause-names
returns-in-Statement-clause-names c = rw (c.in-Statement.is, block_item_typing-Statement) refl

pub returns-in-Case-clause-count : goal.returns-in-Case-clause-count
returns-in-Case-clause-count c = rw (c.in-Case.is, block_item_typing-Case) refl

pub returns-in-Case-clause-names : goal.returns-in-Case-clause-names
returns-in-Case-clause-names c = rw (c.in-Case.is, block_item_typing-Case) refl

pub returns-in-Default-clause-count : goal.returns-in-Default-clause-count
returns-in-Default-clause-count c = rw (c.in-Default.is, block_item_typing-Default) refl

pub returns-in-Default-clause-names : goal.returns-in-Default-clause-names
returns-in-Default-clause-names c = rw (c.in-Default.is, block_item_typing-Default) refl
