use Rattle.c_unit_grammar.specs.Examples.{initialisers_read, declarations_read, statements_read, blocks_read, scopes_read, nesting_read}
use Rattle.c_unit_grammar.proofs.laws.examples.Goals as goal

pub returns-clause-initialisers : goal.returns-clause-initialisers
returns-clause-initialisers c = initialisers_read

pub returns-clause-declarations : goal.returns-clause-declarations
returns-clause-declarations c = declarations_read

pub returns-clause-statements : goal.returns-clause-statements
returns-clause-statements c = statements_read

pub returns-clause-blocks : goal.returns-clause-blocks
returns-clause-blocks c = blocks_read

pub returns-clause-scopes : goal.returns-clause-scopes
returns-clause-scopes c = scopes_read

pub returns-clause-nesting : goal.returns-clause-nesting
returns-clause-nesting c = nesting_read
