use Rattle.c_grammar.specs.Examples.{expressions_read, casts_read, declarators_read, specifiers_read, nesting_read}
use Rattle.c_grammar.proofs.laws.examples.Goals as goal

pub returns-clause-expressions : goal.returns-clause-expressions
returns-clause-expressions c = expressions_read

pub returns-clause-casts : goal.returns-clause-casts
returns-clause-casts c = casts_read

pub returns-clause-declarators : goal.returns-clause-declarators
returns-clause-declarators c = declarators_read

pub returns-clause-specifiers : goal.returns-clause-specifiers
returns-clause-specifiers c = specifiers_read

pub returns-clause-nesting : goal.returns-clause-nesting
returns-clause-nesting c = nesting_read
