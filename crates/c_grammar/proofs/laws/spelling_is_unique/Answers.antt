use Rattle.c_grammar.specs.Laws.Productions.{expressions_are_unique, specifiers_are_unique, declarators_are_unique}
use Rattle.c_grammar.proofs.laws.spelling_is_unique.Goals as goal

pub returns-clause-expressions : goal.returns-clause-expressions
returns-clause-expressions c = expressions_are_unique

pub returns-clause-specifiers : goal.returns-clause-specifiers
returns-clause-specifiers c = specifiers_are_unique

pub returns-clause-declarators : goal.returns-clause-declarators
returns-clause-declarators c = declarators_are_unique
