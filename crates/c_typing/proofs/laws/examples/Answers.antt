use Rattle.c_typing.specs.Examples.Expressions.{expressions_typed}
use Rattle.c_typing.specs.Examples.Operators.{operators_typed}
use Rattle.c_typing.specs.Examples.Declarators.{declarators_typed}
use Rattle.c_typing.specs.Examples.Statements.{statements_typed, initialisers_typed}
use Rattle.c_typing.specs.Examples.Units.{units_typed}
use Rattle.c_typing.proofs.laws.examples.Goals as goal

pub returns-clause-expressions : goal.returns-clause-expressions
returns-clause-expressions c = expressions_typed

pub returns-clause-operators : goal.returns-clause-operators
returns-clause-operators c = operators_typed

pub returns-clause-declarators : goal.returns-clause-declarators
returns-clause-declarators c = declarators_typed

pub returns-clause-statements : goal.returns-clause-statements
returns-clause-statements c = statements_typed

pub returns-clause-initialisers : goal.returns-clause-initialisers
returns-clause-initialisers c = initialisers_typed

pub returns-clause-units : goal.returns-clause-units
returns-clause-units c = units_typed
