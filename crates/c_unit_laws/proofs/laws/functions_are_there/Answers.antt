use Rattle.c_unit_laws.specs.Laws.{functions_have_tokens, main_is_there}
use Rattle.c_unit_laws.proofs.laws.functions_are_there.Goals as goal

pub returns-clause-tokens : goal.returns-clause-tokens
returns-clause-tokens c = functions_have_tokens

pub returns-clause-main : goal.returns-clause-main
returns-clause-main c = main_is_there
