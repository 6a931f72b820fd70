-- Written by tools/parser_keeps.py.
-- Each call on the way keeps the marks of the names.
use Rattle.c_expr_parser.proofs.grammar.Grammar.some_parameters.Goals as goal

pub returns-in_err-parameters-clause-keeps : goal.returns-in_err-parameters-clause-keeps
returns-in_err-parameters-clause-keeps g c = λ mark names m. c.in_err-parameters.ensures.keeps mark names m

pub returns-in-Err-clause-keeps : goal.returns-in-Err-clause-keeps
returns-in-Err-clause-keeps g c = λ mark names m. c.in-Err.ensures.keeps mark names (c.in_ok-parameters.ensures.keeps mark names m)
