-- Written by tools/parser_keeps.py.
-- Each call on the way keeps the marks of the names.
use Rattle.c_expr_parser.proofs.grammar.Grammar.parameter.Goals as goal

pub returns-in_err-specifiers-clause-keeps : goal.returns-in_err-specifiers-clause-keeps
returns-in_err-specifiers-clause-keeps g c = λ mark names m. c.in_err-specifiers.ensures.keeps mark names m

pub returns-clause-keeps : goal.returns-clause-keeps
returns-clause-keeps g c = λ mark names m. c.parameter_behind.ensures.keeps mark names (c.in_ok-specifiers.ensures.keeps mark names m)
