-- Written by tools/parser_keeps.py.
-- Each call on the way keeps the marks of the names.
use Rattle.c_expr_parser.proofs.grammar.Grammar.next_parameter.Goals as goal

pub returns-in_err-comma-clause-keeps : goal.returns-in_err-comma-clause-keeps
returns-in_err-comma-clause-keeps g c = λ mark names m. c.in_err-comma.ensures.keeps mark names m

pub returns-clause-keeps : goal.returns-clause-keeps
returns-clause-keeps g c = λ mark names m. c.parameter.ensures.keeps mark names (c.in_ok-comma.ensures.keeps mark names m)
