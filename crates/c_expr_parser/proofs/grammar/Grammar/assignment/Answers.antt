-- Written by tools/parser_keeps.py.
-- Each call on the way keeps the marks of the names.
use Rattle.c_expr_parser.proofs.grammar.Grammar.assignment.Goals as goal

pub returns-in_err-first-clause-keeps : goal.returns-in_err-first-clause-keeps
returns-in_err-first-clause-keeps g c = λ mark names m. c.in_err-first.ensures.keeps mark names m

pub returns-in-Err-clause-keeps : goal.returns-in-Err-clause-keeps
returns-in-Err-clause-keeps g c = λ mark names m. c.in-Err.ensures.keeps mark names (c.in_ok-first.ensures.keeps mark names m)

pub returns-clause-keeps : goal.returns-clause-keeps
returns-clause-keeps g c = λ mark names m. c.in-Ok.ensures.keeps mark names (c.in_ok-first.ensures.keeps mark names m)
