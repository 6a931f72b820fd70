-- Written by tools/parser_keeps.py.
-- Each call on the way keeps the marks of the names.
use Rattle.c_expr_parser.proofs.grammar.Grammar.parameter_behind.Goals as goal

pub returns-in-Err-clause-keeps : goal.returns-in-Err-clause-keeps
returns-in-Err-clause-keeps g c = λ mark names m. c.in-Err.ensures.keeps mark names m

pub returns-in-Err-declare-clause-keeps : goal.returns-in-Err-declare-clause-keeps
returns-in-Err-declare-clause-keeps g c = λ mark names m. c.in-Err-declare.ensures.keeps mark names (c.in-Ok.ensures.keeps mark names m)
