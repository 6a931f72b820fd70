-- Written by tools/parser_keeps.py.
-- Each call on the way keeps the marks of the names.
use Rattle.c_expr_parser.proofs.grammar.Grammar.expression.Goals as goal

pub returns-in-Comma-clause-keeps : goal.returns-in-Comma-clause-keeps
returns-in-Comma-clause-keeps g c = λ mark names m. c.comma.ensures.keeps mark names m

pub returns-in-Assignment-clause-keeps : goal.returns-in-Assignment-clause-keeps
returns-in-Assignment-clause-keeps g c = λ mark names m. c.assignment.ensures.keeps mark names m

pub returns-in-Conditional-clause-keeps : goal.returns-in-Conditional-clause-keeps
returns-in-Conditional-clause-keeps g c = λ mark names m. c.conditional.ensures.keeps mark names m
