-- Written by tools/parser_keeps.py.
-- Each call on the way keeps the marks of the names.
use Rattle.c_expr_parser.proofs.grammar.Grammar.middle.Goals as goal

pub returns-then-opens_declarator-clause-keeps : goal.returns-then-opens_declarator-clause-keeps
returns-then-opens_declarator-clause-keeps g c = λ mark names m. c.grouped.ensures.keeps mark names m

pub returns-in_err-identifier-clause-keeps : goal.returns-in_err-identifier-clause-keeps
returns-in_err-identifier-clause-keeps g c = λ mark names m. c.in_err-identifier.ensures.keeps mark names m

pub returns-then-takes_name-clause-keeps : goal.returns-then-takes_name-clause-keeps
returns-then-takes_name-clause-keeps g c = λ mark names m. c.in_ok-identifier.ensures.keeps mark names m

pub returns-clause-keeps : goal.returns-clause-keeps
returns-clause-keeps g c = λ mark names m. m
