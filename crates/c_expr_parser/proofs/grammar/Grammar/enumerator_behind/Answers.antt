-- Written by tools/parser_keeps.py.
-- Each call on the way keeps the marks of the names.
use Rattle.c_expr_parser.proofs.grammar.Grammar.enumerator_behind.Goals as goal

pub returns-then-sees-clause-keeps : goal.returns-then-sees-clause-keeps
returns-then-sees-clause-keeps g c = λ mark names m. c.enumerator_value.ensures.keeps mark names m

pub returns-clause-keeps : goal.returns-clause-keeps
returns-clause-keeps g c = λ mark names m. m
