-- Written by tools/parser_keeps.py.
-- Each call on the way keeps the marks of the names.
use Rattle.c_expr_parser.proofs.grammar.Grammar.prefixed.Goals as goal

pub returns-then-is_sizeof-clause-keeps : goal.returns-then-is_sizeof-clause-keeps
returns-then-is_sizeof-clause-keeps g c = λ mark names m. c.sizeof_type.ensures.keeps mark names m

pub returns-clause-keeps : goal.returns-clause-keeps
returns-clause-keeps g c = λ mark names m. c.postfixed.ensures.keeps mark names m
