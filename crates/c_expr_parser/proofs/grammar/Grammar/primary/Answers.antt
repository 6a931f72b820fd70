-- Written by tools/parser_keeps.py.
-- Each call on the way keeps the marks of the names.
use Rattle.c_expr_parser.proofs.grammar.Grammar.primary.Goals as goal

pub returns-then-sees-clause-keeps : goal.returns-then-sees-clause-keeps
returns-then-sees-clause-keeps g c = λ mark names m. c.paren.ensures.keeps mark names m

pub returns-then-is_bytes-clause-keeps : goal.returns-then-is_bytes-clause-keeps
returns-then-is_bytes-clause-keeps g c = λ mark names m. c.strings.ensures.keeps mark names m

pub returns-clause-keeps : goal.returns-clause-keeps
returns-clause-keeps g c = λ mark names m. c.atom.ensures.keeps mark names m
