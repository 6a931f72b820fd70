-- Written by tools/parser_keeps.py.
-- Each call on the way keeps the marks of the names.
use Rattle.c_expr_parser.proofs.grammar.Grammar.specifier.Goals as goal

pub returns-then-is_struct-clause-keeps : goal.returns-then-is_struct-clause-keeps
returns-then-is_struct-clause-keeps g c = λ mark names m. c.struct_specifier.ensures.keeps mark names m

pub returns-then-is_enum-clause-keeps : goal.returns-then-is_enum-clause-keeps
returns-then-is_enum-clause-keeps g c = λ mark names m. c.enum_specifier.ensures.keeps mark names m

pub returns-clause-keeps : goal.returns-clause-keeps
returns-clause-keeps g c = λ mark names m. c.plain.ensures.keeps mark names m
