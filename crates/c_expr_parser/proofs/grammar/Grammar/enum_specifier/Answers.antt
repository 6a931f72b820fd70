-- Written by tools/parser_keeps.py.
-- Each call on the way keeps the marks of the names.
use Rattle.c_expr_parser.proofs.grammar.Grammar.enum_specifier.Goals as goal

pub returns-in_err-word-clause-keeps : goal.returns-in_err-word-clause-keeps
returns-in_err-word-clause-keeps g c = λ mark names m. c.in_err-word.ensures.keeps mark names m

pub returns-then-not-is_name-clause-keeps : goal.returns-then-not-is_name-clause-keeps
returns-then-not-is_name-clause-keeps g c = λ mark names m. c.enum_body.ensures.keeps mark names (c.in_ok-word.ensures.keeps mark names m)

pub returns-in_err-tag-clause-keeps : goal.returns-in_err-tag-clause-keeps
returns-in_err-tag-clause-keeps g c = λ mark names m. c.in_err-tag.ensures.keeps mark names (c.in_ok-word.ensures.keeps mark names m)

pub returns-then-sees-clause-keeps : goal.returns-then-sees-clause-keeps
returns-then-sees-clause-keeps g c = λ mark names m. c.enum_body-then-sees.ensures.keeps mark names (c.in_ok-tag.ensures.keeps mark names (c.in_ok-word.ensures.keeps mark names m))

pub returns-clause-keeps : goal.returns-clause-keeps
returns-clause-keeps g c = λ mark names m. c.in_ok-tag.ensures.keeps mark names (c.in_ok-word.ensures.keeps mark names m)
