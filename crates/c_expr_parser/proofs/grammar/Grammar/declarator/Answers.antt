-- Written by tools/parser_keeps.py.
-- Each call on the way keeps the marks of the names.
use Rattle.c_expr_parser.proofs.grammar.Grammar.declarator.Goals as goal

pub returns-in_err-pointers-clause-keeps : goal.returns-in_err-pointers-clause-keeps
returns-in_err-pointers-clause-keeps g c = λ mark names m. c.in_err-pointers.ensures.keeps mark names m

pub returns-in-Err-clause-keeps : goal.returns-in-Err-clause-keeps
returns-in-Err-clause-keeps g c = λ mark names m. c.in-Err.ensures.keeps mark names (c.in_ok-pointers.ensures.keeps mark names m)

pub returns-in-Err-declarator_suffixes-clause-keeps : goal.returns-in-Err-declarator_suffixes-clause-keeps
returns-in-Err-declarator_suffixes-clause-keeps g c = λ mark names m. c.in-Err-declarator_suffixes.ensures.keeps mark names (c.in-Ok.ensures.keeps mark names (c.in_ok-pointers.ensures.keeps mark names m))

pub returns-clause-keeps : goal.returns-clause-keeps
returns-clause-keeps g c = λ mark names m. c.in-Ok-declarator_suffixes.ensures.keeps mark names (c.in-Ok.ensures.keeps mark names (c.in_ok-pointers.ensures.keeps mark names m))
