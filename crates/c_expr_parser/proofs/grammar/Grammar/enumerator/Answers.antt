-- Written by tools/parser_keeps.py.
-- Each call on the way keeps the marks of the names.
use Rattle.c_expr_parser.proofs.grammar.Grammar.enumerator.Goals as goal

pub returns-in_err-id-clause-keeps : goal.returns-in_err-id-clause-keeps
returns-in_err-id-clause-keeps g c = λ mark names m. c.in_err-id.ensures.keeps mark names m

pub returns-in_default-clause-keeps : goal.returns-in_default-clause-keeps
returns-in_default-clause-keeps g c = λ mark names m. c.in_ok-id.ensures.keeps mark names m

pub returns-in-Err-clause-keeps : goal.returns-in-Err-clause-keeps
returns-in-Err-clause-keeps g c = λ mark names m. c.in-Err.ensures.keeps mark names (c.in_ok-id.ensures.keeps mark names m)

pub returns-in-Err-declare-clause-keeps : goal.returns-in-Err-declare-clause-keeps
returns-in-Err-declare-clause-keeps g c = λ mark names m. c.in-Err-declare.ensures.keeps mark names (c.in-Ok-enumerator_behind.ensures.keeps mark names (c.in_ok-id.ensures.keeps mark names m))

pub returns-clause-keeps : goal.returns-clause-keeps
returns-clause-keeps g c = λ mark names m. c.in-Ok-declare.ensures.keeps mark names (c.in-Ok-enumerator_behind.ensures.keeps mark names (c.in_ok-id.ensures.keeps mark names m))
