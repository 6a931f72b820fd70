-- Written by tools/parser_keeps.py.
-- Each call on the way keeps the marks of the names.
use Rattle.c_expr_parser.proofs.grammar.Grammar.grouped.Goals as goal

pub returns-in_err-from-clause-keeps : goal.returns-in_err-from-clause-keeps
returns-in_err-from-clause-keeps g c = λ mark names m. c.in_err-from.ensures.keeps mark names m

pub returns-in_err-inner-clause-keeps : goal.returns-in_err-inner-clause-keeps
returns-in_err-inner-clause-keeps g c = λ mark names m. c.in_err-inner.ensures.keeps mark names (c.in_ok-from.ensures.keeps mark names m)

pub returns-then-is_nothing-clause-keeps : goal.returns-then-is_nothing-clause-keeps
returns-then-is_nothing-clause-keeps g c = λ mark names m. c.in_ok-inner.ensures.keeps mark names (c.in_ok-from.ensures.keeps mark names m)

pub returns-in_err-inner-2-clause-keeps : goal.returns-in_err-inner-2-clause-keeps
returns-in_err-inner-2-clause-keeps g c = λ mark names m. c.in_ok-inner.ensures.keeps mark names (c.in_ok-from.ensures.keeps mark names m)

pub returns-in-Err-clause-keeps : goal.returns-in-Err-clause-keeps
returns-in-Err-clause-keeps g c = λ mark names m. c.in-Err.ensures.keeps mark names (c.in_ok-inner.ensures.keeps mark names (c.in_ok-from.ensures.keeps mark names m))

pub returns-clause-keeps : goal.returns-clause-keeps
returns-clause-keeps g c = λ mark names m. c.in-Ok.ensures.keeps mark names (c.in_ok-inner.ensures.keeps mark names (c.in_ok-from.ensures.keeps mark names m))
