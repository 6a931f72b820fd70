-- Written by tools/parser_keeps.py.
-- Each call on the way keeps the marks of the names.
use Rattle.c_expr_parser.proofs.grammar.Grammar.call.Goals as goal

pub returns-in_err-from-clause-keeps : goal.returns-in_err-from-clause-keeps
returns-in_err-from-clause-keeps g c = λ mark names m. c.in_err-from.ensures.keeps mark names m

pub returns-in_err-to-clause-keeps : goal.returns-in_err-to-clause-keeps
returns-in_err-to-clause-keeps g c = λ mark names m. c.in_err-to.ensures.keeps mark names (c.in_ok-from.ensures.keeps mark names m)

pub returns-then-sees-clause-keeps : goal.returns-then-sees-clause-keeps
returns-then-sees-clause-keeps g c = λ mark names m. c.in_ok-to.ensures.keeps mark names (c.in_ok-from.ensures.keeps mark names m)

pub returns-clause-keeps : goal.returns-clause-keeps
returns-clause-keeps g c = λ mark names m. c.arguments.ensures.keeps mark names (c.in_ok-from.ensures.keeps mark names m)
