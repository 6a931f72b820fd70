-- Written by tools/parser_keeps.py.
-- Each call on the way keeps the marks of the names.
use Rattle.c_expr_parser.proofs.grammar.Grammar.suffix.Goals as goal

pub returns-then-sees-clause-keeps : goal.returns-then-sees-clause-keeps
returns-then-sees-clause-keeps g c = λ mark names m. c.index.ensures.keeps mark names m

pub returns-then-sees-2-clause-keeps : goal.returns-then-sees-2-clause-keeps
returns-then-sees-2-clause-keeps g c = λ mark names m. c.call.ensures.keeps mark names m

pub returns-then-sees-3-clause-keeps : goal.returns-then-sees-3-clause-keeps
returns-then-sees-3-clause-keeps g c = λ mark names m. c.dot.ensures.keeps mark names m

pub returns-then-sees-4-clause-keeps : goal.returns-then-sees-4-clause-keeps
returns-then-sees-4-clause-keeps g c = λ mark names m. c.arrow.ensures.keeps mark names m

pub returns-then-sees-5-clause-keeps : goal.returns-then-sees-5-clause-keeps
returns-then-sees-5-clause-keeps g c = λ mark names m. c.increment.ensures.keeps mark names m

pub returns-clause-keeps : goal.returns-clause-keeps
returns-clause-keeps g c = λ mark names m. c.decrement.ensures.keeps mark names m
