-- Written by tools/parser_keeps.py.
-- Each call on the way keeps the marks of the names.
use Rattle.c_expr_parser.proofs.grammar.Grammar.branch.Goals as goal

pub returns-in_err-question-clause-keeps : goal.returns-in_err-question-clause-keeps
returns-in_err-question-clause-keeps g c = λ mark names m. c.in_err-question.ensures.keeps mark names m

pub returns-in_err-gives-clause-keeps : goal.returns-in_err-gives-clause-keeps
returns-in_err-gives-clause-keeps g c = λ mark names m. c.in_err-gives.ensures.keeps mark names (c.in_ok-question.ensures.keeps mark names m)

pub returns-in-Err-clause-keeps : goal.returns-in-Err-clause-keeps
returns-in-Err-clause-keeps g c = λ mark names m. c.in-Err.ensures.keeps mark names (c.in_ok-gives.ensures.keeps mark names (c.in_ok-question.ensures.keeps mark names m))

pub returns-in-Err-binary-clause-keeps : goal.returns-in-Err-binary-clause-keeps
returns-in-Err-binary-clause-keeps g c = λ mark names m. c.in-Err-binary.ensures.keeps mark names (c.in-Ok.ensures.keeps mark names (c.in_ok-gives.ensures.keeps mark names (c.in_ok-question.ensures.keeps mark names m)))

pub returns-clause-keeps : goal.returns-clause-keeps
returns-clause-keeps g c = λ mark names m. c.in-Ok-binary.ensures.keeps mark names (c.in-Ok.ensures.keeps mark names (c.in_ok-gives.ensures.keeps mark names (c.in_ok-question.ensures.keeps mark names m)))
