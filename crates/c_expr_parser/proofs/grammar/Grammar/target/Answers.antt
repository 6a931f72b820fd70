-- Written by tools/parser_keeps.py.
-- Each call on the way keeps the marks of the names.
use Rattle.c_expr_parser.proofs.grammar.Grammar.target.Goals as goal

pub returns-in_err-operator-clause-keeps : goal.returns-in_err-operator-clause-keeps
returns-in_err-operator-clause-keeps g c = λ mark names m. c.in_err-operator.ensures.keeps mark names m

pub returns-in_err-operand-clause-keeps : goal.returns-in_err-operand-clause-keeps
returns-in_err-operand-clause-keeps g c = λ mark names m. c.in_err-operand.ensures.keeps mark names (c.in_ok-operator.ensures.keeps mark names m)

pub returns-clause-keeps : goal.returns-clause-keeps
returns-clause-keeps g c = λ mark names m. c.in_ok-operand.ensures.keeps mark names (c.in_ok-operator.ensures.keeps mark names m)
