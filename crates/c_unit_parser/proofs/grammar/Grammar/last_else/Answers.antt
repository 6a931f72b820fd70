-- Written by tools/parser_keeps.py.
-- Each call on the way keeps the marks of the names, and where the source ends.
use Rattle.c_unit_parser.proofs.Refused.{refused}
use Rattle.c_unit_parser.proofs.grammar.Grammar.last_else.Goals as goal

pub returns-in_err-body-clause-keeps : goal.returns-in_err-body-clause-keeps
returns-in_err-body-clause-keeps g c = refused _ c.from_residual.result c.from_residual.ensures.0

pub returns-in_err-body-clause-ends : goal.returns-in_err-body-clause-ends
returns-in_err-body-clause-ends g c = c.in_err-body.ensures.ends

pub returns-clause-keeps : goal.returns-clause-keeps
returns-clause-keeps g c = λ mark names m. c.in_ok-body.ensures.keeps mark names m

pub returns-clause-ends : goal.returns-clause-ends
returns-clause-ends g c = c.in_ok-body.ensures.ends
