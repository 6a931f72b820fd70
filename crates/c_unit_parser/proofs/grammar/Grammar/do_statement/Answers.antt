-- Written by tools/parser_keeps.py.
-- Each call on the way keeps the marks of the names, and where the source ends.
use Rattle.std.proofs.Common.{◌∙◌}
use Rattle.c_unit_parser.proofs.Refused.{refused}
use Rattle.c_unit_parser.proofs.grammar.Grammar.do_statement.Goals as goal

pub returns-in_err-word-clause-keeps : goal.returns-in_err-word-clause-keeps
returns-in_err-word-clause-keeps g c = refused _ c.from_residual.result c.from_residual.ensures.0

pub returns-in_err-word-clause-ends : goal.returns-in_err-word-clause-ends
returns-in_err-word-clause-ends g c = c.in_err-word.ensures.ends

pub returns-in_err-body-clause-keeps : goal.returns-in_err-body-clause-keeps
returns-in_err-body-clause-keeps g c = refused _ c.from_residual-in_err-body.result c.from_residual-in_err-body.ensures.0

pub returns-in_err-body-clause-ends : goal.returns-in_err-body-clause-ends
returns-in_err-body-clause-ends g c = c.in_err-body.ensures.ends ∙ c.in_ok-word.ensures.ends
