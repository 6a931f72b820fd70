-- Written by tools/parser_keeps.py.
-- Each call on the way keeps the marks of the names, and where the source ends.
use Rattle.std.proofs.Common.{◌∙◌}
use Rattle.c_unit_parser.proofs.Refused.{refused}
use Rattle.c_unit_parser.proofs.grammar.Grammar.in_braces.Goals as goal

pub returns-in_err-opening-clause-keeps : goal.returns-in_err-opening-clause-keeps
returns-in_err-opening-clause-keeps g c = refused _ c.from_residual.result c.from_residual.ensures.0

pub returns-in_err-opening-clause-ends : goal.returns-in_err-opening-clause-ends
returns-in_err-opening-clause-ends g c = c.in_err-opening.ensures.ends

pub returns-in_err-items-clause-keeps : goal.returns-in_err-items-clause-keeps
returns-in_err-items-clause-keeps g c = refused _ c.from_residual-in_err-items.result c.from_residual-in_err-items.ensures.0

pub returns-in_err-items-clause-ends : goal.returns-in_err-items-clause-ends
returns-in_err-items-clause-ends g c = c.in_err-items.ensures.ends ∙ c.in_ok-opening.ensures.ends
