-- Written by tools/parser_keeps.py.
-- Each call on the way keeps the marks of the names, and where the source ends.
use Rattle.std.proofs.Common.{◌∙◌}
use Rattle.c_unit_parser.proofs.Refused.{refused}
use Rattle.c_unit_parser.proofs.grammar.Grammar.default_item.Goals as goal

pub returns-in_err-word-clause-keeps : goal.returns-in_err-word-clause-keeps
returns-in_err-word-clause-keeps g c = refused _ c.from_residual.result c.from_residual.ensures.0

pub returns-in_err-word-clause-ends : goal.returns-in_err-word-clause-ends
returns-in_err-word-clause-ends g c = c.in_err-word.ensures.ends

pub returns-in_err-colon-clause-keeps : goal.returns-in_err-colon-clause-keeps
returns-in_err-colon-clause-keeps g c = refused _ c.from_residual-in_err-colon.result c.from_residual-in_err-colon.ensures.0

pub returns-in_err-colon-clause-ends : goal.returns-in_err-colon-clause-ends
returns-in_err-colon-clause-ends g c = c.in_err-colon.ensures.ends ∙ c.in_ok-word.ensures.ends

pub returns-clause-keeps : goal.returns-clause-keeps
returns-clause-keeps g c = λ mark names m. c.in_ok-colon.ensures.keeps mark names (c.in_ok-word.ensures.keeps mark names m)

pub returns-clause-ends : goal.returns-clause-ends
returns-clause-ends g c = c.in_ok-colon.ensures.ends ∙ c.in_ok-word.ensures.ends
