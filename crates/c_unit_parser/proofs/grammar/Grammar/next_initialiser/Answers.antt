-- Written by tools/parser_keeps.py.
-- Each call on the way keeps the marks of the names, and where the source ends.
use Rattle.std.proofs.Common.{◌∙◌}
use Rattle.c_unit_parser.proofs.Refused.{refused}
use Rattle.c_unit_parser.proofs.grammar.Grammar.next_initialiser.Goals as goal

pub returns-in_err-expect-clause-keeps : goal.returns-in_err-expect-clause-keeps
returns-in_err-expect-clause-keeps g c = refused _ c.from_residual.result c.from_residual.ensures.0

pub returns-in_err-expect-clause-ends : goal.returns-in_err-expect-clause-ends
returns-in_err-expect-clause-ends g c = c.in_err-expect.ensures.ends

pub returns-in_err-value-clause-keeps : goal.returns-in_err-value-clause-keeps
returns-in_err-value-clause-keeps g c = refused _ c.from_residual-in_err-value.result c.from_residual-in_err-value.ensures.0

pub returns-in_err-value-clause-ends : goal.returns-in_err-value-clause-ends
returns-in_err-value-clause-ends g c = c.in_err-value.ensures.ends ∙ c.in_ok-expect.ensures.ends

pub returns-clause-keeps : goal.returns-clause-keeps
returns-clause-keeps g c = λ mark names m. c.in_ok-value.ensures.keeps mark names (c.in_ok-expect.ensures.keeps mark names m)

pub returns-clause-ends : goal.returns-clause-ends
returns-clause-ends g c = c.in_ok-value.ensures.ends ∙ c.in_ok-expect.ensures.ends
