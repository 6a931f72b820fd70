-- Written by tools/parser_keeps.py.
-- Each call on the way keeps the marks of the names, and where the source ends.
use Rattle.c_unit_parser.proofs.Refused.{refused}
use Rattle.c_unit_parser.proofs.grammar.Grammar.first_declarator.Goals as goal

pub returns-in_err-declarator-clause-keeps : goal.returns-in_err-declarator-clause-keeps
returns-in_err-declarator-clause-keeps g c = refused _ c.from_residual.result c.from_residual.ensures.0

pub returns-in_err-declarator-clause-ends : goal.returns-in_err-declarator-clause-ends
returns-in_err-declarator-clause-ends g c = c.in_err-declarator.ensures.ends
