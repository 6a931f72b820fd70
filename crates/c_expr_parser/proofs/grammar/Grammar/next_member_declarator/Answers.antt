-- Written by tools/parser_keeps.py.
-- Each call on the way keeps the marks of the names.
use Rattle.c_expr_parser.proofs.grammar.Grammar.next_member_declarator.Goals as goal

pub returns-in_err-expect-clause-keeps : goal.returns-in_err-expect-clause-keeps
returns-in_err-expect-clause-keeps g c = λ mark names m. c.in_err-expect.ensures.keeps mark names m

pub returns-in_err-declarator-clause-keeps : goal.returns-in_err-declarator-clause-keeps
returns-in_err-declarator-clause-keeps g c = λ mark names m. c.in_err-declarator.ensures.keeps mark names (c.in_ok-expect.ensures.keeps mark names m)

pub returns-clause-keeps : goal.returns-clause-keeps
returns-clause-keeps g c = λ mark names m. c.in_ok-declarator.ensures.keeps mark names (c.in_ok-expect.ensures.keeps mark names m)
