-- Written by tools/parser_keeps.py.
-- Each call on the way keeps the marks of the names, and where the source ends.
use Rattle.c_unit_parser.proofs.grammar.Grammar.statement.Goals as goal

pub returns-in-Braced-clause-keeps : goal.returns-in-Braced-clause-keeps
returns-in-Braced-clause-keeps g c = c.block_statement.ensures.keeps

pub returns-in-Braced-clause-ends : goal.returns-in-Braced-clause-ends
returns-in-Braced-clause-ends g c = c.block_statement.ensures.ends

pub returns-in-If-clause-keeps : goal.returns-in-If-clause-keeps
returns-in-If-clause-keeps g c = c.if_statement.ensures.keeps

pub returns-in-If-clause-ends : goal.returns-in-If-clause-ends
returns-in-If-clause-ends g c = c.if_statement.ensures.ends

pub returns-in-While-clause-keeps : goal.returns-in-While-clause-keeps
returns-in-While-clause-keeps g c = c.while_statement.ensures.keeps

pub returns-in-While-clause-ends : goal.returns-in-While-clause-ends
returns-in-While-clause-ends g c = c.while_statement.ensures.ends

pub returns-in-Do-clause-keeps : goal.returns-in-Do-clause-keeps
returns-in-Do-clause-keeps g c = c.do_statement.ensures.keeps

pub returns-in-Do-clause-ends : goal.returns-in-Do-clause-ends
returns-in-Do-clause-ends g c = c.do_statement.ensures.ends

pub returns-in-For-clause-keeps : goal.returns-in-For-clause-keeps
returns-in-For-clause-keeps g c = c.for_statement.ensures.keeps

pub returns-in-For-clause-ends : goal.returns-in-For-clause-ends
returns-in-For-clause-ends g c = c.for_statement.ensures.ends

pub returns-in-Switch-clause-keeps : goal.returns-in-Switch-clause-keeps
returns-in-Switch-clause-keeps g c = c.switch_statement.ensures.keeps

pub returns-in-Switch-clause-ends : goal.returns-in-Switch-clause-ends
returns-in-Switch-clause-ends g c = c.switch_statement.ensures.ends

pub returns-in-Break-clause-keeps : goal.returns-in-Break-clause-keeps
returns-in-Break-clause-keeps g c = c.break_statement.ensures.keeps

pub returns-in-Break-clause-ends : goal.returns-in-Break-clause-ends
returns-in-Break-clause-ends g c = c.break_statement.ensures.ends

pub returns-in-Continue-clause-keeps : goal.returns-in-Continue-clause-keeps
returns-in-Continue-clause-keeps g c = c.continue_statement.ensures.keeps

pub returns-in-Continue-clause-ends : goal.returns-in-Continue-clause-ends
returns-in-Continue-clause-ends g c = c.continue_statement.ensures.ends

pub returns-in-Return-clause-keeps : goal.returns-in-Return-clause-keeps
returns-in-Return-clause-keeps g c = c.return_statement.ensures.keeps

pub returns-in-Return-clause-ends : goal.returns-in-Return-clause-ends
returns-in-Return-clause-ends g c = c.return_statement.ensures.ends

pub returns-in-Expression-clause-keeps : goal.returns-in-Expression-clause-keeps
returns-in-Expression-clause-keeps g c = c.expression_statement.ensures.keeps

pub returns-in-Expression-clause-ends : goal.returns-in-Expression-clause-ends
returns-in-Expression-clause-ends g c = c.expression_statement.ensures.ends
