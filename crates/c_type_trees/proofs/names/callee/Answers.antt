-- `callee` of src/names.rt: what the check leaves open of its proof.
-- The name that an expression is, without parentheses.
use Rattle.std.proofs.Common.{refl}
use Rattle.c_typing.specs.Trees.{expr_typing-Assign, expr_typing-Binary, expr_typing-Char, expr_typing-Comma, expr_typing-Conditional, expr_typing-Name, expr_typing-Number, expr_typing-Paren, expr_typing-Postfix, expr_typing-Prefixed, expr_typing-SizeofType, expr_typing-Strings}
use Rattle.c_type_trees.proofs.names.callee.Goals as goal

pub returns-in-Name : goal.returns-in-Name
returns-in-Name c = rw (c.in-Name.is, expr_typing-Name) refl

pub returns-in-Number : goal.returns-in-Number
returns-in-Number c = rw (c.in-Number.is, expr_typing-Number) refl

pub returns-in-Char : goal.returns-in-Char
returns-in-Char c = rw (c.in-Char.is, expr_typing-Char) refl

pub returns-in-Strings : goal.returns-in-Strings
returns-in-Strings c = rw (c.in-Strings.is, expr_typing-Strings) refl

pub returns-in-Paren : goal.returns-in-Paren
returns-in-Paren c = rw (c.in-Paren.is, expr_typing-Paren) refl

pub returns-in-Postfix : goal.returns-in-Postfix
returns-in-Postfix c = rw (c.in-Postfix.is, expr_typing-Postfix) refl

pub returns-in-SizeofType : goal.returns-in-SizeofType
returns-in-SizeofType c = rw (c.in-SizeofType.is, expr_typing-SizeofType) refl

pub returns-in-Prefixed : goal.returns-in-Prefixed
returns-in-Prefixed c = rw (c.in-Prefixed.is, expr_typing-Prefixed) refl

pub returns-in-Binary : goal.returns-in-Binary
returns-in-Binary c = rw (c.in-Binary.is, expr_typing-Binary) refl

pub returns-in-Conditional : goal.returns-in-Conditional
returns-in-Conditional c = rw (c.in-Conditional.is, expr_typing-Conditional) refl

pub returns-in-Assign : goal.returns-in-Assign
returns-in-Assign c = rw (c.in-Assign.is, expr_typing-Assign) refl

pub returns-in-Comma : goal.returns-in-Comma
returns-in-Comma c = rw (c.in-Comma.is, expr_typing-Comma) refl
