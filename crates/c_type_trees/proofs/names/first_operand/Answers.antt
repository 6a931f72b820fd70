-- `first_operand` of src/names.rt: what the check leaves open of its proof.
-- The operand with which an expression begins that has operators behind it, or is in parentheses.
use Rattle.std.proofs.Common.{refl}
use Rattle.c_type_trees.proofs.Begins.{out_Name, out_Number, out_Char, out_Strings, out_Paren, out_Postfix, out_SizeofType, out_Prefixed, out_Binary, out_Conditional, out_Assign, out_Comma}
use Rattle.c_type_trees.proofs.names.first_operand.Goals as goal

pub returns-in-Name-clause-first : goal.returns-in-Name-clause-first
returns-in-Name-clause-first c = rw (c.in-Name.is, out_Name) refl

pub returns-in-Number-clause-first : goal.returns-in-Number-clause-first
returns-in-Number-clause-first c = rw (c.in-Number.is, out_Number) refl

pub returns-in-Char-clause-first : goal.returns-in-Char-clause-first
returns-in-Char-clause-first c = rw (c.in-Char.is, out_Char) refl

pub returns-in-Strings-clause-first : goal.returns-in-Strings-clause-first
returns-in-Strings-clause-first c = rw (c.in-Strings.is, out_Strings) refl

pub returns-in-Paren-clause-first : goal.returns-in-Paren-clause-first
returns-in-Paren-clause-first c = rw (c.in-Paren.is, out_Paren, c.get.ensures) refl

pub returns-in-Postfix-clause-first : goal.returns-in-Postfix-clause-first
returns-in-Postfix-clause-first c = rw (c.in-Postfix.is, out_Postfix) refl

pub returns-in-SizeofType-clause-first : goal.returns-in-SizeofType-clause-first
returns-in-SizeofType-clause-first c = rw (c.in-SizeofType.is, out_SizeofType) refl

pub returns-in-Prefixed-clause-first : goal.returns-in-Prefixed-clause-first
returns-in-Prefixed-clause-first c = rw (c.in-Prefixed.is, out_Prefixed) refl

pub returns-in-Binary-clause-first : goal.returns-in-Binary-clause-first
returns-in-Binary-clause-first c = rw (c.in-Binary.is, out_Binary, c.get-in-Binary.ensures) refl

pub returns-in-Conditional-clause-first : goal.returns-in-Conditional-clause-first
returns-in-Conditional-clause-first c = rw (c.in-Conditional.is, out_Conditional, c.get-in-Conditional.ensures) refl

pub returns-in-Assign-clause-first : goal.returns-in-Assign-clause-first
returns-in-Assign-clause-first c = rw (c.in-Assign.is, out_Assign, c.get-in-Assign.ensures) refl

pub returns-in-Comma-clause-first : goal.returns-in-Comma-clause-first
returns-in-Comma-clause-first c = rw (c.in-Comma.is, out_Comma, c.get-in-Comma.ensures) refl
