-- `other` of src/expressions.rt: what the check leaves open of its proof.
-- An expression that begins with no operand, or with one that may be the name of a function.
use Rattle.std.proofs.Common.{refl}
use Rattle.std.specs.Prelude.{None}
use Rattle.c_type_trees.proofs.After.{answered}
use Rattle.c_type_trees.proofs.Begins.{out_Name, out_Number, out_Char, out_Strings, out_Paren, out_Postfix, out_SizeofType, out_Prefixed, out_Binary, out_Conditional, out_Assign, out_Comma}
use Rattle.c_type_trees.proofs.Nodes.{offered}
use Rattle.c_type_trees.proofs.walker.Walker.other.Goals as goal

pub returns-in-Name : goal.returns-in-Name
returns-in-Name g c =
    rw (c.in-Name.is, out_Name) c.named.ensures

pub returns-in-Number : goal.returns-in-Number
returns-in-Number g c =
    rw (c.in-Number.is, out_Number) (answered _ c.args.around.now _ _ _ _ c.integer.ensures refl)

pub returns-in-Char : goal.returns-in-Char
returns-in-Char g c =
    rw (c.in-Char.is, out_Char) (answered _ c.args.around.now _ _ _ _ c.character.ensures refl)

pub returns-in-Strings : goal.returns-in-Strings
returns-in-Strings g c =
    rw (c.in-Strings.is, out_Strings) (rw c.as_slice.ensures at c.strings.ensures)

pub returns-in-Postfix : goal.returns-in-Postfix
returns-in-Postfix g c =
    rw (c.in-Postfix.is, out_Postfix) (rw (c.get.ensures, c.as_slice-in-Postfix.ensures) at c.postfix.ensures)

pub returns-in-SizeofType : goal.returns-in-SizeofType
returns-in-SizeofType g c =
    rw (c.in-SizeofType.is, out_SizeofType) (rw c.get-in-SizeofType.ensures at c.sizeof.ensures)

pub returns-in-Prefixed : goal.returns-in-Prefixed
returns-in-Prefixed g c =
    rw (c.in-Prefixed.is, out_Prefixed) (rw (c.get-in-Prefixed.ensures, c.as_slice-in-Prefixed.ensures) at c.prefixed.ensures)

pub returns-in-Paren : goal.returns-in-Paren
returns-in-Paren g c =
    rw (c.in-Paren.is, out_Paren) (offered None c.args.around.now c.args.found.now)

pub returns-in-Binary : goal.returns-in-Binary
returns-in-Binary g c =
    rw (c.in-Binary.is, out_Binary) (offered None c.args.around.now c.args.found.now)

pub returns-in-Conditional : goal.returns-in-Conditional
returns-in-Conditional g c =
    rw (c.in-Conditional.is, out_Conditional) (offered None c.args.around.now c.args.found.now)

pub returns-in-Assign : goal.returns-in-Assign
returns-in-Assign g c =
    rw (c.in-Assign.is, out_Assign) (offered None c.args.around.now c.args.found.now)

pub returns-in-Comma : goal.returns-in-Comma
returns-in-Comma g c =
    rw (c.in-Comma.is, out_Comma) (offered None c.args.around.now c.args.found.now)
