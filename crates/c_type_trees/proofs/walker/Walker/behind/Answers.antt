-- `behind` of src/expressions.rt: what the check leaves open of its proof.
-- What stands behind the operand with which an expression begins.
use Rattle.c_type_trees.proofs.Begins.{out_Name, out_Number, out_Char, out_Strings, out_Paren, out_Postfix, out_SizeofType, out_Prefixed, out_Binary, out_Conditional, out_Assign, out_Comma}
use Rattle.c_type_trees.proofs.Nodes.{offered}
use Rattle.c_type_trees.proofs.walker.Walker.behind.Goals as goal

pub returns-in-Binary : goal.returns-in-Binary
returns-in-Binary g c =
    rw (c.in-Binary.is, out_Binary) (rw c.as_slice.ensures at c.operators.ensures)

pub returns-in-Conditional : goal.returns-in-Conditional
returns-in-Conditional g c =
    rw (c.in-Conditional.is, out_Conditional) (rw c.as_slice-in-Conditional.ensures at c.conditional.ensures)

pub returns-in-Assign : goal.returns-in-Assign
returns-in-Assign g c =
    rw (c.in-Assign.is, out_Assign) (rw c.as_slice-in-Assign.ensures at c.assignment.ensures)

pub returns-in-Comma : goal.returns-in-Comma
returns-in-Comma g c =
    rw (c.in-Comma.is, out_Comma) (rw c.as_slice-in-Comma.ensures at c.comma.ensures)

pub returns-in-Name : goal.returns-in-Name
returns-in-Name g c =
    rw (c.in-Name.is, out_Name) (offered c.args.first c.args.around.now c.args.found.now)

pub returns-in-Number : goal.returns-in-Number
returns-in-Number g c =
    rw (c.in-Number.is, out_Number) (offered c.args.first c.args.around.now c.args.found.now)

pub returns-in-Char : goal.returns-in-Char
returns-in-Char g c =
    rw (c.in-Char.is, out_Char) (offered c.args.first c.args.around.now c.args.found.now)

pub returns-in-Strings : goal.returns-in-Strings
returns-in-Strings g c =
    rw (c.in-Strings.is, out_Strings) (offered c.args.first c.args.around.now c.args.found.now)

pub returns-in-Paren : goal.returns-in-Paren
returns-in-Paren g c =
    rw (c.in-Paren.is, out_Paren) (offered c.args.first c.args.around.now c.args.found.now)

pub returns-in-Postfix : goal.returns-in-Postfix
returns-in-Postfix g c =
    rw (c.in-Postfix.is, out_Postfix) (offered c.args.first c.args.around.now c.args.found.now)

pub returns-in-SizeofType : goal.returns-in-SizeofType
returns-in-SizeofType g c =
    rw (c.in-SizeofType.is, out_SizeofType) (offered c.args.first c.args.around.now c.args.found.now)

pub returns-in-Prefixed : goal.returns-in-Prefixed
returns-in-Prefixed g c =
    rw (c.in-Prefixed.is, out_Prefixed) (offered c.args.first c.args.around.now c.args.found.now)
