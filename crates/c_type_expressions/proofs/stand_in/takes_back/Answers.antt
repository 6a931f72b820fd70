-- A value that stands in for that of an lvalue of scalar type
-- is assignable where that is.
use Rattle.std.proofs.Common.{◌≡◌, refl, true, Option, Some, None}
use Rattle.std.specs.Prelude.{is_some}
use Rattle.c_tree.specs.declared.typed.types.CType.{CType}
use Rattle.c_tree.specs.declared.typed.operator.Scalar.{Scalar}
use Rattle.c_typing.specs.Types.{unqualified}
use Rattle.c_typing.specs.Conversions.{scalar_of}
use Rattle.c_typing.specs.declared.operand.Operand.{Operand}
use Rattle.c_typing.specs.Operands.{is_lvalue, is_assignable, valued}
use Rattle.c_type_expressions.specs.Lvalues.{stand_in_of}
use Rattle.c_type_expressions.proofs.Ends.{same_end}
use Rattle.c_type_expressions.proofs.Values.{stands_for_left}
use Rattle.c_type_expressions.proofs.stand_in.takes_back.Goals as goal

stands_for_scalar : (t u : CType) (s : Option Scalar) (o : Operand) → is_lvalue o ≡ true → scalar_of o.ctype ≡ s → is_some s ≡ true →
    is_assignable t (stand_in_of u) ≡ is_assignable t (record (valued o) { ctype = u })
stands_for_scalar t u (Some k) o h e i = stands_for_left t u k o h e
stands_for_scalar t u None o h e i = cc

pub returns : goal.returns
returns c =
    let o = c.args.lvalue.now in
    let u = c.args.given.now in
    same_end c.takes_value.result _ _ (stands_for_scalar (unqualified o.ctype) u (scalar_of o.ctype) o c.requires.lvalue refl c.requires.scalar) c.takes_value.ensures
