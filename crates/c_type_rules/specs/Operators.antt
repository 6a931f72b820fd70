-- What the rows of the table of operators plan
-- for integers.
use Rattle.c_tree.specs.declared.typed.types.Base.{Base}
use Rattle.c_tree.specs.declared.typed.types.CType.{CType}
use Rattle.c_tree.specs.declared.typed.operator.Relation.{Relation}
use Rattle.c_tree.specs.declared.typed.operator.Arithmetic.{Arithmetic}
use Rattle.c_tree.specs.declared.typed.operator.Arithmetic.TheVariants as arithmetic
use Rattle.c_typing.specs.Types.{int}
use Rattle.c_typing.specs.Conversions.{sign_of}
use Rattle.c_typing.specs.declared.operator.Row.{Row}
use Rattle.c_typing.specs.Operators.{plan, base_of, common_type, promoted_type, always, by_sign}
use Rattle.c_type_rules.specs.declared.operators.Operation.{Operation}
use Rattle.c_type_rules.specs.declared.operators.Operation.TheVariants as operation

-- an operation, by the type at which it is done
abbrev pub done_at : Operation → Base → Arithmetic
done_at (operation.Always o) = always o
done_at (operation.BySign s u) = by_sign s u

abbrev pub balanced_plan : (Base → Arithmetic) → (left right : CType) → Row
balanced_plan f l r = let t = common_type l r in plan t t t (f (base_of t))

abbrev pub shifted_plan : (Base → Arithmetic) → (left right : CType) → Row
shifted_plan f l r = let t = promoted_type l in plan t (promoted_type r) t (f (base_of t))

abbrev pub compared_plan : Relation → (left right : CType) → Row
compared_plan o l r = let t = common_type l r in plan t t int (arithmetic.Compare o (sign_of (base_of t)))
