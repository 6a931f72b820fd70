-- What typing makes of an expression: its type, and what is done. An lvalue is kept as the address of its object until it is
-- known whether that object is read, changed, or has its address taken (C11 6.3.2.1).
use Rattle.std.specs.Prelude.{ℕ, ◌==◌, Bool, true, false, ◌&&◌, ◌||◌, not, if◌then◌else◌, List, [], ◌∷◌, ◌++◌, Option, Some, None}
use Rattle.c_tree.specs.declared.typed.types.CType.{CType}
use Rattle.c_tree.specs.declared.typed.operator.Scalar.{Scalar}
use Rattle.c_tree.specs.declared.typed.operator.Conversion.{Conversion}
use Rattle.c_tree.specs.declared.typed.operator.Conversion.TheVariants as conversion
use Rattle.c_tree.specs.declared.typed.operator.Primary.TheVariants as primary
use Rattle.c_tree.specs.declared.typed.operator.Unary.{Unary}
use Rattle.c_tree.specs.declared.typed.operator.Unary.TheVariants as unary
use Rattle.c_tree.specs.declared.typed.expression.TExpr.{TExpr, end_of-TExpr, more_of-TExpr}
use Rattle.c_tree.specs.declared.typed.expression.TExpr.TheVariants as x
use Rattle.c_tree.specs.declared.typed.expression.Step.{Step}
use Rattle.c_tree.specs.declared.typed.expression.Step.TheVariants as step
use Rattle.c_layout.specs.Constants.{constant_after}
use Rattle.c_typing.specs.Types.{void, plain, pointer_to, Shape, Basic, PointerTo, ArrayOf, shape, is_integer, is_void, is_bool_base, is_pointer, is_qualified, unqualified, alike, compatible}
use Rattle.c_typing.specs.Conversions.{width_of_base, scalar_of}
pub use Rattle.c_typing.specs.declared.operand.Form.{Form}
pub use Rattle.c_typing.specs.declared.operand.Form.TheVariants.{Value, Place, Named}
pub use Rattle.c_typing.specs.declared.operand.Operand.{Operand}

-- ---- trees of operands

-- what has no operands, with the type of the whole
abbrev pub retyped : CType → TExpr → TExpr
retyped t (x.Primary u p) = x.Primary t p
retyped t a = a

abbrev pub finished : CType → TExpr → List Step → TExpr
finished t a [] = retyped t a
finished t a (s ∷ ss) = x.Applied t a (s ∷ ss)

abbrev pub tree_of : Operand → TExpr
tree_of o = finished o.ctype o.base o.steps

-- a tree whose value is dropped (6.3.2.2, 6.8.3p2): a call whose value is dropped has a form of its own, and the drop of a comma
-- reaches its last operand
abbrev pub dropped : TExpr → TExpr
dropped (x.Call' t f n args) = x.DroppedCall' void f n args
dropped (x.Comma' t n ds p (more_of-TExpr a end_of-TExpr)) = x.Comma' void n ds p (more_of-TExpr (dropped a) end_of-TExpr)
dropped a = x.Applied void a (step.Unary unary.Drop ∷ [])

abbrev pub operand : Form → CType → TExpr → Operand
operand f t a = record { ctype = t; form = f; base = a; steps = [] }

abbrev pub value : CType → TExpr → Operand
value = operand Value

abbrev pub number : CType → ℕ → Operand
number t n = value t (x.Primary t (primary.Number n))

-- one more step, which gives a value of this type
abbrev pub then_step : Form → CType → Step → Operand → Operand
then_step f t s o = record { ctype = t; form = f; base = o.base; steps = o.steps ++ s ∷ [] }

abbrev pub then_unary : Form → CType → Unary → Operand → Operand
then_unary f t u = then_step f t (step.Unary u)

-- ---- lvalues (C11 6.3.2.1)

abbrev pub is_lvalue : Operand → Bool
is_lvalue o = elim o.form as (λ f. Bool) [ Value ↦ false | Place ↦ true | Named p n r ↦ true ]

abbrev pub in_register : Operand → Bool
in_register o = elim o.form as (λ f. Bool) [ Value ↦ false | Place ↦ false | Named p n r ↦ r ]

-- the number of the automatic object that a name is
abbrev pub numbered : Operand → Option ℕ
numbered o = elim o.form as (λ f. Option ℕ) [ Value ↦ None | Place ↦ None | Named p n r ↦ Some n ]

-- an operand of another type and form
abbrev pub as_form : Form → CType → Operand → Operand
as_form f t o = record { ctype = t; form = f; base = o.base; steps = o.steps }

-- the value of an object of scalar type is read
abbrev pub read_by : Form → CType → Scalar → Operand → Operand
read_by Value t k o = o
read_by Place t k o = then_unary Value t (unary.Load k) o
read_by (Named p n r) t k o = value t (x.Primary t (primary.Variable k p))

abbrev pub read_if : Option Scalar → Operand → Operand
read_if (Some k) o = read_by o.form (unqualified o.ctype) k o
read_if None o = as_form Value (unqualified o.ctype) o

abbrev pub decayed : Shape → Operand → Operand
decayed (ArrayOf n t) o = as_form Value (pointer_to false t) o
decayed s o = if is_lvalue o then read_if (scalar_of o.ctype) o else o

-- an operand as a value: an array is a pointer to its first element (p3), and an lvalue is read (p2)
abbrev pub valued : Operand → Operand
valued o = decayed (shape o.ctype) o

-- the value is dropped
abbrev pub dropped_by : List Step → Operand → Operand
dropped_by [] o = value void (dropped o.base)
dropped_by (s ∷ ss) o = then_unary Value void unary.Drop o

abbrev pub dropping : Operand → Operand
dropping o = if is_void o.ctype then o else dropped_by (valued o).steps (valued o)

-- ---- null pointer constants (6.3.2.3p3)

abbrev pub is_null : TExpr → Bool
is_null (x.Primary t primary.Null) = true
is_null _ = false

abbrev pub is_nil : List Step → Bool
is_nil [] = true
is_nil (s ∷ ss) = false

abbrev pub is_zero : Option ℕ → Bool
is_zero (Some n) = n == 0
is_zero None = false

-- the value of an integer constant expression (6.6)
abbrev pub constant_in : Operand → Option ℕ
constant_in o = constant_after o.base o.steps

-- an integer constant expression with the value 0, or one cast to `void *`
abbrev pub is_null_constant : Operand → Bool
is_null_constant o =
    (is_integer o.ctype && is_zero (constant_in o)) || (compatible o.ctype (pointer_to false void) && (is_nil o.steps && is_null o.base))

abbrev pub null : CType → Operand
null t = value t (x.Primary t primary.Null)

-- ---- conversions of values (6.3)

abbrev pub conversion_to_shape : Shape → Conversion
conversion_to_shape (Basic b) = if is_bool_base b then conversion.Bool else conversion.Integer (width_of_base b)
conversion_to_shape s = conversion.Pointer

-- the conversion to a scalar type
abbrev pub conversion_to : CType → Conversion
conversion_to t = conversion_to_shape (shape t)

-- a value of scalar type as one of another: itself where it has that type already
abbrev pub converted : CType → Operand → Operand
converted t o =
    if compatible t o.ctype then as_form Value t o
    else (if is_pointer t && is_null_constant o then null t else then_unary Value t (unary.Convert (conversion_to t)) o)

-- ---- whether a value may be given to an object (6.5.16.1p1)

-- a type that a pointer points to
abbrev pub target_of_shape : Shape → Option CType
target_of_shape (PointerTo c t) = Some t
target_of_shape s = None

abbrev pub target_of : CType → Option CType
target_of t = target_of_shape (shape t)

-- the same type but for qualifiers, or one of them void, and the left has at least the qualifiers of the right
abbrev pub points_as : CType → CType → Bool
points_as l r =
    (alike l r || (is_void (unqualified l) || is_void (unqualified r))) && (is_qualified l || not (is_qualified r))

abbrev pub pointer_takes : CType → Option CType → Bool
pointer_takes l (Some r) = points_as l r
pointer_takes l None = false

abbrev pub takes : Shape → Operand → Bool
takes (Basic b) o = (is_integer (plain b) && is_integer o.ctype) || (is_bool_base b && is_pointer o.ctype)
takes (PointerTo c l) o = is_null_constant o || pointer_takes l (target_of o.ctype)
takes s o = false

-- a value is assignable to an object of this type
abbrev pub is_assignable : CType → Operand → Bool
is_assignable t o = takes (shape t) o
