-- The values of lvalues, and operands that are no null pointer constants:
-- why an operand may stand for another.
use Rattle.std.proofs.Common.{◌≡◌, ◌∙◌, refl, ap, sym, ℕ, Bool, true, false, ◌&&◌, ◌||◌, if◌then◌else◌, List, [], ◌∷◌, ◌++◌, map, Option, Some}
use Rattle.std.proofs.Math.Bool.{and-false}
use Rattle.std.specs.Option.{option_and_then}
use Rattle.word_ops.specs.Choice.{when}
use Rattle.c_tree.specs.declared.typed.types.CType.{CType}
use Rattle.c_tree.specs.declared.typed.operator.Scalar.{Scalar}
use Rattle.c_tree.specs.declared.typed.operator.Primary.TheVariants as primary
use Rattle.c_tree.specs.declared.typed.operator.Unary.TheVariants as unary
use Rattle.c_tree.specs.declared.typed.expression.TExpr.{TExpr}
use Rattle.c_tree.specs.declared.typed.expression.TExpr.TheVariants as x
use Rattle.c_tree.specs.declared.typed.expression.Step.{Step}
use Rattle.c_tree.specs.declared.typed.expression.Step.TheVariants as step
use Rattle.c_tree.specs.declared.typed.expression.Target.{Target}
use Rattle.c_layout.specs.Constants.{has_constant_form, step_has_form, number_of, all_hold, stepped, constant_after}
use Rattle.c_layout.specs.ConstantNodes.{has_constant_form-Primary, has_constant_form-Assign, step_has_form-Unary, number_of-Primary}
use Rattle.c_typing.specs.Types.{Shape, Basic, PointerTo, ArrayOf, FunctionOf, shape, is_integer, is_pointer, is_bool_base, plain, unqualified, void, pointer_to, compatible}
use Rattle.c_typing.specs.Conversions.{scalar_of, scalar_of_shape}
use Rattle.c_typing.specs.declared.operand.Form.{Form}
use Rattle.c_typing.specs.declared.operand.Form.TheVariants.{Value, Place, Named}
use Rattle.c_typing.specs.declared.operand.Operand.{Operand}
use Rattle.c_typing.specs.Operands.{value, is_lvalue, read_by, read_if, decayed, valued, is_zero, is_nil, is_null, constant_in, is_null_constant, is_assignable, takes, target_of, pointer_takes}
use Rattle.c_typing.specs.Expressions as spec
use Rattle.c_type_expressions.specs.Lvalues.{stand_in_of}

-- whether an operand of this form is an lvalue
abbrev lvalue_form : Form → Bool
lvalue_form f = elim f as (λ f. Bool) [ Value ↦ false | Place ↦ true | Named p n r ↦ true ]

-- ---- what is no null pointer constant

not_held-last : (ss : List Step) (s : Step) → step_has_form s ≡ false → all_hold (map step_has_form (ss ++ s ∷ [])) ≡ false
not_held-last [] s e = ap (λ (b : Bool). b && true) e
not_held-last (a ∷ ss) s e =
    ap (λ (b : Bool). step_has_form a && b) (not_held-last ss s e) ∙ and-false (step_has_form a)

not_nil-last : (ss : List Step) (s : Step) → is_nil (ss ++ s ∷ []) ≡ false
not_nil-last [] s = refl
not_nil-last (a ∷ ss) s = refl

-- where an expression has no constant form it has no value
when_false : (b : Bool) (n : Option ℕ) → b ≡ false → is_zero (when b n) ≡ false
when_false b n e = ap (λ (c : Bool). is_zero (when c n)) e

neither : (a c : Bool) → ((a && false) || (c && false)) ≡ false
neither true true = refl
neither true false = refl
neither false true = refl
neither false false = refl

-- an operand is no null pointer constant where its value is not 0 and it is no null pointer
not_null : (o : Operand) → is_zero (constant_in o) ≡ false → (is_nil o.steps && is_null o.base) ≡ false → is_null_constant o ≡ false
not_null o e f =
    ap (λ (b : Bool). (is_integer o.ctype && b) || (compatible o.ctype (pointer_to false void) && (is_nil o.steps && is_null o.base))) e
    ∙ ap (λ (b : Bool). (is_integer o.ctype && false) || (compatible o.ctype (pointer_to false void) && b)) f
    ∙ neither (is_integer o.ctype) (compatible o.ctype (pointer_to false void))

-- what is read
loaded-not_zero : (a : TExpr) (ss : List Step) (k : Scalar) → is_zero (constant_after a (ss ++ step.Unary (unary.Load k) ∷ [])) ≡ false
loaded-not_zero a ss k =
    when_false (has_constant_form a && all_hold (map step_has_form (ss ++ step.Unary (unary.Load k) ∷ []))) _
    (ap (λ (b : Bool). has_constant_form a && b) (not_held-last ss (step.Unary (unary.Load k)) (step_has_form-Unary (unary.Load k)))
    ∙ and-false (has_constant_form a))

read_by-not_null : (f : Form) (t u : CType) (k : Scalar) (o : Operand) → lvalue_form f ≡ true →
    is_null_constant (record (read_by f t k o) { ctype = u }) ≡ false
read_by-not_null Value t u k o h = cc
read_by-not_null Place t u k o h =
    not_null (record (read_by Place t k o) { ctype = u }) (loaded-not_zero o.base o.steps k)
    (ap (λ (b : Bool). b && is_null o.base) (not_nil-last o.steps (step.Unary (unary.Load k))))
read_by-not_null (Named p n r) t u k o h =
    not_null (record (read_by (Named p n r) t k o) { ctype = u })
    (when_false (has_constant_form (x.Primary t (primary.Variable k p)) && true) _
    (ap (λ (b : Bool). b && true) (has_constant_form-Primary t (primary.Variable k p))))
    refl

read-not_null : (b : Bool) (k : Scalar) (u : CType) (o : Operand) → is_lvalue o ≡ true → b ≡ true →
    is_null_constant (record (if b then read_if (Some k) o else o) { ctype = u }) ≡ false
read-not_null true k u o h e = read_by-not_null o.form (unqualified o.ctype) u k o h
read-not_null false k u o h e = cc

decayed-not_null : (s : Shape) (k : Scalar) (u : CType) (o : Operand) → is_lvalue o ≡ true → scalar_of_shape s ≡ Some k →
    scalar_of o.ctype ≡ Some k → is_null_constant (record (decayed s o) { ctype = u }) ≡ false
decayed-not_null (Basic b) k u o h e f =
    ap (λ (j : Option Scalar). is_null_constant (record (if is_lvalue o then read_if j o else o) { ctype = u })) f ∙ read-not_null (is_lvalue o) k u o h h
decayed-not_null (PointerTo c t) k u o h e f =
    ap (λ (j : Option Scalar). is_null_constant (record (if is_lvalue o then read_if j o else o) { ctype = u })) f ∙ read-not_null (is_lvalue o) k u o h h
decayed-not_null (ArrayOf n t) k u o h e f = cc
decayed-not_null (FunctionOf ps t) k u o h e f = cc

-- the value of a left side of scalar type, whatever type it has then
pub valued-not_null : (k : Scalar) (u : CType) (o : Operand) → is_lvalue o ≡ true → scalar_of o.ctype ≡ Some k →
    is_null_constant (record (valued o) { ctype = u }) ≡ false
valued-not_null k u o h e = decayed-not_null (shape o.ctype) k u o h e e

pub stand_in-not_null : (t : CType) → is_null_constant (stand_in_of t) ≡ false
stand_in-not_null t = not_null (stand_in_of t) one_is_not_zero refl
  where
    one_is_not_zero : is_zero (constant_in (stand_in_of t)) ≡ false
    one_is_not_zero =
        ap (λ (b : Bool). is_zero (when (b && true) (option_and_then (stepped []) (number_of (x.Primary t (primary.Number 1)))))) (has_constant_form-Primary t (primary.Number 1))
        ∙ ap (λ (n : Option ℕ). is_zero (option_and_then (stepped []) n)) (number_of-Primary t (primary.Number 1))

pub assigned-not_null : (t : CType) (targets : List Target) (last : TExpr) → is_null_constant (value t (x.Assign t targets last)) ≡ false
assigned-not_null t targets last =
    not_null (value t (x.Assign t targets last))
    (when_false (has_constant_form (x.Assign t targets last) && true) _
    (ap (λ (b : Bool). b && true) (has_constant_form-Assign t targets last)))
    refl

-- a choice between other values than integers
pub chosen-not_null : (t : CType) (arms : List (Operand × Operand)) (last : Operand) → is_integer t ≡ false →
    is_null_constant (value t (spec.choose t arms last)) ≡ false
chosen-not_null t arms last e =
    ap (λ (b : Bool). (b && is_zero (constant_in (value t (spec.choose t arms last)))) || (compatible t (pointer_to false void) && false)) e
    ∙ and-false (compatible t (pointer_to false void))

-- ---- what is assignable depends on the type, and on whether a value is a null pointer constant

takes-alike : (s : Shape) (o p : Operand) → o.ctype ≡ p.ctype → is_null_constant o ≡ is_null_constant p → takes s o ≡ takes s p
takes-alike (Basic b) o p e f = ap (λ (t : CType). (is_integer (plain b) && is_integer t) || (is_bool_base b && is_pointer t)) e
takes-alike (PointerTo c l) o p e f =
    ap (λ (b : Bool). b || pointer_takes l (target_of o.ctype)) f ∙ ap (λ (t : CType). is_null_constant p || pointer_takes l (target_of t)) e
takes-alike (ArrayOf n t) o p e f = refl
takes-alike (FunctionOf ps t) o p e f = refl

pub assignable-alike : (t : CType) (o p : Operand) → o.ctype ≡ p.ctype → is_null_constant o ≡ is_null_constant p → is_assignable t o ≡ is_assignable t p
assignable-alike t o p e f = takes-alike (shape t) o p e f

-- what stands for the value of a left side of scalar type
pub stands_for_left : (t u : CType) (k : Scalar) (o : Operand) → is_lvalue o ≡ true → scalar_of o.ctype ≡ Some k →
    is_assignable t (stand_in_of u) ≡ is_assignable t (record (valued o) { ctype = u })
stands_for_left t u k o h e =
    assignable-alike t (stand_in_of u) (record (valued o) { ctype = u }) refl (stand_in-not_null u ∙ sym (valued-not_null k u o h e))

-- what stands for the value of an assignment
pub stands_for_assigned : (t u : CType) (targets : List Target) (last : TExpr) →
    is_assignable t (stand_in_of u) ≡ is_assignable t (value u (x.Assign u targets last))
stands_for_assigned t u targets last =
    assignable-alike t (stand_in_of u) (value u (x.Assign u targets last)) refl (stand_in-not_null u ∙ sym (assigned-not_null u targets last))
