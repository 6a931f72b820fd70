-- Integer constant expressions (C11 6.6p3, p4, p6) over typed trees: which expressions have the form of one, and what they give.
-- The form is asked of every part, whether it is evaluated or not; that no operation is undefined is asked of the parts that
-- are evaluated.
use Rattle.std.specs.Prelude.{ℕ, ◌-◌, ◌^◌, ◌==◌, Bool, true, false, not, ◌&&◌, List, [], ◌∷◌, map, Option, Some, None, if◌then◌else◌}
use Rattle.std.specs.List.{list_all}
use Rattle.std.specs.Option.{option_and_then}
use Rattle.word_ops.specs.declared.operation.Op.{Op}
use Rattle.word_ops.specs.declared.operation.Op.TheVariants as op
use Rattle.word_ops.specs.declared.operation.Width.TheVariants as width
use Rattle.word_ops.specs.Choice.{when}
use Rattle.word_ops.specs.Word.{number_of_truth}
use Rattle.word_ops.specs.Access.{narrowed_to}
use Rattle.word_ops.specs.Operation.{word_of_operation}
use Rattle.c_tree.specs.declared.typed.operator.Sign.{Sign}
use Rattle.c_tree.specs.declared.typed.operator.Sign.TheVariants as sign
use Rattle.c_tree.specs.declared.typed.operator.Conversion.{Conversion}
use Rattle.c_tree.specs.declared.typed.operator.Conversion.TheVariants as conversion
use Rattle.c_tree.specs.declared.typed.operator.Relation.{Relation}
use Rattle.c_tree.specs.declared.typed.operator.Relation.TheVariants as relation
use Rattle.c_tree.specs.declared.typed.operator.Arithmetic.{Arithmetic}
use Rattle.c_tree.specs.declared.typed.operator.Arithmetic.TheVariants as arithmetic
use Rattle.c_tree.specs.declared.typed.operator.Primary.{Primary}
use Rattle.c_tree.specs.declared.typed.operator.Primary.TheVariants as primary
use Rattle.c_tree.specs.declared.typed.operator.Unary.{Unary}
use Rattle.c_tree.specs.declared.typed.operator.Unary.TheVariants as unary
use Rattle.c_tree.specs.declared.typed.expression.TExpr.{TExpr}
use Rattle.c_tree.specs.declared.typed.expression.Step.{Step}
use Rattle.c_tree.specs.declared.typed.expression.Target.{Target}
use Rattle.c_tree.specs.declared.typed.expression.Arm.{Arm}
use Rattle.c_tree.specs.declared.typed.expression.Step.TheOpen.{Step-F, TExpr-F, Target-F, Arm-F}
use Rattle.c_tree.specs.declared.typed.expression.Step.TheFolds.{fold-Step, fold-TExpr, fold-Target, fold-Arm}

-- ---- the form

-- integer and character constants, enumerators and `sizeof` are numbers in a typed tree; a null pointer is of pointer type
abbrev pub is_constant_primary : Primary → Bool
is_constant_primary (primary.Number n) = true
is_constant_primary _ = false

-- casts and other conversions lead to integer types alone
abbrev pub is_constant_conversion : Conversion → Bool
is_constant_conversion (conversion.Integer k) = true
is_constant_conversion conversion.Bool = true
is_constant_conversion conversion.Pointer = false

-- no object is read or changed, no member is taken, and no value is dropped
abbrev pub is_constant_unary : Unary → Bool
is_constant_unary (unary.Convert c) = is_constant_conversion c
is_constant_unary (unary.Negate s) = true
is_constant_unary unary.Complement = true
is_constant_unary unary.Not = true
is_constant_unary _ = false

-- binary operators have integer operands
abbrev pub is_constant_arithmetic : Arithmetic → Bool
is_constant_arithmetic (arithmetic.Word o) = true
is_constant_arithmetic (arithmetic.Compare r s) = true
is_constant_arithmetic _ = false

abbrev pub all_hold : List Bool → Bool
all_hold bs = list_all (λ b. b) bs

-- one node, from what holds of its parts
abbrev pub step_form : Step-F Bool Bool Bool Bool → Bool
step_form (Step-F.Unary u) = is_constant_unary u
step_form (Step-F.Binary o b) = is_constant_arithmetic o && b

abbrev pub arm_form : Arm-F Bool Bool Bool Bool → Bool
arm_form a = a.condition && a.chosen

abbrev pub target_form : Target-F Bool Bool Bool Bool → Bool
target_form t = false

-- no assignment, comma or call stands anywhere (C11 6.6p3), and no name of an object (p6)
abbrev pub expression_form : TExpr-F Bool Bool Bool Bool → Bool
expression_form (TExpr-F.Primary t p) = is_constant_primary p
expression_form (TExpr-F.Applied t a steps) = a && all_hold steps
expression_form (TExpr-F.All t all) = all_hold all
expression_form (TExpr-F.Any t all) = all_hold all
expression_form (TExpr-F.Choose t arms last) = all_hold arms && last
expression_form _ = false

-- whether an expression has the form of an integer constant expression
unfoldable pub has_constant_form : TExpr → Bool
has_constant_form = fold-TExpr Bool Bool Bool Bool step_form expression_form target_form arm_form

-- whether what is done with a value has it, and a condition of `? :` with what is chosen where it holds
unfoldable pub step_has_form : Step → Bool
step_has_form = fold-Step Bool Bool Bool Bool step_form expression_form target_form arm_form

unfoldable pub arm_has_form : Arm → Bool
arm_has_form = fold-Arm Bool Bool Bool Bool step_form expression_form target_form arm_form

-- of a left side, which no constant has
unfoldable pub target_has_form : Target → Bool
target_has_form = fold-Target Bool Bool Bool Bool step_form expression_form target_form arm_form

-- ---- the value

abbrev pub primary_number : Primary → Option ℕ
primary_number (primary.Number n) = Some n
primary_number _ = None

-- C11 6.3.1.2, 6.3.1.3; a value of a narrow type is a word already, so between types of four bytes the word stays
abbrev pub converted_number : Conversion → ℕ → Option ℕ
converted_number (conversion.Integer width.Word) n = Some n
converted_number (conversion.Integer k) n = Some (narrowed_to k n)
converted_number conversion.Bool n = Some (number_of_truth (not (n == 0)))
converted_number conversion.Pointer n = None

-- C11 6.5.3.3p3
abbrev pub negated_number : Sign → ℕ → Option ℕ
negated_number sign.Signed n = word_of_operation op.Subs 0 n
negated_number sign.Unsigned n = word_of_operation op.Sub 0 n

-- C11 6.5.3.3, 6.5.4
abbrev pub unary_number : Unary → ℕ → Option ℕ
unary_number (unary.Convert c) n = converted_number c n
unary_number (unary.Negate s) n = negated_number s n
unary_number unary.Complement n = word_of_operation op.Xor n (2 ^ 32 - 1)
unary_number unary.Not n = Some (number_of_truth (n == 0))
unary_number _ n = None

-- a relation by the operations for "less" and "at most" (C11 6.5.8p6, 6.5.9p3)
abbrev pub related_numbers : (below at_most : Op) → Relation → ℕ → ℕ → Option ℕ
related_numbers below at_most relation.Less a b = word_of_operation below a b
related_numbers below at_most relation.Greater a b = word_of_operation below b a
related_numbers below at_most relation.AtMost a b = word_of_operation at_most a b
related_numbers below at_most relation.AtLeast a b = word_of_operation at_most b a
related_numbers below at_most relation.Equal a b = word_of_operation op.Eq a b
related_numbers below at_most relation.NotEqual a b = word_of_operation op.Ne a b

abbrev pub compared_numbers : Sign → Relation → ℕ → ℕ → Option ℕ
compared_numbers sign.Signed r a b = related_numbers op.Lts op.Les r a b
compared_numbers sign.Unsigned r a b = related_numbers op.Ltu op.Leu r a b

-- C11 6.5.5 to 6.5.12
abbrev pub arithmetic_number : Arithmetic → ℕ → ℕ → Option ℕ
arithmetic_number (arithmetic.Word o) a b = word_of_operation o a b
arithmetic_number (arithmetic.Compare r s) a b = compared_numbers s r a b
arithmetic_number _ a b = None

-- what is done with a number, step by step
abbrev pub stepped : List (ℕ → Option ℕ) → ℕ → Option ℕ
stepped [] n = Some n
stepped (s ∷ ss) n = option_and_then (stepped ss) (s n)

-- 0 at the first operand that is 0, else 1; what stands behind that operand is not evaluated (C11 6.5.13p3, p4)
abbrev pub every : List (Option ℕ) → Option ℕ
every [] = Some 1
every (o ∷ os) = option_and_then (λ n. if n == 0 then Some 0 else every os) o

-- 1 at the first operand that is not 0, else 0 (C11 6.5.14p3, p4)
abbrev pub some : List (Option ℕ) → Option ℕ
some [] = Some 0
some (o ∷ os) = option_and_then (λ n. if n == 0 then some os else Some 1) o

-- what is chosen at the first condition that is not 0, else the last; nothing else is evaluated (C11 6.5.15p4)
abbrev pub chosen : List (Option ℕ × Option ℕ) → (last : Option ℕ) → Option ℕ
chosen [] last = last
chosen (a ∷ arms) last = option_and_then (λ n. if n == 0 then chosen arms last else a.1) a.0

-- the types of what the nodes give: a step a function of the value before it, an arm its condition and what is chosen
abbrev pub StepValue : Type 0
StepValue = ℕ → Option ℕ

abbrev pub ArmValue : Type 0
ArmValue = Option ℕ × Option ℕ

abbrev pub step_number : Step-F StepValue (Option ℕ) (Unit {0}) ArmValue → StepValue
step_number (Step-F.Unary u) n = unary_number u n
step_number (Step-F.Binary o b) n = option_and_then (arithmetic_number o n) b

abbrev pub arm_number : Arm-F StepValue (Option ℕ) (Unit {0}) ArmValue → ArmValue
arm_number a = (a.condition, a.chosen)

abbrev pub target_number : Target-F StepValue (Option ℕ) (Unit {0}) ArmValue → Unit {0}
target_number t = tt

abbrev pub expression_number : TExpr-F StepValue (Option ℕ) (Unit {0}) ArmValue → Option ℕ
expression_number (TExpr-F.Primary t p) = primary_number p
expression_number (TExpr-F.Applied t a steps) = option_and_then (stepped steps) a
expression_number (TExpr-F.All t all) = every all
expression_number (TExpr-F.Any t all) = some all
expression_number (TExpr-F.Choose t arms last) = chosen arms last
expression_number _ = None

-- the number that an expression gives, or none where an operation that is evaluated is undefined (C11 6.5p5, 6.6p4)
unfoldable pub number_of : TExpr → Option ℕ
number_of = fold-TExpr StepValue (Option ℕ) (Unit {0}) ArmValue step_number expression_number target_number arm_number

unfoldable pub step_number_of : Step → StepValue
step_number_of = fold-Step StepValue (Option ℕ) (Unit {0}) ArmValue step_number expression_number target_number arm_number

unfoldable pub arm_number_of : Arm → ArmValue
arm_number_of = fold-Arm StepValue (Option ℕ) (Unit {0}) ArmValue step_number expression_number target_number arm_number

unfoldable pub target_number_of : Target → Unit {0}
target_number_of = fold-Target StepValue (Option ℕ) (Unit {0}) ArmValue step_number expression_number target_number arm_number

-- the value of an integer constant expression, or none where an expression is none
abbrev pub constant_of : TExpr → Option ℕ
constant_of e = when (has_constant_form e) (number_of e)

-- the same of an expression and what is then done with its value
abbrev pub constant_after : TExpr → List Step → Option ℕ
constant_after e steps = when (has_constant_form e && all_hold (map step_has_form steps)) (option_and_then (stepped (map step_number_of steps)) (number_of e))
