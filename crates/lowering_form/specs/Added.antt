-- What lowering adds: acts behind those that were there, and no more of them than the tree weighs.
use Rattle.std.specs.Prelude.{◌≡◌, ℕ, suc, ◌+◌, ◌≤◌, List, ◌++◌, Option, Some, None}
use Rattle.word_ops.specs.declared.operation.Op.{Op}
use Rattle.core_lang.specs.declared.act.Core.{Core}
use Rattle.core_lang.specs.Counts.{count_of_acts}
use Rattle.c_tree.specs.declared.typed.operator.Conversion.{Conversion}
use Rattle.c_tree.specs.declared.typed.operator.Conversion.TheVariants as conversion
use Rattle.c_tree.specs.declared.typed.operator.Arithmetic.{Arithmetic}
use Rattle.c_tree.specs.declared.typed.operator.Arithmetic.TheVariants as arithmetic
use Rattle.c_tree.specs.declared.typed.operator.Change.{Change}
use Rattle.c_tree.specs.declared.typed.operator.Increment.{Increment}
use Rattle.c_tree.specs.declared.typed.operator.Primary.{Primary}
use Rattle.c_tree.specs.declared.typed.operator.Primary.TheVariants as primary
use Rattle.c_tree.specs.declared.typed.operator.Unary.{Unary}
use Rattle.c_tree.specs.declared.typed.operator.Unary.TheVariants as unary
use Rattle.c_tree.specs.declared.typed.expression.TExpr.{TExpr, Row_of-TExpr, end_of-TExpr, more_of-TExpr, Row_of-Step, end_of-Step, more_of-Step, Row_of-Arm, end_of-Arm, more_of-Arm, Row_of-Target, end_of-Target, more_of-Target}
use Rattle.c_tree.specs.declared.typed.expression.TExpr.TheVariants as x
use Rattle.c_tree.specs.declared.typed.expression.Step.TheVariants as step
use Rattle.c_tree.specs.declared.typed.expression.Target.TheVariants as target
use Rattle.lowering_form.specs.Code.{Code}
use Rattle.lowering_form.specs.Operators.{narrowing}
use Rattle.lowering_form.specs.Objects.{Body}

-- code has the acts of code before it, and behind them acts that count for at most so much; it takes no temporary twice, and
-- at most so many
pub record Adds (w : ℕ) (k l : Code) : Type 0 where
  pub added : List Core
  pub acts : l.acts ≡ k.acts ++ added
  pub few : (locals : List ℕ) → count_of_acts locals added ≤ w
  pub later : k.next ≤ l.next
  pub near : l.next ≤ k.next + w

-- the same, however much was added
pub record IsBehind (k l : Code) : Type 0 where
  pub added : List Core
  pub acts : l.acts ≡ k.acts ++ added
  pub later : k.next ≤ l.next

-- a function under construction goes on: its local objects keep their numbers, and no count goes back
pub record GoesOn (b d : Body) : Type 0 where
  pub code : IsBehind b.code d.code
  pub added : List ℕ
  pub locals : d.locals ≡ b.locals ++ added
  pub kept : b.kept ≤ d.kept
  pub words : b.words ≤ d.words

-- ---- weights: what the code of each form counts for

-- a binary operator: what moves a pointer or divides a distance may take an operation on words besides
abbrev pub weight_of_arithmetic : Arithmetic → ℕ
weight_of_arithmetic (arithmetic.Word o) = 1
weight_of_arithmetic (arithmetic.Compare r s) = 1
weight_of_arithmetic (arithmetic.ComparePointers r) = 1
weight_of_arithmetic (arithmetic.PointerPlus z) = 2
weight_of_arithmetic (arithmetic.PlusPointer z) = 2
weight_of_arithmetic (arithmetic.PointerMinus z) = 2
weight_of_arithmetic (arithmetic.Difference n) = 2

-- the same where the right operand is a known word
abbrev pub weight_by_word : Arithmetic → ℕ
weight_by_word (arithmetic.Word o) = 1
weight_by_word (arithmetic.Compare r s) = 1
weight_by_word (arithmetic.ComparePointers r) = 1
weight_by_word (arithmetic.PointerPlus z) = 1
weight_by_word (arithmetic.PlusPointer z) = 2
weight_by_word (arithmetic.PointerMinus z) = 1
weight_by_word (arithmetic.Difference n) = 2

abbrev pub weight_of_narrowing : Option Op → ℕ
weight_of_narrowing None = 0
weight_of_narrowing (Some o) = 1

abbrev pub weight_of_conversion : Conversion → ℕ
weight_of_conversion (conversion.Integer w) = weight_of_narrowing (narrowing w)
weight_of_conversion conversion.Bool = 1
weight_of_conversion conversion.Pointer = 0

-- `++` and `--`: a read, the operator, the conversion and a write
abbrev pub weight_of_increment : Increment → ℕ
weight_of_increment h = 1 + weight_by_word h.operator + weight_of_conversion h.conversion + 1

abbrev pub weight_of_operated : Option Arithmetic → ℕ
weight_of_operated None = 0
weight_of_operated (Some o) = 1 + weight_of_arithmetic o

-- an assignment, beside its operands
abbrev pub weight_of_change : Change → ℕ
weight_of_change h = weight_of_operated h.operator + weight_of_conversion h.conversion + 1

abbrev pub weight_of_primary : Primary → ℕ
weight_of_primary (primary.Number n) = 0
weight_of_primary primary.Null = 0
weight_of_primary (primary.Variable s i) = 1
weight_of_primary (primary.Address i) = 0
weight_of_primary (primary.Static i) = 0
weight_of_primary (primary.Increment i h) = weight_of_increment h

abbrev pub weight_of_unary : Unary → ℕ
weight_of_unary (unary.Load s) = 1
weight_of_unary (unary.Convert h) = weight_of_conversion h
weight_of_unary (unary.Negate s) = 1
weight_of_unary unary.Complement = 1
weight_of_unary unary.Not = 1
weight_of_unary (unary.Member n) = 1
weight_of_unary (unary.Increment h) = weight_of_increment h
weight_of_unary unary.Drop = 0

-- a join: its block, what is made in it, and the act that reads what it gave
abbrev pub weight_of_join : ℕ → ℕ
weight_of_join w = 1 + w + 1

abbrev pub count_of_row : {n : _} → Row_of-TExpr n → ℕ
count_of_row end_of-TExpr = 0
count_of_row (more_of-TExpr a rest) = suc (count_of_row rest)

abbrev mutual
  -- an expression
  pub weight_of : TExpr → ℕ
  weight_of (x.Primary t p) = weight_of_primary p
  weight_of (x.Applied' t p (more_of-TExpr a end_of-TExpr) n steps) = weight_of a + weight_of_steps steps
  weight_of (x.All' t n all) = weight_of_join (weight_of_operands all)
  weight_of (x.Any' t n all) = weight_of_join (weight_of_operands all)
  weight_of (x.Choose' t n arms p (more_of-TExpr a end_of-TExpr)) =
      weight_of_join (weight_of_arms arms + weight_of a + 1)
  weight_of (x.Comma' t n all p (more_of-TExpr a end_of-TExpr)) = weight_of_values all + weight_of a
  weight_of (x.Assign' t n targets p (more_of-TExpr a end_of-TExpr)) = weight_of_targets targets (weight_of a)
  weight_of (x.Call' t f n all) = weight_of_values all + (1 + count_of_row all)
  weight_of (x.DroppedCall' t f n all) = weight_of_values all + (1 + count_of_row all)
  weight_of (x.GetChar t) = 1
  weight_of (x.PutChar' t p (more_of-TExpr a end_of-TExpr)) = weight_of a + 1 + 1
  weight_of (x.Exit' t p (more_of-TExpr a end_of-TExpr)) = weight_of a + 1

  -- steps
  pub weight_of_steps : {n : _} → Row_of-Step n → ℕ
  weight_of_steps end_of-Step = 0
  weight_of_steps (more_of-Step (step.Unary u) rest) = weight_of_unary u + weight_of_steps rest
  weight_of_steps (more_of-Step (step.Binary o b) rest) = weight_of b + weight_of_arithmetic o + weight_of_steps rest

  -- expressions one behind the other
  pub weight_of_values : {n : _} → Row_of-TExpr n → ℕ
  weight_of_values end_of-TExpr = 0
  weight_of_values (more_of-TExpr a rest) = weight_of a + weight_of_values rest

  -- the operands of `&&` or `||`: each but the last has a choice with two acts behind it
  pub weight_of_operands : {n : _} → Row_of-TExpr n → ℕ
  weight_of_operands end_of-TExpr = 0
  weight_of_operands (more_of-TExpr a end_of-TExpr) = weight_of a + 1
  weight_of_operands (more_of-TExpr a (more_of-TExpr b rest)) =
      weight_of a + 3 + weight_of_operands (more_of-TExpr b rest)

  -- the arms of `? :` but the last
  pub weight_of_arms : {n : _} → Row_of-Arm n → ℕ
  weight_of_arms end_of-Arm = 0
  weight_of_arms (more_of-Arm e a rest) = weight_of e + (1 + (weight_of a + 1 + 1)) + weight_of_arms rest

  -- left sides, and the value at the right end
  pub weight_of_targets : {n : _} → Row_of-Target n → (last : ℕ) → ℕ
  weight_of_targets end_of-Target w = w
  weight_of_targets (more_of-Target (target.Variable i h) rest) w = weight_of_targets rest w + weight_of_change h
  weight_of_targets (more_of-Target (target.Place a h) rest) w =
      weight_of a + weight_of_targets rest w + weight_of_change h
