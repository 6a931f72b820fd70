-- What the acts come to that lowering makes of typed trees, under a weight for each kind of act (a choice of this project). The
-- limits count acts by the tokens of a definition, so these are tied to tokens here, where both are known.
use Rattle.std.specs.Prelude.{ℕ, ◌+◌, ◌*◌, List, [], ◌∷◌, Option, Some, None, length}
use Rattle.word_ops.specs.declared.operation.Width.TheVariants as width
use Rattle.c_tree.specs.declared.typed.operator.Arithmetic.{Arithmetic}
use Rattle.c_tree.specs.declared.typed.operator.Arithmetic.TheVariants as arithmetic
use Rattle.c_tree.specs.declared.typed.operator.Conversion.{Conversion}
use Rattle.c_tree.specs.declared.typed.operator.Conversion.TheVariants as conversion
use Rattle.c_tree.specs.declared.typed.operator.Change.{Change}
use Rattle.c_tree.specs.declared.typed.operator.Increment.{Increment}
use Rattle.c_tree.specs.declared.typed.operator.Primary.{Primary}
use Rattle.c_tree.specs.declared.typed.operator.Primary.TheVariants as primary
use Rattle.c_tree.specs.declared.typed.operator.Unary.{Unary}
use Rattle.c_tree.specs.declared.typed.operator.Unary.TheVariants as unary
use Rattle.c_tree.specs.declared.typed.expression.TExpr.{TExpr, Row_of-TExpr, end_of-TExpr, more_of-TExpr, Row_of-Step, end_of-Step, more_of-Step, Row_of-Arm, end_of-Arm, more_of-Arm, Row_of-Target, end_of-Target, more_of-Target}
use Rattle.c_tree.specs.declared.typed.expression.TExpr.TheVariants as x
use Rattle.c_tree.specs.declared.typed.expression.Step.TheVariants as step
use Rattle.c_tree.specs.declared.typed.expression.Target.TheVariants as target
use Rattle.c_tree.specs.declared.typed.statement.TStmt.{TStmt, Row_of-TStmt, end_of-TStmt, more_of-TStmt, Row_of-Branch, end_of-Branch, more_of-Branch, Row_of-Part, end_of-Part, more_of-Part}
use Rattle.c_tree.specs.declared.typed.statement.TStmt.TheVariants as s
use Rattle.c_tree.specs.declared.typed.statement.Initial.{Initial}
use Rattle.c_tree.specs.declared.typed.statement.Initial.TheVariants as initial
use Rattle.c_tree.specs.declared.typed.statement.Initialiser.{Initialiser}
use Rattle.c_tree.specs.declared.typed.statement.Initialiser.TheVariants as initialiser
use Rattle.c_tree.specs.declared.typed.statement.Label.{Label}
use Rattle.c_tree.specs.declared.typed.statement.Label.TheVariants as label
use Rattle.c_tree.specs.declared.typed.unit.TFunction.{TFunction}

-- a weight for each kind of act: one with no acts in it, a block, a loop, a break, a choice
pub record Weights : Type 0 where
  pub act : ℕ
  pub block : ℕ
  pub loop : ℕ
  pub leave : ℕ
  pub choice : ℕ

-- each act counts one
abbrev pub acts : Weights
acts = record { act = 1; block = 1; loop = 1; leave = 1; choice = 1 }

-- jumps alone: a block ends in one, a loop in one and begins with one, and each side of a choice ends in one
abbrev pub jumps : Weights
jumps = record { act = 0; block = 1; loop = 2; leave = 1; choice = 2 }

-- ---- operators

-- on pointers a product and a sum, or a difference and a quotient
abbrev pub weight_of_operator : Weights → Arithmetic → ℕ
weight_of_operator w (arithmetic.Word o) = w.act
weight_of_operator w (arithmetic.Compare r s) = w.act
weight_of_operator w (arithmetic.ComparePointers r) = w.act
weight_of_operator w _ = 2 * w.act

-- between types of four bytes a word stays
abbrev pub weight_of_conversion : Weights → Conversion → ℕ
weight_of_conversion w (conversion.Integer width.Word) = 0
weight_of_conversion w conversion.Pointer = 0
weight_of_conversion w _ = w.act

-- a compound assignment reads and writes, any other one writes alone
abbrev pub weight_of_change_by : Weights → Option Arithmetic → Conversion → ℕ
weight_of_change_by w None k = weight_of_conversion w k + w.act
weight_of_change_by w (Some o) k = w.act + weight_of_operator w o + weight_of_conversion w k + w.act

abbrev pub weight_of_change : Weights → Change → ℕ
weight_of_change w c = weight_of_change_by w c.operator c.conversion

abbrev pub weight_of_increment : Weights → Increment → ℕ
weight_of_increment w i = weight_of_change_by w (Some i.operator) i.conversion

-- a number or an address is no act
abbrev pub weight_of_primary : Weights → Primary → ℕ
weight_of_primary w (primary.Variable k i) = w.act
weight_of_primary w (primary.Increment i h) = weight_of_increment w h
weight_of_primary w _ = 0

abbrev pub weight_of_unary : Weights → Unary → ℕ
weight_of_unary w (unary.Convert k) = weight_of_conversion w k
weight_of_unary w (unary.Increment i) = weight_of_increment w i
weight_of_unary w unary.Drop = 0
weight_of_unary w _ = w.act

-- ---- expressions

-- an operand of `&&` or `||` before the last one, or an arm of `? :`: a choice, in which the join is given a value and left
abbrev pub weight_of_way_out : Weights → ℕ
weight_of_way_out w = w.choice + w.act + w.leave

-- a join: a block, and what it gave is moved
abbrev pub weight_of_join : Weights → ℕ
weight_of_join w = w.block + w.act

abbrev mutual
  pub weight_of : Weights → TExpr → ℕ
  weight_of w (x.Primary t p) = weight_of_primary w p
  weight_of w (x.Applied' t p (more_of-TExpr a end_of-TExpr) n steps) = weight_of w a + weight_of_steps w steps
  weight_of w (x.All' t n all) = weight_of_join w + weight_of_operands w all
  weight_of w (x.Any' t n all) = weight_of_join w + weight_of_operands w all
  weight_of w (x.Choose' t n arms p (more_of-TExpr a end_of-TExpr)) =
      weight_of_join w + weight_of_arms w arms + weight_of w a + w.act
  weight_of w (x.Comma' t n all p (more_of-TExpr a end_of-TExpr)) = weight_of_all w all + weight_of w a
  weight_of w (x.Assign' t n targets p (more_of-TExpr a end_of-TExpr)) = weight_of_targets w targets + weight_of w a
  weight_of w (x.Call' t f n all) = w.act + weight_of_arguments w all
  weight_of w (x.DroppedCall' t f n all) = w.act + weight_of_arguments w all
  weight_of w (x.GetChar t) = w.act
  weight_of w (x.PutChar' t p (more_of-TExpr a end_of-TExpr)) = weight_of w a + 2 * w.act
  weight_of w (x.Exit' t p (more_of-TExpr a end_of-TExpr)) = weight_of w a + w.act

  pub weight_of_steps : Weights → {n : _} → Row_of-Step n → ℕ
  weight_of_steps w end_of-Step = 0
  weight_of_steps w (more_of-Step (step.Unary u) rest) = weight_of_unary w u + weight_of_steps w rest
  weight_of_steps w (more_of-Step (step.Binary o b) rest) =
      weight_of w b + weight_of_operator w o + weight_of_steps w rest

  -- an argument counts itself
  pub weight_of_arguments : Weights → {n : _} → Row_of-TExpr n → ℕ
  weight_of_arguments w end_of-TExpr = 0
  weight_of_arguments w (more_of-TExpr a rest) = weight_of w a + w.act + weight_of_arguments w rest

  -- operands of a comma, whose values are dropped
  pub weight_of_all : Weights → {n : _} → Row_of-TExpr n → ℕ
  weight_of_all w end_of-TExpr = 0
  weight_of_all w (more_of-TExpr a rest) = weight_of w a + weight_of_all w rest

  -- operands of `&&` or `||`: the last one is compared with 0
  pub weight_of_operands : Weights → {n : _} → Row_of-TExpr n → ℕ
  weight_of_operands w end_of-TExpr = 0
  weight_of_operands w (more_of-TExpr a end_of-TExpr) = weight_of w a + w.act
  weight_of_operands w (more_of-TExpr a (more_of-TExpr b rest)) =
      weight_of w a + weight_of_way_out w + weight_of_operands w (more_of-TExpr b rest)

  pub weight_of_arms : Weights → {n : _} → Row_of-Arm n → ℕ
  weight_of_arms w end_of-Arm = 0
  weight_of_arms w (more_of-Arm a b rest) =
      weight_of w a + weight_of w b + weight_of_way_out w + weight_of_arms w rest

  pub weight_of_targets : Weights → {n : _} → Row_of-Target n → ℕ
  weight_of_targets w end_of-Target = 0
  weight_of_targets w (more_of-Target (target.Variable i h) rest) = weight_of_change w h + weight_of_targets w rest
  weight_of_targets w (more_of-Target (target.Place a h) rest) =
      weight_of w a + weight_of_change w h + weight_of_targets w rest

abbrev pub weight_if_any : Weights → Option TExpr → ℕ
weight_if_any w None = 0
weight_if_any w (Some e) = weight_of w e

-- ---- initial values

-- A value is stored at a place. The bytes of a string are stored in words as far as they lie so: what begins and ends such a
-- string comes to at most three stores more than its words, which the limits count as those of the object.
abbrev pub weight_of_initials : Weights → List Initial → ℕ
weight_of_initials w [] = 0
weight_of_initials w (initial.Value n k e ∷ rest) = weight_of w e + 2 * w.act + weight_of_initials w rest
weight_of_initials w (initial.Bytes n bytes ∷ rest) = 6 * w.act + weight_of_initials w rest

-- an aggregate is made zero first, which the limits count as the words of the object
abbrev pub weight_of_initialiser : Weights → Initialiser → ℕ
weight_of_initialiser w (initialiser.Scalar k e) = weight_of w e + w.act
weight_of_initialiser w (initialiser.Aggregate is) = weight_of_initials w is

-- ---- statements

-- a `case` is a comparison, and a choice in which its part is chosen
abbrev pub weight_of_labels : Weights → List Label → ℕ
weight_of_labels w [] = 0
weight_of_labels w (label.Case n ∷ rest) = 2 * w.act + w.choice + weight_of_labels w rest
weight_of_labels w (label.Default ∷ rest) = weight_of_labels w rest

-- a condition by which a loop is left, and the block of its body
abbrev pub weight_of_loop : Weights → ℕ
weight_of_loop w = w.loop + w.block

abbrev pub weight_of_condition_if_any : Weights → Option TExpr → ℕ
weight_of_condition_if_any w None = 0
weight_of_condition_if_any w (Some e) = weight_of w e + w.choice + w.leave

abbrev mutual
  -- each object of a block is entered
  pub weight_of_statement : Weights → TStmt → ℕ
  weight_of_statement w (s.Evaluate e) = weight_of w e
  weight_of_statement w (s.Initialise i v) = weight_of_initialiser w v
  weight_of_statement w (s.Block' b n all) = length b.list * w.act + weight_of_statements w all
  weight_of_statement w (s.If' n branches p (more_of-TStmt a end_of-TStmt)) =
      w.block + weight_of_branches w branches + weight_of_statement w a
  weight_of_statement w (s.While' e p (more_of-TStmt a end_of-TStmt)) =
      weight_of_loop w + weight_of_condition_if_any w (Some e) + weight_of_statement w a
  weight_of_statement w (s.Do' p (more_of-TStmt a end_of-TStmt) e) =
      weight_of_loop w + weight_of_condition_if_any w (Some e) + weight_of_statement w a
  weight_of_statement w (s.For' e f p (more_of-TStmt a end_of-TStmt)) =
      weight_of_loop w + weight_of_condition_if_any w e + weight_if_any w f + weight_of_statement w a
  weight_of_statement w (s.Switch' e b n parts) =
      weight_of w e + length b.list * w.act + w.act + w.block + weight_of_parts w parts
  weight_of_statement w s.Break = w.leave
  weight_of_statement w s.Continue = w.leave
  weight_of_statement w (s.Return e) = weight_if_any w e + w.act

  pub weight_of_statements : Weights → {n : _} → Row_of-TStmt n → ℕ
  weight_of_statements w end_of-TStmt = 0
  weight_of_statements w (more_of-TStmt a rest) = weight_of_statement w a + weight_of_statements w rest

  -- what is done where a condition holds ends with a break
  pub weight_of_branches : Weights → {n : _} → Row_of-Branch n → ℕ
  weight_of_branches w end_of-Branch = 0
  weight_of_branches w (more_of-Branch e a rest) =
      weight_of w e + w.choice + weight_of_statement w a + w.leave + weight_of_branches w rest

  -- a part is passed over where the first one to run stands behind it
  pub weight_of_parts : Weights → {n : _} → Row_of-Part n → ℕ
  weight_of_parts w end_of-Part = 0
  weight_of_parts w (more_of-Part labels m body rest) =
      weight_of_labels w labels + w.act + w.choice + weight_of_statements w body + weight_of_parts w rest

-- ---- functions

-- a parameter counts itself, is entered, and is stored where it is in memory; main gives 0 behind its last statement
abbrev pub weight_of_function : Weights → TFunction → ℕ
weight_of_function w f = w.act + 3 * (length f.parameters * w.act) + weight_of_statement w f.body + w.act
