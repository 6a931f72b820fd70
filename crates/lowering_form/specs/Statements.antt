-- The code of statements, form by form (C11 6.8). A jump goes by breaks: the body of a loop is a block in the loop, and only a
-- switch takes a variable.
use Rattle.std.specs.Prelude.{ℕ, zero, suc, Bool, true, false, ◌||◌, List, [], ◌∷◌, ◌++◌, Option, Some, None}
use Rattle.word_ops.specs.declared.operation.Op.TheVariants as op
use Rattle.core_lang.specs.declared.act.Atom.{Atom}
use Rattle.core_lang.specs.declared.act.Atom.TheVariants as at
use Rattle.core_lang.specs.declared.act.Core.TheVariants as c
use Rattle.c_tree.specs.declared.typed.expression.TExpr.{TExpr}
use Rattle.c_tree.specs.declared.typed.statement.TStmt.{TStmt, Row_of-TStmt, end_of-TStmt, more_of-TStmt, Row_of-Branch, end_of-Branch, more_of-Branch, Row_of-Part, end_of-Part, more_of-Part}
use Rattle.c_tree.specs.declared.typed.statement.TStmt.TheVariants as s
use Rattle.c_tree.specs.declared.typed.statement.Objects.{Objects}
use Rattle.c_tree.specs.declared.typed.statement.Label.{Label}
use Rattle.c_tree.specs.declared.typed.statement.Label.TheVariants as label
use Rattle.lowering_form.specs.Code.{Code, Valued, begun, with_act, assigned, with_list}
use Rattle.lowering_form.specs.Places.{Scope, place_in}
use Rattle.lowering_form.specs.Expressions.{value_code}
use Rattle.lowering_form.specs.Objects.{Body, Declared, with_code, inside, closed, all_declared, initial_code}

-- ---- scopes

-- in a block that no jump leads behind: both jumps leave one more
abbrev pub in_block : Scope → Scope
in_block sc = record { places = sc.places; level = sc.level; breaks = suc sc.breaks; continues = suc sc.continues }

-- in the body of a loop: `continue` leaves the body, and `break` the loop around it (C11 6.8.6.2p2, 6.8.6.3p2)
abbrev pub in_loop : Scope → Scope
in_loop sc = record { places = sc.places; level = sc.level; breaks = 1; continues = 0 }

-- in the block of the parts of a switch, which `break` leaves
abbrev pub in_parts : Scope → Scope
in_parts sc = record { places = sc.places; level = sc.level; breaks = 0; continues = suc sc.continues }

-- behind the operand of a switch, which takes a variable
abbrev pub with_switch : Scope → Scope
with_switch sc = record { places = sc.places; level = suc sc.level; breaks = sc.breaks; continues = sc.continues }

-- ---- conditions, loops and returns

-- an expression whose value is used by nothing (C11 6.8.3p2)
abbrev pub evaluated : TExpr → Scope → Body → Body
evaluated e sc b = with_code (value_code e sc b.code).code b

abbrev pub evaluated_if_any : Option TExpr → Scope → Body → Body
evaluated_if_any None sc b = b
evaluated_if_any (Some e) sc b = evaluated e sc b

-- the loop is left unless a condition holds (C11 6.8.5p4)
abbrev pub left_unless : Valued → Code
left_unless v = with_act (c.If v.atom [] (c.Break 0 ∷ [])) v.code

abbrev pub tested : TExpr → Scope → Body → Body
tested e sc b = with_code (left_unless (value_code e sc b.code)) b

-- the condition of a `for`, which holds where there is none (C11 6.8.5.3p2)
abbrev pub tested_if_any : Option TExpr → Scope → Body → Body
tested_if_any None sc b = b
tested_if_any (Some e) sc b = tested e sc b

-- the body of a loop
abbrev pub loop_body : (Body → Body) → Body → Body
loop_body make b = closed c.Block b.code (make (inside b))

-- a loop of what is made in it
abbrev pub looped : (Body → Body) → Body → Body
looped make b = closed c.Loop b.code (make (inside b))

-- C11 6.8.6.4
abbrev pub returned : Option TExpr → Scope → Code → Code
returned None sc k = with_act (c.Return None) k
returned (Some e) sc k = let v = value_code e sc k in with_act (c.Return (Some v.atom)) v.code

-- ---- `if` (C11 6.8.4.1)

-- one condition: a choice of two lists
abbrev pub chosen_by : (condition : Valued) → (first second : Body → Body) → Body → Body
chosen_by v first second b =
    let yes = first (with_code (begun v.code) b) in let no = second (inside yes) in
    with_code (record { acts = v.code.acts ++ c.If v.atom yes.code.acts no.code.acts ∷ []; next = no.code.next }) no

-- one of several conditions: what is done where it holds leaves the block of the `if`
abbrev pub left_by : (condition : Valued) → (first : Body → Body) → Body → Body
left_by v first b =
    let yes = first (with_code (begun v.code) b) in
    closed (λ acts. c.If v.atom acts []) v.code (with_code (with_act (c.Break 0) yes.code) yes)

-- ---- switches (C11 6.8.4.2)

-- whether a label is `default`, and whether one of several is
abbrev pub is_default : Label → Bool
is_default (label.Case n) = false
is_default label.Default = true

abbrev pub has_default : List Label → Bool
has_default [] = false
has_default (l ∷ ls) = is_default l || has_default ls

-- the part with `default`, or else how many parts there are
abbrev pub first_or_behind : Bool → ℕ → ℕ
first_or_behind true n = 0
first_or_behind false n = suc n

abbrev pub default_part : {n : _} → Row_of-Part n → ℕ
default_part end_of-Part = 0
default_part (more_of-Part labels m body rest) = first_or_behind (has_default labels) (default_part rest)

-- where the operand is a label's value, the number of its part goes into the variable of the switch
abbrev pub label_code : (switch : ℕ) → (operand : Atom) → (part : ℕ) → Label → Code → Code
label_code x v i label.Default k = k
label_code x v i (label.Case n) k =
    let equal = assigned (λ t. c.Operate t op.Eq v (at.Word n)) k in
    with_act (c.If equal.atom (c.Move x (at.Word i) ∷ []) []) equal.code

abbrev pub labels_code : (switch : ℕ) → (operand : Atom) → (part : ℕ) → List Label → Code → Code
labels_code x v i [] k = k
labels_code x v i (l ∷ ls) k = labels_code x v i ls (label_code x v i l k)

-- the labels of the parts, the last part first: so the first part with a label has the last word
abbrev pub dispatch_code : (switch : ℕ) → (operand : Atom) → (part : ℕ) → {n : _} → Row_of-Part n → Code → Code
dispatch_code x v i end_of-Part k = k
dispatch_code x v i (more_of-Part labels m body rest) k =
    labels_code x v i labels (dispatch_code x v (suc i) rest k)

-- the number of the first part that runs goes into the variable of the switch
abbrev pub found_code : (switch : ℕ) → (operand : Atom) → {n : _} → Row_of-Part n → Code → Code
found_code x v parts k = dispatch_code x v 0 parts (with_act (c.Move x (at.Word (default_part parts))) k)

-- a part runs unless the first that runs stands behind it
abbrev pub part_code : (switch : ℕ) → (part : ℕ) → (Body → Body) → Body → Body
part_code x i make b =
    let passed = assigned (λ t. c.Operate t op.Ltu (at.Word i) (at.Var x)) b.code in
    closed (λ acts. c.If passed.atom [] acts) passed.code (make (with_code (begun passed.code) b))

-- the block of the parts, behind the operand and what finds the first of them
abbrev pub switched : (switch : ℕ) → (find : Code → Code) → (parts : Scope → Body → Body) → Declared → Body
switched x find parts d =
    closed c.Block (find d.body.code) (parts (in_parts d.scope) (with_code (begun (find d.body.code)) d.body))

-- ---- statements

abbrev mutual
  -- the code of a statement
  pub statement_code : TStmt → Scope → Body → Body
  statement_code (s.Evaluate e) sc b = evaluated e sc b
  statement_code (s.Initialise i v) sc b = initial_code v (place_in sc i) sc b
  statement_code (s.Block' objects n all) sc b =
      let inner = all_declared objects.first objects.list sc b in statements_code all inner.scope inner.body
  statement_code (s.If' n branches p (more_of-TStmt last end_of-TStmt)) sc b = if_code branches (statement_code last) sc b
  statement_code (s.While' e p (more_of-TStmt a end_of-TStmt)) sc b =
      looped (λ b. loop_body (statement_code a (in_loop sc)) (tested e sc b)) b
  statement_code (s.Do' p (more_of-TStmt a end_of-TStmt) e) sc b =
      looped (λ b. tested e sc (loop_body (statement_code a (in_loop sc)) b)) b
  statement_code (s.For' e f p (more_of-TStmt a end_of-TStmt)) sc b =
      looped (λ b. evaluated_if_any f sc (loop_body (statement_code a (in_loop sc)) (tested_if_any e sc b))) b
  statement_code (s.Switch' e objects n parts) sc b =
      let v = value_code e sc b.code in
      switched sc.level (found_code sc.level v.atom parts) (parts_code parts sc.level 0) (all_declared objects.first objects.list (with_switch sc) (with_code v.code b))
  statement_code s.Break sc b = with_code (with_act (c.Break sc.breaks) b.code) b
  statement_code s.Continue sc b = with_code (with_act (c.Break sc.continues) b.code) b
  statement_code (s.Return e) sc b = with_code (returned e sc b.code) b

  -- statements one behind the other (C11 6.8.2p3)
  pub statements_code : {n : _} → Row_of-TStmt n → Scope → Body → Body
  statements_code end_of-TStmt sc b = b
  statements_code (more_of-TStmt a rest) sc b = statements_code rest sc (statement_code a sc b)

  -- an `if`: one condition is a choice, and several stand in a block, so that a long list makes the acts no deeper
  pub if_code : {n : _} → Row_of-Branch n → (last : Scope → Body → Body) → Scope → Body → Body
  if_code end_of-Branch last sc b = closed c.Block b.code (last (in_block sc) (inside b))
  if_code (more_of-Branch e a end_of-Branch) last sc b =
      chosen_by (value_code e sc b.code) (statement_code a sc) (last sc) b
  if_code (more_of-Branch e a (more_of-Branch f d rest)) last sc b =
      let first = left_by (value_code e sc (begun b.code)) (statement_code a (in_block sc)) (inside b) in
      closed c.Block b.code (last (in_block sc) (branches_code (more_of-Branch f d rest) (in_block sc) first))

  -- the conditions of an `if` in order
  pub branches_code : {n : _} → Row_of-Branch n → Scope → Body → Body
  branches_code end_of-Branch sc b = b
  branches_code (more_of-Branch e a rest) sc b =
      branches_code rest sc (left_by (value_code e sc b.code) (statement_code a sc) b)

  -- the parts of a switch from one on
  pub parts_code : {n : _} → Row_of-Part n → (switch part : ℕ) → Scope → Body → Body
  parts_code end_of-Part x i sc b = b
  parts_code (more_of-Part labels m body rest) x i sc b =
      parts_code rest x (suc i) sc (part_code x i (statements_code body sc) b)
