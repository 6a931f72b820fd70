-- What a statement does (C11 6.8).
use Rattle.std.specs.Prelude.{ℕ, zero, suc, Bool, true, false, ◌||◌, ◌==◌, List, [], ◌∷◌, ◌++◌, length, map, Option, Some, None, slice_get, if◌then◌else◌}
use Rattle.word_ops.specs.Store.{Value, Pointer, Byte, Region, Store, new_region, unset_cells, end_regions, refill_region, number_of}
use Rattle.word_ops.specs.Access.{put_cells, initialise}
use Rattle.word_ops.specs.Values.{truth}
use Rattle.word_ops.specs.Run.{Outside, Run, Gives, then_do, given, branch, Turn, Again, Over, loop}
use Rattle.c_tree.specs.declared.typed.expression.TExpr.{TExpr}
use Rattle.c_tree.specs.declared.typed.statement.TStmt.{TStmt, Row_of-TStmt, end_of-TStmt, more_of-TStmt, Row_of-Branch, end_of-Branch, more_of-Branch, Row_of-Part, end_of-Part, more_of-Part}
use Rattle.c_tree.specs.declared.typed.statement.TStmt.TheVariants as s
use Rattle.c_tree.specs.declared.typed.statement.Objects.{Objects}
use Rattle.c_tree.specs.declared.typed.statement.Initial.{Initial}
use Rattle.c_tree.specs.declared.typed.statement.Initial.TheVariants as initial
use Rattle.c_tree.specs.declared.typed.statement.Initialiser.{Initialiser}
use Rattle.c_tree.specs.declared.typed.statement.Initialiser.TheVariants as initialiser
use Rattle.c_tree.specs.declared.typed.statement.Label.{Label}
use Rattle.c_tree.specs.declared.typed.statement.Label.TheVariants as label
use Rattle.c_tree.specs.declared.typed.unit.Object.{Object}
use Rattle.c_tree.specs.TypedKinds.{width_of}
use Rattle.c_meaning.specs.Environment.{Environment, with_objects}
use Rattle.c_meaning.specs.Expressions.{Calls, value}

-- how a statement is left: at its end, or by a jump (C11 6.8.6)
pub data Done : Type 0 where
  Normal : Done
  Breaks : Done
  Continues : Done
  Returns : (returned : Option Value) → Done

-- ---- objects of blocks

-- an object as its lifetime begins: no part of it has a value (C11 6.2.4p6). The meaning of a source knows no addresses
abbrev pub new_object : Object → Region
new_object o = new_region o.constant 0 (unset_cells o.size)

-- the store with the objects of a block (C11 6.2.4p6): new ones at each entry
abbrev pub with_new_objects : List Object → Store → Store
with_new_objects os st = st ++ map new_object os

-- what is done in a block, from the entry on, where its objects begin, to the end of their lifetimes, however it is left
abbrev pub in_block : Objects → (Environment → Store → Outside → Run Store Done) → Environment → Store → Outside →
    Run Store Done
in_block b body env st w =
    then_do (body (with_objects env (length st) (length b.list)) (with_new_objects b.list st) w) (λ inner w d. Gives (end_regions inner (length st) (length b.list)) w d)

-- ---- initial values (C11 6.7.9)

-- gives the next piece of an aggregate its value; values are evaluated in the order of the pieces (C11 6.7.9p23 leaves that
-- open)
abbrev pub piece_set : Calls → Initial → ℕ → Environment → Store → Outside → Run Store Done
piece_set call (initial.Value n k e) r env st w =
    then_do (value call e env st w) (λ st w v. given (initialise st (width_of k) (Pointer r n) v) (λ st. Gives st w Normal))
piece_set call (initial.Bytes n bytes) r env st w =
    given (put_cells st (Pointer r n) 1 (map Byte bytes)) (λ st. Gives st w Normal)

-- gives each piece its value, one behind the other
abbrev pub pieces_set : Calls → List Initial → ℕ → Environment → Store → Outside → Run Store Done
pieces_set call [] r env st w = Gives st w Normal
pieces_set call (i ∷ is) r env st w = then_do (piece_set call i r env st w) (λ st w d. pieces_set call is r env st w)

-- gives an object its initial value: that of an aggregate is zero but for the pieces (C11 6.7.9p11, p19, p21)
abbrev pub initialised : Calls → Initialiser → ℕ → Environment → Store → Outside → Run Store Done
initialised call (initialiser.Scalar k e) r env st w = piece_set call (initial.Value 0 k e) r env st w
initialised call (initialiser.Aggregate is) r env st w = pieces_set call is r env (refill_region st r (Byte 0)) w

-- ---- conditions and loops

-- whether an expression compares unequal to 0 (C11 6.8.4.1p2, 6.8.5p4)
abbrev pub holds : Calls → TExpr → Environment → Store → Outside → Run Store Bool
holds call e env st w = then_do (value call e env st w) (λ st w v. given (truth st v) (λ b. Gives st w b))

-- the condition of a `for`; where there is none it holds (C11 6.8.5.3p2)
abbrev pub holds_if_any : Calls → Option TExpr → Environment → Store → Outside → Run Store Bool
holds_if_any call None env st w = Gives st w true
holds_if_any call (Some e) env st w = holds call e env st w

-- what a `for` does after each iteration
abbrev pub evaluated_if_any : Calls → Option TExpr → Environment → Store → Outside → Run Store Done
evaluated_if_any call None env st w = Gives st w Normal
evaluated_if_any call (Some e) env st w = then_do (value call e env st w) (λ st w v. Gives st w Normal)

-- goes on with the next statement of a list behind one that was left at its end
abbrev pub next : Done → (Store → Outside → Run Store Done) → Store → Outside → Run Store Done
next Normal rest st w = rest st w
next Breaks rest st w = Gives st w Breaks
next Continues rest st w = Gives st w Continues
next (Returns v) rest st w = Gives st w (Returns v)

-- goes on behind the body of a loop: `break` leaves the loop, `continue` the body (C11 6.8.6.2p2, 6.8.6.3p2)
abbrev pub after_body : Done → (Store → Outside → Run Store (Turn Done)) → Store → Outside → Run Store (Turn Done)
after_body Normal rest st w = rest st w
after_body Continues rest st w = rest st w
after_body Breaks rest st w = Gives st w (Over Normal)
after_body (Returns v) rest st w = Gives st w (Over (Returns v))

-- the next iteration, and the end of the loop
abbrev pub again : Store → Outside → Run Store (Turn Done)
again st w = Gives st w Again

-- the loop is left at its end
abbrev pub loop_left : Store → Outside → Run Store (Turn Done)
loop_left st w = Gives st w (Over Normal)

-- an iteration that tests its condition and goes on where that holds
abbrev pub where_holds : (condition : Store → Outside → Run Store Bool) → (rest : Store → Outside → Run Store (Turn Done)) →
    Store → Outside → Run Store (Turn Done)
where_holds condition rest st w = then_do (condition st w) (λ st w b. branch b rest loop_left st w)

-- an iteration that runs its body and goes on behind it
abbrev pub behind_body : (body : Store → Outside → Run Store Done) → (rest : Store → Outside → Run Store (Turn Done)) →
    Store → Outside → Run Store (Turn Done)
behind_body body rest st w = then_do (body st w) (λ st w d. after_body d rest st w)

-- what a `for` does behind its body, and then again
abbrev pub next_iteration : Calls → Option TExpr → Environment → Store → Outside → Run Store (Turn Done)
next_iteration call e env st w = then_do (evaluated_if_any call e env st w) (λ st w d. again st w)

-- ---- switches (C11 6.8.4.2)

-- whether a label is that of a value
abbrev pub is_case : ℕ → Label → Bool
is_case n (label.Case m) = m == n
is_case n label.Default = false

-- whether a label is `default`
abbrev pub is_default : Label → Bool
is_default (label.Case m) = false
is_default label.Default = true

-- whether one of the labels of a part is such
abbrev pub has_label : (Label → Bool) → List Label → Bool
has_label is [] = false
has_label is (l ∷ ls) = is l || has_label is ls

-- no further, or one further
abbrev pub place_behind : Bool → ℕ → ℕ
place_behind true n = zero
place_behind false n = suc n

-- the first part with such a label, or the number of parts
abbrev pub part_with : (Label → Bool) → {n : _} → Row_of-Part n → ℕ
part_with is end_of-Part = zero
part_with is (more_of-Part labels m body rest) = place_behind (has_label is labels) (part_with is rest)

-- how many parts there are
abbrev pub parts_in : {n : _} → Row_of-Part n → ℕ
parts_in end_of-Part = zero
parts_in (more_of-Part labels m body rest) = suc (parts_in rest)

-- where a switch begins: at the label of the value, else at the default, else behind all (C11 6.8.4.2p5, p7)
abbrev pub first_part : {n : _} → ℕ → Row_of-Part n → ℕ
first_part v parts =
    if part_with (is_case v) parts == parts_in parts then part_with is_default parts else part_with (is_case v) parts

-- `break` leaves the switch, and `continue` the loop around it (C11 6.8.6.3p2)
abbrev pub after_switch : Done → Done
after_switch Normal = Normal
after_switch Breaks = Normal
after_switch Continues = Continues
after_switch (Returns v) = Returns v

-- the body of a switch, from a part on
abbrev pub switch_body : Objects → (Environment → Store → Outside → Run Store Done) → Environment → Store → Outside →
    Run Store Done
switch_body b body env st w = then_do (in_block b body env st w) (λ st w d. Gives st w (after_switch d))

-- ---- statements

abbrev mutual
  -- what a statement does, and how it is left, form by form
  pub statement : Calls → TStmt → Environment → Store → Outside → Run Store Done
  -- C11 6.8.3
  statement call (s.Evaluate e) env st w = then_do (value call e env st w) (λ st w v. Gives st w Normal)
  -- C11 6.7.9, 6.2.4p6
  statement call (s.Initialise x i) env st w =
      given (slice_get env.objects x) (λ r. initialised call i r env st w)
  -- C11 6.8.2
  statement call (s.Block' b n all) env st w = in_block b (statements call all) env st w
  -- C11 6.8.4.1
  statement call (s.If' n branches p (more_of-TStmt last end_of-TStmt)) env st w =
      first_holding call branches (statement call last env) env st w
  -- C11 6.8.5.1
  statement call (s.While' c p (more_of-TStmt a end_of-TStmt)) env st w =
      loop (where_holds (holds call c env) (behind_body (statement call a env) again)) st w
  -- C11 6.8.5.2
  statement call (s.Do' p (more_of-TStmt a end_of-TStmt) c) env st w =
      loop (behind_body (statement call a env) (where_holds (holds call c env) again)) st w
  -- C11 6.8.5.3
  statement call (s.For' c e p (more_of-TStmt a end_of-TStmt)) env st w =
      loop (where_holds (holds_if_any call c env) (behind_body (statement call a env) (next_iteration call e env))) st w
  -- C11 6.8.4.2
  statement call (s.Switch' e b n parts) env st w =
      then_do (value call e env st w) (λ st w v. given (number_of v) (λ k. switch_body b (statements_from call parts (first_part k parts)) env st w))
  -- C11 6.8.6
  statement call s.Break env st w = Gives st w Breaks
  statement call s.Continue env st w = Gives st w Continues
  statement call (s.Return None) env st w = Gives st w (Returns None)
  statement call (s.Return (Some e)) env st w =
      then_do (value call e env st w) (λ st w v. Gives st w (Returns (Some v)))

  -- statements one after another (C11 6.8.2p3)
  pub statements : Calls → {n : _} → Row_of-TStmt n → Environment → Store → Outside → Run Store Done
  statements call end_of-TStmt env st w = Gives st w Normal
  statements call (more_of-TStmt a rest) env st w =
      then_do (statement call a env st w) (λ st w d. next d (statements call rest env) st w)

  -- the statement at the first condition that holds, else the last (C11 6.8.4.1p2)
  pub first_holding : Calls → {n : _} → Row_of-Branch n → (last : Store → Outside → Run Store Done) → Environment →
      Store → Outside → Run Store Done
  first_holding call end_of-Branch last env st w = last st w
  first_holding call (more_of-Branch c a rest) last env st w =
      then_do (holds call c env st w) (λ st w b. branch b (statement call a env) (first_holding call rest last env) st w)

  -- the parts of a switch from one on, each behind the one before it (C11 6.8.4.2p4, 6.8.1p4)
  pub statements_from : Calls → {n : _} → Row_of-Part n → ℕ → Environment → Store → Outside → Run Store Done
  statements_from call end_of-Part k env st w = Gives st w Normal
  statements_from call (more_of-Part labels m body rest) zero env st w =
      then_do (statements call body env st w) (λ st w d. next d (statements_from call rest zero env) st w)
  statements_from call (more_of-Part labels m body rest) (suc k) env st w = statements_from call rest k env st w
