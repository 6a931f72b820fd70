-- What a statement returns, and what a call gives, is what the function's type has.
-- No contract cites this file: it holds proofs.
use Rattle.std.proofs.Common.{◌≡◌, refl, sym, subst, ℕ, zero, suc, List, [], ◌∷◌, length, arith, ⊎_elim}
use Rattle.std.proofs.lemmas.Bool.Decides.{eqb_tells}
use Rattle.std.specs.Prelude.{◌+◌, ◌==◌, map, Bool, true, false, Option, Some, None, slice_get}
use Rattle.std.specs.Option.{option_map}
use Rattle.word_ops.specs.declared.operation.Width.TheVariants as width
use Rattle.word_ops.specs.Store.{Number, Pointer, Byte, Store, end_regions, refill_region, number_of}
use Rattle.word_ops.specs.Access.{put_cells, initialise}
use Rattle.word_ops.specs.Run.{Outside, Run, Gives, given, branch, Turn}
use Rattle.c_tree.specs.declared.typed.operator.Scalar.{Scalar}
use Rattle.c_tree.specs.declared.typed.operator.Scalar.TheVariants as scalar
use Rattle.c_tree.specs.declared.typed.expression.TExpr.{TExpr}
use Rattle.c_tree.specs.declared.typed.statement.TStmt.{TStmt, Row_of-TStmt, end_of-TStmt, more_of-TStmt, Row_of-Branch, end_of-Branch, more_of-Branch, Row_of-Part, end_of-Part, more_of-Part}
use Rattle.c_tree.specs.declared.typed.statement.TStmt.TheVariants as s
use Rattle.c_tree.specs.declared.typed.statement.Objects.{Objects}
use Rattle.c_tree.specs.declared.typed.statement.Initial.{Initial}
use Rattle.c_tree.specs.declared.typed.statement.Initial.TheVariants as initial
use Rattle.c_tree.specs.declared.typed.statement.Initialiser.{Initialiser}
use Rattle.c_tree.specs.declared.typed.statement.Initialiser.TheVariants as initialiser
use Rattle.c_tree.specs.declared.typed.unit.TFunction.{TFunction}
use Rattle.c_tree.specs.declared.typed.unit.Typed.{Typed}
use Rattle.c_tree.specs.TypedKinds.{Holds, Signature, Names, width_of}
use Rattle.c_tree.specs.TypedUnits.{with_declared, signature_of, names_in, Jumps, in_loop, in_switch, declared_in, declared_in_all, declared_in_branches, IsReturnOf, IsStatement, AreStatements, AreBranches, AreParts, IsMain, IsUnit}
use Rattle.c_meaning.specs.Environment.{Environment, with_objects}
use Rattle.c_meaning.specs.Expressions.{Invocation, Calls, value}
use Rattle.c_meaning.specs.Statements.{Done, Normal, Breaks, Continues, Returns, with_new_objects, in_block, piece_set, pieces_set, initialised, holds, holds_if_any, evaluated_if_any, next, after_body, again, loop_left, where_holds, behind_body, next_iteration, first_part, after_switch, switch_body, statement, statements, first_holding, statements_from}
use Rattle.c_meaning.specs.Units.{with_arguments, at_closing_brace, value_of_body, body_run, function_run, calls}
use Rattle.c_meaning.specs.Kinds.{IsValueOf, IsResultOf, IsResultIn, IsDoneOf, GivesSuch}
use Rattle.c_meaning.specs.Laws.ValueKinds.{such-then, such-given, such-branch, such-any, IsTurnOf, such-loop, value-kind}

-- what calls give is what their functions' types have
abbrev pub CallsGiveResults : List Signature → Calls → Type 0
CallsGiveResults fs call = (i : Invocation) (w : Outside) → GivesSuch (IsResultIn (slice_get fs i.function)) (call i w)

module _ (call : Calls) (k : Option Scalar) where
  -- ---- initial values

  piece-such : (i : Initial) (r : ℕ) (env : Environment) (st : Store) (w : Outside) →
      GivesSuch (IsDoneOf k) (piece_set call i r env st w)
  piece-such (initial.Value n j e) r env st w =
      such-then (λ v. Unit {0}) (IsDoneOf k) (value call e env st w) (λ st w v. given (initialise st (width_of j) (Pointer r n) v) (λ st. Gives st w Normal)) (such-any (value call e env st w)) (λ st w v h. such-given (IsDoneOf k) (initialise st (width_of j) (Pointer r n) v) (λ st. Gives st w Normal) (λ st e. tt))
  piece-such (initial.Bytes n bytes) r env st w =
      such-given (IsDoneOf k) (put_cells st (Pointer r n) 1 (map Byte bytes)) (λ st. Gives st w Normal) (λ st e. tt)

  pieces-such : (is : List Initial) (r : ℕ) (env : Environment) (st : Store) (w : Outside) →
      GivesSuch (IsDoneOf k) (pieces_set call is r env st w)
  pieces-such [] r env st w = tt
  pieces-such (i ∷ is) r env st w =
      such-then (λ d. Unit {0}) (IsDoneOf k) (piece_set call i r env st w) (λ st w d. pieces_set call is r env st w) (such-any (piece_set call i r env st w)) (λ st w d h. pieces-such is r env st w)

  initialised-such : (i : Initialiser) (r : ℕ) (env : Environment) (st : Store) (w : Outside) →
      GivesSuch (IsDoneOf k) (initialised call i r env st w)
  initialised-such (initialiser.Scalar j e) r env st w = piece-such (initial.Value 0 j e) r env st w
  initialised-such (initialiser.Aggregate is) r env st w = pieces-such is r env (refill_region st r (Byte 0)) w

  -- ---- lists, loops and blocks

  next-such : (d : Done) (f : Store → Outside → Run Store Done) (st : Store) (w : Outside) → IsDoneOf k d →
      GivesSuch (IsDoneOf k) (f st w) → GivesSuch (IsDoneOf k) (next d f st w)
  next-such Normal f st w h g = g
  next-such Breaks f st w h g = tt
  next-such Continues f st w h g = tt
  next-such (Returns v) f st w h g = h

  after_body-such : (d : Done) (f : Store → Outside → Run Store (Turn Done)) (st : Store) (w : Outside) → IsDoneOf k d →
      GivesSuch (IsTurnOf (IsDoneOf k)) (f st w) → GivesSuch (IsTurnOf (IsDoneOf k)) (after_body d f st w)
  after_body-such Normal f st w h g = g
  after_body-such Continues f st w h g = g
  after_body-such Breaks f st w h g = tt
  after_body-such (Returns v) f st w h g = h

  after_switch-such : (d : Done) → IsDoneOf k d → IsDoneOf k (after_switch d)
  after_switch-such Normal h = tt
  after_switch-such Breaks h = tt
  after_switch-such Continues h = tt
  after_switch-such (Returns v) h = h

  where_holds-such : (h : Store → Outside → Run Store Bool) (f : Store → Outside → Run Store (Turn Done)) →
      ((st : Store) (w : Outside) → GivesSuch (IsTurnOf (IsDoneOf k)) (f st w)) → (st : Store) (w : Outside) →
      GivesSuch (IsTurnOf (IsDoneOf k)) (where_holds h f st w)
  where_holds-such h f g st w =
      such-then (λ b. Unit {0}) (IsTurnOf (IsDoneOf k)) (h st w) (λ st w b. branch b f loop_left st w) (such-any (h st w)) (λ st w b q. such-branch (IsTurnOf (IsDoneOf k)) b f loop_left st w (g st w) tt)

  behind_body-such : (h : Store → Outside → Run Store Done) (f : Store → Outside → Run Store (Turn Done)) →
      ((st : Store) (w : Outside) → GivesSuch (IsDoneOf k) (h st w)) →
      ((st : Store) (w : Outside) → GivesSuch (IsTurnOf (IsDoneOf k)) (f st w)) → (st : Store) (w : Outside) →
      GivesSuch (IsTurnOf (IsDoneOf k)) (behind_body h f st w)
  behind_body-such h f p g st w =
      such-then (IsDoneOf k) (IsTurnOf (IsDoneOf k)) (h st w) (λ st w d. after_body d f st w) (p st w) (λ st w d q. after_body-such d f st w q (g st w))

  again-such : (st : Store) (w : Outside) → GivesSuch (IsTurnOf (IsDoneOf k)) (again st w)
  again-such st w = tt

  in_block-such : (b : Objects) (f : Environment → Store → Outside → Run Store Done) →
      ((env : Environment) (st : Store) (w : Outside) → GivesSuch (IsDoneOf k) (f env st w)) → (env : Environment) (st : Store) (w : Outside) →
      GivesSuch (IsDoneOf k) (in_block b f env st w)
  in_block-such b f h env st w =
      such-then (IsDoneOf k) (IsDoneOf k) (f (with_objects env (length st) (length b.list)) (with_new_objects b.list st) w) (λ inner w d. Gives (end_regions inner (length st) (length b.list)) w d) (h (with_objects env (length st) (length b.list)) (with_new_objects b.list st) w) (λ inner w d q. q)

  switch_body-such : (b : Objects) (f : Environment → Store → Outside → Run Store Done) →
      ((env : Environment) (st : Store) (w : Outside) → GivesSuch (IsDoneOf k) (f env st w)) → (env : Environment) (st : Store) (w : Outside) →
      GivesSuch (IsDoneOf k) (switch_body b f env st w)
  switch_body-such b f h env st w =
      such-then (IsDoneOf k) (IsDoneOf k) (in_block b f env st w) (λ st w d. Gives st w (after_switch d)) (in_block-such b f h env st w) (λ st w d q. after_switch-such d q)

  next_iteration-such : (o : Option TExpr) (env : Environment) (st : Store) (w : Outside) →
      GivesSuch (IsTurnOf (IsDoneOf k)) (next_iteration call o env st w)
  next_iteration-such o env st w =
      such-then (λ d. Unit {0}) (IsTurnOf (IsDoneOf k)) (evaluated_if_any call o env st w) (λ st w d. again st w) (such-any (evaluated_if_any call o env st w)) (λ st w d h. tt)

-- ---- statements

module _ (call : Calls) where
  return-such : (c : Names) → CallsGiveResults c.functions call → (k : Option Scalar) (o : Option TExpr) → IsReturnOf c k o →
      (env : Environment) (st : Store) (w : Outside) → GivesSuch (IsDoneOf k) (statement call (s.Return o) env st w)
  return-such c cs None None h env st w = tt
  return-such c cs None (Some e) h env st w = absurd h
  return-such c cs (Some k) None h env st w = absurd h
  return-such c cs (Some k) (Some e) h env st w =
      such-then (IsValueOf (Holds k)) (IsDoneOf (Some k)) (value call e env st w) (λ st w v. Gives st w (Returns (Some v))) (value-kind c call cs e (Holds k) h env st w) (λ st w v q. q)

  mutual
    pub statement-kind : (a : TStmt) (c : Names) (j : Jumps) (m : ℕ) → CallsGiveResults c.functions call → IsStatement c j m a →
        (env : Environment) (st : Store) (w : Outside) → GivesSuch (IsDoneOf j.result) (statement call a env st w)
    statement-kind (s.Evaluate e) c j m cs h env st w =
        such-then (λ v. Unit {0}) (IsDoneOf j.result) (value call e env st w) (λ st w v. Gives st w Normal) (such-any (value call e env st w)) (λ st w v q. tt)
    statement-kind (s.Initialise i v) c j m cs h env st w =
        such-given (IsDoneOf j.result) (slice_get env.objects i) (λ r. initialised call v r env st w) (λ r e. initialised-such call j.result v r env st w)
    statement-kind (s.Block' b n all) c j m cs h env st w =
        in_block-such call j.result b (statements call all) (λ env st w. statements-kind all (with_declared c b.list) j (m + length b.list) cs h.1 env st w) env st w
    statement-kind (s.If' n branches p (more_of-TStmt last end_of-TStmt)) c j m cs h env st w =
        first_holding-kind branches c j m cs h.0 (statement call last env) (λ st w. statement-kind last c j (m + declared_in_branches branches) cs h.1 env st w) env st w
    statement-kind (s.While' e p (more_of-TStmt a end_of-TStmt)) c j m cs h env st w =
        such-loop (IsDoneOf j.result) (where_holds (holds call e env) (behind_body (statement call a env) again)) (where_holds-such call j.result (holds call e env) (behind_body (statement call a env) again) (behind_body-such call j.result (statement call a env) again (λ st w. statement-kind a c (in_loop j) m cs h.1 env st w) (again-such call j.result))) st w
    statement-kind (s.Do' p (more_of-TStmt a end_of-TStmt) e) c j m cs h env st w =
        such-loop (IsDoneOf j.result) (behind_body (statement call a env) (where_holds (holds call e env) again)) (behind_body-such call j.result (statement call a env) (where_holds (holds call e env) again) (λ st w. statement-kind a c (in_loop j) m cs h.0 env st w) (where_holds-such call j.result (holds call e env) again (again-such call j.result))) st w
    statement-kind (s.For' o e p (more_of-TStmt a end_of-TStmt)) c j m cs h env st w =
        such-loop (IsDoneOf j.result) (where_holds (holds_if_any call o env) (behind_body (statement call a env) (next_iteration call e env))) (where_holds-such call j.result (holds_if_any call o env) (behind_body (statement call a env) (next_iteration call e env)) (behind_body-such call j.result (statement call a env) (next_iteration call e env) (λ st w. statement-kind a c (in_loop j) m cs h.2 env st w) (next_iteration-such call j.result e env))) st w
    statement-kind (s.Switch' e b n parts) c j m cs h env st w =
        such-then (λ v. Unit {0}) (IsDoneOf j.result) (value call e env st w) (λ st w v. given (number_of v) (λ i. switch_body b (statements_from call parts (first_part i parts)) env st w)) (such-any (value call e env st w)) (λ st w v q. such-given (IsDoneOf j.result) (number_of v) (λ i. switch_body b (statements_from call parts (first_part i parts)) env st w) (λ i q. switch_body-such call j.result b (statements_from call parts (first_part i parts)) (λ env st w. statements_from-kind parts (first_part i parts) (with_declared c b.list) (in_switch j) (m + length b.list) cs h.4 env st w) env st w))
    statement-kind s.Break c j m cs h env st w = tt
    statement-kind s.Continue c j m cs h env st w = tt
    statement-kind (s.Return o) c j m cs h env st w = return-such c cs j.result o h env st w

    statements-kind : {n : _} (all : Row_of-TStmt n) (c : Names) (j : Jumps) (m : ℕ) → CallsGiveResults c.functions call →
        AreStatements c j m all → (env : Environment) (st : Store) (w : Outside) →
        GivesSuch (IsDoneOf j.result) (statements call all env st w)
    statements-kind end_of-TStmt c j m cs h env st w = tt
    statements-kind (more_of-TStmt a rest) c j m cs h env st w =
        such-then (IsDoneOf j.result) (IsDoneOf j.result) (statement call a env st w) (λ st w d. next d (statements call rest env) st w) (statement-kind a c j m cs h.0 env st w) (λ st w d q. next-such call j.result d (statements call rest env) st w q (statements-kind rest c j (m + declared_in a) cs h.1 env st w))

    first_holding-kind : {n : _} (branches : Row_of-Branch n) (c : Names) (j : Jumps) (m : ℕ) → CallsGiveResults c.functions call →
        AreBranches c j m branches → (last : Store → Outside → Run Store Done) →
        ((st : Store) (w : Outside) → GivesSuch (IsDoneOf j.result) (last st w)) → (env : Environment) (st : Store) (w : Outside) →
        GivesSuch (IsDoneOf j.result) (first_holding call branches last env st w)
    first_holding-kind end_of-Branch c j m cs h last l env st w = l st w
    first_holding-kind (more_of-Branch e a rest) c j m cs h last l env st w =
        such-then (λ b. Unit {0}) (IsDoneOf j.result) (holds call e env st w) (λ st w b. branch b (statement call a env) (first_holding call rest last env) st w) (such-any (holds call e env st w)) (λ st w b q. such-branch (IsDoneOf j.result) b (statement call a env) (first_holding call rest last env) st w (statement-kind a c j m cs h.1 env st w) (first_holding-kind rest c j (m + declared_in a) cs h.2 last l env st w))

    statements_from-kind : {n : _} (parts : Row_of-Part n) (i : ℕ) (c : Names) (j : Jumps) (m : ℕ) → CallsGiveResults c.functions call →
        AreParts c j m parts → (env : Environment) (st : Store) (w : Outside) →
        GivesSuch (IsDoneOf j.result) (statements_from call parts i env st w)
    statements_from-kind end_of-Part i c j m cs h env st w = tt
    statements_from-kind (more_of-Part labels q body rest) zero c j m cs h env st w =
        such-then (IsDoneOf j.result) (IsDoneOf j.result) (statements call body env st w) (λ st w d. next d (statements_from call rest zero env) st w) (statements-kind body c j m cs h.0 env st w) (λ st w d q. next-such call j.result d (statements_from call rest zero env) st w q (statements_from-kind rest zero c j (m + declared_in_all body) cs h.1 env st w))
    statements_from-kind (more_of-Part labels q body rest) (suc i) c j m cs h env st w =
        statements_from-kind rest i c j (m + declared_in_all body) cs h.1 env st w

-- ---- functions

-- where the closing brace of main is reached, its value is an int
abbrev pub IsIntIf : Bool → Option Scalar → Type 0
IsIntIf true k = k ≡ Some (scalar.Integer width.Word)
IsIntIf false k = Unit {0}

brace-such : (is_main : Bool) (k : Option Scalar) → IsIntIf is_main k → IsResultOf k (at_closing_brace is_main)
brace-such true k h = subst (λ k. IsResultOf k (Some (Number 0))) (sym h) (0, refl, omega arith)
brace-such false k h = tt

body-such : (is_main : Bool) (k : Option Scalar) (d : Done) → IsIntIf is_main k → IsDoneOf k d →
    IsResultOf k (value_of_body is_main d)
body-such is_main k Normal m h = brace-such is_main k m
body-such is_main k Breaks m h = brace-such is_main k m
body-such is_main k Continues m h = brace-such is_main k m
body-such is_main k (Returns o) m h = h

slice_get-map : {A B : Type 0} (f : A → B) (xs : List A) (i : ℕ) → slice_get (map f xs) i ≡ option_map f (slice_get xs i)
slice_get-map f [] i = refl
slice_get-map f (x ∷ xs) zero = refl
slice_get-map f (x ∷ xs) (suc i) = slice_get-map f xs i

main-int : (u : Typed) → IsUnit u → (i : ℕ) (f : TFunction) → slice_get u.functions i ≡ Some f → IsIntIf (i == u.main) f.scalar
main-int u h i f e = ⊎_elim (λ y. subst (λ b. IsIntIf b f.scalar) (sym y.0) (int (subst (λ m. IsMain (slice_get u.functions m)) (sym y.1) h.main))) (λ n. subst (λ b. IsIntIf b f.scalar) (sym n.0) tt) (eqb_tells i u.main)
  where
    int : IsMain (slice_get u.functions i) → f.scalar ≡ Some (scalar.Integer width.Word)
    int m = (subst IsMain e m).1

module _ (u : Typed) (whole : IsUnit u) where
  function_run-kind : (call : Calls) → CallsGiveResults (map signature_of u.functions) call → (i : Invocation) (w : Outside) →
      GivesSuch (IsResultIn (slice_get (map signature_of u.functions) i.function)) (function_run u call i w)
  function_run-kind call cs i w =
      subst (λ o. GivesSuch (IsResultIn o) (function_run u call i w)) (sym (slice_get-map signature_of u.functions i.function)) (go (slice_get u.functions i.function) refl)
    where
      body : (f : TFunction) → slice_get u.functions i.function ≡ Some f → (st : Store) →
          GivesSuch (IsResultOf f.scalar) (body_run call (length u.objects) f (i.function == u.main) (length i.store) st w)
      body f e st =
          such-then (IsDoneOf f.scalar) (IsResultOf f.scalar) (statement call f.body (with_objects (record { statics = length u.objects; objects = [] }) (length i.store) (length f.parameters)) st w) (λ st w d. Gives (end_regions st (length i.store) (length f.parameters)) w (value_of_body (i.function == u.main) d)) (statement-kind call f.body (names_in u f) (record { breaks = false; continues = false; result = f.scalar }) (length f.parameters) cs (whole.functions i.function f e).1 (with_objects (record { statics = length u.objects; objects = [] }) (length i.store) (length f.parameters)) st w) (λ st w d q. body-such (i.function == u.main) f.scalar d (main-int u whole i.function f e) q)

      go : (o : Option TFunction) → slice_get u.functions i.function ≡ o →
          GivesSuch (IsResultIn (option_map signature_of o)) (given o (λ f. given (with_arguments f.parameters i.arguments i.store) (λ st. body_run call (length u.objects) f (i.function == u.main) (length i.store) st w)))
      go None e = tt
      go (Some f) e =
          such-given (IsResultOf f.scalar) (with_arguments f.parameters i.arguments i.store) (λ st. body_run call (length u.objects) f (i.function == u.main) (length i.store) st w) (λ st q. body f e st)

  pub calls-kind : (depth : ℕ) → CallsGiveResults (map signature_of u.functions) (calls u depth)
  calls-kind zero i w = tt
  calls-kind (suc depth) i w = function_run-kind (calls u depth) (calls-kind depth) i w
