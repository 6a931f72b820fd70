-- Where calls are related by a congruence, so are the runs of expressions, statements and functions with these calls in them.
-- No contract cites this file: it holds proofs.
use Rattle.std.proofs.Common.{ℕ, zero, suc, List, [], ◌∷◌, length}
use Rattle.std.specs.Prelude.{◌%◌, ◌==◌, map, Bool, true, Option, Some, None, slice_get}
use Rattle.word_ops.specs.Store.{Value, Number, Pointer, Byte, Store, end_regions, refill_region, number_of}
use Rattle.word_ops.specs.Access.{put_cells, initialise}
use Rattle.word_ops.specs.Values.{truth}
use Rattle.word_ops.specs.Run.{Outside, Run, Gives, then_do, given, branch, Turn, Again, Over, put_byte, exit_with}
use Rattle.c_tree.specs.declared.typed.expression.TExpr.{TExpr, Row_of-TExpr, end_of-TExpr, more_of-TExpr, Row_of-Step, end_of-Step, more_of-Step, Row_of-Arm, end_of-Arm, more_of-Arm, Row_of-Target, end_of-Target, more_of-Target}
use Rattle.c_tree.specs.declared.typed.expression.TExpr.TheVariants as x
use Rattle.c_tree.specs.declared.typed.expression.Step.TheVariants as step
use Rattle.c_tree.specs.declared.typed.expression.Target.TheVariants as target
use Rattle.c_tree.specs.declared.typed.statement.TStmt.{TStmt, Row_of-TStmt, end_of-TStmt, more_of-TStmt, Row_of-Branch, end_of-Branch, more_of-Branch, Row_of-Part, end_of-Part, more_of-Part}
use Rattle.c_tree.specs.declared.typed.statement.TStmt.TheVariants as s
use Rattle.c_tree.specs.declared.typed.statement.Objects.{Objects}
use Rattle.c_tree.specs.declared.typed.statement.Initial.{Initial}
use Rattle.c_tree.specs.declared.typed.statement.Initial.TheVariants as initial
use Rattle.c_tree.specs.declared.typed.statement.Initialiser.{Initialiser}
use Rattle.c_tree.specs.declared.typed.statement.Initialiser.TheVariants as initialiser
use Rattle.c_tree.specs.declared.typed.unit.TFunction.{TFunction}
use Rattle.c_tree.specs.declared.typed.unit.Typed.{Typed}
use Rattle.c_tree.specs.TypedKinds.{width_of}
use Rattle.c_meaning.specs.Environment.{Environment, automatic_place, with_objects}
use Rattle.c_meaning.specs.Operators.{Changed, arithmetic_value, assigned, primary_value, unary_value}
use Rattle.c_meaning.specs.Expressions.{Invocation, Calls, gives_changed, put_value, exit_value, called, called_only, by_truth, gives_number, value, stepped, values, every, some, chosen, assigning}
use Rattle.c_meaning.specs.Statements.{Done, Normal, Breaks, Continues, Returns, with_new_objects, in_block, piece_set, pieces_set, initialised, holds, holds_if_any, evaluated_if_any, next, after_body, again, loop_left, where_holds, behind_body, next_iteration, first_part, after_switch, switch_body, statement, statements, first_holding, statements_from}
use Rattle.c_meaning.specs.Units.{with_arguments, value_of_body, body_run, function_run}
use Rattle.c_meaning.specs.Laws.Congruence.{Relation, IsCongruence, related-given, related-branch}

module _ (R : Relation) (c : IsCongruence R) where
  by_truth-related :
      (A : Type 0) (v : Value) (f g h k : Store → Outside → Run Store A) (st : Store) → R Store A (f st) (h st) → R Store A (g st) (k st) → R Store A (by_truth v f g st) (by_truth v h k st)
  by_truth-related A v f g h k st p q =
      related-given R c Store Bool A (truth st v) (λ b w. branch b f g st w) (λ b w. branch b h k st w) (λ b. related-branch R c Store A b f g h k st p q)

  changed-related : (o : Option Changed) → R Store Value (λ w. given o (gives_changed w)) (λ w. given o (gives_changed w))
  changed-related o =
      related-given R c Store Changed Value o (λ h w. gives_changed w h) (λ h w. gives_changed w h) (λ h. c.gives Store Value h.store h.value)

  put-related : (v : Value) (st : Store) → R Store Value (put_value v st) (put_value v st)
  put-related v st =
      related-given R c Store ℕ Value (number_of v) (λ n w. put_byte n w (λ w. Gives st w (Number (n % 256)))) (λ n w. put_byte n w (λ w. Gives st w (Number (n % 256)))) (λ n. c.puts Store Value n (λ w. Gives st w (Number (n % 256))) (λ w. Gives st w (Number (n % 256))) (c.gives Store Value st (Number (n % 256))))

  exit-related : (v : Value) (st : Store) → R Store Value (exit_value v st) (exit_value v st)
  exit-related v st =
      related-given R c Store ℕ Value (number_of v) (λ n w. exit_with n w) (λ n w. exit_with n w) (λ n. c.exit Store Value n)

  module _ (call other : Calls) (calls_related : (i : Invocation) → R Store (Option Value) (call i) (other i)) where
    called-related : (f : ℕ) (vs : List Value) (st : Store) → R Store Value (called call f vs st) (called other f vs st)
    called-related f vs st =
        c.ticks Store Value (λ w. then_do (call (record { function = f; arguments = vs; store = st }) w) (λ st w o. given o (λ v. Gives st w v))) (λ w. then_do (other (record { function = f; arguments = vs; store = st }) w) (λ st w o. given o (λ v. Gives st w v)))
        (c.then_ Store Store (Option Value) Value (call (record { function = f; arguments = vs; store = st })) (other (record { function = f; arguments = vs; store = st })) (λ st w o. given o (λ v. Gives st w v)) (λ st w o. given o (λ v. Gives st w v)) (calls_related (record { function = f; arguments = vs; store = st })) (λ st o. related-given R c Store Value Value o (λ v w. Gives st w v) (λ v w. Gives st w v) (λ v. c.gives Store Value st v)))

    called_only-related : (f : ℕ) (vs : List Value) (st : Store) → R Store Value (called_only call f vs st) (called_only other f vs st)
    called_only-related f vs st =
        c.ticks Store Value (λ w. then_do (call (record { function = f; arguments = vs; store = st }) w) (λ st w o. Gives st w (Number 0))) (λ w. then_do (other (record { function = f; arguments = vs; store = st }) w) (λ st w o. Gives st w (Number 0)))
        (c.then_ Store Store (Option Value) Value (call (record { function = f; arguments = vs; store = st })) (other (record { function = f; arguments = vs; store = st })) (λ st w o. Gives st w (Number 0)) (λ st w o. Gives st w (Number 0)) (calls_related (record { function = f; arguments = vs; store = st })) (λ st o. c.gives Store Value st (Number 0)))

    mutual
      pub value-related : (a : TExpr) (env : Environment) (st : Store) → R Store Value (value call a env st) (value other a env st)
      value-related (x.Primary t p) env st = changed-related (primary_value env st p)
      value-related (x.Applied' t p (more_of-TExpr a end_of-TExpr) n steps) env st =
          c.then_ Store Store Value Value (value call a env st) (value other a env st) (λ st w v. stepped call steps v env st w) (λ st w v. stepped other steps v env st w) (value-related a env st) (λ st v. stepped-related steps v env st)
      value-related (x.All' t n all) env st = every-related all env st
      value-related (x.Any' t n all) env st = some-related all env st
      value-related (x.Choose' t n arms p (more_of-TExpr a end_of-TExpr)) env st =
          chosen-related arms (value call a env) (value other a env) env (λ st. value-related a env st) st
      value-related (x.Comma' t n all p (more_of-TExpr a end_of-TExpr)) env st =
          c.then_ Store Store (List Value) Value (values call all env st) (values other all env st) (λ st w vs. value call a env st w) (λ st w vs. value other a env st w) (values-related all env st) (λ st vs. value-related a env st)
      value-related (x.Assign' t n targets p (more_of-TExpr a end_of-TExpr)) env st =
          assigning-related targets (value call a env) (value other a env) env (λ st. value-related a env st) st
      value-related (x.Call' t f n all) env st =
          c.then_ Store Store (List Value) Value (values call all env st) (values other all env st) (λ st w vs. called call f vs st w) (λ st w vs. called other f vs st w) (values-related all env st) (λ st vs. called-related f vs st)
      value-related (x.DroppedCall' t f n all) env st =
          c.then_ Store Store (List Value) Value (values call all env st) (values other all env st) (λ st w vs. called_only call f vs st w) (λ st w vs. called_only other f vs st w) (values-related all env st) (λ st vs. called_only-related f vs st)
      value-related (x.GetChar t) env st =
          c.gets Store Value (λ b w. Gives st w (Number b)) (λ b w. Gives st w (Number b)) (λ b. c.gives Store Value st (Number b))
      value-related (x.PutChar' t p (more_of-TExpr a end_of-TExpr)) env st =
          c.then_ Store Store Value Value (value call a env st) (value other a env st) (λ st w v. put_value v st w) (λ st w v. put_value v st w) (value-related a env st) (λ st v. put-related v st)
      value-related (x.Exit' t p (more_of-TExpr a end_of-TExpr)) env st =
          c.then_ Store Store Value Value (value call a env st) (value other a env st) (λ st w v. exit_value v st w) (λ st w v. exit_value v st w) (value-related a env st) (λ st v. exit-related v st)

      stepped-related : {n : _} (steps : Row_of-Step n) (v : Value) (env : Environment) (st : Store) →
          R Store Value (stepped call steps v env st) (stepped other steps v env st)
      stepped-related end_of-Step v env st = c.gives Store Value st v
      stepped-related (more_of-Step (step.Unary u) rest) v env st =
          related-given R c Store Changed Value (unary_value st u v) (λ h w. stepped call rest h.value env h.store w) (λ h w. stepped other rest h.value env h.store w) (λ h. stepped-related rest h.value env h.store)
      stepped-related (more_of-Step (step.Binary o b) rest) v env st =
          c.then_ Store Store Value Value (value call b env st) (value other b env st) (λ st w y. given (arithmetic_value st o v y) (λ v. stepped call rest v env st w)) (λ st w y. given (arithmetic_value st o v y) (λ v. stepped other rest v env st w)) (value-related b env st) (λ st y. related-given R c Store Value Value (arithmetic_value st o v y) (λ v w. stepped call rest v env st w) (λ v w. stepped other rest v env st w) (λ v. stepped-related rest v env st))

      pub values-related : {n : _} (all : Row_of-TExpr n) (env : Environment) (st : Store) →
          R Store (List Value) (values call all env st) (values other all env st)
      values-related end_of-TExpr env st = c.gives Store (List Value) st []
      values-related (more_of-TExpr a rest) env st =
          c.then_ Store Store Value (List Value) (value call a env st) (value other a env st) (λ st w v. then_do (values call rest env st w) (λ st w vs. Gives st w (v ∷ vs))) (λ st w v. then_do (values other rest env st w) (λ st w vs. Gives st w (v ∷ vs))) (value-related a env st) (λ st v. c.then_ Store Store (List Value) (List Value) (values call rest env st) (values other rest env st) (λ st w vs. Gives st w (v ∷ vs)) (λ st w vs. Gives st w (v ∷ vs)) (values-related rest env st) (λ st vs. c.gives Store (List Value) st (v ∷ vs)))

      every-related : {n : _} (all : Row_of-TExpr n) (env : Environment) (st : Store) →
          R Store Value (every call all env st) (every other all env st)
      every-related end_of-TExpr env st = c.gives Store Value st (Number 1)
      every-related (more_of-TExpr a rest) env st =
          c.then_ Store Store Value Value (value call a env st) (value other a env st) (λ st w v. by_truth v (every call rest env) (gives_number 0) st w) (λ st w v. by_truth v (every other rest env) (gives_number 0) st w) (value-related a env st) (λ st v. by_truth-related Value v (every call rest env) (gives_number 0) (every other rest env) (gives_number 0) st (every-related rest env st) (c.gives Store Value st (Number 0)))

      some-related : {n : _} (all : Row_of-TExpr n) (env : Environment) (st : Store) →
          R Store Value (some call all env st) (some other all env st)
      some-related end_of-TExpr env st = c.gives Store Value st (Number 0)
      some-related (more_of-TExpr a rest) env st =
          c.then_ Store Store Value Value (value call a env st) (value other a env st) (λ st w v. by_truth v (gives_number 1) (some call rest env) st w) (λ st w v. by_truth v (gives_number 1) (some other rest env) st w) (value-related a env st) (λ st v. by_truth-related Value v (gives_number 1) (some call rest env) (gives_number 1) (some other rest env) st (c.gives Store Value st (Number 1)) (some-related rest env st))

      chosen-related : {n : _} (arms : Row_of-Arm n) (last again : Store → Outside → Run Store Value) (env : Environment) →
          ((st : Store) → R Store Value (last st) (again st)) → (st : Store) →
          R Store Value (chosen call arms last env st) (chosen other arms again env st)
      chosen-related end_of-Arm last again env h st = h st
      chosen-related (more_of-Arm a b rest) last again env h st =
          c.then_ Store Store Value Value (value call a env st) (value other a env st) (λ st w v. by_truth v (value call b env) (chosen call rest last env) st w) (λ st w v. by_truth v (value other b env) (chosen other rest again env) st w) (value-related a env st) (λ st v. by_truth-related Value v (value call b env) (chosen call rest last env) (value other b env) (chosen other rest again env) st (value-related b env st) (chosen-related rest last again env h st))

      assigning-related : {n : _} (targets : Row_of-Target n) (last again : Store → Outside → Run Store Value) (env : Environment) →
          ((st : Store) → R Store Value (last st) (again st)) → (st : Store) →
          R Store Value (assigning call targets last env st) (assigning other targets again env st)
      assigning-related end_of-Target last again env h st = h st
      assigning-related (more_of-Target (target.Variable i ch) rest) last again env h st =
          related-given R c Store Value Value (automatic_place env i) (λ p w. then_do (assigning call rest last env st w) (λ st w v. given (assigned st ch p v) (gives_changed w))) (λ p w. then_do (assigning other rest again env st w) (λ st w v. given (assigned st ch p v) (gives_changed w))) (λ p. c.then_ Store Store Value Value (assigning call rest last env st) (assigning other rest again env st) (λ st w v. given (assigned st ch p v) (gives_changed w)) (λ st w v. given (assigned st ch p v) (gives_changed w)) (assigning-related rest last again env h st) (λ st v. changed-related (assigned st ch p v)))
      assigning-related (more_of-Target (target.Place a ch) rest) last again env h st =
          c.then_ Store Store Value Value (value call a env st) (value other a env st) (λ st w p. then_do (assigning call rest last env st w) (λ st w v. given (assigned st ch p v) (gives_changed w))) (λ st w p. then_do (assigning other rest again env st w) (λ st w v. given (assigned st ch p v) (gives_changed w))) (value-related a env st) (λ st p. c.then_ Store Store Value Value (assigning call rest last env st) (assigning other rest again env st) (λ st w v. given (assigned st ch p v) (gives_changed w)) (λ st w v. given (assigned st ch p v) (gives_changed w)) (assigning-related rest last again env h st) (λ st v. changed-related (assigned st ch p v)))

    piece_set-related : (i : Initial) (r : ℕ) (env : Environment) (st : Store) →
        R Store Done (piece_set call i r env st) (piece_set other i r env st)
    piece_set-related (initial.Value n k e) r env st =
        c.then_ Store Store Value Done (value call e env st) (value other e env st) (λ st w v. given (initialise st (width_of k) (Pointer r n) v) (λ st. Gives st w Normal)) (λ st w v. given (initialise st (width_of k) (Pointer r n) v) (λ st. Gives st w Normal)) (value-related e env st) (λ st v. related-given R c Store Store Done (initialise st (width_of k) (Pointer r n) v) (λ st w. Gives st w Normal) (λ st w. Gives st w Normal) (λ st. c.gives Store Done st Normal))
    piece_set-related (initial.Bytes n bytes) r env st =
        related-given R c Store Store Done (put_cells st (Pointer r n) 1 (map Byte bytes)) (λ st w. Gives st w Normal) (λ st w. Gives st w Normal) (λ st. c.gives Store Done st Normal)

    pieces_set-related : (is : List Initial) (r : ℕ) (env : Environment) (st : Store) →
        R Store Done (pieces_set call is r env st) (pieces_set other is r env st)
    pieces_set-related [] r env st = c.gives Store Done st Normal
    pieces_set-related (i ∷ is) r env st =
        c.then_ Store Store Done Done (piece_set call i r env st) (piece_set other i r env st) (λ st w d. pieces_set call is r env st w) (λ st w d. pieces_set other is r env st w) (piece_set-related i r env st) (λ st d. pieces_set-related is r env st)

    initialised-related : (i : Initialiser) (r : ℕ) (env : Environment) (st : Store) →
        R Store Done (initialised call i r env st) (initialised other i r env st)
    initialised-related (initialiser.Scalar k e) r env st = piece_set-related (initial.Value 0 k e) r env st
    initialised-related (initialiser.Aggregate is) r env st = pieces_set-related is r env (refill_region st r (Byte 0))

    holds-related : (e : TExpr) (env : Environment) (st : Store) → R Store Bool (holds call e env st) (holds other e env st)
    holds-related e env st =
        c.then_ Store Store Value Bool (value call e env st) (value other e env st) (λ st w v. given (truth st v) (λ b. Gives st w b)) (λ st w v. given (truth st v) (λ b. Gives st w b)) (value-related e env st) (λ st v. related-given R c Store Bool Bool (truth st v) (λ b w. Gives st w b) (λ b w. Gives st w b) (λ b. c.gives Store Bool st b))

    holds_if_any-related : (o : Option TExpr) (env : Environment) (st : Store) →
        R Store Bool (holds_if_any call o env st) (holds_if_any other o env st)
    holds_if_any-related None env st = c.gives Store Bool st true
    holds_if_any-related (Some e) env st = holds-related e env st

    dropped-related : (e : TExpr) (env : Environment) (st : Store) →
        R Store Done (λ w. then_do (value call e env st w) (λ st w v. Gives st w Normal)) (λ w. then_do (value other e env st w) (λ st w v. Gives st w Normal))
    dropped-related e env st =
        c.then_ Store Store Value Done (value call e env st) (value other e env st) (λ st w v. Gives st w Normal) (λ st w v. Gives st w Normal) (value-related e env st) (λ st v. c.gives Store Done st Normal)

    evaluated-related : (o : Option TExpr) (env : Environment) (st : Store) →
        R Store Done (evaluated_if_any call o env st) (evaluated_if_any other o env st)
    evaluated-related None env st = c.gives Store Done st Normal
    evaluated-related (Some e) env st = dropped-related e env st

    next-related : (d : Done) (f g : Store → Outside → Run Store Done) (st : Store) → R Store Done (f st) (g st) →
        R Store Done (next d f st) (next d g st)
    next-related Normal f g st h = h
    next-related Breaks f g st h = c.gives Store Done st Breaks
    next-related Continues f g st h = c.gives Store Done st Continues
    next-related (Returns v) f g st h = c.gives Store Done st (Returns v)

    after_body-related : (d : Done) (f g : Store → Outside → Run Store (Turn Done)) (st : Store) →
        R Store (Turn Done) (f st) (g st) → R Store (Turn Done) (after_body d f st) (after_body d g st)
    after_body-related Normal f g st h = h
    after_body-related Continues f g st h = h
    after_body-related Breaks f g st h = c.gives Store (Turn Done) st (Over Normal)
    after_body-related (Returns v) f g st h = c.gives Store (Turn Done) st (Over (Returns v))

    again-related : (st : Store) → R Store (Turn Done) (again st) (again st)
    again-related st = c.gives Store (Turn Done) st Again

    where_holds-related :
        (h k : Store → Outside → Run Store Bool) (f g : Store → Outside → Run Store (Turn Done)) → ((st : Store) → R Store Bool (h st) (k st)) → ((st : Store) → R Store (Turn Done) (f st) (g st)) → (st : Store) → R Store (Turn Done) (where_holds h f st) (where_holds k g st)
    where_holds-related h k f g p q st =
        c.then_ Store Store Bool (Turn Done) (h st) (k st) (λ st w b. branch b f loop_left st w) (λ st w b. branch b g loop_left st w) (p st) (λ st b. related-branch R c Store (Turn Done) b f loop_left g loop_left st (q st) (c.gives Store (Turn Done) st (Over Normal)))

    behind_body-related :
        (h k : Store → Outside → Run Store Done) (f g : Store → Outside → Run Store (Turn Done)) → ((st : Store) → R Store Done (h st) (k st)) → ((st : Store) → R Store (Turn Done) (f st) (g st)) → (st : Store) → R Store (Turn Done) (behind_body h f st) (behind_body k g st)
    behind_body-related h k f g p q st =
        c.then_ Store Store Done (Turn Done) (h st) (k st) (λ st w d. after_body d f st w) (λ st w d. after_body d g st w) (p st) (λ st d. after_body-related d f g st (q st))

    next_iteration-related : (e : Option TExpr) (env : Environment) (st : Store) →
        R Store (Turn Done) (next_iteration call e env st) (next_iteration other e env st)
    next_iteration-related e env st =
        c.then_ Store Store Done (Turn Done) (evaluated_if_any call e env st) (evaluated_if_any other e env st) (λ st w d. again st w) (λ st w d. again st w) (evaluated-related e env st) (λ st d. again-related st)

    in_block-related :
        (b : Objects) (f g : Environment → Store → Outside → Run Store Done) → ((env : Environment) (st : Store) → R Store Done (f env st) (g env st)) → (env : Environment) (st : Store) → R Store Done (in_block b f env st) (in_block b g env st)
    in_block-related b f g h env st =
        c.then_ Store Store Done Done (f (with_objects env (length st) (length b.list)) (with_new_objects b.list st)) (g (with_objects env (length st) (length b.list)) (with_new_objects b.list st)) (λ inner w d. Gives (end_regions inner (length st) (length b.list)) w d) (λ inner w d. Gives (end_regions inner (length st) (length b.list)) w d) (h (with_objects env (length st) (length b.list)) (with_new_objects b.list st)) (λ inner d. c.gives Store Done (end_regions inner (length st) (length b.list)) d)

    switch_body-related :
        (b : Objects) (f g : Environment → Store → Outside → Run Store Done) → ((env : Environment) (st : Store) → R Store Done (f env st) (g env st)) → (env : Environment) (st : Store) → R Store Done (switch_body b f env st) (switch_body b g env st)
    switch_body-related b f g h env st =
        c.then_ Store Store Done Done (in_block b f env st) (in_block b g env st) (λ st w d. Gives st w (after_switch d)) (λ st w d. Gives st w (after_switch d)) (in_block-related b f g h env st) (λ st d. c.gives Store Done st (after_switch d))

    mutual
      pub statement-related : (a : TStmt) (env : Environment) (st : Store) →
          R Store Done (statement call a env st) (statement other a env st)
      statement-related (s.Evaluate e) env st = dropped-related e env st
      statement-related (s.Initialise i v) env st =
          related-given R c Store ℕ Done (slice_get env.objects i) (λ r w. initialised call v r env st w) (λ r w. initialised other v r env st w) (λ r. initialised-related v r env st)
      statement-related (s.Block' b n all) env st =
          in_block-related b (statements call all) (statements other all) (λ env st. statements-related all env st) env st
      statement-related (s.If' n branches p (more_of-TStmt last end_of-TStmt)) env st =
          first_holding-related branches (statement call last env) (statement other last env) env (λ st. statement-related last env st) st
      statement-related (s.While' e p (more_of-TStmt a end_of-TStmt)) env st =
          c.loops Store Done (where_holds (holds call e env) (behind_body (statement call a env) again)) (where_holds (holds other e env) (behind_body (statement other a env) again)) (where_holds-related (holds call e env) (holds other e env) (behind_body (statement call a env) again) (behind_body (statement other a env) again) (holds-related e env) (behind_body-related (statement call a env) (statement other a env) again again (λ st. statement-related a env st) again-related)) st
      statement-related (s.Do' p (more_of-TStmt a end_of-TStmt) e) env st =
          c.loops Store Done (behind_body (statement call a env) (where_holds (holds call e env) again)) (behind_body (statement other a env) (where_holds (holds other e env) again)) (behind_body-related (statement call a env) (statement other a env) (where_holds (holds call e env) again) (where_holds (holds other e env) again) (λ st. statement-related a env st) (where_holds-related (holds call e env) (holds other e env) again again (holds-related e env) again-related)) st
      statement-related (s.For' o e p (more_of-TStmt a end_of-TStmt)) env st =
          c.loops Store Done (where_holds (holds_if_any call o env) (behind_body (statement call a env) (next_iteration call e env))) (where_holds (holds_if_any other o env) (behind_body (statement other a env) (next_iteration other e env))) (where_holds-related (holds_if_any call o env) (holds_if_any other o env) (behind_body (statement call a env) (next_iteration call e env)) (behind_body (statement other a env) (next_iteration other e env)) (holds_if_any-related o env) (behind_body-related (statement call a env) (statement other a env) (next_iteration call e env) (next_iteration other e env) (λ st. statement-related a env st) (next_iteration-related e env))) st
      statement-related (s.Switch' e b n parts) env st =
          c.then_ Store Store Value Done (value call e env st) (value other e env st) (λ st w v. given (number_of v) (λ k. switch_body b (statements_from call parts (first_part k parts)) env st w)) (λ st w v. given (number_of v) (λ k. switch_body b (statements_from other parts (first_part k parts)) env st w)) (value-related e env st) (λ st v. related-given R c Store ℕ Done (number_of v) (λ k w. switch_body b (statements_from call parts (first_part k parts)) env st w) (λ k w. switch_body b (statements_from other parts (first_part k parts)) env st w) (λ k. switch_body-related b (statements_from call parts (first_part k parts)) (statements_from other parts (first_part k parts)) (λ env st. statements_from-related parts (first_part k parts) env st) env st))
      statement-related s.Break env st = c.gives Store Done st Breaks
      statement-related s.Continue env st = c.gives Store Done st Continues
      statement-related (s.Return None) env st = c.gives Store Done st (Returns None)
      statement-related (s.Return (Some e)) env st =
          c.then_ Store Store Value Done (value call e env st) (value other e env st) (λ st w v. Gives st w (Returns (Some v))) (λ st w v. Gives st w (Returns (Some v))) (value-related e env st) (λ st v. c.gives Store Done st (Returns (Some v)))

      pub statements-related : {n : _} (all : Row_of-TStmt n) (env : Environment) (st : Store) →
          R Store Done (statements call all env st) (statements other all env st)
      statements-related end_of-TStmt env st = c.gives Store Done st Normal
      statements-related (more_of-TStmt a rest) env st =
          c.then_ Store Store Done Done (statement call a env st) (statement other a env st) (λ st w d. next d (statements call rest env) st w) (λ st w d. next d (statements other rest env) st w) (statement-related a env st) (λ st d. next-related d (statements call rest env) (statements other rest env) st (statements-related rest env st))

      first_holding-related : {n : _} (branches : Row_of-Branch n) (last final : Store → Outside → Run Store Done) (env : Environment) →
          ((st : Store) → R Store Done (last st) (final st)) → (st : Store) →
          R Store Done (first_holding call branches last env st) (first_holding other branches final env st)
      first_holding-related end_of-Branch last final env h st = h st
      first_holding-related (more_of-Branch e a rest) last final env h st =
          c.then_ Store Store Bool Done (holds call e env st) (holds other e env st) (λ st w b. branch b (statement call a env) (first_holding call rest last env) st w) (λ st w b. branch b (statement other a env) (first_holding other rest final env) st w) (holds-related e env st) (λ st b. related-branch R c Store Done b (statement call a env) (first_holding call rest last env) (statement other a env) (first_holding other rest final env) st (statement-related a env st) (first_holding-related rest last final env h st))

      statements_from-related : {n : _} (parts : Row_of-Part n) (k : ℕ) (env : Environment) (st : Store) →
          R Store Done (statements_from call parts k env st) (statements_from other parts k env st)
      statements_from-related end_of-Part k env st = c.gives Store Done st Normal
      statements_from-related (more_of-Part labels m body rest) zero env st =
          c.then_ Store Store Done Done (statements call body env st) (statements other body env st) (λ st w d. next d (statements_from call rest zero env) st w) (λ st w d. next d (statements_from other rest zero env) st w) (statements-related body env st) (λ st d. next-related d (statements_from call rest zero env) (statements_from other rest zero env) st (statements_from-related rest zero env st))
      statements_from-related (more_of-Part labels m body rest) (suc k) env st = statements_from-related rest k env st

    body_run-related : (statics : ℕ) (f : TFunction) (is_main : Bool) (first : ℕ) (st : Store) →
        R Store (Option Value) (body_run call statics f is_main first st) (body_run other statics f is_main first st)
    body_run-related statics f is_main first st =
        c.then_ Store Store Done (Option Value) (statement call f.body (with_objects (record { statics = statics; objects = [] }) first (length f.parameters)) st) (statement other f.body (with_objects (record { statics = statics; objects = [] }) first (length f.parameters)) st) (λ st w d. Gives (end_regions st first (length f.parameters)) w (value_of_body is_main d)) (λ st w d. Gives (end_regions st first (length f.parameters)) w (value_of_body is_main d)) (statement-related f.body (with_objects (record { statics = statics; objects = [] }) first (length f.parameters)) st) (λ st d. c.gives Store (Option Value) (end_regions st first (length f.parameters)) (value_of_body is_main d))

    pub function_run-related : (u : Typed) (i : Invocation) →
        R Store (Option Value) (function_run u call i) (function_run u other i)
    function_run-related u i =
        related-given R c Store TFunction (Option Value) (slice_get u.functions i.function) (λ f w. given (with_arguments f.parameters i.arguments i.store) (λ st. body_run call (length u.objects) f (i.function == u.main) (length i.store) st w)) (λ f w. given (with_arguments f.parameters i.arguments i.store) (λ st. body_run other (length u.objects) f (i.function == u.main) (length i.store) st w)) (λ f. related-given R c Store Store (Option Value) (with_arguments f.parameters i.arguments i.store) (λ st w. body_run call (length u.objects) f (i.function == u.main) (length i.store) st w) (λ st w. body_run other (length u.objects) f (i.function == u.main) (length i.store) st w) (λ st. body_run-related (length u.objects) f (i.function == u.main) (length i.store) st))
