-- Laws of main: in a well-formed program its call gives a value. No contract cites this file: it holds proofs.
use Rattle.std.proofs.Common.{◌≡◌, refl, sym, ◌∙◌, subst, ℕ, zero, suc, ◌≤◌, ⊎_elim, arith}
use Rattle.std.proofs.lemmas.Bool.{false≢true, and_from, eq-eqb}
use Rattle.std.proofs.lemmas.Bool.Decides.{eqb_tells}
use Rattle.std.specs.Prelude.{Option, Some, None, Bool, true, false, ◌&&◌, ◌||◌, ◌==◌, List, [], ◌∷◌, length, slice_get}
use Rattle.word_ops.specs.Store.{Value, Number, Pointer, Store}
use Rattle.word_ops.specs.Values.{truth}
use Rattle.word_ops.specs.Run.{Outside, More, Run, Gives, Ends, Turn, Again, Over, after_turn, turns, next_word}
use Rattle.word_ops.specs.Laws.Lists.{and_both}
use Rattle.core_lang.specs.declared.act.Core.{Core, Row_of-Core, end_of-Core, more_of-Core}
use Rattle.core_lang.specs.declared.act.Core.TheVariants as c
use Rattle.core_lang.specs.declared.program.CoreFunction.{CoreFunction}
use Rattle.core_lang.specs.declared.program.Program.{Program}
use Rattle.core_lang.specs.Layout.{Layout}
use Rattle.core_lang.specs.State.{State, Activation, value_of_atom, values_of_atoms, assigned}
use Rattle.core_lang.specs.Acts.{Invocation, Calls, Flow, Falls, Leaves, Returned, Does, assign, assign_result, with_store, put_value, exit_value, behind, in_turn, out_of_block, as_block, out_of_turn, turn_of, as_loop, by_truth, act, row, acts}
use Rattle.core_lang.specs.Run.{run_body, activation_of, first_state, value_given_back, calls, first_call}
use Rattle.core_lang.specs.WellFormed.{IsActIn, IsRowIn, AreActsIn, targets, may_leave, row_may_leave, may_fall, row_may_fall, acts_may_fall, all_give, row_all_give, acts_all_give, IsMainFunction, IsMain, IsWellFormed}
use Rattle.core_lang.specs.Following.{OnGives}
use Rattle.core_lang.specs.Laws.Keeping.{OnGives-then, OnGives-given, OnGives-tick, OnGives-more, OnGives-any}
use Rattle.core_lang.specs.Laws.Regions.{OnGives-branch}

or_left : (a b : Bool) → a ≡ true → a || b ≡ true
or_left true b e = refl
or_left false b e = absurd (false≢true e)

or_right : (a b : Bool) → b ≡ true → a || b ≡ true
or_right true b e = refl
or_right false b e = e

or_neither : (a b : Bool) → a ≡ false → b ≡ false → a || b ≡ false
or_neither false b e f = f
or_neither true b e f = absurd (false≢true (sym e))

-- ---- how acts may end

-- acts end as is told: behind them, by a break so far out, or with a value
abbrev EndsSo : (falls : Bool) (leaves : ℕ → Bool) → Flow → Type 0
EndsSo falls leaves Falls = falls ≡ true
EndsSo falls leaves (Leaves k) = leaves k ≡ true
EndsSo falls leaves (Returned None) = ⊥
EndsSo falls leaves (Returned (Some v)) = Unit {0}

abbrev GoesSo : (falls : Bool) (leaves : ℕ → Bool) → Does → Type 0
GoesSo falls leaves go = (s : State) (w : Outside) → OnGives (λ t f. EndsSo falls leaves f) (go s w)

module _ (a : Bool) (b : ℕ → Bool) (f : Does) (h : GoesSo a b f) where
  so_block : GoesSo (a || b 0) (λ k. b (suc k)) (as_block f)
  so_block s w = OnGives-then (λ t x. EndsSo a b x) (λ t x. EndsSo (a || b 0) (λ k. b (suc k)) x) (f s w) (λ s w x. Gives s w (out_of_block x)) (h s w) (λ s w x e. out x e)
    where
      out : (x : Flow) → EndsSo a b x → EndsSo (a || b 0) (λ k. b (suc k)) (out_of_block x)
      out Falls e = or_left a (b 0) e
      out (Leaves zero) e = or_right a (b 0) e
      out (Leaves (suc k)) e = e
      out (Returned None) e = absurd e
      out (Returned (Some v)) e = tt

  -- an iteration is followed by another one, or leaves the loop as is told
  abbrev TurnSo : Turn Flow → Type 0
  TurnSo Again = Unit {0}
  TurnSo (Over x) = EndsSo (b 0) (λ k. b (suc k)) x

  turn_so : (s : State) (w : Outside) → OnGives (λ t r. TurnSo r) (turn_of f s w)
  turn_so s w = OnGives-then (λ t x. EndsSo a b x) (λ t r. TurnSo r) (f s w) (λ s w x. Gives s w (out_of_turn x)) (h s w) (λ s w x e. out x e)
    where
      out : (x : Flow) → EndsSo a b x → TurnSo (out_of_turn x)
      out Falls e = tt
      out (Leaves zero) e = e
      out (Leaves (suc k)) e = e
      out (Returned None) e = absurd e
      out (Returned (Some v)) e = tt

  after_so : (r : Turn Flow) (go : Outside → Run State Flow) →
      ((u : Outside) → OnGives (λ t x. EndsSo (b 0) (λ k. b (suc k)) x) (go u)) → (s : State) (w : Outside) → TurnSo r →
      OnGives (λ t x. EndsSo (b 0) (λ k. b (suc k)) x) (after_turn r go s w)
  after_so Again go k s w q = OnGives-tick (λ t x. EndsSo (b 0) (λ k. b (suc k)) x) w go k
  after_so (Over x) go k s w q = q

  turns_so : (n : ℕ) (s : State) (w : Outside) →
      OnGives (λ t x. EndsSo (b 0) (λ k. b (suc k)) x) (turns n (turn_of f) s w)
  turns_so zero s w =
      OnGives-then (λ t r. TurnSo r) (λ t x. EndsSo (b 0) (λ k. b (suc k)) x) (turn_of f s w) (λ s w r. after_turn r (λ w. Ends More w) s w) (turn_so s w) (λ s w r q. after_so r (λ w. Ends More w) (λ u. tt) s w q)
  turns_so (suc n) s w =
      OnGives-then (λ t r. TurnSo r) (λ t x. EndsSo (b 0) (λ k. b (suc k)) x) (turn_of f s w) (λ s w r. after_turn r (λ w. turns n (turn_of f) s w) s w) (turn_so s w) (λ s w r q. after_so r (λ w. turns n (turn_of f) s w) (λ u. turns_so n s u) s w q)

  so_loop : GoesSo (b 0) (λ k. b (suc k)) (as_loop f)
  so_loop s w = turns_so w.left s w

  module _ (x : Bool) (y : ℕ → Bool) (g : Does) (i : GoesSo x y g) where
    so_in_turn : GoesSo (a && x) (λ k. b k || y k) (in_turn f g)
    so_in_turn s w =
        OnGives-then (λ t d. EndsSo a b d) (λ t d. EndsSo (a && x) (λ k. b k || y k) d) (f s w) (λ s w d. behind d g s w) (h s w) (λ s w d e. go d s w e)
      where
        more : (d : Flow) → a ≡ true → EndsSo x y d → EndsSo (a && x) (λ k. b k || y k) d
        more Falls e q = and_from a x e q
        more (Leaves k) e q = or_right (b k) (y k) q
        more (Returned None) e q = absurd q
        more (Returned (Some v)) e q = tt

        go : (d : Flow) (s : State) (w : Outside) → EndsSo a b d → OnGives (λ t d. EndsSo (a && x) (λ k. b k || y k) d) (behind d g s w)
        go Falls s w e = OnGives-more (λ t d. EndsSo x y d) (λ t d. EndsSo (a && x) (λ k. b k || y k) d) (g s w) (i s w) (λ t d q. more d e q)
        go (Leaves k) s w e = or_left (b k) (y k) e
        go (Returned None) s w e = absurd e
        go (Returned (Some v)) s w e = tt

    so_choice : (v : Value) (s : State) (w : Outside) → OnGives (λ t d. EndsSo (a || x) (λ k. b k || y k) d) (by_truth v f g s w)
    so_choice v s w = OnGives-given (λ t d. EndsSo (a || x) (λ k. b k || y k) d) (truth s.store v) _ (λ t e. OnGives-branch (λ t d. EndsSo (a || x) (λ k. b k || y k) d) t f g s w (λ z. OnGives-more (λ t d. EndsSo a b d) (λ t d. EndsSo (a || x) (λ k. b k || y k) d) (f s w) (h s w) (λ t d q. first d q)) (λ z. OnGives-more (λ t d. EndsSo x y d) (λ t d. EndsSo (a || x) (λ k. b k || y k) d) (g s w) (i s w) (λ t d q. second d q)))
      where
        first : (d : Flow) → EndsSo a b d → EndsSo (a || x) (λ k. b k || y k) d
        first Falls q = or_left a x q
        first (Leaves k) q = or_left (b k) (y k) q
        first (Returned None) q = absurd q
        first (Returned (Some v)) q = tt

        second : (d : Flow) → EndsSo x y d → EndsSo (a || x) (λ k. b k || y k) d
        second Falls q = or_right a x q
        second (Leaves k) q = or_right (b k) (y k) q
        second (Returned None) q = absurd q
        second (Returned (Some v)) q = tt

-- ---- acts

abbrev acts_may_leave : ℕ → List Core → Bool
acts_may_leave k [] = false
acts_may_leave k (a ∷ rest) = may_leave k a || acts_may_leave k rest

abbrev OnFalls : State → Flow → Type 0
OnFalls t d = EndsSo true (λ k. false) d

assign_so : (x : ℕ) (o : Option Value) (s : State) (w : Outside) → OnGives OnFalls (assign x o s w)
assign_so x o s w = OnGives-given OnFalls o (λ v. Gives (assigned s x v) w Falls) (λ v e. refl)

result_so : (x : Option ℕ) (o : Option Value) (s : State) (w : Outside) → OnGives OnFalls (assign_result x o s w)
result_so None o s w = refl
result_so (Some x) o s w = assign_so x o s w

store_so : (o : Option Store) (s : State) (w : Outside) → OnGives OnFalls (with_store o s w)
store_so o s w = OnGives-given OnFalls o (λ t. Gives (record s { store = t }) w Falls) (λ t e. refl)

put_so : (v : Value) (s : State) (w : Outside) → OnGives OnFalls (put_value v s w)
put_so (Number n) s w = OnGives-tick OnFalls _ (λ w. Gives s w Falls) (λ u. refl)
put_so (Pointer r o) s w = tt

exit_so : (v : Value) (s : State) (w : Outside) → OnGives (λ t d. EndsSo false (λ k. false) d) (exit_value v s w)
exit_so (Number n) s w = tt
exit_so (Pointer r o) s w = tt

module _ (call : Calls) (e : Activation) where
  mutual
    act_so : (a : Core) → all_give a ≡ true → GoesSo (may_fall a) (λ k. may_leave k a) (act call e a)
    act_so (c.Block' n all) h = so_block (row_may_fall all) (λ k. row_may_leave k all) (row call e all) (row_so all h)
    act_so (c.Loop' n all) h = so_loop (row_may_fall all) (λ k. row_may_leave k all) (row call e all) (row_so all h)
    act_so (c.If' v n first m second) h =
        let b = and_both (row_all_give first) (row_all_give second) h in
        λ s w. so_choice (row_may_fall first) (λ k. row_may_leave k first) (row call e first) (row_so first b.0) (row_may_fall second) (λ k. row_may_leave k second) (row call e second) (row_so second b.1) (value_of_atom e s v) s w
    act_so (c.Move x v) h = λ s w. refl
    act_so (c.Operate x op u v) h = λ s w. assign_so x _ s w
    act_so (c.Pointer x op u v) h = λ s w. assign_so x _ s w
    act_so (c.Load x k p) h = λ s w. assign_so x _ s w
    act_so (c.Store k p v) h = λ s w. store_so _ s w
    act_so (c.Enter x) h = λ s w. refl
    act_so (c.Fill x) h = λ s w. refl
    act_so (c.Copy u v n k) h = λ s w. store_so _ s w
    act_so (c.Call x f vs) h = λ s w.
        let i : Invocation = record { function = f; arguments = values_of_atoms e s vs; stack = e.stack; store = s.store } in
        OnGives-tick OnFalls w _ (λ w. OnGives-then (λ t v. Unit {0}) OnFalls (call i w) (λ t w v. assign_result x v (record s { store = t }) w) (OnGives-any (call i w)) (λ t w v q. result_so x v (record s { store = t }) w))
    act_so (c.Get x) h = λ s w. OnGives-tick OnFalls _ (λ u. Gives (assigned s x (Number (next_word w.input))) u Falls) (λ u. refl)
    act_so (c.Put v) h = λ s w. put_so (value_of_atom e s v) s w
    act_so (c.Exit v) h = λ s w. exit_so (value_of_atom e s v) s w
    act_so (c.Break k) h = λ s w. eq-eqb k k refl
    act_so (c.Return None) h = absurd (false≢true h)
    act_so (c.Return (Some v)) h = λ s w. tt

    row_so : {n : _} (r : Row_of-Core n) → row_all_give r ≡ true → GoesSo (row_may_fall r) (λ k. row_may_leave k r) (row call e r)
    row_so end_of-Core h = λ s w. refl
    row_so (more_of-Core a rest) h =
        let b = and_both (all_give a) (row_all_give rest) h in
        so_in_turn (may_fall a) (λ k. may_leave k a) (act call e a) (act_so a b.0) (row_may_fall rest) (λ k. row_may_leave k rest) (row call e rest) (row_so rest b.1)

  acts_so : (xs : List Core) → acts_all_give xs ≡ true → GoesSo (acts_may_fall xs) (λ k. acts_may_leave k xs) (acts call e xs)
  acts_so [] h = λ s w. refl
  acts_so (a ∷ xs) h =
      let b = and_both (all_give a) (acts_all_give xs) h in
      so_in_turn (may_fall a) (λ k. may_leave k a) (act call e a) (act_so a b.0) (acts_may_fall xs) (λ k. acts_may_leave k xs) (acts call e xs) (acts_so xs b.1)

-- ---- no break leaves more than is around it

module _ (p : Program) (g : CoreFunction) where
  mutual
    act_stays : (k j : ℕ) → k ≤ j → (ts : List ℕ) (a : Core) → IsActIn p g k ts a → may_leave j a ≡ false
    act_stays k j le ts (c.Block' n all) h = row_stays (suc k) (suc j) (omega (arith, le)) ts all h
    act_stays k j le ts (c.Loop' n all) h = row_stays (suc k) (suc j) (omega (arith, le)) ts all h
    act_stays k j le ts (c.If' v n first m second) h =
        or_neither (row_may_leave j first) (row_may_leave j second) (row_stays k j le ts first h.1) (row_stays k j le ts second h.2)
    act_stays k j le ts (c.Break i) h = ⊎_elim (λ y. let e = y.1 in absurd (omega (arith, e, le, h))) (λ n. n.0) (eqb_tells i j)
    act_stays k j le ts (c.Move x v) h = refl
    act_stays k j le ts (c.Operate x op u v) h = refl
    act_stays k j le ts (c.Pointer x op u v) h = refl
    act_stays k j le ts (c.Load x w q) h = refl
    act_stays k j le ts (c.Store w q v) h = refl
    act_stays k j le ts (c.Enter x) h = refl
    act_stays k j le ts (c.Fill x) h = refl
    act_stays k j le ts (c.Copy u v n m) h = refl
    act_stays k j le ts (c.Call x f vs) h = refl
    act_stays k j le ts (c.Get x) h = refl
    act_stays k j le ts (c.Put v) h = refl
    act_stays k j le ts (c.Exit v) h = refl
    act_stays k j le ts (c.Return v) h = refl

    row_stays : (k j : ℕ) → k ≤ j → (ts : List ℕ) {n : _} (r : Row_of-Core n) → IsRowIn p g k ts r → row_may_leave j r ≡ false
    row_stays k j le ts end_of-Core h = refl
    row_stays k j le ts (more_of-Core a rest) h =
        or_neither (may_leave j a) (row_may_leave j rest) (act_stays k j le ts a h.0) (row_stays k j le _ rest h.1)

  acts_stay : (j : ℕ) (ts : List ℕ) (xs : List Core) → AreActsIn p g 0 ts xs → acts_may_leave j xs ≡ false
  acts_stay j ts [] h = refl
  acts_stay j ts (a ∷ xs) h =
      or_neither (may_leave j a) (acts_may_leave j xs) (act_stays 0 j (omega arith) ts a h.0) (acts_stay j _ xs h.1)

-- ---- main

abbrev pub GivesValue : Store → Option Value → Type 0
GivesValue t v = (x : Value) × (v ≡ Some x)

-- the call of main gives a value
pub main-gives : (l : Layout) (p : Program) (depth : ℕ) (w : Outside) → IsWellFormed p →
    OnGives GivesValue (calls l p.functions depth (first_call l p) w)
main-gives l p zero w formed = tt
main-gives l p (suc depth) w formed =
    OnGives-given GivesValue (slice_get p.functions p.main) _ (λ g e. OnGives-branch GivesValue (length (first_call l p).arguments == g.params) _ _ (first_call l p).store w (λ z. body g e) (λ z. tt))
  where
    body : (g : CoreFunction) → slice_get p.functions p.main ≡ Some g →
        OnGives GivesValue (run_body l (calls l p.functions depth) (first_call l p) g w)
    body g e =
        OnGives-then (λ t f. EndsSo (acts_may_fall g.body) (λ k. acts_may_leave k g.body) f) GivesValue (acts (calls l p.functions depth) (activation_of l (first_call l p)) g.body (first_state l (first_call l p) g) w) _ (acts_so (calls l p.functions depth) (activation_of l (first_call l p)) g.body main.gives (first_state l (first_call l p) g) w) (λ s w f q. value f q)
      where
        main : IsMainFunction g
        main = subst IsMain e formed.main

        value : (f : Flow) → EndsSo (acts_may_fall g.body) (λ k. acts_may_leave k g.body) f → (x : Value) × (value_given_back f ≡ Some x)
        value Falls q = absurd (false≢true (sym main.ends ∙ q))
        value (Leaves k) q = absurd (false≢true (sym (acts_stay p g k [] g.body (formed.functions p.main g e).body) ∙ q))
        value (Returned None) q = absurd q
        value (Returned (Some x)) q = (x, refl)
