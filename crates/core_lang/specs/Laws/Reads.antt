-- Laws of what well-formed acts read: variables, and temporaries that were assigned, so what the other temporaries hold does
-- not matter.
-- No contract cites this file: it holds proofs.
use Rattle.std.proofs.Common.{◌≡◌, ◌≢◌, refl, sym, ap, ◌∙◌, subst, ℕ, zero, suc, ◌+◌, ◌<◌, ◌⊎◌, inl, inr, ⊎_elim, List, [], ◌∷◌, ◌++◌}
use Rattle.std.proofs.lemmas.Bool.Decides.{eqb_tells}
use Rattle.std.specs.Prelude.{Option, Some, None, ◌==◌, if◌then◌else◌}
use Rattle.word_ops.specs.Store.{Value, Number, Pointer, Store, Unset, Byte, refill_region}
use Rattle.word_ops.specs.Access.{load, write}
use Rattle.word_ops.specs.Values.{value_of_operation, truth}
use Rattle.word_ops.specs.Run.{Outside, Run, Gives, Ends, Undefined, Again, Over, next_word}
use Rattle.word_ops.specs.Following.{Follows, TurnsAlike}
use Rattle.word_ops.specs.Laws.Runs.{Follows-more, Follows-then, Follows-given_both, Follows-branch, Follows-tick, Follows-put_byte, Follows-loop}
use Rattle.core_lang.specs.declared.act.Atom.{Atom}
use Rattle.core_lang.specs.declared.act.Atom.TheVariants as at
use Rattle.core_lang.specs.declared.act.Core.{Core, Row_of-Core, end_of-Core, more_of-Core}
use Rattle.core_lang.specs.declared.act.Core.TheVariants as c
use Rattle.core_lang.specs.declared.program.CoreFunction.{CoreFunction}
use Rattle.core_lang.specs.declared.program.Program.{Program}
use Rattle.core_lang.specs.State.{State, Activation, value_of_atom, value_of_option, values_of_atoms, assigned}
use Rattle.core_lang.specs.Copying.{copied}
use Rattle.core_lang.specs.Acts.{Invocation, Calls, Flow, Falls, Leaves, Returned, Does, assign, assign_result, with_store, value_of_pointers, put_value, exit_value, behind, in_turn, out_of_block, as_block, out_of_turn, turn_of, as_loop, by_truth, act, row, acts}
use Rattle.core_lang.specs.WellFormed.{IsAmong, IsAtomIn, AreAtomsIn, IsOptionIn, targets, IsActIn, IsRowIn, AreActsIn, assigned_behind, IsFunctionIn}
use Rattle.core_lang.specs.Laws.WellFormed.{AreAlsoIn, AreAlsoIn-more}

-- the same store, and the same values of all that may be read
abbrev pub AgreeOn : CoreFunction → (assigned : List ℕ) → State → State → Type 0
AgreeOn g ts s t = ((x : ℕ) → (x < g.vars) ⊎ IsAmong x ts → s.vars x ≡ t.vars x) × (s.store ≡ t.store)

-- the same end, behind which the same may be read as before, and what acts assigned where they went through
abbrev pub EndSame : CoreFunction → (before after : List ℕ) → State → Flow → State → Flow → Type 0
EndSame g ts us s f t d = (f ≡ d) × AgreeOn g ts s t × (f ≡ Falls → AgreeOn g us s t)

leaves_falls : (k : ℕ) → Leaves k ≡ Falls → ⊥
leaves_falls k e = cc

returned_falls : (v : Option Value) → Returned v ≡ Falls → ⊥
returned_falls v e = cc

module _ (g : CoreFunction) where
  agree_less : (ts us : List ℕ) (s t : State) → AreAlsoIn ts us → AgreeOn g us s t → AgreeOn g ts s t
  agree_less ts us s t h a = (λ x k. a.0 x (⊎_elim (λ l. inl l) (λ m. inr (h x m)) k), a.1)

  agree_assigned : (ts : List ℕ) (s t : State) (x : ℕ) (v : Value) → AgreeOn g ts s t →
      AgreeOn g (x ∷ ts) (assigned s x v) (assigned t x v)
  agree_assigned ts s t x v a = (vars, a.1)
    where
      other : (y : ℕ) → y ≢ x → (y < g.vars) ⊎ IsAmong y (x ∷ ts) → s.vars y ≡ t.vars y
      other y ne h = ⊎_elim (λ l. a.0 y (inl l)) (λ m. ⊎_elim (λ e. absurd (ne e)) (λ i. a.0 y (inr i)) m) h

      vars : (y : ℕ) → (y < g.vars) ⊎ IsAmong y (x ∷ ts) →
          (if y == x then v else s.vars y) ≡ (if y == x then v else t.vars y)
      vars y h =
          ⊎_elim
          (λ e. subst (λ b. (if b then v else s.vars y) ≡ (if b then v else t.vars y)) (sym e.0) refl)
          (λ n. subst (λ b. (if b then v else s.vars y) ≡ (if b then v else t.vars y)) (sym n.0) (other y n.1 h))
          (eqb_tells y x)

  -- two ways to act that do the same where the first numbers may be read before and the second ones behind
  abbrev pub DoSame : (before after : List ℕ) → Does → Does → Type 0
  DoSame ts us f h = (s t : State) (w : Outside) → AgreeOn g ts s t → Follows (EndSame g ts us) (f s w) (h t w)

  end_less : (ts us vs ws : List ℕ) (s : State) (f : Flow) (t : State) (d : Flow) → AreAlsoIn vs ts → AreAlsoIn ws us →
      EndSame g ts us s f t d → EndSame g vs ws s f t d
  end_less ts us vs ws s f t d h k e = (e.0, agree_less vs ts s t h e.1, λ q. agree_less ws us s t k (e.2 q))

  in_turn_same : (ts us vs : List ℕ) (f h k m : Does) → AreAlsoIn ts us → DoSame ts us f h → DoSame us vs k m →
      DoSame ts vs (in_turn f k) (in_turn h m)
  in_turn_same ts us vs f h k m more a b s t w agree =
      Follows-then (EndSame g ts us) (EndSame g ts vs) (f s w) (h t w) _ _ (a s t w agree) (λ s w x t y e. subst (λ y. Follows (EndSame g ts vs) (behind x k s w) (behind y m t w)) e.0 (after s w x t e.1 e.2))
    where
      after : (s : State) (w : Outside) (x : Flow) (t : State) → AgreeOn g ts s t → (x ≡ Falls → AgreeOn g us s t) →
          Follows (EndSame g ts vs) (behind x k s w) (behind x m t w)
      after s w Falls t i j =
          Follows-more (EndSame g us vs) (EndSame g ts vs) (k s w) (m t w) (λ s x t y e. end_less us vs ts vs s x t y more (λ z q. q) e) (b s t w (j refl))
      after s w (Leaves n) t i j = (t, Leaves n, refl, (refl, i, λ q. absurd (leaves_falls n q)))
      after s w (Returned v) t i j = (t, Returned v, refl, (refl, i, λ q. absurd (returned_falls v q)))

  as_block_same : (ts us : List ℕ) (f h : Does) → DoSame ts us f h → DoSame ts ts (as_block f) (as_block h)
  as_block_same ts us f h a s t w agree =
      Follows-then (EndSame g ts us) (EndSame g ts ts) (f s w) (h t w) _ _ (a s t w agree) (λ s w x t y e. (t, out_of_block y, refl, (ap out_of_block e.0, e.1, λ q. e.1)))

  as_loop_same : (ts us : List ℕ) (f h : Does) → DoSame ts us f h → DoSame ts ts (as_loop f) (as_loop h)
  as_loop_same ts us f h a s t w agree =
      Follows-loop (AgreeOn g ts) (EndSame g ts ts) (turn_of f) (turn_of h) (λ s w t i. Follows-then (EndSame g ts us) (TurnsAlike (AgreeOn g ts) (EndSame g ts ts)) (f s w) (h t w) _ _ (a s t w i) (λ s w x t y e. subst (λ y. Follows (TurnsAlike (AgreeOn g ts) (EndSame g ts ts)) (Gives s w (out_of_turn x)) (Gives t w (out_of_turn y))) e.0 (after s w x t e.1))) s w t agree
    where
      after : (s : State) (w : Outside) (x : Flow) (t : State) → AgreeOn g ts s t →
          Follows (TurnsAlike (AgreeOn g ts) (EndSame g ts ts)) (Gives s w (out_of_turn x)) (Gives t w (out_of_turn x))
      after s w Falls t i = (t, Again, refl, i)
      after s w (Leaves zero) t i = (t, Over Falls, refl, (refl, i, λ q. i))
      after s w (Leaves (suc n)) t i = (t, Over (Leaves n), refl, (refl, i, λ q. i))
      after s w (Returned v) t i = (t, Over (Returned v), refl, (refl, i, λ q. i))

  by_truth_same : (ts us vs : List ℕ) (x y : Value) (f h k m : Does) (s t : State) (w : Outside) → AgreeOn g ts s t →
      x ≡ y → DoSame ts us f h → DoSame ts vs k m →
      Follows (EndSame g ts ts) (by_truth x f k s w) (by_truth y h m t w)
  by_truth_same ts us vs x y f h k m s t w agree q a b =
      Follows-given_both (EndSame g ts ts) (truth s.store x) (truth t.store y) _ _ (λ d e. (d, sym (ap (λ st. truth st x) agree.1 ∙ ap (truth t.store) q) ∙ e, Follows-branch (EndSame g ts ts) d f k h m s t w (Follows-more (EndSame g ts us) (EndSame g ts ts) (f s w) (h t w) (λ s x t y e. (e.0, e.1, λ q. e.1)) (a s t w agree)) (Follows-more (EndSame g ts vs) (EndSame g ts ts) (k s w) (m t w) (λ s x t y e. (e.0, e.1, λ q. e.1)) (b s t w agree))))

  -- ---- the parts of acts

  assign_same : (ts : List ℕ) (x : ℕ) (o u : Option Value) (s t : State) (w : Outside) → o ≡ u → AgreeOn g ts s t →
      Follows (EndSame g ts (x ∷ ts)) (assign x o s w) (assign x u t w)
  assign_same ts x o u s t w q a =
      subst (λ u. Follows (EndSame g ts (x ∷ ts)) (assign x o s w) (assign x u t w)) q (go o)
    where
      go : (o : Option Value) → Follows (EndSame g ts (x ∷ ts)) (assign x o s w) (assign x o t w)
      go None = tt
      go (Some v) =
          let b = agree_assigned ts s t x v a in
          (assigned t x v, Falls, refl, (refl, agree_less ts (x ∷ ts) (assigned s x v) (assigned t x v) (AreAlsoIn-more (x ∷ []) ts) b, λ e. b))

  store_same : (ts : List ℕ) (o u : Option Store) (s t : State) (w : Outside) → o ≡ u → AgreeOn g ts s t →
      Follows (EndSame g ts ts) (with_store o s w) (with_store u t w)
  store_same ts o u s t w q a =
      subst (λ u. Follows (EndSame g ts ts) (with_store o s w) (with_store u t w)) q (go o)
    where
      go : (o : Option Store) → Follows (EndSame g ts ts) (with_store o s w) (with_store o t w)
      go None = tt
      go (Some st) = (record t { store = st }, Falls, refl, (refl, (a.0, refl), λ e. (a.0, refl)))

  put_same : (ts : List ℕ) (u v : Value) (s t : State) (w : Outside) → u ≡ v → AgreeOn g ts s t →
      Follows (EndSame g ts ts) (put_value u s w) (put_value v t w)
  put_same ts u v s t w q a = subst (λ v. Follows (EndSame g ts ts) (put_value u s w) (put_value v t w)) q (go u)
    where
      go : (u : Value) → Follows (EndSame g ts ts) (put_value u s w) (put_value u t w)
      go (Number n) =
          Follows-put_byte (EndSame g ts ts) n w (λ w. Gives s w Falls) (λ w. Gives t w Falls) (λ w. (t, Falls, refl, (refl, a, λ e. a)))
      go (Pointer r o) = tt

  exit_same : (ts : List ℕ) (u v : Value) (s t : State) (w : Outside) → u ≡ v →
      Follows (EndSame g ts ts) (exit_value u s w) (exit_value v t w)
  exit_same ts u v s t w q = subst (λ v. Follows (EndSame g ts ts) (exit_value u s w) (exit_value v t w)) q (go u)
    where
      go : (u : Value) → Follows (EndSame g ts ts) (exit_value u s w) (exit_value u t w)
      go (Number n) = refl
      go (Pointer r o) = tt

  result_same : (ts : List ℕ) (x : Option ℕ) (f : ℕ) (vs : List Atom) (v : Option Value) (s t : State) (w : Outside) →
      AgreeOn g ts s t →
      Follows (EndSame g ts (targets (c.Call x f vs) ++ ts)) (assign_result x v s w) (assign_result x v t w)
  result_same ts None f vs v s t w a = (t, Falls, refl, (refl, a, λ e. a))
  result_same ts (Some x) f vs v s t w a = assign_same ts x v v s t w refl a

same_run : {S A : Type 0} (r : Run S A) → Follows (λ s a t b. (s ≡ t) × (a ≡ b)) r r
same_run (Gives s w a) = (s, a, refl, (refl, refl))
same_run (Ends e w) = refl
same_run Undefined = tt

-- ---- acts

module _ (p : Program) (g : CoreFunction) (call : Calls) (e : Activation) where
  atom_same : (ts : List ℕ) (v : Atom) (s t : State) → IsAtomIn p g ts v → AgreeOn g ts s t →
      value_of_atom e s v ≡ value_of_atom e t v
  atom_same ts (at.Var x) s t h a = a.0 x h
  atom_same ts (at.Word n) s t h a = refl
  atom_same ts (at.Global x) s t h a = refl
  atom_same ts (at.Local x) s t h a = refl

  atoms_same : (ts : List ℕ) (vs : List Atom) (s t : State) → AreAtomsIn p g ts vs → AgreeOn g ts s t →
      values_of_atoms e s vs ≡ values_of_atoms e t vs
  atoms_same ts [] s t h a = refl
  atoms_same ts (v ∷ vs) s t h a =
      ap (λ x. x ∷ values_of_atoms e s vs) (atom_same ts v s t h.0 a) ∙ ap (λ l. value_of_atom e t v ∷ l) (atoms_same ts vs s t h.1 a)

  option_same : (ts : List ℕ) (v : Option Atom) (s t : State) → IsOptionIn p g ts v → AgreeOn g ts s t →
      value_of_option e s v ≡ value_of_option e t v
  option_same ts None s t h a = refl
  option_same ts (Some v) s t h a = ap (λ v. Some v) (atom_same ts v s t h a)

  mutual
    act_same : (k : ℕ) (ts : List ℕ) (a : Core) → IsActIn p g k ts a →
        DoSame g ts (targets a ++ ts) (act call e a) (act call e a)
    act_same k ts (c.Move x v) h s t w a =
        assign_same g ts x (Some (value_of_atom e s v)) (Some (value_of_atom e t v)) s t w (ap (λ v. Some v) (atom_same ts v s t h.1 a)) a
    act_same k ts (c.Operate x op u v) h s t w a =
        assign_same g ts x (value_of_operation s.store op (value_of_atom e s u) (value_of_atom e s v)) (value_of_operation t.store op (value_of_atom e t u) (value_of_atom e t v)) s t w (ap (λ st. value_of_operation st op (value_of_atom e s u) (value_of_atom e s v)) a.1 ∙ ap (λ x. value_of_operation t.store op x (value_of_atom e s v)) (atom_same ts u s t h.1 a) ∙ ap (value_of_operation t.store op (value_of_atom e t u)) (atom_same ts v s t h.2 a)) a
    act_same k ts (c.Pointer x op u v) h s t w a =
        assign_same g ts x (value_of_pointers s.store op (value_of_atom e s u) (value_of_atom e s v)) (value_of_pointers t.store op (value_of_atom e t u) (value_of_atom e t v)) s t w (ap (λ st. value_of_pointers st op (value_of_atom e s u) (value_of_atom e s v)) a.1 ∙ ap (λ x. value_of_pointers t.store op x (value_of_atom e s v)) (atom_same ts u s t h.1 a) ∙ ap (value_of_pointers t.store op (value_of_atom e t u)) (atom_same ts v s t h.2 a)) a
    act_same k ts (c.Load x d v) h s t w a =
        assign_same g ts x (load s.store d (value_of_atom e s v)) (load t.store d (value_of_atom e t v)) s t w (ap (λ st. load st d (value_of_atom e s v)) a.1 ∙ ap (load t.store d) (atom_same ts v s t h.1 a)) a
    act_same k ts (c.Store d u v) h s t w a =
        store_same g ts (write s.store d (value_of_atom e s u) (value_of_atom e s v)) (write t.store d (value_of_atom e t u) (value_of_atom e t v)) s t w (ap (λ st. write st d (value_of_atom e s u) (value_of_atom e s v)) a.1 ∙ ap (λ x. write t.store d x (value_of_atom e s v)) (atom_same ts u s t h.0 a) ∙ ap (write t.store d (value_of_atom e t u)) (atom_same ts v s t h.1 a)) a
    act_same k ts (c.Enter x) h s t w a =
        store_same g ts (Some (refill_region s.store (e.first + x) Unset)) (Some (refill_region t.store (e.first + x) Unset)) s t w (ap (λ st. Some (refill_region st (e.first + x) Unset)) a.1) a
    act_same k ts (c.Fill x) h s t w a =
        store_same g ts (Some (refill_region s.store (e.first + x) (Byte 0))) (Some (refill_region t.store (e.first + x) (Byte 0))) s t w (ap (λ st. Some (refill_region st (e.first + x) (Byte 0))) a.1) a
    act_same k ts (c.Copy u v n m) h s t w a =
        store_same g ts (copied s.store (value_of_atom e s u) (value_of_atom e s v) n m) (copied t.store (value_of_atom e t u) (value_of_atom e t v) n m) s t w (ap (λ st. copied st (value_of_atom e s u) (value_of_atom e s v) n m) a.1 ∙ ap (λ x. copied t.store x (value_of_atom e s v) n m) (atom_same ts u s t h.0 a) ∙ ap (λ y. copied t.store (value_of_atom e t u) y n m) (atom_same ts v s t h.1 a)) a
    act_same k ts (c.Call x f vs) h s t w a =
        let i : Invocation = record { function = f; arguments = values_of_atoms e s vs; stack = e.stack; store = s.store } in
        let j : Invocation = record { function = f; arguments = values_of_atoms e t vs; stack = e.stack; store = t.store } in
        let q : i ≡ j = ap (λ l. record { function = f; arguments = l; stack = e.stack; store = s.store }) (atoms_same ts vs s t h.2 a) ∙ ap (λ st. record { function = f; arguments = values_of_atoms e t vs; stack = e.stack; store = st }) a.1 in
        Follows-tick (EndSame g ts (targets (c.Call x f vs) ++ ts)) w _ _ (λ w. Follows-then (λ m u n v. (m ≡ n) × (u ≡ v)) (EndSame g ts (targets (c.Call x f vs) ++ ts)) (call i w) (call j w) (λ m w v. assign_result x v (record s { store = m }) w) (λ m w v. assign_result x v (record t { store = m }) w) (subst (λ j. Follows (λ m u n v. (m ≡ n) × (u ≡ v)) (call i w) (call j w)) q (same_run (call i w))) (λ m w u n v y. subst (λ v. Follows (EndSame g ts (targets (c.Call x f vs) ++ ts)) (assign_result x u (record s { store = m }) w) (assign_result x v (record t { store = n }) w)) y.1 (result_same g ts x f vs u (record s { store = m }) (record t { store = n }) w (a.0, y.0))))
    act_same k ts (c.Get x) h s t w a =
        Follows-tick (EndSame g ts (x ∷ ts)) _ (λ u. Gives (assigned s x (Number (next_word w.input))) u Falls) (λ u. Gives (assigned t x (Number (next_word w.input))) u Falls) (λ u. assign_same g ts x (Some (Number (next_word w.input))) (Some (Number (next_word w.input))) s t u refl a)
    act_same k ts (c.Put v) h s t w a = put_same g ts (value_of_atom e s v) (value_of_atom e t v) s t w (atom_same ts v s t h a) a
    act_same k ts (c.Exit v) h s t w a = exit_same g ts (value_of_atom e s v) (value_of_atom e t v) s t w (atom_same ts v s t h a)
    act_same k ts (c.Block' n all) h s t w a =
        as_block_same g ts _ (row call e all) (row call e all) (row_same (suc k) ts all h).1 s t w a
    act_same k ts (c.Loop' n all) h s t w a =
        as_loop_same g ts _ (row call e all) (row call e all) (row_same (suc k) ts all h).1 s t w a
    act_same k ts (c.Break j) h s t w a = (t, Leaves j, refl, (refl, a, λ q. a))
    act_same k ts (c.If' v n first m second) h s t w a =
        by_truth_same g ts _ _ (value_of_atom e s v) (value_of_atom e t v) (row call e first) (row call e first) (row call e second) (row call e second) s t w a (atom_same ts v s t h.0 a) (row_same k ts first h.1).1 (row_same k ts second h.2).1
    act_same k ts (c.Return v) h s t w a =
        (t, Returned (value_of_option e t v), refl, (ap (λ v. Returned v) (option_same ts v s t h a), a, λ q. a))

    -- a list in an act, behind which some more may be read
    row_same : (k : ℕ) (ts : List ℕ) {n : _} (r : Row_of-Core n) → IsRowIn p g k ts r →
        (us : List ℕ) × DoSame g ts us (row call e r) (row call e r)
    row_same k ts end_of-Core h = (ts, λ s t w a. (t, Falls, refl, (refl, a, λ q. a)))
    row_same k ts (more_of-Core a rest) h =
        let next = row_same k (targets a ++ ts) rest h.1 in
        (next.0, in_turn_same g ts (targets a ++ ts) next.0 (act call e a) (act call e a) (row call e rest) (row call e rest) (AreAlsoIn-more (targets a) ts) (act_same k ts a h.0) next.1)

  -- well-formed acts do the same in states that agree on what may be read before them
  pub acts-same : (k : ℕ) (ts : List ℕ) (xs : List Core) → AreActsIn p g k ts xs →
      DoSame g ts (assigned_behind xs ts) (acts call e xs) (acts call e xs)
  acts-same k ts [] h = λ s t w a. (t, Falls, refl, (refl, a, λ q. a))
  acts-same k ts (a ∷ xs) h =
      in_turn_same g ts (targets a ++ ts) (assigned_behind xs (targets a ++ ts)) (act call e a) (act call e a) (acts call e xs) (acts call e xs) (AreAlsoIn-more (targets a) ts) (act_same k ts a h.0) (acts-same k (targets a ++ ts) xs h.1)

-- so a function that is well formed does the same whatever its temporaries hold as it begins
pub body-same : (p : Program) (g : CoreFunction) (call : Calls) (e : Activation) → IsFunctionIn p g → (s t : State)
    (w : Outside) → ((x : ℕ) → x < g.vars → s.vars x ≡ t.vars x) → s.store ≡ t.store →
    Follows (λ (s : State) f (t : State) d. (f ≡ d) × (s.store ≡ t.store)) (acts call e g.body s w) (acts call e g.body t w)
body-same p g call e h s t w vars store =
    Follows-more (EndSame g [] (assigned_behind g.body [])) (λ (s : State) f (t : State) d. (f ≡ d) × (s.store ≡ t.store)) (acts call e g.body s w) (acts call e g.body t w) (λ s f t d q. (q.0, q.1.1)) (acts-same p g call e 0 [] g.body h.body s t w (λ x k. ⊎_elim (λ l. vars x l) (λ b. absurd b) k, store))
