-- What acts keep of a state, by induction over acts.
-- No contract cites this file: it holds proofs.
use Rattle.std.proofs.Common.{◌≡◌, refl, subst, ℕ, zero, suc}
use Rattle.std.specs.Prelude.{Option, Some, None, List, [], ◌∷◌}
use Rattle.word_ops.specs.Store.{Value, Number, Pointer, Store}
use Rattle.word_ops.specs.Values.{truth}
use Rattle.word_ops.specs.Run.{Outside, Run, Gives, Ends, Undefined, then_do, given, tick_from, tick, next_word, get_byte}
use Rattle.word_ops.specs.Following.{Follows}
use Rattle.core_lang.specs.declared.act.Atom.{Atom}
use Rattle.core_lang.specs.declared.act.Core.{Core, Row_of-Core, end_of-Core, more_of-Core}
use Rattle.core_lang.specs.declared.act.Core.TheVariants as c
use Rattle.core_lang.specs.State.{State, Activation, value_of_atom, values_of_atoms, assigned}
use Rattle.core_lang.specs.Acts.{Invocation, Calls, Flow, Falls, Leaves, Returned, assign, assign_result, with_store, put_value, exit_value, act, acts}
use Rattle.core_lang.specs.Following.{FlowsAlike, EndAlike, IsPlainAct, EachAct, EachInRow, EachOf, OnGives, OnReturned, KeepsState}
use Rattle.core_lang.specs.Laws.Following.{acts-alike}

-- ---- what runs give

pub OnGives-then : {S T A B : Type 0} (P : S → A → Type 0) (Q : T → B → Type 0) (r : Run S A) (f : S → Outside → A → Run T B) →
    OnGives P r → ((s : S) (w : Outside) (a : A) → P s a → OnGives Q (f s w a)) → OnGives Q (then_do r f)
OnGives-then P Q (Gives s w a) f h k = k s w a h
OnGives-then P Q (Ends e w) f h k = tt
OnGives-then P Q Undefined f h k = tt

pub OnGives-given : {S A B : Type 0} (Q : S → B → Type 0) (o : Option A) (f : A → Run S B) →
    ((a : A) → o ≡ Some a → OnGives Q (f a)) → OnGives Q (given o f)
OnGives-given Q None f h = tt
OnGives-given Q (Some a) f h = h a refl

pub OnGives-tick : {S A : Type 0} (P : S → A → Type 0) (w : Outside) (f : Outside → Run S A) →
    ((u : Outside) → OnGives P (f u)) → OnGives P (tick w f)
OnGives-tick {S} {A} P w f h = from w.left
  where
    from : (n : ℕ) → OnGives P (tick_from n w f)
    from zero = tt
    from (suc n) = h (record w { left = n })

pub OnGives-more : {S A : Type 0} (P Q : S → A → Type 0) (r : Run S A) → OnGives P r →
    ((s : S) (a : A) → P s a → Q s a) → OnGives Q r
OnGives-more P Q (Gives s w a) h k = k s a h
OnGives-more P Q (Ends e w) h k = tt
OnGives-more P Q Undefined h k = tt

pub OnGives-any : {S A : Type 0} (r : Run S A) → OnGives (λ s a. Unit {0}) r
OnGives-any (Gives s w a) = tt
OnGives-any (Ends e w) = tt
OnGives-any Undefined = tt

-- ---- acts

-- each act and each atom, where nothing is asked of them
mutual
  pub each_act : (a : Core) → EachAct (λ a. Unit {0}) (λ v. Unit {0}) a
  each_act (c.Block' n all) = each_in_row all
  each_act (c.Loop' n all) = each_in_row all
  each_act (c.If' v n first m second) = (tt, each_in_row first, each_in_row second)
  each_act (c.Move x v) = tt
  each_act (c.Operate x op u v) = tt
  each_act (c.Pointer x op u v) = tt
  each_act (c.Load x k p) = tt
  each_act (c.Store k p v) = tt
  each_act (c.Enter x) = tt
  each_act (c.Fill x) = tt
  each_act (c.Copy u v n k) = tt
  each_act (c.Call x f vs) = tt
  each_act (c.Get x) = tt
  each_act (c.Put v) = tt
  each_act (c.Exit v) = tt
  each_act (c.Break k) = tt
  each_act (c.Return v) = tt

  pub each_in_row : {n : _} (r : Row_of-Core n) → EachInRow (λ a. Unit {0}) (λ v. Unit {0}) r
  each_in_row end_of-Core = tt
  each_in_row (more_of-Core a rest) = (each_act a, each_in_row rest)

pub each_of : (xs : List Core) → EachOf (λ a. Unit {0}) (λ v. Unit {0}) xs
each_of [] = tt
each_of (a ∷ xs) = (each_act a, each_of xs)

module _ (I : State → Type 0) (W : State → Option Value → Type 0) where
  -- the property holds, and what is given back has one
  abbrev pub Kept : State → Flow → Type 0
  Kept s f = I s × OnReturned (W s) f

  -- the parts of acts keep the property where the states that they give have it

  pub assign-keeps : (x : ℕ) (o : Option Value) (s : State) (w : Outside) →
      ((v : Value) → o ≡ Some v → I (assigned s x v)) → OnGives Kept (assign x o s w)
  assign-keeps x o s w h = OnGives-given Kept o (λ v. Gives (assigned s x v) w Falls) (λ v e. (h v e, tt))

  pub assign_result-keeps : (x : Option ℕ) (o : Option Value) (s : State) (w : Outside) → I s →
      ((y : ℕ) (v : Value) → x ≡ Some y → o ≡ Some v → I (assigned s y v)) → OnGives Kept (assign_result x o s w)
  assign_result-keeps None o s w i h = (i, tt)
  assign_result-keeps (Some x) o s w i h = assign-keeps x o s w (λ v e. h x v refl e)

  pub with_store-keeps : (o : Option Store) (s : State) (w : Outside) →
      ((t : Store) → o ≡ Some t → I (record s { store = t })) → OnGives Kept (with_store o s w)
  with_store-keeps o s w h = OnGives-given Kept o (λ t. Gives (record s { store = t }) w Falls) (λ t e. (h t e, tt))

  pub put_value-keeps : (v : Value) (s : State) (w : Outside) → I s → OnGives Kept (put_value v s w)
  put_value-keeps (Number n) s w i = OnGives-tick Kept _ (λ w. Gives s w Falls) (λ u. (i, tt))
  put_value-keeps (Pointer r o) s w i = tt

  pub exit_value-keeps : (v : Value) (s : State) (w : Outside) → OnGives Kept (exit_value v s w)
  exit_value-keeps (Number n) s w = tt
  exit_value-keeps (Pointer r o) s w = tt

  pub get-keeps : (x : ℕ) (s : State) (w : Outside) → I (assigned s x (Number (next_word w.input))) →
      OnGives Kept (get_byte w (λ n w. Gives (assigned s x (Number n)) w Falls))
  get-keeps x s w h =
      OnGives-tick Kept _ (λ u. Gives (assigned s x (Number (next_word w.input))) u Falls) (λ u. (h, tt))

  -- a call that gives what has a property
  pub call-keeps : (call : Calls) (e : Activation) (x : Option ℕ) (f : ℕ) (vs : List Atom) (s : State) (w : Outside)
      (P : Store → Option Value → Type 0) →
      ((w : Outside) → OnGives P (call (record { function = f; arguments = values_of_atoms e s vs; stack = e.stack; store = s.store }) w)) →
      ((t : Store) (v : Option Value) → P t v → I (record s { store = t })) →
      ((t : Store) (y : ℕ) (v : Value) → x ≡ Some y → P t (Some v) → I (record s { store = t }) → I (assigned (record s { store = t }) y v)) →
      OnGives Kept (act call e (c.Call x f vs) s w)
  call-keeps call e x f vs s w P h k m =
      let i : Invocation = record { function = f; arguments = values_of_atoms e s vs; stack = e.stack; store = s.store } in
      OnGives-tick Kept w _ (λ w. OnGives-then P Kept (call i w) _ (h w) (λ t w v p. assign_result-keeps x v (record s { store = t }) w (k t v p) (λ y u a b. m t y u a (subst (P t) b p) (k t v p))))

  -- the same state, in which it holds
  abbrev Same : State → State → Type 0
  Same s t = (s ≡ t) × I s

  abbrev SameValue : State → State → Option Value → Option Value → Type 0
  SameValue s t u v = (u ≡ v) × W s u

  flows_same : (s : State) (f : Flow) → OnReturned (W s) f → FlowsAlike (SameValue s s) f f
  flows_same s Falls h = tt
  flows_same s (Leaves k) h = refl
  flows_same s (Returned v) h = (refl, h)

  twice : (r : Run State Flow) → OnGives (λ s f. I s × OnReturned (W s) f) r → Follows (EndAlike Same SameValue) r r
  twice (Gives s w f) h = (s, f, refl, ((refl, h.0), flows_same s f h.1))
  twice (Ends e w) h = refl
  twice Undefined h = tt

  flow_once : (s t : State) (f d : Flow) → FlowsAlike (SameValue s t) f d → OnReturned (W s) f
  flow_once s t Falls d h = tt
  flow_once s t (Leaves k) d h = tt
  flow_once s t (Returned u) Falls h = absurd h
  flow_once s t (Returned u) (Leaves k) h = absurd h
  flow_once s t (Returned u) (Returned v) h = h.1

  once : (r q : Run State Flow) → Follows (EndAlike Same SameValue) r q → OnGives (λ s f. I s × OnReturned (W s) f) r
  once (Gives s w f) q h = (h.3.0.1, flow_once s h.0 f h.1 h.3.1)
  once (Ends e w) q h = tt
  once Undefined q h = tt

  -- where each act without acts in it keeps a property, so do all acts
  pub acts-keep : (call : Calls) (e : Activation) (P : Core → Type 0) (Q : Atom → Type 0) →
      ((a : Core) → IsPlainAct a → P a → KeepsState I W (act call e a)) → (xs : List Core) → EachOf P Q xs →
      KeepsState I W (acts call e xs)
  acts-keep call e P Q plain xs h s w i =
      once (acts call e xs s w) (acts call e xs s w) (acts-alike Same SameValue call call e e P Q (λ a p q s t w i. subst (λ t. Follows (EndAlike Same SameValue) (act call e a s w) (act call e a t w)) i.0 (twice (act call e a s w) (plain a p q s w i.1))) (λ v s t b q i k. subst (λ (t : State). truth t.store (value_of_atom e t v) ≡ Some b) i.0 k) xs h s s w (refl, i))
