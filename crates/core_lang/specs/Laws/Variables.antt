-- Laws of variables: what an assignment changes, and that acts change no variable that they do not assign.
-- No contract cites this file: it holds proofs.
use Rattle.std.proofs.Common.{◌≡◌, ◌≢◌, refl, ap, ◌∙◌, subst, ℕ, zero, suc, ◌+◌, ◌≤◌, ⊎_elim, List, [], ◌∷◌, length, arith}
use Rattle.std.proofs.lemmas.Bool.Decides.{eqb_tells}
use Rattle.std.proofs.lemmas.Option.{none-some, same_Some}
use Rattle.std.specs.Prelude.{Option, Some, None, ◌==◌, if◌then◌else◌, map, slice_get}
use Rattle.word_ops.specs.Word.{number_of_truth}
use Rattle.word_ops.specs.Store.{Value, Number}
use Rattle.word_ops.specs.Access.{load, write}
use Rattle.word_ops.specs.Values.{value_of_operation}
use Rattle.word_ops.specs.Run.{Outside, next_word}
use Rattle.core_lang.specs.declared.act.Atom.{Atom}
use Rattle.core_lang.specs.declared.act.Core.{Core, Row_of-Core, end_of-Core, more_of-Core}
use Rattle.core_lang.specs.declared.act.Core.TheVariants as c
use Rattle.core_lang.specs.State.{State, Activation, value_of_atom, values_of_atoms, assigned, argument}
use Rattle.core_lang.specs.Copying.{copied}
use Rattle.core_lang.specs.Acts.{Calls, assign, value_of_pointers, act, acts}
use Rattle.core_lang.specs.Following.{IsPlainAct, EachAct, EachInRow, EachOf, OnGives, KeepsState}
use Rattle.core_lang.specs.WellFormed.{targets, occurrences, places_in_act, places_in_row, places_in}
use Rattle.core_lang.specs.Laws.Keeping.{OnGives-any, OnGives-more, Kept, assign-keeps, with_store-keeps, put_value-keeps, exit_value-keeps, get-keeps, call-keeps, acts-keep}

-- ---- assignments

pub assigned-same : (s : State) (x : ℕ) (v : Value) → (assigned s x v).vars x ≡ v
assigned-same s x v =
    ⊎_elim (λ e. ap (λ b. if b then v else s.vars x) e.0) (λ n. absurd (n.1 refl)) (eqb_tells x x)

pub assigned-other : (s : State) (x y : ℕ) (v : Value) → y ≢ x → (assigned s x v).vars y ≡ s.vars y
assigned-other s x y v ne =
    ⊎_elim (λ e. absurd (ne e.1)) (λ n. ap (λ b. if b then v else s.vars y) n.0) (eqb_tells y x)

-- ---- arguments

pub argument-get : (vs : List Value) (x : ℕ) (v : Value) → slice_get vs x ≡ Some v → argument vs x ≡ v
argument-get [] x v e = absurd (none-some v e)
argument-get (u ∷ vs) zero v e = same_Some u v e
argument-get (u ∷ vs) (suc x) v e = argument-get vs x v e

pub argument-past : (vs : List Value) (x : ℕ) → length vs ≤ x → argument vs x ≡ Number 0
argument-past [] x le = refl
argument-past (u ∷ vs) zero le = absurd (omega (arith, le))
argument-past (u ∷ vs) (suc x) le = argument-past vs x (omega (arith, le))

pub values_of_atoms-map : (e : Activation) (s : State) (vs : List Atom) →
    values_of_atoms e s vs ≡ map (value_of_atom e s) vs
values_of_atoms-map e s [] = refl
values_of_atoms-map e s (v ∷ vs) = ap (λ l. value_of_atom e s v ∷ l) (values_of_atoms-map e s vs)

pub length-values_of_atoms : (e : Activation) (s : State) (vs : List Atom) → length (values_of_atoms e s vs) ≡ length vs
length-values_of_atoms e s [] = refl
length-values_of_atoms e s (v ∷ vs) = ap suc (length-values_of_atoms e s vs)

-- ---- what acts do not assign

-- an act does not assign a number itself
abbrev pub IsNoTarget : ℕ → Core → Type 0
IsNoTarget x a = occurrences x (targets a) ≡ 0

left_none : (a b : ℕ) → a + b ≡ 0 → a ≡ 0
left_none a b e = omega (arith, e)

right_none : (a b : ℕ) → a + b ≡ 0 → b ≡ 0
right_none a b e = omega (arith, e)

module _ (x : ℕ) where
  mutual
    no_place_act : (a : Core) → places_in_act x a ≡ 0 → EachAct (IsNoTarget x) (λ v. Unit {0}) a
    no_place_act (c.Block' n all) h = no_place_row all h
    no_place_act (c.Loop' n all) h = no_place_row all h
    no_place_act (c.If' v n first m second) h =
        (tt, no_place_row first (left_none (places_in_row x first) (places_in_row x second) h), no_place_row second (right_none (places_in_row x first) (places_in_row x second) h))
    no_place_act (c.Move y v) h = h
    no_place_act (c.Operate y op u v) h = h
    no_place_act (c.Pointer y op u v) h = h
    no_place_act (c.Load y k p) h = h
    no_place_act (c.Store k p v) h = h
    no_place_act (c.Enter y) h = h
    no_place_act (c.Fill y) h = h
    no_place_act (c.Copy u v n k) h = h
    no_place_act (c.Call y f vs) h = h
    no_place_act (c.Get y) h = h
    no_place_act (c.Put v) h = h
    no_place_act (c.Exit v) h = h
    no_place_act (c.Break k) h = h
    no_place_act (c.Return v) h = h

    no_place_row : {n : _} (r : Row_of-Core n) → places_in_row x r ≡ 0 → EachInRow (IsNoTarget x) (λ v. Unit {0}) r
    no_place_row end_of-Core h = tt
    no_place_row (more_of-Core a rest) h =
        (no_place_act a (left_none (places_in_act x a) (places_in_row x rest) h), no_place_row rest (right_none (places_in_act x a) (places_in_row x rest) h))

  pub no_place : (xs : List Core) → places_in x xs ≡ 0 → EachOf (IsNoTarget x) (λ v. Unit {0}) xs
  no_place [] h = tt
  no_place (a ∷ xs) h =
      (no_place_act a (left_none (places_in_act x a) (places_in x xs) h), no_place xs (right_none (places_in_act x a) (places_in x xs) h))

  module _ (call : Calls) (e : Activation) (u : Value) where
    -- the variable has this value
    abbrev Has : State → Type 0
    Has s = s.vars x ≡ u

    not_target : (y : ℕ) → occurrences x (y ∷ []) ≡ 0 → x ≢ y
    not_target y h q = ⊎_elim (λ t. one (ap number_of_truth t.0) h) (λ n. n.1 q) (eqb_tells x y)
      where
        one : number_of_truth (x == y) ≡ 1 → number_of_truth (x == y) + 0 ≡ 0 → ⊥
        one a b = omega (arith, a, b)

    assigned_has : (y : ℕ) (v : Value) (s : State) → occurrences x (y ∷ []) ≡ 0 → Has s → Has (assigned s y v)
    assigned_has y v s h i = assigned-other s y x v (not_target y h) ∙ i

    abbrev Nothing : State → Option Value → Type 0
    Nothing s v = Unit {0}

    -- what was given is assigned to another variable
    assign_has : (y : ℕ) (o : Option Value) (s : State) (w : Outside) → occurrences x (y ∷ []) ≡ 0 → Has s →
        OnGives (Kept Has Nothing) (assign y o s w)
    assign_has y o s w h i = assign-keeps Has Nothing y o s w (λ v e. assigned_has y v s h i)

    result_not : (y : Option ℕ) (f : ℕ) (vs : List Atom) → IsNoTarget x (c.Call y f vs) → (z : ℕ) → y ≡ Some z →
        occurrences x (z ∷ []) ≡ 0
    result_not None f vs h z e = absurd (none-some z e)
    result_not (Some y) f vs h z e = subst (λ z. occurrences x (z ∷ []) ≡ 0) (same_Some y z e) h

    plain_has : (a : Core) → IsPlainAct a → IsNoTarget x a → KeepsState Has Nothing (act call e a)
    plain_has (c.Move y v) p h s w i = (assigned_has y (value_of_atom e s v) s h i, tt)
    plain_has (c.Operate y op a b) p h s w i =
        assign_has y (value_of_operation s.store op (value_of_atom e s a) (value_of_atom e s b)) s w h i
    plain_has (c.Pointer y op a b) p h s w i =
        assign_has y (value_of_pointers s.store op (value_of_atom e s a) (value_of_atom e s b)) s w h i
    plain_has (c.Load y k a) p h s w i = assign_has y (load s.store k (value_of_atom e s a)) s w h i
    plain_has (c.Store k a b) p h s w i =
        with_store-keeps Has Nothing (write s.store k (value_of_atom e s a) (value_of_atom e s b)) s w (λ t q. i)
    plain_has (c.Enter y) p h s w i = (i, tt)
    plain_has (c.Fill y) p h s w i = (i, tt)
    plain_has (c.Copy a b n k) p h s w i =
        with_store-keeps Has Nothing (copied s.store (value_of_atom e s a) (value_of_atom e s b) n k) s w (λ t q. i)
    plain_has (c.Call y f vs) p h s w i =
        call-keeps Has Nothing call e y f vs s w (λ t v. Unit {0}) (λ w. OnGives-any (call _ w)) (λ t v m. i) (λ t z v q m j. assigned_has z v (record s { store = t }) (result_not y f vs h z q) j)
    plain_has (c.Get y) p h s w i =
        get-keeps Has Nothing y s w (assigned_has y (Number (next_word w.input)) s h i)
    plain_has (c.Put v) p h s w i = put_value-keeps Has Nothing (value_of_atom e s v) s w i
    plain_has (c.Exit v) p h s w i = exit_value-keeps Has Nothing (value_of_atom e s v) s w
    plain_has (c.Block' n all) p h s w i = absurd p
    plain_has (c.Loop' n all) p h s w i = absurd p
    plain_has (c.Break k) p h s w i = (i, tt)
    plain_has (c.If' v n first m second) p h s w i = absurd p
    plain_has (c.Return None) p h s w i = (i, tt)
    plain_has (c.Return (Some v)) p h s w i = (i, tt)

-- acts leave the value of each variable that they assign in no place
pub acts-unassigned : (call : Calls) (e : Activation) (x : ℕ) (xs : List Core) → places_in x xs ≡ 0 → (s : State)
    (w : Outside) → OnGives (λ (t : State) f. t.vars x ≡ s.vars x) (acts call e xs s w)
acts-unassigned call e x xs h s w =
    OnGives-more _ (λ (t : State) f. t.vars x ≡ s.vars x) (acts call e xs s w) (acts-keep (λ t. t.vars x ≡ s.vars x) (λ s v. Unit {0}) call e (IsNoTarget x) (λ v. Unit {0}) (plain_has x call e (s.vars x)) xs (no_place x xs h) s w refl) (λ t f h. h.0)
