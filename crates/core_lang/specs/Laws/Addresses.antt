-- Laws of addresses: with a layout that keeps the objects of a program apart, each store of its runs is addressed, and each
-- value is one of its store.
-- No contract cites this file: it holds proofs.
use Rattle.std.proofs.Common.{◌≡◌, sym, ap, ◌∙◌, subst, ℕ, zero, suc, ◌+◌, ◌*◌, ◌≤◌, ◌<◌, ◌⊎◌, inl, inr, ⊎_elim, List, [], ◌∷◌, ◌++◌, length, arith, length-append}
use Rattle.std.proofs.Math.Nat.{suc-mul}
use Rattle.std.proofs.lemmas.Option.{slice_get_within}
use Rattle.std.specs.Prelude.{◌%◌, Option, Some, None, true, false, ◌/◌, ◌^◌, ◌==◌, if◌then◌else◌, take, drop, map, slice_get}
use Rattle.std.specs.Option.{option_map}
use Rattle.word_ops.specs.Store.{Value, Number, Pointer, Cell, Unset, Byte, Part, Region, Store, Shape, shape, shape_at, end_region, end_regions, refill_region}
use Rattle.word_ops.specs.Access.{load, write, pointer_in}
use Rattle.word_ops.specs.Values.{value_of_operation}
use Rattle.word_ops.specs.Addresses.{IsOffsetIn, IsValueIn, AreCellsIn, IsAddressed, AreNewTo}
use Rattle.word_ops.specs.Changes.{SameRegions, SameShapes}
use Rattle.word_ops.specs.Run.{Outside, next_word}
use Rattle.word_ops.specs.Laws.Lists.{slice_get-there, slice_get-append_some}
use Rattle.word_ops.specs.Laws.Regions.{shape_at-region, shape_at-some, change_region-at, end_regions-live, refill_region-shapes, SameRegions-refl, SameRegions-trans, SameRegions-append, SameRegions-ends, SameRegions-length, SameShapes-regions}
use Rattle.word_ops.specs.Laws.Accesses.{write-shapes}
use Rattle.word_ops.specs.Laws.Addresses.{AreCellsIn-append, AreCellsIn-take, AreCellsIn-drop, AreCellsIn-replicate, cells_from-in, load-in, IsAddressed-puts, IsAddressed-write, IsAddressed-refill, IsAddressed-ends, IsAddressed-append}
use Rattle.word_ops.specs.Laws.Values.{IsValueIn-same}
use Rattle.word_ops.specs.Laws.Words.{operation-in}
use Rattle.word_ops.specs.Laws.Runs.{next_word-in}
use Rattle.core_lang.specs.declared.act.Atom.{Atom}
use Rattle.core_lang.specs.declared.act.Atom.TheVariants as at
use Rattle.core_lang.specs.declared.act.Core.{Core, Row_of-Core, end_of-Core, more_of-Core}
use Rattle.core_lang.specs.declared.act.Core.TheVariants as c
use Rattle.core_lang.specs.declared.program.CoreFunction.{CoreFunction}
use Rattle.core_lang.specs.declared.program.Program.{Program}
use Rattle.core_lang.specs.Layout.{Layout}
use Rattle.core_lang.specs.State.{State, Activation, value_of_atom, values_of_atoms, assigned, argument}
use Rattle.core_lang.specs.Copying.{only_byte, cells_of_unit, in_units, copied}
use Rattle.core_lang.specs.Acts.{Invocation, Calls, Flow, Falls, Leaves, Returned, assign, with_store, value_of_pointers, act, acts}
use Rattle.core_lang.specs.Run.{local_regions, frame_of, activation_of, first_state, value_given_back, run_body, calls}
use Rattle.core_lang.specs.Following.{IsPlainAct, EachAct, EachInRow, EachOf, OnGives, OnReturned, KeepsState}
use Rattle.core_lang.specs.WellFormed.{targets, IsAtomIn, AreAtomsIn, IsActIn, IsRowIn, AreActsIn, IsWellFormed}
use Rattle.core_lang.specs.Addresses.{IsLayoutOf, IsFree, IsAligned, NoneLiveBehind, AreValuesIn, IsOptionIn, IsSound, KeepsAddresses, IsCallable}
use Rattle.core_lang.specs.Laws.Pointers.{pointers-in}
use Rattle.core_lang.specs.Laws.Locals.{local_regions-at, length-local_regions, local_regions-shape}
use Rattle.core_lang.specs.Laws.Keeping.{OnGives-then, OnGives-given, Kept, assign-keeps, with_store-keeps, put_value-keeps, exit_value-keeps, get-keeps, call-keeps, acts-keep}
use Rattle.core_lang.specs.Laws.Regions.{copied-some, copied-shapes, OnGives-branch}

-- ---- values

pub AreValuesIn-same : (s t : Store) (vs : List Value) → SameRegions s t → AreValuesIn s vs → AreValuesIn t vs
AreValuesIn-same s t [] h i = tt
AreValuesIn-same s t (v ∷ vs) h i = (IsValueIn-same s t v h i.0, AreValuesIn-same s t vs h i.1)

argument_in : (s : Store) (vs : List Value) (x : ℕ) → AreValuesIn s vs → IsValueIn s (argument vs x)
argument_in s [] x h = omega arith
argument_in s (v ∷ vs) zero h = h.0
argument_in s (v ∷ vs) (suc x) h = argument_in s vs x h.1

-- the start of an object that is there
start_in : (s : Store) (r : ℕ) → r < length s → IsValueIn s (Pointer r 0)
start_in s r lt =
    let g = slice_get-there s r lt in
    subst (λ z. IsOffsetIn z 0) (sym (shape_at-region s r g.0 g.1)) (omega arith)

-- an object keeps its size at the end of its lifetime
ended_in : (s : Store) (r : ℕ) (v : Value) → IsValueIn s v → IsValueIn (end_region s r) v
ended_in s r (Number n) h = h
ended_in s r (Pointer q o) h =
    ⊎_elim
    (λ e. subst (λ z. IsOffsetIn z o) (sym (ap (option_map shape) e)) h)
    (λ e. subst (λ z. IsOffsetIn z o) (sym (ap (option_map shape) e.1)) (go (slice_get s q) h))
    (change_region-at s r q (λ g. record g { live = false }))
  where
    go : (x : Option Region) → IsOffsetIn (option_map shape x) o →
        IsOffsetIn (option_map shape (option_map (λ (g : Region). record g { live = false }) x)) o
    go None h = absurd h
    go (Some g) h = h

pub IsValueIn-ends : (s : Store) (first count : ℕ) (v : Value) → IsValueIn s v → IsValueIn (end_regions s first count) v
IsValueIn-ends s first zero v h = h
IsValueIn-ends s first (suc count) v h =
    IsValueIn-ends (end_region s first) (first + 1) count v (ended_in s first v h)

IsOptionIn-ends : (s : Store) (first count : ℕ) (v : Option Value) → IsOptionIn s v →
    IsOptionIn (end_regions s first count) v
IsOptionIn-ends s first count None h = tt
IsOptionIn-ends s first count (Some v) h = IsValueIn-ends s first count v h

-- objects that are live are those of the first store, at multiples of 8
pub IsAligned-behind : (s t : Store) → NoneLiveBehind s t → IsAligned s → IsAligned t
IsAligned-behind s t h a r z e live = a r z (h r z e live) live

-- ---- cells

bytes_in : (s : Store) (cs : List Cell) → AreCellsIn s (map only_byte cs)
bytes_in s [] = tt
bytes_in s (Unset ∷ cs) = bytes_in s cs
bytes_in s (Byte b ∷ cs) = bytes_in s cs
bytes_in s (Part j r o ∷ cs) = bytes_in s cs

unit_in : (s : Store) (cs : List Cell) (v : Option Value) → AreCellsIn s cs → AreCellsIn s (cells_of_unit cs v)
unit_in s cs None h = bytes_in s cs
unit_in s cs (Some v) h = h

in_units_in : (s : Store) (n a : ℕ) (cs : List Cell) → AreCellsIn s cs → AreCellsIn s (in_units n a cs)
in_units_in s zero a cs h = tt
in_units_in s (suc n) a cs h =
    AreCellsIn-append s (cells_of_unit (take a cs) (pointer_in (take a cs))) (in_units n a (drop a cs)) (unit_in s (take a cs) (pointer_in (take a cs)) (AreCellsIn-take s a cs h)) (in_units_in s n a (drop a cs) (AreCellsIn-drop s a cs h))

pub IsAddressed-copied : (s t : Store) (p q : Value) (n a : ℕ) → copied s p q n a ≡ Some t → IsAddressed s → IsAddressed t
IsAddressed-copied s t p q n a e i =
    let h = copied-some s t p q n a e in
    IsAddressed-puts s t p a (in_units (n / a) a h.cells) h.target (in_units_in s (n / a) a h.cells (cells_from-in s q n a h.cells i h.source)) i

-- ---- acts that are well formed

-- an act, or an atom by which acts are chosen, that is well formed somewhere in a function
abbrev pub IsFormed : Program → CoreFunction → Core → Type 0
IsFormed p g a = (k : ℕ) × (ts : List ℕ) × IsActIn p g k ts a

abbrev pub IsFormedAtom : Program → CoreFunction → Atom → Type 0
IsFormedAtom p g v = (ts : List ℕ) × IsAtomIn p g ts v

module _ (p : Program) (g : CoreFunction) where
  mutual
    act_formed : (k : ℕ) (ts : List ℕ) (a : Core) → IsActIn p g k ts a → EachAct (IsFormed p g) (IsFormedAtom p g) a
    act_formed k ts (c.Block' n all) h = row_formed (suc k) ts all h
    act_formed k ts (c.Loop' n all) h = row_formed (suc k) ts all h
    act_formed k ts (c.If' v n first m second) h = ((ts, h.0), row_formed k ts first h.1, row_formed k ts second h.2)
    act_formed k ts (c.Move x v) h = (k, ts, h)
    act_formed k ts (c.Operate x op u v) h = (k, ts, h)
    act_formed k ts (c.Pointer x op u v) h = (k, ts, h)
    act_formed k ts (c.Load x d v) h = (k, ts, h)
    act_formed k ts (c.Store d u v) h = (k, ts, h)
    act_formed k ts (c.Enter x) h = (k, ts, h)
    act_formed k ts (c.Fill x) h = (k, ts, h)
    act_formed k ts (c.Copy u v n m) h = (k, ts, h)
    act_formed k ts (c.Call x f vs) h = (k, ts, h)
    act_formed k ts (c.Get x) h = (k, ts, h)
    act_formed k ts (c.Put v) h = (k, ts, h)
    act_formed k ts (c.Exit v) h = (k, ts, h)
    act_formed k ts (c.Break j) h = (k, ts, h)
    act_formed k ts (c.Return v) h = (k, ts, h)

    row_formed : (k : ℕ) (ts : List ℕ) {n : _} (r : Row_of-Core n) → IsRowIn p g k ts r →
        EachInRow (IsFormed p g) (IsFormedAtom p g) r
    row_formed k ts end_of-Core h = tt
    row_formed k ts (more_of-Core a rest) h = (act_formed k ts a h.0, row_formed k (targets a ++ ts) rest h.1)

  pub AreActsIn-each : (k : ℕ) (ts : List ℕ) (xs : List Core) → AreActsIn p g k ts xs →
      EachOf (IsFormed p g) (IsFormedAtom p g) xs
  AreActsIn-each k ts [] h = tt
  AreActsIn-each k ts (a ∷ xs) h = (act_formed k ts a h.0, AreActsIn-each k (targets a ++ ts) xs h.1)

module _ (l : Layout) (p : Program) (deepest : ℕ) (layout : IsLayoutOf l p deepest) (formed : IsWellFormed p) where
  -- ---- a call begins

  frame_fits : (depth : ℕ) (i : Invocation) (g : CoreFunction) → slice_get p.functions i.function ≡ Some g →
      IsCallable p layout.bottom layout.largest (suc depth) i →
      (layout.bottom + depth * layout.largest ≤ frame_of l i) × (frame_of l i + l.frame i.function ≡ i.stack)
  frame_fits depth i g there callable =
      let f = (layout.frame i.function g there).0 in
      let r : layout.bottom + (depth * layout.largest + layout.largest) ≤ i.stack = subst (λ n. layout.bottom + n ≤ i.stack) (suc-mul depth layout.largest) callable.room in
      (omega (arith, f, r), omega (arith, f, r))

  module _ (depth : ℕ) (i : Invocation) (g : CoreFunction) (there : slice_get p.functions i.function ≡ Some g) (callable : IsCallable p layout.bottom layout.largest (suc depth) i) where
    -- each local object lies between the frame's beginning and its end
    local_is : (x : ℕ) (z : Shape) → shape_at (local_regions (λ k. frame_of l i + l.local i.function k) 0 g.locals) x ≡ Some z →
        (n : ℕ) × (slice_get g.locals x ≡ Some n) × (z.size ≡ n) × (z.address ≡ frame_of l i + l.local i.function x) × (frame_of l i + l.local i.function x + n + 8 ≤ i.stack) × (l.local i.function x % 8 ≡ 0)
    local_is x z e =
        let h = local_regions-shape (λ k. frame_of l i + l.local i.function k) g.locals x z e in
        let f = layout.local i.function g x h.0 there h.1 in
        (h.0, h.1, ap (λ (z : Shape). z.size) h.2, ap (λ (z : Shape). z.address) h.2, omega (arith, f.0, (frame_fits depth i g there callable).1), f.1)

    abbrev locals : Store
    locals = local_regions (λ k. frame_of l i + l.local i.function k) 0 g.locals

    abbrev first : State
    first = first_state l i g

    above_bottom : layout.bottom ≤ frame_of l i
    above_bottom = omega (arith, (frame_fits depth i g there callable).0)

    below_stack : frame_of l i ≤ i.stack
    below_stack = omega (arith, (frame_fits depth i g there callable).1)

    locals_new : AreNewTo i.store locals
    locals_new = record {
      bounds = λ x z e. let h = local_is x z e in (omega (arith, h.3, above_bottom, layout.above_zero), omega (arith, h.2, h.3, h.4, callable.top));
      apart = λ x y u v eu ev lu lv ne.
          let a = local_is x u eu in
          let b = local_is y v ev in
          ⊎_elim (λ k. inl (omega (arith, a.2, a.3, b.3, k))) (λ k. inr (omega (arith, b.2, a.3, b.3, k))) (layout.local_apart i.function g x y a.0 b.0 there a.1 b.1 ne);
      beside = λ r x y z ey ez ly lz.
          let h = local_is x z ez in
          ⊎_elim (λ k. inl (omega (arith, k, h.3, above_bottom))) (λ k. inr (omega (arith, k, h.2, h.3, h.4))) (callable.free r y ey ly);
      pointers = λ x k e.
          let h = local_regions-at (λ k. frame_of l i + l.local i.function k) 0 g.locals x k e in
          subst (λ (k : Region). AreCellsIn (i.store ++ locals) k.cells) (sym h.2) (AreCellsIn-replicate (i.store ++ locals) h.0 Unset tt);
    }

    -- a region of the first store was there before, or is a local object
    where_first : (r : ℕ) (z : Shape) → shape_at first.store r ≡ Some z →
        (shape_at i.store r ≡ Some z) ⊎ ((x : ℕ) × (r ≡ length i.store + x) × (x < length g.locals) × (shape_at locals x ≡ Some z))
    where_first r z e =
        let k = shape_at-some first.store r z e in
        ⊎_elim
        (λ a. inl (shape_at-region i.store r k.0 a ∙ ap Some k.2))
        (λ b. inr (b.0, b.1, omega (arith, slice_get_within locals b.0 k.0 b.2, length-local_regions (λ k. frame_of l i + l.local i.function k) 0 g.locals), shape_at-region locals b.0 k.0 b.2 ∙ ap Some k.2))
        (slice_get-append_some i.store locals r k.0 k.1)

    frame_aligned : frame_of l i % 8 ≡ 0
    frame_aligned =
        let f = (layout.frame i.function g there).1 in
        let b = (frame_fits depth i g there callable).1 in
        let s = callable.stack_aligned in omega (arith, f, b, s)

    first_aligned : IsAligned first.store
    first_aligned r z e live =
        ⊎_elim
        (λ a. callable.aligned r z a live)
        (λ b.
        let h = local_is b.0 z b.3 in
        let a = h.3 in
        let c = h.5 in
        let d = frame_aligned in omega (arith, a, c, d))
        (where_first r z e)

    pub first_sound : IsSound first.store first
    first_sound =
        record { addressed = IsAddressed-append i.store locals locals_new callable.addressed; values = λ x. IsValueIn-same i.store (i.store ++ locals) (argument i.arguments x) (SameRegions-append i.store locals) (argument_in i.store i.arguments x callable.arguments); regions = SameRegions-refl first.store; live = λ r z e live. e; aligned = first_aligned }

    first_length : length first.store ≡ length i.store + length g.locals
    first_length =
        length-append i.store locals ∙ ap (λ n. length i.store + n) (length-local_regions (λ k. frame_of l i + l.local i.function k) 0 g.locals)

    -- ---- the called function ends

    pub ends_sound : (s : State) (v : Option Value) → IsSound first.store s → IsOptionIn s.store v →
        KeepsAddresses i.store (end_regions s.store (length i.store) (length g.locals)) v
    ends_sound s v h k =
        record { addressed = IsAddressed-ends s.store (length i.store) (length g.locals) h.addressed; aligned = IsAligned-behind i.store (end_regions s.store (length i.store) (length g.locals)) none callable.aligned; value = IsOptionIn-ends s.store (length i.store) (length g.locals) v k; regions = SameRegions-ends i.store s.store (length i.store) (length g.locals) (omega arith) (SameRegions-trans i.store first.store s.store (SameRegions-append i.store locals) h.regions); live = none }
      where
        none : NoneLiveBehind i.store (end_regions s.store (length i.store) (length g.locals))
        none r z e live =
            let x = shape_at-some (end_regions s.store (length i.store) (length g.locals)) r z e in
            let m = end_regions-live s.store (length i.store) (length g.locals) r x.0 x.1 (ap (λ (z : Shape). z.live) x.2 ∙ live) in
            ⊎_elim (λ a. a) (λ b. absurd (m.0 (omega (arith, b.1)) (omega (arith, b.1, b.2)))) (where_first r z (h.live r z (shape_at-region s.store r x.0 m.1 ∙ ap Some x.2) live))

    -- ---- a call that the function makes

    pub free_below : (s : State) → IsSound first.store s → IsFree layout.bottom (frame_of l i) s.store
    free_below s h r z e live =
        ⊎_elim
        (λ a. ⊎_elim (λ k. inl k) (λ k. inr (omega (arith, k, below_stack))) (callable.free r z a live))
        (λ b. inr (omega (arith, (local_is b.0 z b.3).3)))
        (where_first r z (h.live r z e live))

    state_length : (s : State) → IsSound first.store s → length i.store + length g.locals ≤ length s.store
    state_length s h = omega (arith, first_length, SameRegions-length first.store s.store h.regions)

    pub callee : (s : State) (f : ℕ) (vs : List Value) → IsSound first.store s → AreValuesIn s.store vs →
        IsCallable p layout.bottom layout.largest depth (record { function = f; arguments = vs; stack = frame_of l i; store = s.store })
    callee s f vs h k = record {
      addressed = h.addressed;
      arguments = k;
      static = omega (arith, callable.static, state_length s h);
      free = free_below s h;
      room = (frame_fits depth i g there callable).0;
      top = omega (arith, below_stack, callable.top);
      aligned = h.aligned;
      stack_aligned = frame_aligned;
    }

    -- ---- the acts of the called function

    abbrev here : Activation
    here = activation_of l i

    pub atom_in : (s : State) (ts : List ℕ) (v : Atom) → IsSound first.store s → IsAtomIn p g ts v →
        IsValueIn s.store (value_of_atom here s v)
    atom_in s ts (at.Var x) h k = h.values x
    atom_in s ts (at.Word n) h k = k
    atom_in s ts (at.Global x) h k = start_in s.store x (omega (arith, k, callable.static, state_length s h))
    atom_in s ts (at.Local x) h k = start_in s.store (length i.store + x) (omega (arith, k, state_length s h))

    atoms_in : (s : State) (ts : List ℕ) (vs : List Atom) → IsSound first.store s → AreAtomsIn p g ts vs →
        AreValuesIn s.store (values_of_atoms here s vs)
    atoms_in s ts [] h k = tt
    atoms_in s ts (v ∷ vs) h k = (atom_in s ts v h k.0, atoms_in s ts vs h k.1)

    abbrev Given : State → Option Value → Type 0
    Given s v = IsOptionIn s.store v

    assigned_sound : (x : ℕ) (v : Value) (s : State) → IsSound first.store s → IsValueIn s.store v →
        IsSound first.store (assigned s x v)
    assigned_sound x v s h k = record { addressed = h.addressed; values = vars; regions = h.regions; live = h.live; aligned = h.aligned }
      where
        vars : (y : ℕ) → IsValueIn s.store (if y == x then v else s.vars y)
        vars y = elim (y == x) as (λ b. IsValueIn s.store (if b then v else s.vars y)) [ true ↦ k | false ↦ h.values y ]

    assign_sound : (x : ℕ) (o : Option Value) (s : State) (w : Outside) → IsSound first.store s →
        ((v : Value) → o ≡ Some v → IsValueIn s.store v) → OnGives (Kept (IsSound first.store) Given) (assign x o s w)
    assign_sound x o s w h k =
        assign-keeps (IsSound first.store) Given x o s w (λ v q. assigned_sound x v s h (k v q))

    stored_sound : (t : Store) (s : State) → IsSound first.store s → SameShapes s.store t → IsAddressed t →
        IsSound first.store (record s { store = t })
    stored_sound t s h k a =
        record { aligned = λ r z q live. h.aligned r z (sym (k r) ∙ q) live; addressed = a; values = λ x. IsValueIn-same s.store t (s.vars x) (SameShapes-regions s.store t k) (h.values x); regions = SameRegions-trans first.store s.store t h.regions (SameShapes-regions s.store t k); live = λ r z q live. h.live r z (sym (k r) ∙ q) live }

    with_store_sound : (o : Option Store) (s : State) (w : Outside) → IsSound first.store s →
        ((t : Store) → o ≡ Some t → SameShapes s.store t × IsAddressed t) →
        OnGives (Kept (IsSound first.store) Given) (with_store o s w)
    with_store_sound o s w h k =
        with_store-keeps (IsSound first.store) Given o s w (λ t q. stored_sound t s h (k t q).0 (k t q).1)

    called_sound : (t : Store) (v : Option Value) (s : State) → IsSound first.store s → KeepsAddresses s.store t v →
        IsSound first.store (record s { store = t })
    called_sound t v s h m =
        record { aligned = m.aligned; addressed = m.addressed; values = λ x. IsValueIn-same s.store t (s.vars x) m.regions (h.values x); regions = SameRegions-trans first.store s.store t h.regions m.regions; live = λ r z q live. h.live r z (m.live r z q live) live }

    next_word_small : (xs : List ℕ) → next_word xs < 2 ^ 32
    next_word_small xs = ⊎_elim (λ a. omega (arith, a)) (λ b. omega (arith, b)) (next_word-in xs)

    module _ (call : Calls) (sound : (i : Invocation) (w : Outside) → IsCallable p layout.bottom layout.largest depth i → OnGives (KeepsAddresses i.store) (call i w)) where
      pub plain_sound : (a : Core) → IsPlainAct a → IsFormed p g a →
          KeepsState (IsSound first.store) Given (act call here a)
      plain_sound (c.Move x v) q f s w h =
          (assigned_sound x (value_of_atom here s v) s h (atom_in s f.1 v h f.2.1), tt)
      plain_sound (c.Operate x op u v) q f s w h =
          assign_sound x (value_of_operation s.store op (value_of_atom here s u) (value_of_atom here s v)) s w h (λ y d. operation-in s.store op (value_of_atom here s u) (value_of_atom here s v) y (atom_in s f.1 u h f.2.1) (atom_in s f.1 v h f.2.2) d)
      plain_sound (c.Pointer x op u v) q f s w h =
          assign_sound x (value_of_pointers s.store op (value_of_atom here s u) (value_of_atom here s v)) s w h (λ y d. pointers-in s.store op (value_of_atom here s u) (value_of_atom here s v) y (atom_in s f.1 u h f.2.1) (atom_in s f.1 v h f.2.2) d)
      plain_sound (c.Load x k v) q f s w h =
          assign_sound x (load s.store k (value_of_atom here s v)) s w h (λ y d. load-in s.store k (value_of_atom here s v) y h.addressed d)
      plain_sound (c.Store k u v) q f s w h =
          with_store_sound (write s.store k (value_of_atom here s u) (value_of_atom here s v)) s w h (λ t d. (write-shapes s.store t k (value_of_atom here s u) (value_of_atom here s v) d, IsAddressed-write s.store t k (value_of_atom here s u) (value_of_atom here s v) d (atom_in s f.1 v h f.2.1) h.addressed))
      plain_sound (c.Enter x) q f s w h =
          (stored_sound (refill_region s.store (length i.store + x) Unset) s h (refill_region-shapes s.store (length i.store + x) Unset) (IsAddressed-refill s.store (length i.store + x) Unset tt h.addressed), tt)
      plain_sound (c.Fill x) q f s w h =
          (stored_sound (refill_region s.store (length i.store + x) (Byte 0)) s h (refill_region-shapes s.store (length i.store + x) (Byte 0)) (IsAddressed-refill s.store (length i.store + x) (Byte 0) tt h.addressed), tt)
      plain_sound (c.Copy u v n k) q f s w h =
          with_store_sound (copied s.store (value_of_atom here s u) (value_of_atom here s v) n k) s w h (λ t d. (copied-shapes s.store t (value_of_atom here s u) (value_of_atom here s v) n k d, IsAddressed-copied s.store t (value_of_atom here s u) (value_of_atom here s v) n k d h.addressed))
      plain_sound (c.Call x f vs) q m s w h =
          call-keeps (IsSound first.store) Given call here x f vs s w (KeepsAddresses s.store) (λ w. sound _ w (callee s f (values_of_atoms here s vs) h (atoms_in s m.1 vs h m.2.2))) (λ t v y. called_sound t v s h y) (λ t y v a k j. assigned_sound y v (record s { store = t }) j k.value)
      plain_sound (c.Get x) q f s w h =
          get-keeps (IsSound first.store) Given x s w (assigned_sound x (Number (next_word w.input)) s h (next_word_small w.input))
      plain_sound (c.Put v) q f s w h = put_value-keeps (IsSound first.store) Given (value_of_atom here s v) s w h
      plain_sound (c.Exit v) q f s w h = exit_value-keeps (IsSound first.store) Given (value_of_atom here s v) s w
      plain_sound (c.Block' n all) q f s w h = absurd q
      plain_sound (c.Loop' n all) q f s w h = absurd q
      plain_sound (c.Break k) q f s w h = (h, tt)
      plain_sound (c.If' v n one m two) q f s w h = absurd q
      plain_sound (c.Return None) q f s w h = (h, tt)
      plain_sound (c.Return (Some v)) q f s w h = (h, atom_in s f.1 v h f.2)

      given_back : (s : State) (f : Flow) → OnReturned (IsOptionIn s.store) f → IsOptionIn s.store (value_given_back f)
      given_back s Falls h = tt
      given_back s (Leaves k) h = tt
      given_back s (Returned v) h = h

      -- acts of the function that are well formed keep all this
      pub acts-sound : (k : ℕ) (ts : List ℕ) (xs : List Core) → AreActsIn p g k ts xs →
          KeepsState (IsSound first.store) Given (acts call here xs)
      acts-sound k ts xs h =
          acts-keep (IsSound first.store) Given call here (IsFormed p g) (IsFormedAtom p g) plain_sound xs (AreActsIn-each p g k ts xs h)

      body_sound : (w : Outside) → OnGives (KeepsAddresses i.store) (run_body l call i g w)
      body_sound w =
          OnGives-then (Kept (IsSound first.store) Given) (KeepsAddresses i.store) (acts call here g.body first w) _ (acts-sound 0 [] g.body (formed.functions i.function g there).body first w first_sound) (λ s w f h. ends_sound s (value_given_back f) h.0 (given_back s f h.1))

  -- a call that may be made keeps addresses, gives a value of the store, and leaves no further region live
  pub calls-sound : (depth : ℕ) (i : Invocation) (w : Outside) → IsCallable p layout.bottom layout.largest depth i →
      OnGives (KeepsAddresses i.store) (calls l p.functions depth i w)
  calls-sound zero i w h = tt
  calls-sound (suc depth) i w h =
      OnGives-given (KeepsAddresses i.store) (slice_get p.functions i.function) _ (λ g q. OnGives-branch (KeepsAddresses i.store) (length i.arguments == g.params) _ _ i.store w (λ y. body_sound depth i g q h (calls l p.functions depth) (calls-sound depth) w) (λ y. tt))
