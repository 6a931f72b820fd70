-- Laws of layouts: the meaning of a program never reads an address, so each layout gives it the same outcome.
-- No contract cites this file: it holds proofs.
use Rattle.std.proofs.Common.{◌≡◌, refl, sym, ap, ◌∙◌, subst, ℕ, zero, suc, ◌+◌, List, [], ◌∷◌, ◌++◌, length}
use Rattle.std.proofs.lemmas.List.{map-append, length-map}
use Rattle.std.proofs.lemmas.Option.{none-some, same_Some, slice_get-map}
use Rattle.std.specs.Prelude.{Option, Some, None, Bool, true, false, not, ◌&&◌, ◌||◌, ◌/◌, ◌==◌, if◌then◌else◌, map, slice_get, slice_set}
use Rattle.std.specs.Option.{option_map, option_and_then}
use Rattle.word_ops.specs.declared.operation.Op.{Op}
use Rattle.word_ops.specs.declared.operation.Op.TheVariants.{Add, Sub, Eq, Ne, Ltu, Leu}
use Rattle.word_ops.specs.declared.operation.Width.{Width}
use Rattle.word_ops.specs.Choice.{only_if, when}
use Rattle.word_ops.specs.Store.{Value, Number, Pointer, Cell, Unset, Byte, Region, Store, Shape, shape, shape_at, is_live, new_region, unset_cells, zero_cells, change_found, change_region, end_region, end_regions, refill_region}
use Rattle.word_ops.specs.Access.{bytes_of, decode, encode, may_access, cells_in, cells_from, load, with_cells, put_in, put_cells, is_constant_in, is_constant, initialise, write}
use Rattle.word_ops.specs.Values.{of_pointer_and_number, of_number_and_pointer, of_pointers, value_of_operation, truth, is_pointer, is_pointer_or_null}
use Rattle.word_ops.specs.Run.{Outside, Run, Gives, Undefined, branch, next_word}
use Rattle.word_ops.specs.Outcome.{Outcome, start}
use Rattle.word_ops.specs.Following.{Follows, SameStatus, Never}
use Rattle.word_ops.specs.Laws.Runs.{Follows-then, Follows-given_both, Follows-tick, Follows-put_byte, Follows-main, Follows-outcome}
use Rattle.core_lang.specs.declared.act.Atom.{Atom}
use Rattle.core_lang.specs.declared.act.Atom.TheVariants as at
use Rattle.core_lang.specs.declared.act.PointerOp.{PointerOp}
use Rattle.core_lang.specs.declared.act.PointerOp.TheVariants.{Offset, Difference, Equal, Before, AtMost}
use Rattle.core_lang.specs.declared.act.Core.{Core}
use Rattle.core_lang.specs.declared.act.Core.TheVariants as c
use Rattle.core_lang.specs.declared.program.CoreFunction.{CoreFunction}
use Rattle.core_lang.specs.declared.program.Part.{Part}
use Rattle.core_lang.specs.declared.program.Program.{Program}
use Rattle.core_lang.specs.declared.program.StaticObject.{StaticObject}
use Rattle.core_lang.specs.Layout.{Layout}
use Rattle.core_lang.specs.State.{State, Activation, value_of_atom, values_of_atoms, assigned, argument}
use Rattle.core_lang.specs.Copying.{in_units, overlap_in_part, copied}
use Rattle.core_lang.specs.Acts.{Invocation, Calls, Flow, Falls, Leaves, Returned, assign, assign_result, with_store, value_of_pointers, put_value, exit_value, act, acts}
use Rattle.core_lang.specs.Run.{local_regions, frame_of, activation_of, first_state, value_given_back, run_body, calls, cells_of_start, with_parts, static_region, static_regions, first_call, program_from, run_of_core}
use Rattle.core_lang.specs.Following.{FlowsAlike, EndAlike, IsPlainAct}
use Rattle.core_lang.specs.Laws.Following.{acts-alike}
use Rattle.core_lang.specs.Laws.Keeping.{each_of}

-- ---- stores without addresses

abbrev pub without_address : Region → Region
without_address g = record g { address = 0 }

abbrev pub without_addresses : Store → Store
without_addresses s = map without_address s

abbrev shape_without : Shape → Shape
shape_without z = record z { address = 0 }

only_if-map : {A B : Type 0} (f : A → B) (b : Bool) (a : A) → only_if b (f a) ≡ option_map f (only_if b a)
only_if-map f true a = refl
only_if-map f false a = refl

when-map : {A B : Type 0} (f : A → B) (b : Bool) (o : Option A) → when b (option_map f o) ≡ option_map f (when b o)
when-map f true o = refl
when-map f false o = refl

-- ---- operations

shape_at-without : (s : Store) (r : ℕ) → shape_at (without_addresses s) r ≡ option_map shape_without (shape_at s r)
shape_at-without s r = ap (option_map shape) (slice_get-map without_address s r) ∙ go (slice_get s r)
  where
    go : (x : Option Region) → option_map shape (option_map without_address x) ≡ option_map shape_without (option_map shape x)
    go None = refl
    go (Some g) = refl

pointer_number_without : (z : Option Shape) (op : Op) (r o n : ℕ) →
    of_pointer_and_number (option_map shape_without z) op r o n ≡ of_pointer_and_number z op r o n
pointer_number_without None Add r o n = refl
pointer_number_without (Some z) Add r o n = refl
pointer_number_without None Sub r o n = refl
pointer_number_without (Some z) Sub r o n = refl
pointer_number_without None Eq r o n = refl
pointer_number_without (Some z) Eq r o n = refl
pointer_number_without None Ne r o n = refl
pointer_number_without (Some z) Ne r o n = refl
pointer_number_without z _ r o n = refl

number_pointer_without : (z : Option Shape) (op : Op) (n r o : ℕ) →
    of_number_and_pointer (option_map shape_without z) op n r o ≡ of_number_and_pointer z op n r o
number_pointer_without None Add n r o = refl
number_pointer_without (Some z) Add n r o = refl
number_pointer_without None Eq n r o = refl
number_pointer_without (Some z) Eq n r o = refl
number_pointer_without None Ne n r o = refl
number_pointer_without (Some z) Ne n r o = refl
number_pointer_without z _ n r o = refl

live_without : (z : Option Shape) → is_live (option_map shape_without z) ≡ is_live z
live_without None = refl
live_without (Some z) = refl

pointers_without : (y z : Option Shape) (op : Op) (r o q p : ℕ) →
    of_pointers (option_map shape_without y) (option_map shape_without z) op r o q p ≡ of_pointers y z op r o q p
pointers_without y z Sub r o q p = rw (live_without y) refl
pointers_without y z Ltu r o q p = rw (live_without y) refl
pointers_without y z Leu r o q p = rw (live_without y) refl
pointers_without y z Eq r o q p = rw (live_without y, live_without z) refl
pointers_without y z Ne r o q p = rw (live_without y, live_without z) refl
pointers_without y z _ r o q p = refl

pub operation-without : (s : Store) (op : Op) (x y : Value) →
    value_of_operation (without_addresses s) op x y ≡ value_of_operation s op x y
operation-without s op (Number a) (Number b) = refl
operation-without s op (Pointer r o) (Number b) =
    ap (λ z. of_pointer_and_number z op r o b) (shape_at-without s r) ∙ pointer_number_without (shape_at s r) op r o b
operation-without s op (Number a) (Pointer q p) =
    ap (λ z. of_number_and_pointer z op a q p) (shape_at-without s q) ∙ number_pointer_without (shape_at s q) op a q p
operation-without s op (Pointer r o) (Pointer q p) =
    ap (λ y. of_pointers y (shape_at (without_addresses s) q) op r o q p) (shape_at-without s r)
    ∙ ap (λ z. of_pointers (option_map shape_without (shape_at s r)) z op r o q p) (shape_at-without s q)
    ∙ pointers_without (shape_at s r) (shape_at s q) op r o q p

pub pointers-without : (s : Store) (op : PointerOp) (x y : Value) →
    value_of_pointers (without_addresses s) op x y ≡ value_of_pointers s op x y
pointers-without s Offset x y = ap (when (is_pointer x && not (is_pointer y))) (operation-without s Add x y)
pointers-without s Difference x y = ap (when (is_pointer x && is_pointer y)) (operation-without s Sub x y)
pointers-without s Equal x y = ap (when (is_pointer_or_null x && is_pointer_or_null y)) (operation-without s Eq x y)
pointers-without s Before x y = ap (when (is_pointer x && is_pointer y)) (operation-without s Ltu x y)
pointers-without s AtMost x y = ap (when (is_pointer x && is_pointer y)) (operation-without s Leu x y)

pub truth-without : (s : Store) (v : Value) → truth (without_addresses s) v ≡ truth s v
truth-without s (Number n) = refl
truth-without s (Pointer r o) =
    ap (λ z. only_if (is_live z) true) (shape_at-without s r) ∙ ap (λ b. only_if b true) (live_without (shape_at s r))

-- ---- loads and stores

pub cells_from-without : (s : Store) (p : Value) (n a : ℕ) → cells_from (without_addresses s) p n a ≡ cells_from s p n a
cells_from-without s (Number m) n a = refl
cells_from-without s (Pointer r o) n a =
    ap (λ x. cells_in x n a o) (slice_get-map without_address s r) ∙ go (slice_get s r)
  where
    go : (x : Option Region) → cells_in (option_map without_address x) n a o ≡ cells_in x n a o
    go None = refl
    go (Some g) = refl

pub load-without : (s : Store) (k : Width) (p : Value) → load (without_addresses s) k p ≡ load s k p
load-without s k p = ap (option_and_then (decode k)) (cells_from-without s p (bytes_of k) (bytes_of k))

slice_set-without : (s : Store) (r : ℕ) (g : Region) →
    slice_set (without_addresses s) r (without_address g) ≡ without_addresses (slice_set s r g)
slice_set-without [] r g = refl
slice_set-without (x ∷ s) zero g = refl
slice_set-without (x ∷ s) (suc r) g = ap (λ l. without_address x ∷ l) (slice_set-without s r g)

put_cells-without : (s : Store) (p : Value) (a : ℕ) (cs : List Cell) →
    put_cells (without_addresses s) p a cs ≡ option_map without_addresses (put_cells s p a cs)
put_cells-without s (Number n) a cs = refl
put_cells-without s (Pointer r o) a cs =
    ap (put_in (without_addresses s) r o a cs) (slice_get-map without_address s r) ∙ go (slice_get s r)
  where
    go : (x : Option Region) →
        put_in (without_addresses s) r o a cs (option_map without_address x) ≡ option_map without_addresses (put_in s r o a cs x)
    go None = refl
    go (Some g) =
        ap (only_if (may_access g (length cs) a o)) (slice_set-without s r (with_cells g o cs))
        ∙ only_if-map without_addresses (may_access g (length cs) a o) (slice_set s r (with_cells g o cs))

is_constant-without : (s : Store) (p : Value) → is_constant (without_addresses s) p ≡ is_constant s p
is_constant-without s (Number n) = refl
is_constant-without s (Pointer r o) = ap is_constant_in (slice_get-map without_address s r) ∙ go (slice_get s r)
  where
    go : (x : Option Region) → is_constant_in (option_map without_address x) ≡ is_constant_in x
    go None = refl
    go (Some g) = refl

initialise_without : (s : Store) (p : Value) (n : ℕ) (o : Option (List Cell)) →
    option_and_then (put_cells (without_addresses s) p n) o ≡ option_map without_addresses (option_and_then (put_cells s p n) o)
initialise_without s p n None = refl
initialise_without s p n (Some cs) = put_cells-without s p n cs

pub write-without : (s : Store) (k : Width) (p v : Value) →
    write (without_addresses s) k p v ≡ option_map without_addresses (write s k p v)
write-without s k p v =
    ap (λ b. when (not b) (initialise (without_addresses s) k p v)) (is_constant-without s p)
    ∙ ap (when (not (is_constant s p))) (initialise_without s p (bytes_of k) (encode k v))
    ∙ when-map without_addresses (not (is_constant s p)) (initialise s k p v)

pub copied-without : (s : Store) (p q : Value) (n a : ℕ) →
    copied (without_addresses s) p q n a ≡ option_map without_addresses (copied s p q n a)
copied-without s p q n a =
    ap (λ b. when (not (b || overlap_in_part p q n)) (option_and_then (put_cells (without_addresses s) p a) (option_map (in_units (n / a) a) (cells_from (without_addresses s) q n a)))) (is_constant-without s p)
    ∙ ap (λ o. when (not (is_constant s p || overlap_in_part p q n)) (option_and_then (put_cells (without_addresses s) p a) (option_map (in_units (n / a) a) o))) (cells_from-without s q n a)
    ∙ ap (when (not (is_constant s p || overlap_in_part p q n))) (initialise_without s p a (option_map (in_units (n / a) a) (cells_from s q n a)))
    ∙ when-map without_addresses (not (is_constant s p || overlap_in_part p q n)) (option_and_then (put_cells s p a) (option_map (in_units (n / a) a) (cells_from s q n a)))

-- ---- regions that change

change_without : (s : Store) (r : ℕ) (f : Region → Region) → ((g : Region) → f (without_address g) ≡ without_address (f g)) →
    change_region (without_addresses s) r f ≡ without_addresses (change_region s r f)
change_without s r f h = ap (change_found (without_addresses s) r f) (slice_get-map without_address s r) ∙ go (slice_get s r)
  where
    go : (x : Option Region) →
        change_found (without_addresses s) r f (option_map without_address x) ≡ without_addresses (change_found s r f x)
    go None = refl
    go (Some g) = ap (slice_set (without_addresses s) r) (h g) ∙ slice_set-without s r (f g)

pub refill-without : (s : Store) (r : ℕ) (c : Cell) →
    refill_region (without_addresses s) r c ≡ without_addresses (refill_region s r c)
refill-without s r c = change_without s r _ (λ g. refl)

pub ends-without : (s : Store) (first count : ℕ) →
    end_regions (without_addresses s) first count ≡ without_addresses (end_regions s first count)
ends-without s first zero = refl
ends-without s first (suc count) =
    ap (λ s. end_regions s (first + 1) count) (change_without s first (λ g. record g { live = false }) (λ g. refl))
    ∙ ends-without (end_region s first) (first + 1) count

locals_without : (address other : ℕ → ℕ) (k : ℕ) (sizes : List ℕ) →
    without_addresses (local_regions address k sizes) ≡ without_addresses (local_regions other k sizes)
locals_without address other k [] = refl
locals_without address other k (n ∷ sizes) =
    ap (λ l. new_region false 0 (unset_cells n) ∷ l) (locals_without address other (k + 1) sizes)

parts_without : (g : Region) (ps : List Part) → without_address (with_parts g ps) ≡ with_parts (without_address g) ps
parts_without g [] = refl
parts_without g (p ∷ ps) = parts_without (with_cells g p.offset (cells_of_start p.word)) ps

statics_without : (address other : ℕ → ℕ) (k : ℕ) (xs : List StaticObject) →
    without_addresses (static_regions address k xs) ≡ without_addresses (static_regions other k xs)
statics_without address other k [] = refl
statics_without address other k (x ∷ xs) =
    ap (λ l. without_address (static_region (address k) x) ∷ l) (statics_without address other (k + 1) xs)
    ∙ ap (λ g. g ∷ without_addresses (static_regions other (k + 1) xs)) (parts_without (new_region x.constant (address k) (zero_cells x.size)) x.parts ∙ sym (parts_without (new_region x.constant (other k) (zero_cells x.size)) x.parts))

-- ---- runs

-- stores that differ in addresses alone
abbrev pub SameButAddresses : Store → Store → Type 0
SameButAddresses s t = without_addresses s ≡ without_addresses t

same_length : (s t : Store) → SameButAddresses s t → length s ≡ length t
same_length s t h =
    sym (length-map s without_address) ∙ ap (λ (s : Store). length s) h ∙ length-map t without_address

abbrev StatesAlike : State → State → Type 0
StatesAlike s t = ((x : ℕ) → s.vars x ≡ t.vars x) × SameButAddresses s.store t.store

abbrev pub CallsAlike : Invocation → Invocation → Type 0
CallsAlike i j = (i.function ≡ j.function) × (i.arguments ≡ j.arguments) × SameButAddresses i.store j.store

abbrev pub ResultsAlike : Store → Option Value → Store → Option Value → Type 0
ResultsAlike s u t v = SameButAddresses s t × (u ≡ v)

module _ (call other : Calls) (alike : (i j : Invocation) (w : Outside) → CallsAlike i j → Follows ResultsAlike (call i w) (other j w)) (e d : Activation) (at_first : e.first ≡ d.first) where
  abbrev Ended : State → Flow → State → Flow → Type 0
  Ended = EndAlike StatesAlike (λ s t u v. u ≡ v)

  atom_alike : (s t : State) (v : Atom) → StatesAlike s t → value_of_atom e s v ≡ value_of_atom d t v
  atom_alike s t (at.Var x) h = h.0 x
  atom_alike s t (at.Word n) h = refl
  atom_alike s t (at.Global x) h = refl
  atom_alike s t (at.Local x) h = ap (λ r. Pointer (r + x) 0) at_first

  atoms_alike : (s t : State) (vs : List Atom) → StatesAlike s t → values_of_atoms e s vs ≡ values_of_atoms d t vs
  atoms_alike s t [] h = refl
  atoms_alike s t (v ∷ vs) h =
      ap (λ x. x ∷ values_of_atoms e s vs) (atom_alike s t v h) ∙ ap (λ l. value_of_atom d t v ∷ l) (atoms_alike s t vs h)

  assigned_alike : (s t : State) (x : ℕ) (u v : Value) → u ≡ v → StatesAlike s t →
      StatesAlike (assigned s x u) (assigned t x v)
  assigned_alike s t x u v q h = (λ y. vars y, h.1)
    where
      vars : (y : ℕ) → (if y == x then u else s.vars y) ≡ (if y == x then v else t.vars y)
      vars y =
          elim (y == x) as (λ b. (if b then u else s.vars y) ≡ (if b then v else t.vars y)) [ true ↦ q | false ↦ h.0 y ]

  assign_alike : (x : ℕ) (o p : Option Value) (s t : State) (w : Outside) → o ≡ p → StatesAlike s t →
      Follows Ended (assign x o s w) (assign x p t w)
  assign_alike x None p s t w q h = tt
  assign_alike x (Some v) p s t w q h =
      subst (λ p. Follows Ended (assign x (Some v) s w) (assign x p t w)) q (assigned t x v, Falls, refl, (assigned_alike s t x v v refl h, tt))

  result_alike : (x : Option ℕ) (o p : Option Value) (s t : State) (w : Outside) → o ≡ p → StatesAlike s t →
      Follows Ended (assign_result x o s w) (assign_result x p t w)
  result_alike None o p s t w q h = (t, Falls, refl, (h, tt))
  result_alike (Some x) o p s t w q h = assign_alike x o p s t w q h

  store_alike : (o p : Option Store) (s t : State) (w : Outside) →
      option_map without_addresses o ≡ option_map without_addresses p → StatesAlike s t →
      Follows Ended (with_store o s w) (with_store p t w)
  store_alike None p s t w q h = tt
  store_alike (Some a) None s t w q h = absurd (none-some (without_addresses a) (sym q))
  store_alike (Some a) (Some b) s t w q h =
      (record t { store = b }, Falls, refl, ((h.0, same_Some (without_addresses a) (without_addresses b) q), tt))

  put_alike : (u v : Value) (s t : State) (w : Outside) → u ≡ v → StatesAlike s t →
      Follows Ended (put_value u s w) (put_value v t w)
  put_alike (Number n) v s t w q h =
      subst (λ v. Follows Ended (put_value (Number n) s w) (put_value v t w)) q (Follows-put_byte Ended n w (λ w. Gives s w Falls) (λ w. Gives t w Falls) (λ w. (t, Falls, refl, (h, tt))))
  put_alike (Pointer r o) v s t w q h = tt

  exit_alike : (u v : Value) (s t : State) (w : Outside) → u ≡ v → Follows Ended (exit_value u s w) (exit_value v t w)
  exit_alike (Number n) v s t w q = subst (λ v. Follows Ended (exit_value (Number n) s w) (exit_value v t w)) q refl
  exit_alike (Pointer r o) v s t w q = tt

  operation_alike : (op : Op) (s t : Store) (x y u v : Value) → x ≡ u → y ≡ v → SameButAddresses s t →
      value_of_operation s op x y ≡ value_of_operation t op u v
  operation_alike op s t x y u v p q h =
      sym (operation-without s op x y) ∙ ap (λ s. value_of_operation s op x y) h ∙ operation-without t op x y
      ∙ ap (λ x. value_of_operation t op x y) p ∙ ap (λ y. value_of_operation t op u y) q

  pointers_alike : (op : PointerOp) (s t : Store) (x y u v : Value) → x ≡ u → y ≡ v → SameButAddresses s t →
      value_of_pointers s op x y ≡ value_of_pointers t op u v
  pointers_alike op s t x y u v p q h =
      sym (pointers-without s op x y) ∙ ap (λ s. value_of_pointers s op x y) h ∙ pointers-without t op x y
      ∙ ap (λ x. value_of_pointers t op x y) p ∙ ap (λ y. value_of_pointers t op u y) q

  plain_alike : (a : Core) → IsPlainAct a → Unit {0} → (s t : State) (w : Outside) → StatesAlike s t →
      Follows Ended (act call e a s w) (act other d a t w)
  plain_alike (c.Move x v) p q s t w h =
      (assigned t x (value_of_atom d t v), Falls, refl, (assigned_alike s t x (value_of_atom e s v) (value_of_atom d t v) (atom_alike s t v h) h, tt))
  plain_alike (c.Operate x op u v) p q s t w h =
      assign_alike x (value_of_operation s.store op (value_of_atom e s u) (value_of_atom e s v)) (value_of_operation t.store op (value_of_atom d t u) (value_of_atom d t v)) s t w (operation_alike op s.store t.store (value_of_atom e s u) (value_of_atom e s v) (value_of_atom d t u) (value_of_atom d t v) (atom_alike s t u h) (atom_alike s t v h) h.1) h
  plain_alike (c.Pointer x op u v) p q s t w h =
      assign_alike x (value_of_pointers s.store op (value_of_atom e s u) (value_of_atom e s v)) (value_of_pointers t.store op (value_of_atom d t u) (value_of_atom d t v)) s t w (pointers_alike op s.store t.store (value_of_atom e s u) (value_of_atom e s v) (value_of_atom d t u) (value_of_atom d t v) (atom_alike s t u h) (atom_alike s t v h) h.1) h
  plain_alike (c.Load x k v) p q s t w h =
      assign_alike x (load s.store k (value_of_atom e s v)) (load t.store k (value_of_atom d t v)) s t w (sym (load-without s.store k (value_of_atom e s v)) ∙ ap (λ s'. load s' k (value_of_atom e s v)) h.1 ∙ load-without t.store k (value_of_atom e s v) ∙ ap (load t.store k) (atom_alike s t v h)) h
  plain_alike (c.Store k u v) p q s t w h =
      store_alike (write s.store k (value_of_atom e s u) (value_of_atom e s v)) (write t.store k (value_of_atom d t u) (value_of_atom d t v)) s t w (sym (write-without s.store k (value_of_atom e s u) (value_of_atom e s v)) ∙ ap (λ s'. write s' k (value_of_atom e s u) (value_of_atom e s v)) h.1 ∙ ap (λ x. write (without_addresses t.store) k x (value_of_atom e s v)) (atom_alike s t u h) ∙ ap (write (without_addresses t.store) k (value_of_atom d t u)) (atom_alike s t v h) ∙ write-without t.store k (value_of_atom d t u) (value_of_atom d t v)) h
  plain_alike (c.Enter x) p q s t w h =
      (record t { store = refill_region t.store (d.first + x) Unset }, Falls, refl, ((h.0, sym (refill-without s.store (e.first + x) Unset) ∙ ap (λ s. refill_region s (e.first + x) Unset) h.1 ∙ ap (λ r. refill_region (without_addresses t.store) (r + x) Unset) at_first ∙ refill-without t.store (d.first + x) Unset), tt))
  plain_alike (c.Fill x) p q s t w h =
      (record t { store = refill_region t.store (d.first + x) (Byte 0) }, Falls, refl, ((h.0, sym (refill-without s.store (e.first + x) (Byte 0)) ∙ ap (λ s. refill_region s (e.first + x) (Byte 0)) h.1 ∙ ap (λ r. refill_region (without_addresses t.store) (r + x) (Byte 0)) at_first ∙ refill-without t.store (d.first + x) (Byte 0)), tt))
  plain_alike (c.Copy u v n k) p q s t w h =
      store_alike (copied s.store (value_of_atom e s u) (value_of_atom e s v) n k) (copied t.store (value_of_atom d t u) (value_of_atom d t v) n k) s t w (sym (copied-without s.store (value_of_atom e s u) (value_of_atom e s v) n k) ∙ ap (λ s'. copied s' (value_of_atom e s u) (value_of_atom e s v) n k) h.1 ∙ ap (λ x. copied (without_addresses t.store) x (value_of_atom e s v) n k) (atom_alike s t u h) ∙ ap (λ y. copied (without_addresses t.store) (value_of_atom d t u) y n k) (atom_alike s t v h) ∙ copied-without t.store (value_of_atom d t u) (value_of_atom d t v) n k) h
  plain_alike (c.Call x f vs) p q s t w h =
      let i : Invocation = record { function = f; arguments = values_of_atoms e s vs; stack = e.stack; store = s.store } in
      let j : Invocation = record { function = f; arguments = values_of_atoms d t vs; stack = d.stack; store = t.store } in
      Follows-tick Ended w _ _ (λ w. Follows-then ResultsAlike Ended (call i w) (other j w) (λ m w v. assign_result x v (record s { store = m }) w) (λ m w v. assign_result x v (record t { store = m }) w) (alike i j w (refl, atoms_alike s t vs h, h.1)) (λ m w u n v k. result_alike x u v (record s { store = m }) (record t { store = n }) w k.1 (h.0, k.0)))
  plain_alike (c.Get x) p q s t w h =
      Follows-tick Ended _ (λ u. Gives (assigned s x (Number (next_word w.input))) u Falls) (λ u. Gives (assigned t x (Number (next_word w.input))) u Falls) (λ u. (assigned t x (Number (next_word w.input)), Falls, refl, (assigned_alike s t x (Number (next_word w.input)) (Number (next_word w.input)) refl h, tt)))
  plain_alike (c.Put v) p q s t w h = put_alike (value_of_atom e s v) (value_of_atom d t v) s t w (atom_alike s t v h) h
  plain_alike (c.Exit v) p q s t w h = exit_alike (value_of_atom e s v) (value_of_atom d t v) s t w (atom_alike s t v h)
  plain_alike (c.Block' n all) p q s t w h = absurd p
  plain_alike (c.Loop' n all) p q s t w h = absurd p
  plain_alike (c.Break k) p q s t w h = (t, Leaves k, refl, (h, refl))
  plain_alike (c.If' v n first m second) p q s t w h = absurd p
  plain_alike (c.Return None) p q s t w h = (t, Returned None, refl, (h, refl))
  plain_alike (c.Return (Some v)) p q s t w h =
      (t, Returned (Some (value_of_atom d t v)), refl, (h, ap (λ v. Some v) (atom_alike s t v h)))

  truth_alike : (v : Atom) (s t : State) (b : Bool) → Unit {0} → StatesAlike s t →
      truth s.store (value_of_atom e s v) ≡ Some b → truth t.store (value_of_atom d t v) ≡ Some b
  truth_alike v s t b q h k =
      sym (truth-without t.store (value_of_atom d t v)) ∙ ap (λ t'. truth t' (value_of_atom d t v)) (sym h.1)
      ∙ truth-without s.store (value_of_atom d t v)
      ∙ ap (truth s.store) (sym (atom_alike s t v h))
      ∙ k

  pub acts_alike : (xs : List Core) (s t : State) (w : Outside) → StatesAlike s t →
      Follows Ended (acts call e xs s w) (acts other d xs t w)
  acts_alike xs s t w h =
      acts-alike StatesAlike (λ s t u v. u ≡ v) call other e d (λ a. Unit {0}) (λ v. Unit {0}) plain_alike truth_alike xs (each_of xs) s t w h

flows_same : (f d : Flow) → FlowsAlike (λ u v. u ≡ v) f d → value_given_back f ≡ value_given_back d
flows_same Falls Falls h = refl
flows_same Falls (Leaves k) h = refl
flows_same Falls (Returned v) h = absurd h
flows_same (Leaves j) Falls h = refl
flows_same (Leaves j) (Leaves k) h = refl
flows_same (Leaves j) (Returned v) h = absurd h
flows_same (Returned u) Falls h = absurd h
flows_same (Returned u) (Leaves k) h = absurd h
flows_same (Returned u) (Returned v) h = h

-- with two layouts a function does the same
function_alike : (l m : Layout) (call other : Calls) →
    ((i j : Invocation) (w : Outside) → CallsAlike i j → Follows ResultsAlike (call i w) (other j w)) →
    (i j : Invocation) (g : CoreFunction) (w : Outside) → CallsAlike i j →
    Follows ResultsAlike (run_body l call i g w) (run_body m other j g w)
function_alike l m call other alike i j g w h =
    let n = same_length i.store j.store h.2 in
    let stores = map-append without_address i.store (local_regions (λ k. frame_of l i + l.local i.function k) 0 g.locals)
    ∙ ap (λ s. s ++ without_addresses (local_regions (λ k. frame_of l i + l.local i.function k) 0 g.locals)) h.2
    ∙ ap (λ t. without_addresses j.store ++ t) (locals_without (λ k. frame_of l i + l.local i.function k) (λ k. frame_of m j + m.local j.function k) 0 g.locals)
    ∙ sym (map-append without_address j.store (local_regions (λ k. frame_of m j + m.local j.function k) 0 g.locals)) in
    Follows-then (EndAlike StatesAlike (λ s t u v. u ≡ v)) ResultsAlike (acts call (activation_of l i) g.body (first_state l i g) w) (acts other (activation_of m j) g.body (first_state m j g) w) _ _ (acts_alike call other alike (activation_of l i) (activation_of m j) n g.body (first_state l i g) (first_state m j g) w (λ x. ap (λ vs. argument vs x) h.1, stores)) (λ s w f t d k. (end_regions t.store (length j.store) (length g.locals), value_given_back d, refl, (sym (ends-without s.store (length i.store) (length g.locals)) ∙ ap (λ s. end_regions s (length i.store) (length g.locals)) k.0.1 ∙ ap (λ n. end_regions (without_addresses t.store) n (length g.locals)) n ∙ ends-without t.store (length j.store) (length g.locals), flows_same f d k.1)))

branch_alike : (a b : Bool) (f g : Outside → Run Store (Option Value)) (s t : Store) (w : Outside) → a ≡ b →
    Follows ResultsAlike (f w) (g w) →
    Follows ResultsAlike (branch a (λ s w. f w) (λ s w. Undefined) s w) (branch b (λ s w. g w) (λ s w. Undefined) t w)
branch_alike true b f g s t w q h =
    subst (λ b. Follows ResultsAlike (f w) (branch b (λ s w. g w) (λ s w. Undefined) t w)) q h
branch_alike false b f g s t w q h = tt

-- with two layouts a call does the same
pub calls-layout : (l m : Layout) (gs : List CoreFunction) (depth : ℕ) (i j : Invocation) (w : Outside) →
    CallsAlike i j → Follows ResultsAlike (calls l gs depth i w) (calls m gs depth j w)
calls-layout l m gs zero i j w h = refl
calls-layout l m gs (suc depth) i j w h =
    Follows-given_both ResultsAlike (slice_get gs i.function) (slice_get gs j.function) _ _ (λ g q. (g, ap (slice_get gs) (sym h.0) ∙ q, branch_alike (length i.arguments == g.params) (length j.arguments == g.params) (λ w. run_body l (calls l gs depth) i g w) (λ w. run_body m (calls m gs depth) j g w) i.store j.store w (ap (λ (vs : List Value). length vs == g.params) h.1) (function_alike l m (calls l gs depth) (calls m gs depth) (calls-layout l m gs depth) i j g w h)))

status_same : (u v : Option Value) → u ≡ v → SameStatus u v
status_same None v q = sym q
status_same (Some (Number n)) v q = sym q
status_same (Some (Pointer r o)) v q = tt

program_alike : (l m : Layout) (p : Program) (depth : ℕ) (w : Outside) →
    Follows Never (program_from l p depth w) (program_from m p depth w)
program_alike l m p depth w =
    Follows-main ResultsAlike (calls l p.functions depth (first_call l p) w) (calls m p.functions depth (first_call m p) w) (λ s u t v h. status_same u v h.1) (calls-layout l m p.functions depth (first_call l p) (first_call m p) w (refl, refl, statics_without l.static m.static 0 p.objects))

same_option : (a b : Option Outcome) → ((o : Outcome) → a ≡ Some o → b ≡ Some o) →
    ((o : Outcome) → b ≡ Some o → a ≡ Some o) → a ≡ b
same_option None None f g = refl
same_option None (Some o) f g = absurd (none-some o (g o refl))
same_option (Some o) b f g = sym (f o refl)

-- with two layouts a program has the same outcome, or none with either
pub run-layout : (l m : Layout) (p : Program) (input : List ℕ) (depth clock : ℕ) →
    run_of_core l p input depth clock ≡ run_of_core m p input depth clock
run-layout l m p input depth clock =
    same_option (run_of_core l p input depth clock) (run_of_core m p input depth clock) (λ o e. Follows-outcome Never (program_from l p depth (start input clock)) (program_from m p depth (start input clock)) input clock o (program_alike l m p depth (start input clock)) e) (λ o e. Follows-outcome Never (program_from m p depth (start input clock)) (program_from l p depth (start input clock)) input clock o (program_alike m l p depth (start input clock)) e)
