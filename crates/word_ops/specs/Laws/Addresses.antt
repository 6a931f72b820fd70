-- Laws of addresses: which changes of a store keep what is asked of its addresses and pointers.
-- No contract cites this file: it holds proofs.
use Rattle.std.proofs.Common.{◌≡◌, ◌≢◌, refl, sym, ap, ◌∙◌, subst, ℕ, zero, suc, ◌+◌, List, [], ◌∷◌, ◌++◌, length, take, drop, arith, ⊎_elim, ◌⊎◌, inl, inr}
use Rattle.std.proofs.lemmas.Bool.Decides.{eqb_tells}
use Rattle.std.proofs.lemmas.Option.{none-some, same_Some}
use Rattle.std.specs.Prelude.{Option, Some, None, true, false, ◌/◌, replicate, slice_get, slice_set}
use Rattle.std.specs.Option.{option_map, option_or, option_and_then}
use Rattle.word_ops.specs.declared.operation.Width.{Width}
use Rattle.word_ops.specs.Choice.{when}
use Rattle.word_ops.specs.Store.{Value, Number, Pointer, Cell, Unset, Byte, Part, Region, Store, Shape, shape, shape_at, end_region, end_regions, refill_region}
use Rattle.word_ops.specs.Access.{bytes_of, narrowed_to, holds_pointer, number_in, are_parts, pointer_in, decode, number_cells, pointer_cells, encode, may_access, cells_in, cells_from, cells_at, load, with_cells, initialise, write, initialise_from, copy}
use Rattle.word_ops.specs.Addresses.{IsOffsetIn, IsValueIn, AreCellsIn, AreApart, IsAddressed, AreNewTo, IsPlain}
use Rattle.word_ops.specs.Changes.{SameRegions, SameShapes, CellsFade, RegionFades, Fades}
use Rattle.word_ops.specs.Laws.Widths.{narrowed_to-small}
use Rattle.word_ops.specs.Laws.Lists.{only_if-some, when-some, slice_get-slice_set, slice_get-slice_set_other, slice_get-append_some}
use Rattle.word_ops.specs.Laws.Regions.{shape_at-some, shape_at-region, change_region-at, SameShapes-regions, SameRegions-append, refill_region-shapes, end_region-at, Fades-shapes}
use Rattle.word_ops.specs.Laws.Accesses.{Puts, Puts-shapes, initialise-some, write-some, initialise_from-some, copy-some}
use Rattle.word_ops.specs.Laws.Values.{IsValueIn-same}

-- ---- cells

pub AreCellsIn-same : (s t : Store) (cs : List Cell) → SameRegions s t → AreCellsIn s cs → AreCellsIn t cs
AreCellsIn-same s t [] h k = tt
AreCellsIn-same s t (Unset ∷ cs) h k = AreCellsIn-same s t cs h k
AreCellsIn-same s t (Byte b ∷ cs) h k = AreCellsIn-same s t cs h k
AreCellsIn-same s t (Part j r o ∷ cs) h k = (IsValueIn-same s t (Pointer r o) h k.0, AreCellsIn-same s t cs h k.1)

pub AreCellsIn-append : (s : Store) (cs ds : List Cell) → AreCellsIn s cs → AreCellsIn s ds → AreCellsIn s (cs ++ ds)
AreCellsIn-append s [] ds h k = k
AreCellsIn-append s (Unset ∷ cs) ds h k = AreCellsIn-append s cs ds h k
AreCellsIn-append s (Byte b ∷ cs) ds h k = AreCellsIn-append s cs ds h k
AreCellsIn-append s (Part j r o ∷ cs) ds h k = (h.0, AreCellsIn-append s cs ds h.1 k)

pub AreCellsIn-take : (s : Store) (n : ℕ) (cs : List Cell) → AreCellsIn s cs → AreCellsIn s (take n cs)
AreCellsIn-take s zero cs h = tt
AreCellsIn-take s (suc n) [] h = tt
AreCellsIn-take s (suc n) (Unset ∷ cs) h = AreCellsIn-take s n cs h
AreCellsIn-take s (suc n) (Byte b ∷ cs) h = AreCellsIn-take s n cs h
AreCellsIn-take s (suc n) (Part j r o ∷ cs) h = (h.0, AreCellsIn-take s n cs h.1)

pub AreCellsIn-drop : (s : Store) (n : ℕ) (cs : List Cell) → AreCellsIn s cs → AreCellsIn s (drop n cs)
AreCellsIn-drop s zero cs h = h
AreCellsIn-drop s (suc n) [] h = tt
AreCellsIn-drop s (suc n) (Unset ∷ cs) h = AreCellsIn-drop s n cs h
AreCellsIn-drop s (suc n) (Byte b ∷ cs) h = AreCellsIn-drop s n cs h
AreCellsIn-drop s (suc n) (Part j r o ∷ cs) h = AreCellsIn-drop s n cs h.1

pub AreCellsIn-replicate : (s : Store) (n : ℕ) (c : Cell) → IsPlain c → AreCellsIn s (replicate n c)
AreCellsIn-replicate s zero c h = tt
AreCellsIn-replicate s (suc n) Unset h = AreCellsIn-replicate s n Unset h
AreCellsIn-replicate s (suc n) (Byte b) h = AreCellsIn-replicate s n (Byte b) h
AreCellsIn-replicate s (suc n) (Part k r o) h = absurd h

number_cells_in : (s : Store) (count n : ℕ) → AreCellsIn s (number_cells count n)
number_cells_in s zero n = tt
number_cells_in s (suc count) n = number_cells_in s count (n / 256)

encode_in : (s : Store) (k : Width) (v : Value) (cs : List Cell) → IsValueIn s v → encode k v ≡ Some cs →
    AreCellsIn s cs
encode_in s k (Number n) cs h e =
    subst (AreCellsIn s) (same_Some (number_cells (bytes_of k) n) cs e) (number_cells_in s (bytes_of k) n)
encode_in s k (Pointer r o) cs h e =
    subst (AreCellsIn s) (only_if-some (holds_pointer k) (pointer_cells r o) cs e).1 (h, (h, (h, (h, tt))))

-- ---- what is loaded is a value of the store

pointer_in_in : (s : Store) (cs : List Cell) (v : Value) → AreCellsIn s cs → pointer_in cs ≡ Some v → IsValueIn s v
pointer_in_in s [] v h e = absurd (none-some v e)
pointer_in_in s (Unset ∷ cs) v h e = absurd (none-some v e)
pointer_in_in s (Byte b ∷ cs) v h e = absurd (none-some v e)
pointer_in_in s (Part k r o ∷ cs) v h e =
    subst (IsValueIn s) (only_if-some (are_parts 0 r o (Part k r o ∷ cs)) (Pointer r o) v e).1 h.0

pub decode-in : (s : Store) (k : Width) (cs : List Cell) (v : Value) → AreCellsIn s cs → decode k cs ≡ Some v →
    IsValueIn s v
decode-in s k cs v h e = go (number_in cs) e
  where
    go : (x : Option ℕ) →
        option_or (option_map (λ n. Number (narrowed_to k n)) x) (when (holds_pointer k) (pointer_in cs)) ≡ Some v →
        IsValueIn s v
    go None e = pointer_in_in s cs v h (when-some (holds_pointer k) (pointer_in cs) v e).1
    go (Some n) e = subst (IsValueIn s) (same_Some (Number (narrowed_to k n)) v e) (narrowed_to-small k n)

pub cells_from-in : (s : Store) (p : Value) (n a : ℕ) (cs : List Cell) → IsAddressed s →
    cells_from s p n a ≡ Some cs → AreCellsIn s cs
cells_from-in s (Number m) n a cs i e = absurd (none-some cs e)
cells_from-in s (Pointer r o) n a cs i e = go (slice_get s r) refl e
  where
    go : (x : Option Region) → slice_get s r ≡ x → cells_in x n a o ≡ Some cs → AreCellsIn s cs
    go None q e = absurd (none-some cs e)
    go (Some g) q e =
        subst (AreCellsIn s) (only_if-some (may_access g n a o) (take n (drop o g.cells)) cs e).1 (AreCellsIn-take s n (drop o g.cells) (AreCellsIn-drop s o g.cells (i.pointers r g q)))

pub load-in : (s : Store) (k : Width) (p v : Value) → IsAddressed s → load s k p ≡ Some v → IsValueIn s v
load-in s k p v i e = go (cells_at s k p) refl e
  where
    go : (o : Option (List Cell)) → cells_at s k p ≡ o → option_and_then (decode k) o ≡ Some v → IsValueIn s v
    go None q e = absurd (none-some v e)
    go (Some cs) q e = decode-in s k cs v (cells_from-in s p (bytes_of k) (bytes_of k) cs i q) e

-- ---- what keeps addresses

-- the same shapes with cells whose pointers are values of the store
pub IsAddressed-shapes : (s t : Store) → SameShapes s t →
    ((r : ℕ) (g : Region) → slice_get t r ≡ Some g → AreCellsIn s g.cells) → IsAddressed s → IsAddressed t
IsAddressed-shapes s t h k i = record {
  bounds = λ r z e. i.bounds r z (sym (h r) ∙ e);
  apart = λ r q y z ey ez. i.apart r q y z (sym (h r) ∙ ey) (sym (h q) ∙ ez);
  pointers = λ r g e. AreCellsIn-same s t g.cells (SameShapes-regions s t h) (k r g e);
}

with_cells_in : (s : Store) (g : Region) (o : ℕ) (cs : List Cell) → AreCellsIn s g.cells → AreCellsIn s cs →
    AreCellsIn s (with_cells g o cs).cells
with_cells_in s g o cs h k =
    AreCellsIn-append s (take o g.cells) (cs ++ drop (o + length cs) g.cells) (AreCellsIn-take s o g.cells h) (AreCellsIn-append s cs (drop (o + length cs) g.cells) k (AreCellsIn-drop s (o + length cs) g.cells h))

pub IsAddressed-puts : (s t : Store) (p : Value) (a : ℕ) (cs : List Cell) → Puts s t p a cs → AreCellsIn s cs →
    IsAddressed s → IsAddressed t
IsAddressed-puts s t p a cs h k i =
    IsAddressed-shapes s t (Puts-shapes s t p a cs h) (λ r g e. cells r g (sym (ap (λ t. slice_get t r) (sym h.after)) ∙ e)) i
  where
    cells : (r : ℕ) (g : Region) → slice_get (slice_set s h.region (with_cells h.object h.offset cs)) r ≡ Some g →
        AreCellsIn s g.cells
    cells r g e =
        ⊎_elim
        (λ y.
        let new = with_cells h.object h.offset cs in
        let same : new ≡ g = same_Some new g (sym (slice_get-slice_set s h.region h.object new h.at) ∙ ap (slice_get (slice_set s h.region new)) (sym y.1) ∙ e) in
        subst (λ (g : Region). AreCellsIn s g.cells) same (with_cells_in s h.object h.offset cs (i.pointers h.region h.object h.at) k))
        (λ n. i.pointers r g (sym (slice_get-slice_set_other s h.region r (with_cells h.object h.offset cs) n.1) ∙ e))
        (eqb_tells r h.region)

pub IsAddressed-initialise : (s t : Store) (k : Width) (p v : Value) → initialise s k p v ≡ Some t → IsValueIn s v →
    IsAddressed s → IsAddressed t
IsAddressed-initialise s t k p v e h i =
    let c = initialise-some s t k p v e in IsAddressed-puts s t p (bytes_of k) c.0 c.2 (encode_in s k v c.0 h c.1) i

pub IsAddressed-write : (s t : Store) (k : Width) (p v : Value) → write s k p v ≡ Some t → IsValueIn s v →
    IsAddressed s → IsAddressed t
IsAddressed-write s t k p v e h i = IsAddressed-initialise s t k p v (write-some s t k p v e).1 h i

pub IsAddressed-initialise_from : (s t : Store) (p q : Value) (n a : ℕ) → initialise_from s p q n a ≡ Some t →
    IsAddressed s → IsAddressed t
IsAddressed-initialise_from s t p q n a e i =
    let c = initialise_from-some s t p q n a e in IsAddressed-puts s t p a c.0 c.2 (cells_from-in s q n a c.0 i c.1) i

pub IsAddressed-copy : (s t : Store) (p q : Value) (n a : ℕ) → copy s p q n a ≡ Some t → IsAddressed s → IsAddressed t
IsAddressed-copy s t p q n a e i = IsAddressed-initialise_from s t p q n a (copy-some s t p q n a e).1 i

pub IsAddressed-refill : (s : Store) (r : ℕ) (c : Cell) → IsPlain c → IsAddressed s →
    IsAddressed (refill_region s r c)
IsAddressed-refill s r c h i = IsAddressed-shapes s (refill_region s r c) (refill_region-shapes s r c) cells i
  where
    cells : (q : ℕ) (g : Region) → slice_get (refill_region s r c) q ≡ Some g → AreCellsIn s g.cells
    cells q g e =
        ⊎_elim
        (λ a. i.pointers q g (sym a ∙ e))
        (λ b. go (slice_get s q) (sym b.1 ∙ e))
        (change_region-at s r q (λ g. record g { cells = replicate (length g.cells) c }))
      where
        go : (o : Option Region) →
            option_map (λ (g : Region). record g { cells = replicate (length g.cells) c }) o ≡ Some g →
            AreCellsIn s g.cells
        go None e = absurd (none-some g e)
        go (Some k) e =
            subst (λ (g : Region). AreCellsIn s g.cells) (same_Some (record k { cells = replicate (length k.cells) c }) g e) (AreCellsIn-replicate s (length k.cells) c h)

cells_fade_in : (s : Store) (cs ds : List Cell) → CellsFade cs ds → AreCellsIn s cs → AreCellsIn s ds
cells_fade_in s [] [] h k = tt
cells_fade_in s [] (d ∷ ds) h k = absurd h
cells_fade_in s (c ∷ cs) [] h k = absurd h
cells_fade_in s (c ∷ cs) (Unset ∷ ds) h k = cells_fade_in s cs ds h (rest c k)
  where
    rest : (c : Cell) → AreCellsIn s (c ∷ cs) → AreCellsIn s cs
    rest Unset k = k
    rest (Byte b) k = k
    rest (Part j r o) k = k.1
cells_fade_in s (c ∷ cs) (Byte b ∷ ds) h k = cells_fade_in s cs ds h.1 (subst (λ c. AreCellsIn s (c ∷ cs)) h.0 k)
cells_fade_in s (c ∷ cs) (Part j r o ∷ ds) h k =
    let K = subst (λ c. AreCellsIn s (c ∷ cs)) h.0 k in (K.0, cells_fade_in s cs ds h.1 K.1)

pub IsAddressed-fades : (s t : Store) → Fades s t → IsAddressed s → IsAddressed t
IsAddressed-fades s t h i =
    IsAddressed-shapes s t (Fades-shapes s t h) (λ r g e. go r (slice_get s r) refl g (subst (RegionFades (slice_get s r)) e (h r))) i
  where
    go : (r : ℕ) (x : Option Region) → slice_get s r ≡ x → (g : Region) → RegionFades x (Some g) →
        AreCellsIn s g.cells
    go r None q g f = absurd f
    go r (Some k) q g f = cells_fade_in s k.cells g.cells f.3 (i.pointers r k q)

-- ---- the end of a lifetime

-- a store in which each object is still there, with its size
abbrev KeepsSizes : Store → Store → Type 0
KeepsSizes s t =
    (r : ℕ) (z : Shape) → shape_at s r ≡ Some z → (y : Shape) × (shape_at t r ≡ Some y) × (y.size ≡ z.size)

cells_sized : (s t : Store) (cs : List Cell) → KeepsSizes s t → AreCellsIn s cs → AreCellsIn t cs
cells_sized s t [] h k = tt
cells_sized s t (Unset ∷ cs) h k = cells_sized s t cs h k
cells_sized s t (Byte b ∷ cs) h k = cells_sized s t cs h k
cells_sized s t (Part j r o ∷ cs) h k = (go (shape_at s r) refl k.0, cells_sized s t cs h k.1)
  where
    go : (x : Option Shape) → shape_at s r ≡ x → IsOffsetIn x o → IsOffsetIn (shape_at t r) o
    go None q k = absurd k
    go (Some z) q k = let y = h r z q in subst (λ x. IsOffsetIn x o) (sym y.1) (omega (arith, y.2, k))

ended_shape : (s : Store) (r q : ℕ) (z : Shape) → shape_at (end_region s r) q ≡ Some z →
    (y : Shape) × (shape_at s q ≡ Some y) × (y.size ≡ z.size) × (y.address ≡ z.address) × (z.live ≡ true → y.live ≡ true)
ended_shape s r q z e =
    let g = shape_at-some (end_region s r) q z e in
    let h = end_region-at s r q g.0 g.1 in
    (shape h.0, shape_at-region s q h.0 h.1, sym (ap length h.4) ∙ ap (λ (z : Shape). z.size) g.2, sym h.3 ∙ ap (λ (z : Shape). z.address) g.2, λ l. h.5 (ap (λ (z : Shape). z.live) g.2 ∙ l))

ended_sizes : (s : Store) (r : ℕ) → KeepsSizes s (end_region s r)
ended_sizes s r q z e =
    let g = shape_at-some s q z e in
    ⊎_elim
    (λ a. (z, ap (option_map shape) a ∙ e, refl))
    (λ b. (shape (record g.0 { live = false }), ap (option_map shape) (b.1 ∙ ap (option_map (λ (g : Region). record g { live = false })) g.1), ap (λ (z : Shape). z.size) g.2))
    (change_region-at s r q (λ g. record g { live = false }))

apart_same : (x y u v : Shape) → u.size ≡ x.size → u.address ≡ x.address → v.size ≡ y.size → v.address ≡ y.address →
    AreApart u v → AreApart x y
apart_same x y u v a b c d far = ⊎_elim (λ h. inl (omega (arith, a, b, c, d, h))) (λ h. inr (omega (arith, a, b, c, d, h))) far

pub IsAddressed-end : (s : Store) (r : ℕ) → IsAddressed s → IsAddressed (end_region s r)
IsAddressed-end s r i = record {
  bounds =
      λ q z e. let y = ended_shape s r q z e in let b = i.bounds q y.0 y.1 in (omega (arith, b, y.3), omega (arith, b, y.2, y.3));
  apart = λ q p y z ey ez ly lz ne. let u = ended_shape s r q y ey in let v = ended_shape s r p z ez in apart_same y z u.0 v.0 u.2 u.3 v.2 v.3 (i.apart q p u.0 v.0 u.1 v.1 (u.4 ly) (v.4 lz) ne);
  pointers =
      λ q g e. let h = end_region-at s r q g e in subst (AreCellsIn (end_region s r)) (sym h.4) (cells_sized s (end_region s r) h.0.cells (ended_sizes s r) (i.pointers q h.0 h.1));
}

pub IsAddressed-ends : (s : Store) (first count : ℕ) → IsAddressed s → IsAddressed (end_regions s first count)
IsAddressed-ends s first zero i = i
IsAddressed-ends s first (suc count) i =
    IsAddressed-ends (end_region s first) (first + 1) count (IsAddressed-end s first i)

-- ---- new regions

-- a region of the longer store is an old one, or a new one at its place behind
abbrev Where : (s new : Store) → ℕ → Shape → Type 0
Where s new r z = (shape_at s r ≡ Some z) ⊎ ((i : ℕ) × (r ≡ length s + i) × (shape_at new i ≡ Some z))

where_is : (s new : Store) (r : ℕ) (z : Shape) → shape_at (s ++ new) r ≡ Some z → Where s new r z
where_is s new r z e =
    let g = shape_at-some (s ++ new) r z e in
    ⊎_elim
    (λ a. inl (shape_at-region s r g.0 a ∙ ap Some g.2))
    (λ b. inr (b.0, b.1, shape_at-region new b.0 g.0 b.2 ∙ ap Some g.2))
    (slice_get-append_some s new r g.0 g.1)

far_back : (y z : Shape) → AreApart y z → AreApart z y
far_back y z far = ⊎_elim (λ h. inr h) (λ h. inl h) far

pub IsAddressed-append : (s new : Store) → AreNewTo s new → IsAddressed s → IsAddressed (s ++ new)
IsAddressed-append s new h i = record {
  bounds = λ r z e. ⊎_elim (λ a. i.bounds r z a) (λ b. h.bounds b.0 z b.2) (where_is s new r z e);
  apart = λ r q y z ey ez ly lz ne. two r q y z ly lz ne (where_is s new r y ey) (where_is s new q z ez);
  pointers =
      λ r g e. ⊎_elim (λ a. AreCellsIn-same s (s ++ new) g.cells (SameRegions-append s new) (i.pointers r g a)) (λ b. h.pointers b.0 g b.2) (slice_get-append_some s new r g e);
}
  where
    two : (r q : ℕ) (y z : Shape) → y.live ≡ true → z.live ≡ true → r ≢ q → Where s new r y → Where s new q z →
        AreApart y z
    two r q y z ly lz ne (inl a) (inl b) = i.apart r q y z a b ly lz ne
    two r q y z ly lz ne (inl a) (inr b) = h.beside r b.0 y z a b.2 ly lz
    two r q y z ly lz ne (inr a) (inl b) = far_back z y (h.beside q a.0 z y b a.2 lz ly)
    two r q y z ly lz ne (inr a) (inr b) =
        h.apart a.0 b.0 y z a.2 b.2 ly lz (λ e. ne (a.1 ∙ ap (λ n. length s + n) e ∙ sym b.1))
