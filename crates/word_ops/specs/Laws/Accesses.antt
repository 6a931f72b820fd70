-- Laws of stores: what they change, and what a load then gives.
-- No contract cites this file: it holds proofs.
use Rattle.std.proofs.Common.{◌≡◌, refl, sym, ap, ◌∙◌, ℕ, zero, suc, ◌+◌, ◌≤◌, List, ◌++◌, length, take, drop, arith, ⊎_elim, length-append, length-drop}
use Rattle.std.proofs.lemmas.Bool.{and_from, eq-eqb, le-leb}
use Rattle.std.proofs.lemmas.Bool.Decides.{eqb_tells, nat_tests}
use Rattle.std.proofs.lemmas.List.{length-take-le}
use Rattle.std.proofs.lemmas.Option.{none-some, same_Some, option_and_then_some}
use Rattle.std.specs.Prelude.{Option, Some, None, Bool, true, false, not, ◌&&◌, ◌/◌, ◌%◌, ◌==◌, nat_le, slice_get, slice_set}
use Rattle.std.specs.Option.{option_map}
use Rattle.word_ops.specs.declared.operation.Width.{Width}
use Rattle.word_ops.specs.declared.operation.Width.TheVariants.{U8, S8, U16, S16, Word}
use Rattle.word_ops.specs.Choice.{when}
use Rattle.word_ops.specs.Store.{Value, Number, Pointer, Cell, Region, Store, shape, shape_at}
use Rattle.word_ops.specs.Access.{bytes_of, number_cells, pointer_cells, encode, may_access, cells_from, with_cells, put_in, put_cells, is_constant, initialise, write, initialise_from, copy}
use Rattle.word_ops.specs.Changes.{SameShapes}
use Rattle.word_ops.specs.Laws.Lists.{and_both, only_if-some, slice_get-slice_set, slice_get-slice_set_other}

-- ---- what a store is

-- cells were put at a place
pub record Puts (s t : Store) (p : Value) (a : ℕ) (cs : List Cell) : Type 0 where
  pub region : ℕ
  pub offset : ℕ
  pub pointer : p ≡ Pointer region offset
  pub object : Region
  pub at : slice_get s region ≡ Some object
  pub access : may_access object (length cs) a offset ≡ true
  pub after : slice_set s region (with_cells object offset cs) ≡ t

pub put_cells-some : (s t : Store) (p : Value) (a : ℕ) (cs : List Cell) → put_cells s p a cs ≡ Some t →
    Puts s t p a cs
put_cells-some s t (Number n) a cs e = absurd (none-some t e)
put_cells-some s t (Pointer r o) a cs e = go (slice_get s r) refl e
  where
    go : (x : Option Region) → slice_get s r ≡ x → put_in s r o a cs x ≡ Some t → Puts s t (Pointer r o) a cs
    go None q e = absurd (none-some t e)
    go (Some g) q e =
        let h = only_if-some (may_access g (length cs) a o) (slice_set s r (with_cells g o cs)) t e in
        record { region = r; offset = o; pointer = refl; object = g; at = q; access = h.0; after = h.1 }

pub initialise-some : (s t : Store) (k : Width) (p v : Value) → initialise s k p v ≡ Some t →
    (cs : List Cell) × (encode k v ≡ Some cs) × Puts s t p (bytes_of k) cs
initialise-some s t k p v e =
    option_and_then_some (put_cells s p (bytes_of k)) (encode k v) t e (λ cs c h. (cs, c, put_cells-some s t p (bytes_of k) cs h))

pub write-some : (s t : Store) (k : Width) (p v : Value) → write s k p v ≡ Some t →
    (is_constant s p ≡ false) × (initialise s k p v ≡ Some t)
write-some s t k p v e = go (is_constant s p) e
  where
    go : (b : Bool) → when (not b) (initialise s k p v) ≡ Some t → (b ≡ false) × (initialise s k p v ≡ Some t)
    go true e = absurd (none-some t e)
    go false e = (refl, e)

pub initialise_from-some : (s t : Store) (p q : Value) (n a : ℕ) → initialise_from s p q n a ≡ Some t →
    (cs : List Cell) × (cells_from s q n a ≡ Some cs) × Puts s t p a cs
initialise_from-some s t p q n a e =
    option_and_then_some (put_cells s p a) (cells_from s q n a) t e (λ cs c h. (cs, c, put_cells-some s t p a cs h))

pub copy-some : (s t : Store) (p q : Value) (n a : ℕ) → copy s p q n a ≡ Some t →
    (is_constant s p ≡ false) × (initialise_from s p q n a ≡ Some t)
copy-some s t p q n a e = go (is_constant s p) e
  where
    go : (b : Bool) → when (not b) (initialise_from s p q n a) ≡ Some t →
        (b ≡ false) × (initialise_from s p q n a ≡ Some t)
    go true e = absurd (none-some t e)
    go false e = (refl, e)

pub length-number_cells : (count n : ℕ) → length (number_cells count n) ≡ count
length-number_cells zero n = refl
length-number_cells (suc count) n = ap suc (length-number_cells count (n / 256))

pub length-encode : (k : Width) (v : Value) (cs : List Cell) → encode k v ≡ Some cs → length cs ≡ bytes_of k
length-encode k (Number n) cs e =
    ap length (sym (same_Some (number_cells (bytes_of k) n) cs e)) ∙ length-number_cells (bytes_of k) n
length-encode Word (Pointer r o) cs e = ap length (sym (same_Some (pointer_cells r o) cs e))
length-encode U8 (Pointer r o) cs e = absurd (none-some cs e)
length-encode S8 (Pointer r o) cs e = absurd (none-some cs e)
length-encode U16 (Pointer r o) cs e = absurd (none-some cs e)
length-encode S16 (Pointer r o) cs e = absurd (none-some cs e)

-- ---- where an access may be made

pub record MayAccess (g : Region) (n a o : ℕ) : Type 0 where
  pub live : g.live ≡ true
  pub aligned : o % a ≡ 0
  pub within : o + n ≤ length g.cells

pub may_access-true : (g : Region) (n a o : ℕ) → may_access g n a o ≡ true → MayAccess g n a o
may_access-true g n a o e =
    let h = and_both g.live ((o % a == 0) && nat_le (o + n) (length g.cells)) e in
    let k = and_both (o % a == 0) (nat_le (o + n) (length g.cells)) h.1 in
    record { live = h.0; aligned = let t = k.0 in grind (arith, nat_tests); within = let t = k.1 in grind (arith, nat_tests) }

-- the same told as one truth
pub MayAccess-true : (g : Region) (n a o : ℕ) → MayAccess g n a o → may_access g n a o ≡ true
MayAccess-true g n a o h =
    and_from g.live ((o % a == 0) && nat_le (o + n) (length g.cells)) h.live (and_from (o % a == 0) (nat_le (o + n) (length g.cells)) (eq-eqb (o % a) 0 h.aligned) (le-leb (o + n) (length g.cells) h.within))

pub length-with_cells : (g : Region) (o : ℕ) (cs : List Cell) → o + length cs ≤ length g.cells →
    length (with_cells g o cs).cells ≡ length g.cells
length-with_cells g o cs le =
    rw (length-append (take o g.cells) (cs ++ drop (o + length cs) g.cells), length-append cs (drop (o + length cs) g.cells)) (omega (arith, length-take-le o g.cells (omega (arith, le)), length-drop (o + length cs) g.cells, le))

-- a store leaves the regions as they are
pub Puts-shapes : (s t : Store) (p : Value) (a : ℕ) (cs : List Cell) → Puts s t p a cs → SameShapes s t
Puts-shapes s t p a cs h q =
    let m = may_access-true h.object (length cs) a h.offset h.access in
    let new = with_cells h.object h.offset cs in
    ⊎_elim
    (λ y.
    let now : shape_at t q ≡ Some (shape new) =
    ap (λ q. shape_at t q) y.1 ∙ ap (λ t. shape_at t h.region) (sym h.after)
    ∙ ap (option_map shape) (slice_get-slice_set s h.region h.object new h.at) in
    let was : shape_at s q ≡ Some (shape h.object) = ap (λ q. shape_at s q) y.1 ∙ ap (option_map shape) h.at in
    now
    ∙ ap (λ n. Some (record { size = n; live = h.object.live; constant = h.object.constant; address = h.object.address })) (length-with_cells h.object h.offset cs m.within)
    ∙ sym was)
    (λ n. ap (λ t. shape_at t q) (sym h.after) ∙ ap (option_map shape) (slice_get-slice_set_other s h.region q new n.1))
    (eqb_tells q h.region)

pub initialise-shapes : (s t : Store) (k : Width) (p v : Value) → initialise s k p v ≡ Some t → SameShapes s t
initialise-shapes s t k p v e = let h = initialise-some s t k p v e in Puts-shapes s t p (bytes_of k) h.0 h.2

pub write-shapes : (s t : Store) (k : Width) (p v : Value) → write s k p v ≡ Some t → SameShapes s t
write-shapes s t k p v e = initialise-shapes s t k p v (write-some s t k p v e).1

pub initialise_from-shapes : (s t : Store) (p q : Value) (n a : ℕ) → initialise_from s p q n a ≡ Some t →
    SameShapes s t
initialise_from-shapes s t p q n a e = let h = initialise_from-some s t p q n a e in Puts-shapes s t p a h.0 h.2

pub copy-shapes : (s t : Store) (p q : Value) (n a : ℕ) → copy s p q n a ≡ Some t → SameShapes s t
copy-shapes s t p q n a e = initialise_from-shapes s t p q n a (copy-some s t p q n a e).1
