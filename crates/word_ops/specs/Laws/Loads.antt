-- Laws of loads: after a store, and after cells were made Unset.
-- No contract cites this file: it holds proofs.
use Rattle.std.proofs.Common.{◌≡◌, ◌≢◌, refl, sym, ap, ◌∙◌, subst, ℕ, zero, suc, ◌+◌, ◌*◌, ◌≤◌, List, [], ◌∷◌, ◌++◌, length, take, drop, arith, ⊎_elim, ◌⊎◌, append_assoc, length-append, length-drop}
use Rattle.std.proofs.lemmas.Bool.{eq-eqb, eqb-true}
use Rattle.std.proofs.lemmas.Bool.Decides.{eqb_tells}
use Rattle.std.proofs.lemmas.List.{length-take-le, take_at, drop_at, take-take, take-append-le, drop-append-le}
use Rattle.std.proofs.lemmas.Slice.{drop-append-drop}
use Rattle.std.proofs.lemmas.Option.{none-some, same_Some, option_and_then_some}
use Rattle.std.specs.Prelude.{Option, Some, None, true, ◌&&◌, ◌%◌, ◌^◌, ◌==◌, nat_le, slice_get}
use Rattle.std.specs.Option.{option_map, option_or, option_and_then}
use Rattle.word_ops.specs.declared.operation.Width.{Width}
use Rattle.word_ops.specs.declared.operation.Width.TheVariants.{U8, S8, U16, S16, Word}
use Rattle.word_ops.specs.Choice.{only_if, when}
use Rattle.word_ops.specs.Store.{Value, Number, Pointer, Cell, Unset, Byte, Part, Region, Store}
use Rattle.word_ops.specs.Access.{are_parts, bytes_of, narrowed_to, converted_to, holds_pointer, is_kept_by, number_in, pointer_in, decode, number_cells, pointer_cells, encode, may_access, cells_in, cells_from, cells_at, load, with_cells, initialise, write, integer_only, pointer_only, load_integer, load_pointer, AreDisjoint}
use Rattle.word_ops.specs.Laws.Widths.{narrowed_to-same, narrowed_to-twice}
use Rattle.word_ops.specs.Laws.Lists.{only_if-some, when-some, slice_get-slice_set, slice_get-slice_set_other}
use Rattle.word_ops.specs.Laws.Accesses.{Puts, initialise-some, write-some, length-encode, may_access-true, length-with_cells}

-- ---- the cells of an access after a store

-- at the place itself the cells that were put
pub Puts-here : (s t : Store) (p : Value) (a : ℕ) (cs : List Cell) → Puts s t p a cs →
    cells_from t p (length cs) a ≡ Some cs
Puts-here s t p a cs h =
    let g = h.object in let o = h.offset in
    let m = may_access-true g (length cs) a o h.access in
    let new = with_cells g o cs in
    let at : slice_get t h.region ≡ Some new =
    ap (λ t. slice_get t h.region) (sym h.after) ∙ slice_get-slice_set s h.region g new h.at in
    let access : may_access new (length cs) a o ≡ true =
    ap (λ n. g.live && ((o % a == 0) && nat_le (o + length cs) n)) (length-with_cells g o cs m.within) ∙ h.access in
    let front : drop o (take o g.cells ++ (cs ++ drop (o + length cs) g.cells)) ≡ cs ++ drop (o + length cs) g.cells = drop_at (take o g.cells) (cs ++ drop (o + length cs) g.cells) o (length-take-le o g.cells (omega (arith, m.within))) in
    let cells : take (length cs) (drop o new.cells) ≡ cs =
    ap (take (length cs)) front ∙ take_at cs (drop (o + length cs) g.cells) (length cs) refl in
    ap (λ p. cells_from t p (length cs) a) h.pointer ∙ ap (λ x. cells_in x (length cs) a o) at
    ∙ ap (λ b. only_if b (take (length cs) (drop o new.cells))) access ∙ ap Some cells

take_drop_take : {A : Type 0} (xs : List A) (u m o : ℕ) → u + m ≤ o → take m (drop u (take o xs)) ≡ take m (drop u xs)
take_drop_take xs zero m o le = take-take m o xs (omega (arith, le))
take_drop_take [] (suc u) m zero le = refl
take_drop_take [] (suc u) m (suc o) le = refl
take_drop_take (x ∷ xs) (suc u) m zero le = absurd (omega (arith, le))
take_drop_take (x ∷ xs) (suc u) m (suc o) le = take_drop_take xs u m o (omega (arith, le))

cells_before : (xs cs : List Cell) (o u m : ℕ) → u + m ≤ o → o ≤ length xs →
    take m (drop u (take o xs ++ cs)) ≡ take m (drop u xs)
cells_before xs cs o u m le fits =
    let l = length-take-le o xs fits in
    ap (take m) (drop-append-le u (take o xs) cs (omega (arith, l, le)))
    ∙ take-append-le m (drop u (take o xs)) cs (omega (arith, length-drop u (take o xs), l, le))
    ∙ take_drop_take xs u m o le

pub cells_behind : (xs cs : List Cell) (o u : ℕ) → o + length cs ≤ u → o ≤ length xs →
    drop u (take o xs ++ (cs ++ drop (o + length cs) xs)) ≡ drop u xs
cells_behind xs cs o u le fits =
    ap (drop u) (sym (append_assoc (take o xs) cs (drop (o + length cs) xs)))
    ∙ drop-append-drop (o + length cs) xs (take o xs ++ cs) u le (length-append (take o xs) cs ∙ ap (λ n. n + length cs) (length-take-le o xs fits))

-- elsewhere the old ones
pub Puts-elsewhere : (s t : Store) (p q : Value) (a m b : ℕ) (cs : List Cell) → Puts s t p a cs →
    AreDisjoint p (length cs) q m → cells_from t q m b ≡ cells_from s q m b
Puts-elsewhere s t p (Number n) a m b cs h d = refl
Puts-elsewhere s t p (Pointer x u) a m b cs h d =
    let g = h.object in let o = h.offset in let new = with_cells g o cs in
    ⊎_elim
    (λ y.
    let at : slice_get t x ≡ Some new =
    ap (slice_get t) y.1 ∙ ap (λ t. slice_get t h.region) (sym h.after) ∙ slice_get-slice_set s h.region g new h.at in
    let was : slice_get s x ≡ Some g = ap (slice_get s) y.1 ∙ h.at in
    ap (λ z. cells_in z m b u) at
    ∙ same_region y.1 (apart y.1 (subst (λ p. AreDisjoint p (length cs) (Pointer x u) m) h.pointer d))
    ∙ sym (ap (λ z. cells_in z m b u) was))
    (λ n. ap (λ z. cells_in z m b u) (ap (λ t. slice_get t x) (sym h.after) ∙ slice_get-slice_set_other s h.region x new n.1))
    (eqb_tells x h.region)
  where
    apart : x ≡ h.region → (h.region ≢ x) ⊎ ((u + m ≤ h.offset) ⊎ (h.offset + length cs ≤ u)) →
        (u + m ≤ h.offset) ⊎ (h.offset + length cs ≤ u)
    apart e d = ⊎_elim (λ ne. absurd (ne (sym e))) (λ k. k) d

    cells : (u + m ≤ h.offset) ⊎ (h.offset + length cs ≤ u) →
        take m (drop u (with_cells h.object h.offset cs).cells) ≡ take m (drop u h.object.cells)
    cells d =
        let w = may_access-true h.object (length cs) a h.offset h.access in
        let fits : h.offset ≤ length h.object.cells = omega (arith, w.within) in
        ⊎_elim
        (λ le. cells_before h.object.cells (cs ++ drop (h.offset + length cs) h.object.cells) h.offset u m le fits)
        (λ le. ap (take m) (cells_behind h.object.cells cs h.offset u le fits))
        d

    same_region : x ≡ h.region → (u + m ≤ h.offset) ⊎ (h.offset + length cs ≤ u) →
        cells_in (Some (with_cells h.object h.offset cs)) m b u ≡ cells_in (Some h.object) m b u
    same_region e d =
        let w = may_access-true h.object (length cs) a h.offset h.access in
        ap (λ n. only_if (h.object.live && ((u % b == 0) && nat_le (u + m) n)) (take m (drop u (with_cells h.object h.offset cs).cells))) (length-with_cells h.object h.offset cs w.within)
        ∙ ap (λ l. only_if (may_access h.object m b u) l) (cells d)

-- ---- a value that was stored is loaded

number_cells-number : (k : Width) (n : ℕ) →
    (m : ℕ) × (number_in (number_cells (bytes_of k) n) ≡ Some m) × (m % 2 ^ (8 * bytes_of k) ≡ n % 2 ^ (8 * bytes_of k))
number_cells-number U8 n = (_, refl, omega arith)
number_cells-number S8 n = (_, refl, omega arith)
number_cells-number U16 n = (_, refl, omega arith)
number_cells-number S16 n = (_, refl, omega arith)
number_cells-number Word n = (_, refl, omega arith)

-- the cells of a value decode to what the width keeps of it
pub decode-encode : (k : Width) (v : Value) (cs : List Cell) → encode k v ≡ Some cs →
    decode k cs ≡ Some (converted_to k v)
decode-encode k (Number n) cs e =
    let m = number_cells-number k n in
    ap (decode k) (sym (same_Some (number_cells (bytes_of k) n) cs e))
    ∙ ap (λ o. option_or (option_map (λ n. Number (narrowed_to k n)) o) (when (holds_pointer k) (pointer_in (number_cells (bytes_of k) n)))) m.1
    ∙ ap (λ n. Some (Number n)) (narrowed_to-same k m.0 n m.2)
decode-encode Word (Pointer r o) cs e =
    ap (decode Word) (sym (same_Some (pointer_cells r o) cs e)) ∙ rw (eq-eqb r r refl, eq-eqb o o refl) refl
decode-encode U8 (Pointer r o) cs e = absurd (none-some cs e)
decode-encode S8 (Pointer r o) cs e = absurd (none-some cs e)
decode-encode U16 (Pointer r o) cs e = absurd (none-some cs e)
decode-encode S16 (Pointer r o) cs e = absurd (none-some cs e)

-- a value that a width keeps is what it keeps of it
pub converted_to-kept : (k : Width) (v : Value) → is_kept_by k v ≡ true → converted_to k v ≡ v
converted_to-kept k (Number n) h = ap Number (eqb-true (narrowed_to k n) n h)
converted_to-kept k (Pointer r o) h = refl

pub initialise-cells : (s t : Store) (k : Width) (p v : Value) (cs : List Cell) → initialise s k p v ≡ Some t →
    encode k v ≡ Some cs → cells_at t k p ≡ Some cs
initialise-cells s t k p v cs e c =
    let h = initialise-some s t k p v e in
    let same : h.0 ≡ cs = same_Some h.0 cs (sym h.1 ∙ c) in
    let l = length-encode k v h.0 h.1 in
    ap (λ n. cells_from t p n (bytes_of k)) (sym l) ∙ Puts-here s t p (bytes_of k) h.0 h.2 ∙ ap Some same

pub load-initialise : (s t : Store) (k : Width) (p v : Value) → initialise s k p v ≡ Some t →
    load t k p ≡ Some (converted_to k v)
load-initialise s t k p v e =
    let h = initialise-some s t k p v e in
    ap (option_and_then (decode k)) (initialise-cells s t k p v h.0 e h.1) ∙ decode-encode k v h.0 h.1

pub load-write : (s t : Store) (k : Width) (p v : Value) → write s k p v ≡ Some t →
    load t k p ≡ Some (converted_to k v)
load-write s t k p v e = load-initialise s t k p v (write-some s t k p v e).1

-- cells elsewhere are as they were
pub initialise-elsewhere : (s t : Store) (k j : Width) (p v q : Value) → initialise s k p v ≡ Some t →
    AreDisjoint p (bytes_of k) q (bytes_of j) → cells_at t j q ≡ cells_at s j q
initialise-elsewhere s t k j p v q e d =
    let h = initialise-some s t k p v e in
    Puts-elsewhere s t p q (bytes_of k) (bytes_of j) (bytes_of j) h.0 h.2 (subst (λ n. AreDisjoint p n q (bytes_of j)) (sym (length-encode k v h.0 h.1)) d)

pub write-elsewhere : (s t : Store) (k j : Width) (p v q : Value) → write s k p v ≡ Some t →
    AreDisjoint p (bytes_of k) q (bytes_of j) → cells_at t j q ≡ cells_at s j q
write-elsewhere s t k j p v q e d = initialise-elsewhere s t k j p v q (write-some s t k p v e).1 d

-- ---- what a load is

-- the cells of an access are as many as it has bytes
pub length-cells_from : (s : Store) (p : Value) (n a : ℕ) (cs : List Cell) → cells_from s p n a ≡ Some cs →
    length cs ≡ n
length-cells_from s (Number m) n a cs e = absurd (none-some cs e)
length-cells_from s (Pointer r o) n a cs e = go (slice_get s r) e
  where
    go : (x : Option Region) → cells_in x n a o ≡ Some cs → length cs ≡ n
    go None e = absurd (none-some cs e)
    go (Some g) e =
        let t = only_if-some (may_access g n a o) (take n (drop o g.cells)) cs e in
        let w = may_access-true g n a o t.0 in
        ap length (sym t.1) ∙ length-take-le n (drop o g.cells) (omega (arith, length-drop o g.cells, w.within))

-- a load that is defined is of cells that are there
pub load-some : (s : Store) (k : Width) (p v : Value) → load s k p ≡ Some v →
    (cs : List Cell) × (cells_at s k p ≡ Some cs) × (decode k cs ≡ Some v)
load-some s k p v e = option_and_then_some (decode k) (cells_at s k p) v e (λ cs c d. (cs, c, d))

-- loads through integer and pointer types give what the load gives
pub load_integer-load : (s : Store) (k : Width) (p v : Value) → load_integer s k p ≡ Some v →
    (load s k p ≡ Some v) × ((n : ℕ) × (v ≡ Number n))
load_integer-load s k p v e = option_and_then_some integer_only (load s k p) v e (λ u c d. go u c d)
  where
    go : (u : Value) → load s k p ≡ Some u → integer_only u ≡ Some v →
        (load s k p ≡ Some v) × ((n : ℕ) × (v ≡ Number n))
    go (Number n) c d = (c ∙ d, (n, sym (same_Some (Number n) v d)))
    go (Pointer r o) c d = absurd (none-some v d)

pub load_pointer-load : (s : Store) (p v : Value) → load_pointer s p ≡ Some v → load s Word p ≡ Some v
load_pointer-load s p v e = option_and_then_some pointer_only (load s Word p) v e (λ u c d. go u c d)
  where
    go : (u : Value) → load s Word p ≡ Some u → pointer_only u ≡ Some v → load s Word p ≡ Some v
    go (Number n) c d = c ∙ ap Some (only_if-some (n == 0) (Number n) v d).1
    go (Pointer r o) c d = c ∙ d

-- ---- a load gives what its width keeps

pub decode-kept : (k : Width) (cs : List Cell) (v : Value) → decode k cs ≡ Some v → is_kept_by k v ≡ true
decode-kept k cs v e = go (number_in cs) e
  where
    pointer : (ds : List Cell) → pointer_in ds ≡ Some v → holds_pointer k ≡ true → is_kept_by k v ≡ true
    pointer [] e h = absurd (none-some v e)
    pointer (Unset ∷ ds) e h = absurd (none-some v e)
    pointer (Byte b ∷ ds) e h = absurd (none-some v e)
    pointer (Part j r o ∷ ds) e h =
        subst (λ v. is_kept_by k v ≡ true) (only_if-some (are_parts 0 r o (Part j r o ∷ ds)) (Pointer r o) v e).1 h

    go : (x : Option ℕ) →
        option_or (option_map (λ n. Number (narrowed_to k n)) x) (when (holds_pointer k) (pointer_in cs)) ≡ Some v →
        is_kept_by k v ≡ true
    go None e = let h = when-some (holds_pointer k) (pointer_in cs) v e in pointer cs h.1 h.0
    go (Some n) e =
        subst (λ v. is_kept_by k v ≡ true) (same_Some (Number (narrowed_to k n)) v e) (eq-eqb (narrowed_to k (narrowed_to k n)) (narrowed_to k n) (narrowed_to-twice k n))

pub load-kept : (s : Store) (k : Width) (p v : Value) → load s k p ≡ Some v → is_kept_by k v ≡ true
load-kept s k p v e = let h = load-some s k p v e in decode-kept k h.0 v h.2
