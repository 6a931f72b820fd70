-- Laws of copies: a copy by units is the copy of all cells with their bytes modulo 2^8, but for cells that it makes Unset.
-- No contract cites this file: it holds proofs.
use Rattle.std.proofs.Common.{◌≡◌, refl, sym, ap, ◌∙◌, subst, ℕ, zero, suc, ◌+◌, ◌*◌, ◌<◌, ⊎_elim, List, [], ◌∷◌, ◌++◌, length, take, drop, arith, length-drop}
use Rattle.std.proofs.Math.Nat.{suc-mul, mul-div_cancel}
use Rattle.std.proofs.lemmas.Bool.{false≢true}
use Rattle.std.proofs.lemmas.List.{take-append-drop, map-append}
use Rattle.std.proofs.lemmas.Option.{none-some}
use Rattle.std.specs.Prelude.{Option, Some, None, true, false, not, ◌&&◌, ◌||◌, ◌==◌, ◌/◌, ◌%◌, map, slice_set}
use Rattle.std.specs.Option.{option_map, option_and_then}
use Rattle.word_ops.specs.Choice.{only_if, when}
use Rattle.word_ops.specs.Store.{Value, Pointer, Cell, Unset, Byte, Part, Store}
use Rattle.word_ops.specs.Access.{are_parts, pointer_in, may_access, cells_from, with_cells, put_in, put_cells, initialise_from, copy}
use Rattle.word_ops.specs.Changes.{CellsFade, Fades}
use Rattle.word_ops.specs.Laws.Lists.{and_both, only_if-some}
use Rattle.word_ops.specs.Laws.Accesses.{copy-some, initialise_from-some}
use Rattle.word_ops.specs.Laws.Fading.{CellsFade-refl}
use Rattle.word_ops.specs.Laws.FadedStores.{CellsFade-append, Fades-refl, Fades-puts}
use Rattle.word_ops.specs.Laws.Loads.{length-cells_from}
use Rattle.word_ops.specs.Laws.Regions.{length-CellsFade}
use Rattle.core_lang.specs.Copying.{reduced, only_byte, cells_of_unit, in_units, overlap_in_part, copied}
use Rattle.core_lang.specs.WellFormed.{IsUnits}
use Rattle.core_lang.specs.Laws.Regions.{copied-some}

-- ---- cells

bytes_fade : (cs : List Cell) → CellsFade (map reduced cs) (map only_byte cs)
bytes_fade [] = tt
bytes_fade (Unset ∷ cs) = bytes_fade cs
bytes_fade (Byte b ∷ cs) = (refl, bytes_fade cs)
bytes_fade (Part j r o ∷ cs) = bytes_fade cs

-- the cells of a pointer have no byte to reduce
parts_reduced : (k r o : ℕ) (cs : List Cell) → are_parts k r o cs ≡ true → map reduced cs ≡ cs
parts_reduced k r o [] e = refl
parts_reduced k r o (Unset ∷ cs) e = absurd (false≢true e)
parts_reduced k r o (Byte b ∷ cs) e = absurd (false≢true e)
parts_reduced k r o (Part j q p ∷ cs) e =
    let x = and_both (j == k) ((q == r) && ((p == o) && are_parts (k + 1) r o cs)) e in
    let y = and_both (q == r) ((p == o) && are_parts (k + 1) r o cs) x.1 in
    ap (λ cs. Part j q p ∷ cs) (parts_reduced (k + 1) r o cs (and_both (p == o) (are_parts (k + 1) r o cs) y.1).1)

pointer_reduced : (cs : List Cell) (v : Value) → pointer_in cs ≡ Some v → map reduced cs ≡ cs
pointer_reduced [] v e = absurd (none-some v e)
pointer_reduced (Unset ∷ cs) v e = absurd (none-some v e)
pointer_reduced (Byte b ∷ cs) v e = absurd (none-some v e)
pointer_reduced (Part k r o ∷ cs) v e =
    parts_reduced 0 r o (Part k r o ∷ cs) (only_if-some (are_parts 0 r o (Part k r o ∷ cs)) (Pointer r o) v e).0

unit_fades : (cs : List Cell) (v : Option Value) → pointer_in cs ≡ v → CellsFade (map reduced cs) (cells_of_unit cs v)
unit_fades cs None e = bytes_fade cs
unit_fades cs (Some v) e = subst (λ ds. CellsFade ds cs) (sym (pointer_reduced cs v e)) (CellsFade-refl cs)

pub CellsFade-units : (n a : ℕ) (cs : List Cell) → length cs ≡ n * a → CellsFade (map reduced cs) (in_units n a cs)
CellsFade-units zero a [] e = tt
CellsFade-units zero a (c ∷ cs) e = absurd (none e)
  where
    none : length (c ∷ cs) ≡ zero * a → ⊥
    none e = omega (arith, e)
CellsFade-units (suc n) a cs e =
    let l : length (drop a cs) ≡ n * a = omega (arith, length-drop a cs, e, suc-mul n a) in
    let both : map reduced (take a cs) ++ map reduced (drop a cs) ≡ map reduced cs = sym (map-append reduced (take a cs) (drop a cs)) ∙ ap (map reduced) (take-append-drop a cs) in
    subst (λ l. CellsFade l (in_units (suc n) a cs)) both (CellsFade-append (map reduced (take a cs)) (cells_of_unit (take a cs) (pointer_in (take a cs))) (map reduced (drop a cs)) (in_units n a (drop a cs)) (unit_fades (take a cs) (pointer_in (take a cs)) refl) (CellsFade-units n a (drop a cs) l))

-- as many units as the size has
pub units_count : (n a : ℕ) → IsUnits n a → n / a * a ≡ n
units_count n a h =
    let positive : 0 < a = ⊎_elim (λ e. omega (arith, e)) (λ k. ⊎_elim (λ e. omega (arith, e)) (λ e. omega (arith, e)) k) h.unit in
    ap (λ n. n / a * a) h.whole ∙ ap (λ m. m * a) (mul-div_cancel h.count positive) ∙ sym h.whole

length_reduced : (cs : List Cell) → length (map reduced cs) ≡ length cs
length_reduced [] = refl
length_reduced (c ∷ cs) = ap suc (length_reduced cs)

pub length-units : (n a : ℕ) (cs : List Cell) → length cs ≡ n * a → length (in_units n a cs) ≡ length cs
length-units n a cs e = length-CellsFade (map reduced cs) (in_units n a cs) (CellsFade-units n a cs e) ∙ length_reduced cs

-- ---- stores

-- a copy that is defined puts the cells of the source there, with their bytes modulo 2^8, but for cells that it makes Unset
pub copied-cells : (s t : Store) (p q : Value) (n a : ℕ) → IsUnits n a → copied s p q n a ≡ Some t →
    (cs : List Cell) × (u : Store) × (cells_from s q n a ≡ Some cs) × (put_cells s p a (map reduced cs) ≡ Some u) × Fades u t
copied-cells s t p q n a units e =
    let h = copied-some s t p q n a e in
    let l = length-cells_from s q n a h.cells h.source ∙ sym (units_count n a units) in
    let d = Fades-puts s s t p a (map reduced h.cells) (in_units (n / a) a h.cells) (Fades-refl s) (CellsFade-units (n / a) a h.cells l) h.target in
    (h.cells, d.0, h.source, d.1, d.2)

-- of bytes below 2^8 it is the copy of all cells, but for cells that it makes Unset
pub copied-copy : (s t : Store) (p q : Value) (n a : ℕ) (cs : List Cell) → IsUnits n a → copied s p q n a ≡ Some t →
    cells_from s q n a ≡ Some cs → map reduced cs ≡ cs → (u : Store) × (copy s p q n a ≡ Some u) × Fades u t
copied-copy s t p q n a cs units e c bytes =
    let h = copied-some s t p q n a e in
    let k = copied-cells s t p q n a units e in
    let same : put_cells s p a cs ≡ Some k.1 =
    ap (put_cells s p a) (sym bytes) ∙ ap (λ cs. put_cells s p a (map reduced cs)) (some_same cs k.0 (sym c ∙ k.2)) ∙ k.3 in
    (k.1, ap (λ b. when (not b) (initialise_from s p q n a)) h.modifiable ∙ ap (option_and_then (put_cells s p a)) c ∙ same, k.4)
  where
    some_same : (xs ys : List Cell) → Some xs ≡ Some ys → xs ≡ ys
    some_same xs ys e = cc

-- where a copy of all cells is defined and the ranges do not overlap in part, one by units is
pub copy-copied : (s u : Store) (p q : Value) (n a : ℕ) → IsUnits n a → overlap_in_part p q n ≡ false →
    copy s p q n a ≡ Some u → (t : Store) × (copied s p q n a ≡ Some t)
copy-copied s u p q n a units apart e =
    let w = copy-some s u p q n a e in
    let c = initialise_from-some s u p q n a w.1 in
    let ds = in_units (n / a) a c.0 in
    let l = length-cells_from s q n a c.0 c.1 ∙ sym (units_count n a units) in
    let same : length c.0 ≡ length ds = sym (length-units (n / a) a c.0 l) in
    let h = c.2 in
    let t = slice_set s h.region (with_cells h.object h.offset ds) in
    let put : put_cells s p a ds ≡ Some t = ap (λ p. put_cells s p a ds) h.pointer ∙ ap (put_in s h.region h.offset a ds) h.at ∙ ap (λ m. only_if (may_access h.object m a h.offset) t) (sym same) ∙ ap (λ b. only_if b t) h.access in (
      t,
      ap (λ b. when (not (b || overlap_in_part p q n)) (option_and_then (put_cells s p a) (option_map (in_units (n / a) a) (cells_from s q n a)))) w.0 ∙ ap (λ b. when (not b) (option_and_then (put_cells s p a) (option_map (in_units (n / a) a) (cells_from s q n a)))) apart ∙ ap (λ o. option_and_then (put_cells s p a) (option_map (in_units (n / a) a) o)) c.1 ∙ put,
    )
