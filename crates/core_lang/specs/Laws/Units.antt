-- Laws of copies as loads and stores: a copy is the loads and stores of its units, but for cells that it makes Unset.
-- No contract cites this file: it holds proofs.
use Rattle.std.proofs.Common.{◌≡◌, ◌≢◌, refl, sym, ap, ◌∙◌, subst, ℕ, zero, suc, ◌+◌, ◌*◌, ◌<◌, ◌≤◌, ◌⊎◌, inl, inr, ⊎_elim, List, [], ◌∷◌, ◌++◌, length, take, drop, arith, append_assoc, length-append}
use Rattle.std.proofs.Math.Nat.{suc-mul}
use Rattle.std.proofs.lemmas.Bool.{false≢true, eqb-true}
use Rattle.std.proofs.lemmas.Bool.Decides.{eqb_tells, nat_tests}
use Rattle.std.proofs.lemmas.List.{take-append-drop, take-take, take_at, drop-take, length-take-le}
use Rattle.std.proofs.lemmas.Option.{none-some}
use Rattle.std.specs.Prelude.{Option, Some, None, Bool, true, false, not, ◌&&◌, ◌||◌, ◌==◌, ◌/◌, ◌%◌, nat_le, map, slice_get, slice_set}
use Rattle.std.specs.Option.{option_map, option_or, option_and_then}
use Rattle.word_ops.specs.declared.operation.Width.{Width}
use Rattle.word_ops.specs.declared.operation.Width.TheVariants.{U8, S8, U16, S16, Word}
use Rattle.word_ops.specs.Choice.{only_if, when}
use Rattle.word_ops.specs.Store.{Value, Number, Pointer, Cell, Unset, Byte, Part, Region, Store, Shape, shape}
use Rattle.word_ops.specs.Access.{bytes_of, narrowed_to, holds_pointer, number_in, are_parts, pointer_in, decode, number_cells, pointer_cells, encode, may_access, cells_in, cells_from, cells_at, with_cells, put_in, put_cells, is_constant, is_constant_in, initialise, write, AreDisjoint}
use Rattle.word_ops.specs.Changes.{CellsFade, Fades, HasBytes, HasNoByte, MayLoad}
use Rattle.word_ops.specs.Laws.Lists.{and_both, only_if-some, slice_get-slice_set, slice_set-twice, slice_set-same}
use Rattle.word_ops.specs.Laws.Accesses.{Puts, may_access-true, MayAccess-true, length-encode, length-with_cells}
use Rattle.word_ops.specs.Laws.Regions.{Fades-shapes}
use Rattle.word_ops.specs.Laws.Fading.{CellsFade-refl, CellsFade-take, CellsFade-drop, CellsFade-decode, Fades-cells}
use Rattle.word_ops.specs.Laws.FadedStores.{CellsFade-append, RegionFades-refl, Fades-refl, Fades-trans, Fades-puts, set_fades, with_cells_fade}
use Rattle.word_ops.specs.Laws.Loads.{cells_behind, Puts-elsewhere, length-cells_from}
use Rattle.core_lang.specs.Copying.{only_byte, cells_of_unit, in_units, overlap_in_part, copied, width_of_unit, LoadsAndStores}
use Rattle.core_lang.specs.WellFormed.{IsUnits}
use Rattle.core_lang.specs.Laws.Regions.{copied-some}
use Rattle.core_lang.specs.Laws.Copies.{length-units, units_count}
use Rattle.core_lang.specs.Laws.Filling.{next_aligned}

-- ---- a pointer that is whole

-- as many parts of a pointer as there are cells
abbrev parts_on : (k r o : ℕ) → List Cell → List Cell
parts_on k r o [] = []
parts_on k r o (c ∷ cs) = Part k r o ∷ parts_on (k + 1) r o cs

parts_are : (k r o : ℕ) (cs : List Cell) → are_parts k r o cs ≡ true →
    (cs ≡ parts_on k r o cs) × (k + length cs ≡ 4)
parts_are k r o [] e = let four = eqb-true k 4 e in (refl, omega (arith, four))
parts_are k r o (Unset ∷ cs) e = absurd (false≢true e)
parts_are k r o (Byte b ∷ cs) e = absurd (false≢true e)
parts_are k r o (Part j q p ∷ cs) e =
    let x = and_both (j == k) ((q == r) && ((p == o) && are_parts (k + 1) r o cs)) e in
    let y = and_both (q == r) ((p == o) && are_parts (k + 1) r o cs) x.1 in
    let z = and_both (p == o) (are_parts (k + 1) r o cs) y.1 in
    let h = parts_are (k + 1) r o cs z.1 in (
      ap (λ j. Part j q p ∷ cs) (eqb-true j k x.0) ∙ ap (λ q. Part k q p ∷ cs) (eqb-true q r y.0) ∙ ap (λ p. Part k r p ∷ cs) (eqb-true p o z.0) ∙ ap (λ cs. Part k r o ∷ cs) h.0,
      omega (arith, h.1),
    )

four_parts : (r o : ℕ) (cs : List Cell) → length cs ≡ 4 → parts_on 0 r o cs ≡ pointer_cells r o
four_parts r o [] e = absurd (omega (arith, e))
four_parts r o (a ∷ []) e = absurd (omega (arith, e))
four_parts r o (a ∷ b ∷ []) e = absurd (omega (arith, e))
four_parts r o (a ∷ b ∷ c ∷ []) e = absurd (omega (arith, e))
four_parts r o (a ∷ b ∷ c ∷ d ∷ []) e = refl
four_parts r o (a ∷ b ∷ c ∷ d ∷ x ∷ cs) e = absurd (omega (arith, e))

record IsWhole (cs : List Cell) (v : Value) : Type 0 where
  region : ℕ
  offset : ℕ
  pointer : v ≡ Pointer region offset
  cells : cs ≡ pointer_cells region offset
  size : length cs ≡ 4

pointer_is : (cs : List Cell) (v : Value) → pointer_in cs ≡ Some v → IsWhole cs v
pointer_is [] v e = absurd (none-some v e)
pointer_is (Unset ∷ cs) v e = absurd (none-some v e)
pointer_is (Byte b ∷ cs) v e = absurd (none-some v e)
pointer_is (Part k r o ∷ cs) v e =
    let t = only_if-some (are_parts 0 r o (Part k r o ∷ cs)) (Pointer r o) v e in
    let h = parts_are 0 r o (Part k r o ∷ cs) t.0 in
    let l : length (Part k r o ∷ cs) ≡ 4 = omega (arith, h.1) in
    record { region = r; offset = o; pointer = sym t.1; cells = h.0 ∙ four_parts r o (Part k r o ∷ cs) l; size = l }

four_hold : (k : Width) → bytes_of k ≡ 4 → holds_pointer k ≡ true
four_hold U8 e = absurd (omega (arith, e))
four_hold S8 e = absurd (omega (arith, e))
four_hold U16 e = absurd (omega (arith, e))
four_hold S16 e = absurd (omega (arith, e))
four_hold Word e = refl

hold_four : (k : Width) → holds_pointer k ≡ true → bytes_of k ≡ 4
hold_four U8 e = absurd (false≢true e)
hold_four S8 e = absurd (false≢true e)
hold_four U16 e = absurd (false≢true e)
hold_four S16 e = absurd (false≢true e)
hold_four Word e = refl

-- ---- the cells of a unit behind a load and a store

number_fades : (cs : List Cell) (n : ℕ) → HasBytes cs n → CellsFade (number_cells (length cs) n) (map only_byte cs)
number_fades [] n h = tt
number_fades (Unset ∷ cs) n h = number_fades cs (n / 256) h
number_fades (Byte b ∷ cs) n h = (ap Byte h.0, number_fades cs (n / 256) h.1)
number_fades (Part k r o ∷ cs) n h = number_fades cs (n / 256) h

none_fade : (ds cs : List Cell) → length ds ≡ length cs → HasNoByte cs → CellsFade ds (map only_byte cs)
none_fade [] [] l h = tt
none_fade [] (c ∷ cs) l h = absurd (omega (arith, l))
none_fade (d ∷ ds) [] l h = absurd (omega (arith, l))
none_fade (d ∷ ds) (Unset ∷ cs) l h = none_fade ds cs (omega (arith, l)) h
none_fade (d ∷ ds) (Byte b ∷ cs) l h = absurd h
none_fade (d ∷ ds) (Part k r o ∷ cs) l h = none_fade ds cs (omega (arith, l)) h

-- a value that a load of these cells may give is stored as these, but for cells that are Unset
record IsStoredAs (k : Width) (v : Value) (cells : List Cell) : Type 0 where
  stored : List Cell
  encoded : encode k v ≡ Some stored
  fades : CellsFade stored cells

bytes_stored : (s : Store) (k : Width) (cs : List Cell) (v : Value) → length cs ≡ bytes_of k → MayLoad s k cs v →
    IsStoredAs k v (map only_byte cs)
bytes_stored s k cs (Number n) l m = record {
  stored = number_cells (bytes_of k) n;
  encoded = refl;
  fades = subst (λ b. CellsFade (number_cells b n) (map only_byte cs)) l (number_fades cs n m.bytes);
}
bytes_stored s k cs (Pointer r o) l m =
    let four = hold_four k m.kind.0 in
    record {
      stored = pointer_cells r o;
      encoded = ap (λ b. only_if b (pointer_cells r o)) m.kind.0;
      fades = none_fade (pointer_cells r o) cs (sym (l ∙ four)) m.kind.1;
    }

unit_stored : (s : Store) (k : Width) (cs : List Cell) (v : Value) → length cs ≡ bytes_of k → MayLoad s k cs v →
    IsStoredAs k v (cells_of_unit cs (pointer_in cs))
unit_stored s k cs v l m = go (pointer_in cs) refl
  where
    go : (x : Option Value) → pointer_in cs ≡ x → IsStoredAs k v (cells_of_unit cs x)
    go None e = bytes_stored s k cs v l m
    go (Some u) e =
        let h = pointer_is cs u e in
        let holds = four_hold k (sym l ∙ h.size) in
        let d : decode k cs ≡ Some u =
        ap (λ x. option_or (option_map (λ n. Number (narrowed_to k n)) x) (when (holds_pointer k) (pointer_in cs))) (ap number_in h.cells)
        ∙ ap (λ b. when b (pointer_in cs)) holds ∙ e in
        record {
          stored = pointer_cells h.region h.offset;
          encoded = ap (encode k) (m.defined u d ∙ h.pointer) ∙ ap (λ b. only_if b (pointer_cells h.region h.offset)) holds;
          fades = subst (CellsFade (pointer_cells h.region h.offset)) (sym h.cells) (CellsFade-refl (pointer_cells h.region h.offset));
        }

-- ---- the first unit of a range, and those behind it

drop_more : (xs : List Cell) (p b : ℕ) → drop (p + b) xs ≡ drop b (drop p xs)
drop_more xs zero b = let z : 0 + b ≡ b = omega arith in ap (λ n. drop n xs) z
drop_more [] (suc p) b = let z : suc p + b ≡ suc (p + b) = omega arith in ap (λ n. drop n []) z ∙ none b
  where
    none : (b : ℕ) → [] ≡ drop {A = Cell} b []
    none zero = refl
    none (suc b) = refl
drop_more (x ∷ xs) (suc p) b =
    let z : suc p + b ≡ suc (p + b) = omega arith in ap (λ n. drop n (x ∷ xs)) z ∙ drop_more xs p b

unit_cells : (s : Store) (k : Width) (q p m : ℕ) (cs : List Cell) →
    cells_from s (Pointer q p) (bytes_of k + m) (bytes_of k) ≡ Some cs →
    (cells_at s k (Pointer q p) ≡ Some (take (bytes_of k) cs)) × (cells_from s (Pointer q (p + bytes_of k)) m (bytes_of k) ≡ Some (drop (bytes_of k) cs))
unit_cells s k q p m cs e = go (slice_get s q) e
  where
    go : (x : Option Region) → cells_in x (bytes_of k + m) (bytes_of k) p ≡ Some cs →
        (cells_in x (bytes_of k) (bytes_of k) p ≡ Some (take (bytes_of k) cs)) × (cells_in x m (bytes_of k) (p + bytes_of k) ≡ Some (drop (bytes_of k) cs))
    go None e = absurd (none-some cs e)
    go (Some g) e =
        let b = bytes_of k in
        let t = only_if-some (may_access g (b + m) b p) (take (b + m) (drop p g.cells)) cs e in
        let w = may_access-true g (b + m) b p t.0 in
        let first = MayAccess-true g b b p (record { live = w.live; aligned = w.aligned; within = omega (arith, w.within) }) in
        let second = MayAccess-true g m b (p + b) (record { live = w.live; aligned = next_aligned k p w.aligned; within = omega (arith, w.within) }) in (
          ap (λ a. only_if a (take b (drop p g.cells))) first ∙ ap Some (sym (take-take b (b + m) (drop p g.cells) (omega arith)) ∙ ap (take b) t.1),
          ap (λ a. only_if a (take m (drop (p + b) g.cells))) second ∙ ap Some (ap (take m) (drop_more g.cells p b) ∙ sym (drop-take b m (drop p g.cells)) ∙ ap (drop b) t.1),
        )

-- cells put behind others are all put at once
puts_together : (xs ds us : List Cell) (o b : ℕ) → length ds ≡ b → o + b ≤ length xs →
    take (o + b) (take o xs ++ (ds ++ drop (o + length ds) xs)) ++ (us ++ drop (o + b + length us) (take o xs ++ (ds ++ drop (o + length ds) xs))) ≡ take o xs ++ ((ds ++ us) ++ drop (o + length (ds ++ us)) xs)
puts_together xs ds us o b l le =
    let now = take o xs ++ (ds ++ drop (o + length ds) xs) in
    let front : take (o + b) now ≡ take o xs ++ ds =
    ap (take (o + b)) (sym (append_assoc (take o xs) ds (drop (o + length ds) xs)))
    ∙ take_at (take o xs ++ ds) (drop (o + length ds) xs) (o + b) (length-append (take o xs) ds ∙ omega (arith, l, length-take-le o xs (omega (arith, le)))) in
    let back : drop (o + b + length us) now ≡ drop (o + b + length us) xs = cells_behind xs ds o (o + b + length us) (omega (arith, l)) (omega (arith, le)) in
    let all : o + b + length us ≡ o + length (ds ++ us) = omega (arith, l, length-append ds us) in
    ap (λ ys. ys ++ (us ++ drop (o + b + length us) now)) front
    ∙ ap (λ ys. (take o xs ++ ds) ++ (us ++ ys)) (back ∙ ap (λ n. drop n xs) all)
    ∙ append_assoc (take o xs) ds (us ++ drop (o + length (ds ++ us)) xs)
    ∙ ap (λ ys. take o xs ++ ys) (sym (append_assoc ds us (drop (o + length (ds ++ us)) xs)))

nothing_put : (xs : List Cell) (o : ℕ) → take o xs ++ ([] ++ drop (o + length {A = Cell} []) xs) ≡ xs
nothing_put xs o = let z : o + 0 ≡ o = omega arith in ap (λ n. take o xs ++ drop n xs) z ∙ take-append-drop o xs

-- ---- stores

may_write : (s : Store) (k : Width) (r o : ℕ) (v : Value) (ds : List Cell) (g : Region) → slice_get s r ≡ Some g →
    g.constant ≡ false → may_access g (length ds) (bytes_of k) o ≡ true → encode k v ≡ Some ds →
    write s k (Pointer r o) v ≡ Some (slice_set s r (with_cells g o ds))
may_write s k r o v ds g there modifiable access e =
    ap (λ x. when (not (is_constant_in x)) (initialise s k (Pointer r o) v)) there
    ∙ ap (λ c. when (not c) (initialise s k (Pointer r o) v)) modifiable
    ∙ ap (option_and_then (put_cells s (Pointer r o) (bytes_of k))) e ∙ ap (put_in s r o (bytes_of k) ds) there
    ∙ ap (λ t. only_if t (slice_set s r (with_cells g o ds))) access

-- the last store may have further cells Unset
LoadsAndStores-fades : (k : Width) (n : ℕ) (s : Store) (r o q p : ℕ) (t u : Store) → Fades t u →
    LoadsAndStores k n s r o q p t → LoadsAndStores k n s r o q p u
LoadsAndStores-fades k zero s r o q p t u f h = Fades-trans s t u h f
LoadsAndStores-fades k (suc n) s r o q p t u f h =
    (h.0, h.1, λ v m. let c = h.2 v m in (c.0, c.1, LoadsAndStores-fades k n c.0 r (o + bytes_of k) q (p + bytes_of k) t u f c.2))

module _ (k : Width) (r q : ℕ) where
  -- two ranges of so many bytes are the same or have none in common
  abbrev IsApart : (o p n : ℕ) → Type 0
  IsApart o p n = (r ≢ q) ⊎ ((o ≡ p) ⊎ ((o + n ≤ p) ⊎ (p + n ≤ o)))

  apart_next : (o p b n : ℕ) → IsApart o p (b + n) → IsApart (o + b) (p + b) n
  apart_next o p b n (inl ne) = inl ne
  apart_next o p b n (inr (inl e)) = inr (inl (omega (arith, e)))
  apart_next o p b n (inr (inr (inl le))) = inr (inr (inl (omega (arith, le))))
  apart_next o p b n (inr (inr (inr le))) = inr (inr (inr (omega (arith, le))))

  disjoint : (o p b n : ℕ) → IsApart o p (b + n) → AreDisjoint (Pointer r o) b (Pointer q (p + b)) n
  disjoint o p b n (inl ne) = inl ne
  disjoint o p b n (inr (inl e)) = inr (inr (omega (arith, e)))
  disjoint o p b n (inr (inr (inl le))) = inr (inr (omega (arith, le)))
  disjoint o p b n (inr (inr (inr le))) = inr (inl (omega (arith, le)))

  units-lead : (n : ℕ) (s : Store) (o p : ℕ) (cs : List Cell) (g : Region) → slice_get s r ≡ Some g → g.live ≡ true →
      g.constant ≡ false → o % bytes_of k ≡ 0 → o + n * bytes_of k ≤ length g.cells →
      cells_from s (Pointer q p) (n * bytes_of k) (bytes_of k) ≡ Some cs → IsApart o p (n * bytes_of k) →
      LoadsAndStores k n s r o q p (slice_set s r (with_cells g o (in_units n (bytes_of k) cs)))
  units-lead zero s o p cs g there live modifiable aligned within source apart =
      let same : slice_set s r (with_cells g o []) ≡ s =
      ap (λ cs. slice_set s r (record g { cells = cs })) (nothing_put g.cells o) ∙ slice_set-same s r g there in
      subst (Fades s) (sym same) (Fades-refl s)
  units-lead (suc n) s o p cs g there live modifiable aligned within source apart =
      (take (bytes_of k) cs, c.0, λ v may. step (λ s g there live modifiable aligned within source apart. units-lead n s (o + bytes_of k) (p + bytes_of k) (drop (bytes_of k) cs) g there live modifiable aligned within source apart) v (unit_stored s k (take (bytes_of k) cs) v (length-cells_from s (Pointer q p) (bytes_of k) (bytes_of k) (take (bytes_of k) cs) c.0) may))
    where
      more : suc n * bytes_of k ≡ bytes_of k + n * bytes_of k
      more = omega (arith, suc-mul n (bytes_of k))

      c : (cells_at s k (Pointer q p) ≡ Some (take (bytes_of k) cs)) × (cells_from s (Pointer q (p + bytes_of k)) (n * bytes_of k) (bytes_of k) ≡ Some (drop (bytes_of k) cs))
      c = unit_cells s k q p (n * bytes_of k) cs (subst (λ l. cells_from s (Pointer q p) l (bytes_of k) ≡ Some cs) more source)

      step : ((s : Store) (g : Region) → slice_get s r ≡ Some g → g.live ≡ true → g.constant ≡ false → (o + bytes_of k) % bytes_of k ≡ 0 → o + bytes_of k + n * bytes_of k ≤ length g.cells → cells_from s (Pointer q (p + bytes_of k)) (n * bytes_of k) (bytes_of k) ≡ Some (drop (bytes_of k) cs) → IsApart (o + bytes_of k) (p + bytes_of k) (n * bytes_of k) → LoadsAndStores k n s r (o + bytes_of k) q (p + bytes_of k) (slice_set s r (with_cells g (o + bytes_of k) (in_units n (bytes_of k) (drop (bytes_of k) cs))))) →
          (v : Value) → IsStoredAs k v (cells_of_unit (take (bytes_of k) cs) (pointer_in (take (bytes_of k) cs))) →
          (u : Store) × (write s k (Pointer r o) v ≡ Some u) × LoadsAndStores k n u r (o + bytes_of k) q (p + bytes_of k) (slice_set s r (with_cells g o (in_units (suc n) (bytes_of k) cs)))
      step next v i =
          let b = bytes_of k in
          let ds = i.stored in
          let l : length ds ≡ b = length-encode k v ds i.encoded in
          let access = MayAccess-true g (length ds) b o (record { live = live; aligned = aligned; within = omega (arith, l, within, more) }) in
          let now = with_cells g o ds in
          let size = length-with_cells g o ds (omega (arith, l, within, more)) in
          let s' = slice_set s r now in
          let far = subst (IsApart o p) more apart in
          let puts : Puts s s' (Pointer r o) b ds = record { region = r; offset = o; pointer = refl; object = g; at = there; access = access; after = refl } in
          let source' = Puts-elsewhere s s' (Pointer r o) (Pointer q (p + b)) b (n * b) b ds puts (subst (λ d. AreDisjoint (Pointer r o) d (Pointer q (p + b)) (n * b)) (sym l) (disjoint o p b (n * b) far)) ∙ c.1 in
          let rest = in_units n b (drop b cs) in
          let first = cells_of_unit (take b cs) (pointer_in (take b cs)) in
          let behind = next s' now (slice_get-slice_set s r g now there) live modifiable (next_aligned k o aligned) (omega (arith, size, within, more)) source' (apart_next o p b (n * b) far) in
          let two : slice_set s' r (with_cells now (o + b) rest) ≡ slice_set s r (with_cells g o (ds ++ rest)) =
          slice_set-twice s r now (with_cells now (o + b) rest)
          ∙ ap (λ cs. slice_set s r (record g { cells = cs })) (puts_together g.cells ds rest o b l (omega (arith, within, more))) in
          let faded = set_fades s s r g g (with_cells g o (ds ++ rest)) (with_cells g o (first ++ rest)) (Fades-refl s) there there (with_cells_fade g g o (ds ++ rest) (first ++ rest) (CellsFade-append ds first rest rest i.fades (CellsFade-refl rest)) (RegionFades-refl (Some g))) in (
            s',
            may_write s k r o v ds g there modifiable access i.encoded,
            LoadsAndStores-fades k n s' r (o + b) q (p + b) (slice_set s' r (with_cells now (o + b) rest)) (slice_set s r (with_cells g o (first ++ rest))) (subst (λ u. Fades u (slice_set s r (with_cells g o (first ++ rest)))) (sym two) faded) behind,
          )

  -- ranges that do not overlap in part
  far_apart : (o p n : ℕ) → overlap_in_part (Pointer r o) (Pointer q p) n ≡ false → IsApart o p n
  far_apart o p n e =
      ⊎_elim (λ y. ⊎_elim (λ z. inr (inl z.1)) (λ z. inr (inr (far y.0 z.0))) (eqb_tells o p)) (λ n. inl n.1) (eqb_tells r q)
    where
      le_or : (a b : ℕ) → (a ≤ b) ⊎ (b < a)
      le_or a b = grind (arith, nat_tests)

      neither : (a b c d : ℕ) → b < a → d < c → nat_le a b || nat_le c d ≡ false
      neither a b c d l k = grind (arith, nat_tests)

      both : (a b c : Bool) → a ≡ true → b ≡ false → c ≡ false → a && (not b && not c) ≡ true
      both true false false x y z = refl
      both false b c x y z = absurd (false≢true x)
      both true true c x y z = absurd (false≢true (sym y))
      both true false true x y z = absurd (false≢true (sym z))

      far : (r == q) ≡ true → (o == p) ≡ false → (o + n ≤ p) ⊎ (p + n ≤ o)
      far same other =
          ⊎_elim (λ a. inl a) (λ a. ⊎_elim (λ b. inr b) (λ b. absurd (false≢true (sym e ∙ both (r == q) (o == p) (nat_le (o + n) p || nat_le (p + n) o) same other (neither (o + n) p (p + n) o a b)))) (le_or (p + n) o)) (le_or (o + n) p)

-- ---- a copy

unit_width : (a : ℕ) → (a ≡ 1) ⊎ ((a ≡ 2) ⊎ (a ≡ 4)) → bytes_of (width_of_unit a) ≡ a
unit_width a (inl e) = ap (λ a. bytes_of (width_of_unit a)) e ∙ sym e
unit_width a (inr (inl e)) = ap (λ a. bytes_of (width_of_unit a)) e ∙ sym e
unit_width a (inr (inr e)) = ap (λ a. bytes_of (width_of_unit a)) e ∙ sym e

same_place : (r o q p : ℕ) → Pointer r o ≡ Pointer q p → (r ≡ q) × (o ≡ p)
same_place r o q p e = (cc, cc)

copied-at : (k : Width) (s t : Store) (r o q p n : ℕ) → IsUnits n (bytes_of k) →
    copied s (Pointer r o) (Pointer q p) n (bytes_of k) ≡ Some t →
    LoadsAndStores k (n / bytes_of k) s r o q p t
copied-at k s t r o q p n units e =
    let b = bytes_of k in
    let h = copied-some s t (Pointer r o) (Pointer q p) n b e in
    let u = h.target in
    let at = same_place r o u.region u.offset u.pointer in
    let whole = units_count n b units in
    let size : length (in_units (n / b) b h.cells) ≡ n = length-units (n / b) b h.cells (length-cells_from s (Pointer q p) n b h.cells h.source ∙ sym whole) ∙ length-cells_from s (Pointer q p) n b h.cells h.source in
    let m = may_access-true u.object (length (in_units (n / b) b h.cells)) b u.offset u.access in
    let there : slice_get s r ≡ Some u.object = ap (slice_get s) at.0 ∙ u.at in
    let place = at.1 in
    let last : slice_set s r (with_cells u.object o (in_units (n / b) b h.cells)) ≡ t =
    ap (λ r. slice_set s r (with_cells u.object o (in_units (n / b) b h.cells))) at.0
    ∙ ap (λ o. slice_set s u.region (with_cells u.object o (in_units (n / b) b h.cells))) at.1 ∙ u.after in
    subst (LoadsAndStores k (n / b) s r o q p) last (units-lead k r q (n / b) s o p h.cells u.object there m.live (sym (ap is_constant_in there) ∙ h.modifiable) (ap (λ o. o % b) at.1 ∙ m.aligned) (omega (arith, m.within, place, size, whole)) (subst (λ l. cells_from s (Pointer q p) l b ≡ Some h.cells) (sym whole) h.source) (subst (IsApart k r q o p) (sym whole) (far_apart k r q o p n h.apart)))

copied-units : (s t : Store) (r o q p n a : ℕ) → IsUnits n a → copied s (Pointer r o) (Pointer q p) n a ≡ Some t →
    LoadsAndStores (width_of_unit a) (n / a) s r o q p t
copied-units s t r o q p n a units e =
    let w = unit_width a units.unit in
    subst (λ b. LoadsAndStores (width_of_unit a) (n / b) s r o q p t) w (copied-at (width_of_unit a) s t r o q p n (subst (IsUnits n) (sym w) units) (subst (λ b. copied s (Pointer r o) (Pointer q p) n b ≡ Some t) (sym w) e))

-- ---- a copy in a store that has fewer cells Unset

only_fade : (cs ds : List Cell) → CellsFade cs ds → CellsFade (map only_byte cs) (map only_byte ds)
only_fade [] [] h = tt
only_fade [] (d ∷ ds) h = absurd h
only_fade (c ∷ cs) [] h = absurd h
only_fade (c ∷ cs) (Unset ∷ ds) h = only_fade cs ds h
only_fade (c ∷ cs) (Byte b ∷ ds) h = (ap only_byte h.0, only_fade cs ds h.1)
only_fade (c ∷ cs) (Part k r o ∷ ds) h = only_fade cs ds h.1

more_have_no_byte : (c : Cell) (cs : List Cell) → HasNoByte (c ∷ cs) → HasNoByte cs
more_have_no_byte Unset cs h = h
more_have_no_byte (Byte b) cs h = absurd h
more_have_no_byte (Part k r o) cs h = h

whole_fades : (cs ds : List Cell) → CellsFade cs ds → HasNoByte cs → CellsFade cs (map only_byte ds)
whole_fades [] [] h n = tt
whole_fades [] (d ∷ ds) h n = absurd h
whole_fades (c ∷ cs) [] h n = absurd h
whole_fades (c ∷ cs) (Unset ∷ ds) h n = whole_fades cs ds h (more_have_no_byte c cs n)
whole_fades (c ∷ cs) (Byte b ∷ ds) h n = absurd (subst (λ c. HasNoByte (c ∷ cs)) h.0 n)
whole_fades (c ∷ cs) (Part k r o ∷ ds) h n = whole_fades cs ds h.1 (more_have_no_byte c cs n)

unit_fade : (cs ds : List Cell) → CellsFade cs ds →
    CellsFade (cells_of_unit cs (pointer_in cs)) (cells_of_unit ds (pointer_in ds))
unit_fade cs ds h = go (pointer_in cs) (pointer_in ds) refl refl
  where
    go : (x y : Option Value) → pointer_in cs ≡ x → pointer_in ds ≡ y → CellsFade (cells_of_unit cs x) (cells_of_unit ds y)
    go None None e f = only_fade cs ds h
    go (Some u) None e f = whole_fades cs ds h (subst HasNoByte (sym (pointer_is cs u e).cells) tt)
    go x (Some v) e f =
        let w = pointer_is ds v f in
        let d : decode Word ds ≡ Some v =
        ap (λ x. option_or (option_map (λ n. Number (narrowed_to Word n)) x) (pointer_in ds)) (ap number_in w.cells) ∙ f in
        let same = CellsFade-decode Word cs ds v h d in
        let there : x ≡ Some v = sym e ∙ ap pointer_in same ∙ f in
        subst (λ x. CellsFade (cells_of_unit cs x) ds) (sym there) h

units_fade : (n a : ℕ) (cs ds : List Cell) → CellsFade cs ds → CellsFade (in_units n a cs) (in_units n a ds)
units_fade zero a cs ds h = tt
units_fade (suc n) a cs ds h =
    CellsFade-append (cells_of_unit (take a cs) (pointer_in (take a cs))) (cells_of_unit (take a ds) (pointer_in (take a ds))) (in_units n a (drop a cs)) (in_units n a (drop a ds)) (unit_fade (take a cs) (take a ds) (CellsFade-take a cs ds h)) (units_fade n a (drop a cs) (drop a ds) (CellsFade-drop a cs ds h))

abbrev is_constant_shape : Option Shape → Bool
is_constant_shape None = false
is_constant_shape (Some z) = z.constant

constant_told : (x : Option Region) → is_constant_in x ≡ is_constant_shape (option_map shape x)
constant_told None = refl
constant_told (Some g) = refl

constant_faded : (x s : Store) (p : Value) → Fades x s → is_constant x p ≡ is_constant s p
constant_faded x s (Number n) f = refl
constant_faded x s (Pointer r o) f =
    constant_told (slice_get x r) ∙ ap is_constant_shape (sym (Fades-shapes x s f r)) ∙ sym (constant_told (slice_get s r))

-- a copy that is defined in the store with Unset cells is defined in the other one too
pub Fades-copied : (x s t : Store) (p q : Value) (n a : ℕ) → Fades x s → copied s p q n a ≡ Some t →
    (u : Store) × (copied x p q n a ≡ Some u) × Fades u t
Fades-copied x s t p q n a f e =
    let h = copied-some s t p q n a e in
    let c = Fades-cells x s q n a h.cells f h.source in
    let d = Fades-puts x s t p a (in_units (n / a) a c.0) (in_units (n / a) a h.cells) f (units_fade (n / a) a c.0 h.cells c.2) h.target in (
      d.0,
      ap (λ b. when (not (b || overlap_in_part p q n)) (option_and_then (put_cells x p a) (option_map (in_units (n / a) a) (cells_from x q n a)))) (constant_faded x s p f ∙ h.modifiable) ∙ ap (λ b. when (not b) (option_and_then (put_cells x p a) (option_map (in_units (n / a) a) (cells_from x q n a)))) h.apart ∙ ap (λ o. option_and_then (put_cells x p a) (option_map (in_units (n / a) a) o)) c.1 ∙ d.1,
      d.2,
    )

-- a copy is the loads and stores of its units, but for cells that are Unset behind it, also from a store that has fewer cells
-- Unset
pub copied-lead : (x s t : Store) (r o q p n a : ℕ) → IsUnits n a → Fades x s →
    copied s (Pointer r o) (Pointer q p) n a ≡ Some t → LoadsAndStores (width_of_unit a) (n / a) x r o q p t
copied-lead x s t r o q p n a units f e =
    let d = Fades-copied x s t (Pointer r o) (Pointer q p) n a f e in
    LoadsAndStores-fades (width_of_unit a) (n / a) x r o q p d.0 t d.2 (copied-units x d.0 r o q p n a units d.1)
