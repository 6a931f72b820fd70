-- Laws of cells as bytes of a machine's memory.
-- No contract cites this file: it holds proofs.
use Rattle.std.proofs.Common.{◌≡◌, refl, sym, ap, ◌∙◌, subst, ℕ, zero, suc, ◌+◌, ◌*◌, ◌<◌, List, [], ◌∷◌, length, arith}
use Rattle.std.proofs.lemmas.Bool.{false≢true, eqb-true}
use Rattle.std.proofs.Math.Nat.{mod-mod}
use Rattle.std.proofs.lemmas.Nat.{mod-pow-add}
use Rattle.std.proofs.lemmas.Option.{none-some, same_Some}
use Rattle.std.specs.Prelude.{Option, Some, None, true, ◌&&◌, ◌/◌, ◌%◌, ◌^◌, ◌==◌}
use Rattle.std.specs.Option.{option_map, option_or}
use Rattle.word_ops.specs.declared.operation.Width.{Width}
use Rattle.word_ops.specs.declared.operation.Width.TheVariants.{U8, S8, U16, S16, Word}
use Rattle.word_ops.specs.Choice.{when}
use Rattle.word_ops.specs.Store.{Value, Number, Pointer, Cell, Unset, Byte, Part, Store}
use Rattle.word_ops.specs.Access.{bytes_of, narrowed_to, holds_pointer, number_in, are_parts, pointer_in, decode, number_cells, pointer_cells, encode}
use Rattle.word_ops.specs.Changes.{SameRegions, CellsFade, HasBytes}
use Rattle.word_ops.specs.Addresses.{word_of_value, AreCellsIn, byte_of_cell, IsByte, HasCells}
use Rattle.word_ops.specs.Laws.Lists.{and_both, only_if-some, when-some}
use Rattle.word_ops.specs.Laws.Widths.{narrowed_to-same}
use Rattle.word_ops.specs.Laws.Values.{word_of_value-same}

-- the bytes of the cells are among those that a machine has
pub HasCells-bytes : (s : Store) (cs : List Cell) (n : ℕ) → HasCells s cs n → HasBytes cs n
HasCells-bytes s [] n h = tt
HasCells-bytes s (Unset ∷ cs) n h = HasCells-bytes s cs (n / 256) h.1
HasCells-bytes s (Byte b ∷ cs) n h = (h.0, HasCells-bytes s cs (n / 256) h.1)
HasCells-bytes s (Part k r o ∷ cs) n h = HasCells-bytes s cs (n / 256) h.1

-- a store of a value puts its word's bytes there
number_has_cells : (s : Store) (count n : ℕ) → HasCells s (number_cells count n) n
number_has_cells s zero n = tt
number_has_cells s (suc count) n = (omega arith, number_has_cells s count (n / 256))

pub HasCells-encode : (s : Store) (k : Width) (v : Value) (cs : List Cell) → encode k v ≡ Some cs →
    HasCells s cs (word_of_value s v)
HasCells-encode s k (Number n) cs e =
    subst (λ cs. HasCells s cs n) (same_Some (number_cells (bytes_of k) n) cs e) (number_has_cells s (bytes_of k) n)
HasCells-encode s k (Pointer r o) cs e =
    subst (λ cs. HasCells s cs (word_of_value s (Pointer r o))) (only_if-some (holds_pointer k) (pointer_cells r o) cs e).1 (parts (word_of_value s (Pointer r o)) refl)
  where
    parts : (w : ℕ) → word_of_value s (Pointer r o) ≡ w → HasCells s (pointer_cells r o) w
    parts w e = (
      ap (λ w. w % 256) (sym e) ∙ first (word_of_value s (Pointer r o)),
      (
        ap (λ w. w / 256 % 256) (sym e) ∙ refl,
        (
          ap (λ w. w / 256 / 256 % 256) (sym e) ∙ second (word_of_value s (Pointer r o)),
          (ap (λ w. w / 256 / 256 / 256 % 256) (sym e) ∙ third (word_of_value s (Pointer r o)), tt),
        ),
      ),
    )
      where
        first : (w : ℕ) → w % 256 ≡ w / 1 % 256
        first w = omega arith

        second : (w : ℕ) → w / 256 / 256 % 256 ≡ w / 65536 % 256
        second w = omega arith

        third : (w : ℕ) → w / 256 / 256 / 256 % 256 ≡ w / 16777216 % 256
        third w = omega arith

-- ---- what a machine loads

-- the low bytes of a number are those of its rest and its lowest
pub low_bytes-first : (n l : ℕ) → n % 2 ^ (8 * suc l) ≡ n / 256 % 2 ^ (8 * l) * 256 + n % 256
low_bytes-first n l =
    let more : 8 * suc l ≡ 8 * l + 8 = omega arith in ap (λ j. n % 2 ^ j) more ∙ mod-pow-add n (8 * l) 8

low_bytes : (n m l : ℕ) (b : ℕ) → n % 256 ≡ b % 256 → n / 256 % 2 ^ (8 * l) ≡ m →
    n % 2 ^ (8 * suc l) ≡ b % 256 + 256 * m
low_bytes n m l b e f = low_bytes-first n l ∙ last (n / 256 % 2 ^ (8 * l)) f
  where
    last : (q : ℕ) → q ≡ m → q * 256 + n % 256 ≡ b % 256 + 256 * m
    last q g = omega (arith, e, g)

number_read : (s : Store) (cs : List Cell) (n m : ℕ) → HasCells s cs n → number_in cs ≡ Some m →
    n % 2 ^ (8 * length cs) ≡ m
number_read s [] n m h e = let one : n % 2 ^ (8 * 0) ≡ 0 = omega arith in one ∙ same_Some 0 m e
number_read s (Unset ∷ cs) n m h e = absurd (none-some m e)
number_read s (Part k r o ∷ cs) n m h e = absurd (none-some m e)
number_read s (Byte b ∷ cs) n m h e = go (number_in cs) refl (λ j q. number_read s cs (n / 256) j h.1 q) e
  where
    go : (x : Option ℕ) → number_in cs ≡ x → ((j : ℕ) → number_in cs ≡ Some j → n / 256 % 2 ^ (8 * length cs) ≡ j) →
        option_map (λ n. b % 256 + 256 * n) x ≡ Some m → n % 2 ^ (8 * suc (length cs)) ≡ m
    go None q rest e = absurd (none-some m e)
    go (Some j) q rest e = low_bytes n j (length cs) b h.0 (rest j q) ∙ same_Some (b % 256 + 256 * j) m e

-- the parts of a pointer from one on
abbrev parts_from : (k count r o : ℕ) → List Cell
parts_from k zero r o = []
parts_from k (suc count) r o = Part k r o ∷ parts_from (k + 1) count r o

parts_are : (k r o : ℕ) (cs : List Cell) → are_parts k r o cs ≡ true → cs ≡ parts_from k (length cs) r o
parts_are k r o [] e = refl
parts_are k r o (Unset ∷ cs) e = absurd (false≢true e)
parts_are k r o (Byte b ∷ cs) e = absurd (false≢true e)
parts_are k r o (Part j q p ∷ cs) e =
    let x = and_both (j == k) ((q == r) && ((p == o) && are_parts (k + 1) r o cs)) e in
    let y = and_both (q == r) ((p == o) && are_parts (k + 1) r o cs) x.1 in
    let z = and_both (p == o) (are_parts (k + 1) r o cs) y.1 in
    let a = eqb-true j k x.0 in let b = eqb-true q r y.0 in let c = eqb-true p o z.0 in
    ap (λ j. Part j q p ∷ cs) a ∙ ap (λ q. Part k q p ∷ cs) b ∙ ap (λ p. Part k r p ∷ cs) c
    ∙ ap (λ cs. Part k r o ∷ cs) (parts_are (k + 1) r o cs z.1)

pointer_read : (s : Store) (cs : List Cell) (n : ℕ) (v : Value) → length cs ≡ 4 → word_of_value s v < 2 ^ 32 →
    HasCells s cs n → pointer_in cs ≡ Some v → n % 2 ^ 32 ≡ word_of_value s v
pointer_read s [] n v l lt h e = absurd (none-some v e)
pointer_read s (Unset ∷ cs) n v l lt h e = absurd (none-some v e)
pointer_read s (Byte b ∷ cs) n v l lt h e = absurd (none-some v e)
pointer_read s (Part k r o ∷ cs) n v l lt h e =
    let t = only_if-some (are_parts 0 r o (Part k r o ∷ cs)) (Pointer r o) v e in
    let whole : Part k r o ∷ cs ≡ pointer_cells r o =
    parts_are 0 r o (Part k r o ∷ cs) t.0 ∙ ap (λ c. parts_from 0 c r o) l in
    let w = subst (λ cs. HasCells s cs n) whole h in
    number (word_of_value s (Pointer r o)) (subst (λ v. word_of_value s v < 2 ^ 32) (sym t.1) lt) w.0 w.1.0 w.1.1.0 w.1.1.1.0
    ∙ ap (word_of_value s) t.1
  where
    number : (w : ℕ) → w < 2 ^ 32 → n % 256 ≡ w / 1 % 256 → n / 256 % 256 ≡ w / 256 % 256 →
        n / 256 / 256 % 256 ≡ w / 65536 % 256 → n / 256 / 256 / 256 % 256 ≡ w / 16777216 % 256 → n % 2 ^ 32 ≡ w
    number w lt a b c d = omega (arith, lt, a, b, c, d)

-- a machine that has the bytes of the cells loads the word of the value
pub decode-HasCells : (s : Store) (k : Width) (cs : List Cell) (n : ℕ) (v : Value) → length cs ≡ bytes_of k →
    word_of_value s v < 2 ^ 32 → HasCells s cs n → decode k cs ≡ Some v → narrowed_to k n ≡ word_of_value s v
decode-HasCells s k cs n v l lt h e = go (number_in cs) refl e
  where
    pointer : (k : Width) → length cs ≡ bytes_of k → holds_pointer k ≡ true → pointer_in cs ≡ Some v →
        narrowed_to k n ≡ word_of_value s v
    pointer Word l p e = pointer_read s cs n v l lt h e
    pointer U8 l p e = absurd (false≢true p)
    pointer S8 l p e = absurd (false≢true p)
    pointer U16 l p e = absurd (false≢true p)
    pointer S16 l p e = absurd (false≢true p)

    go : (x : Option ℕ) → number_in cs ≡ x →
        option_or (option_map (λ n. Number (narrowed_to k n)) x) (when (holds_pointer k) (pointer_in cs)) ≡ Some v →
        narrowed_to k n ≡ word_of_value s v
    go None q e = let t = when-some (holds_pointer k) (pointer_in cs) v e in pointer k l t.0 t.1
    go (Some m) q e =
        let low : n % 2 ^ (8 * bytes_of k) ≡ m = ap (λ l. n % 2 ^ (8 * l)) (sym l) ∙ number_read s cs n m h q in
        let same : n % 2 ^ (8 * bytes_of k) ≡ m % 2 ^ (8 * bytes_of k) =
        sym (ap (λ m. m % 2 ^ (8 * bytes_of k)) (sym low) ∙ mod-mod n (2 ^ (8 * bytes_of k))) in
        narrowed_to-same k n m same ∙ ap (word_of_value s) (same_Some (Number (narrowed_to k m)) v e)

-- ---- changes

pub HasCells-fades : (s : Store) (cs ds : List Cell) (n : ℕ) → CellsFade cs ds → HasCells s cs n → HasCells s ds n
HasCells-fades s [] [] n h k = tt
HasCells-fades s [] (d ∷ ds) n h k = absurd h
HasCells-fades s (c ∷ cs) [] n h k = absurd h
HasCells-fades s (c ∷ cs) (Unset ∷ ds) n h k = (tt, HasCells-fades s cs ds (n / 256) h k.1)
HasCells-fades s (c ∷ cs) (Byte b ∷ ds) n h k =
    (subst (λ c. IsByte (byte_of_cell s c) (n % 256)) h.0 k.0, HasCells-fades s cs ds (n / 256) h.1 k.1)
HasCells-fades s (c ∷ cs) (Part j r o ∷ ds) n h k =
    (subst (λ c. IsByte (byte_of_cell s c) (n % 256)) h.0 k.0, HasCells-fades s cs ds (n / 256) h.1 k.1)

pub HasCells-same : (s t : Store) (cs : List Cell) (n : ℕ) → SameRegions s t → AreCellsIn s cs → HasCells s cs n →
    HasCells t cs n
HasCells-same s t [] n h i k = tt
HasCells-same s t (Unset ∷ cs) n h i k = (tt, HasCells-same s t cs (n / 256) h i k.1)
HasCells-same s t (Byte b ∷ cs) n h i k = (k.0, HasCells-same s t cs (n / 256) h i k.1)
HasCells-same s t (Part j r o ∷ cs) n h i k =
    (k.0 ∙ ap (λ w. w / 256 ^ j % 256) (sym (word_of_value-same s t (Pointer r o) h i.0)), HasCells-same s t cs (n / 256) h i.1 k.1)
