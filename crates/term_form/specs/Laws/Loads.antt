-- Laws of what a load gives in a walk.
-- No contract cites this file: it holds proofs.
use Rattle.std.proofs.Common.{◌≡◌, refl, sym, ◌∙◌, ap, subst, arith, ℕ, suc, ◌+◌, ◌*◌, List, [], ◌∷◌, length, Option, Some, None}
use Rattle.std.proofs.Math.Nat.{mod-mod}
use Rattle.std.specs.Prelude.{◌/◌, ◌%◌, ◌^◌, unwrap_or}
use Rattle.std.specs.Option.{option_map, option_or}
use Rattle.word_ops.specs.declared.operation.Width.{Width}
use Rattle.word_ops.specs.Choice.{when}
use Rattle.word_ops.specs.Store.{Value, Number, Cell, Unset, Byte, Part, Store}
use Rattle.word_ops.specs.Access.{bytes_of, narrowed_to, IsInRange, number_in, pointer_in, holds_pointer, decode, cells_at, load}
use Rattle.word_ops.specs.Changes.{HasBytes, MayLoad, IsInRangeUnless}
use Rattle.word_ops.specs.Laws.Widths.{narrowed_to-same, narrowed_to-is, narrowed_to-in_range}
use Rattle.word_ops.specs.Laws.Loads.{length-cells_from, load-some}
use Rattle.word_ops.specs.Laws.MayLoads.{MayLoad-decode}
use Rattle.word_ops.specs.Laws.Bytes.{low_bytes-first}
use Rattle.term_form.specs.Walk.{number_with, value_of_cells, loaded}

-- a load that is defined gives its value
pub loaded-load : (s : Store) (k : Width) (n : ℕ) (p v : Value) → load s k p ≡ Some v → loaded s k n p ≡ Some v
loaded-load s k n p v e =
    let h = load-some s k p v e in
    ap (option_map (value_of_cells k n)) h.1 ∙ ap (λ o. Some (unwrap_or o (Number (narrowed_to k (number_with h.0 n))))) h.2

-- ---- the number of a choice

-- a number with the bytes of the cells is told by itself
pub number_with-same : (cs : List Cell) (n : ℕ) → HasBytes cs n → number_with cs n ≡ n % 2 ^ (8 * length cs)
number_with-same [] n h = omega arith
number_with-same (Unset ∷ cs) n h = let e = number_with-same cs (n / 256) h in omega (arith, e, low_bytes-first n (length cs))
number_with-same (Byte b ∷ cs) n h = let e = number_with-same cs (n / 256) h.1 in let f = h.0 in omega (arith, e, f, low_bytes-first n (length cs))
number_with-same (Part k r o ∷ cs) n h = let e = number_with-same cs (n / 256) h in omega (arith, e, low_bytes-first n (length cs))

-- the cells with bytes of the choice where they are no bytes
abbrev filled : List Cell → ℕ → List Cell
filled [] n = []
filled (Byte b ∷ cs) n = Byte b ∷ filled cs (n / 256)
filled (Unset ∷ cs) n = Byte n ∷ filled cs (n / 256)
filled (Part k r o ∷ cs) n = Byte n ∷ filled cs (n / 256)

number_in-filled : (cs : List Cell) (n : ℕ) → number_in (filled cs n) ≡ Some (number_with cs n)
number_in-filled [] n = refl
number_in-filled (Byte b ∷ cs) n = ap (option_map (λ m. b % 256 + 256 * m)) (number_in-filled cs (n / 256))
number_in-filled (Unset ∷ cs) n = ap (option_map (λ m. n % 256 + 256 * m)) (number_in-filled cs (n / 256))
number_in-filled (Part k r o ∷ cs) n = ap (option_map (λ m. n % 256 + 256 * m)) (number_in-filled cs (n / 256))

length-filled : (cs : List Cell) (n : ℕ) → length (filled cs n) ≡ length cs
length-filled [] n = refl
length-filled (Byte b ∷ cs) n = ap suc (length-filled cs (n / 256))
length-filled (Unset ∷ cs) n = ap suc (length-filled cs (n / 256))
length-filled (Part k r o ∷ cs) n = ap suc (length-filled cs (n / 256))

HasBytes-filled : (cs : List Cell) (n m : ℕ) → HasBytes (filled cs n) m → HasBytes cs m
HasBytes-filled [] n m h = tt
HasBytes-filled (Byte b ∷ cs) n m h = (h.0, HasBytes-filled cs (n / 256) (m / 256) h.1)
HasBytes-filled (Unset ∷ cs) n m h = HasBytes-filled cs (n / 256) (m / 256) h.1
HasBytes-filled (Part k r o ∷ cs) n m h = HasBytes-filled cs (n / 256) (m / 256) h.1

-- the number of a choice has the bytes of the cells
HasBytes-number_with : (s : Store) (k : Width) (cs : List Cell) (n : ℕ) → length cs ≡ bytes_of k → HasBytes cs (narrowed_to k (number_with cs n))
HasBytes-number_with s k cs n l =
    let d : decode k (filled cs n) ≡ Some (Number (narrowed_to k (number_with cs n))) =
    ap (λ o. option_or (option_map (λ n. Number (narrowed_to k n)) o) (when (holds_pointer k) (pointer_in (filled cs n)))) (number_in-filled cs n) in
    HasBytes-filled cs n (narrowed_to k (number_with cs n)) (MayLoad-decode s k (filled cs n) (Number (narrowed_to k (number_with cs n))) (length-filled cs n ∙ l) d).bytes

-- ---- loads that are undefined by their cells alone

-- each number in the range of the width that has the bytes that are there is given, by the choice of itself
pub loaded-any : (s : Store) (k : Width) (p : Value) (cs : List Cell) (n : ℕ) → cells_at s k p ≡ Some cs → decode k cs ≡ None →
    IsInRange k n → HasBytes cs n → loaded s k n p ≡ Some (Number n)
loaded-any s k p cs n c d r h =
    let l = length-cells_from s p (bytes_of k) (bytes_of k) cs c in
    let same : number_with cs n % 2 ^ (8 * bytes_of k) ≡ n % 2 ^ (8 * bytes_of k) =
    ap (λ m. m % 2 ^ (8 * bytes_of k)) (number_with-same cs n h ∙ ap (λ l. n % 2 ^ (8 * l)) l) ∙ mod-mod n (2 ^ (8 * bytes_of k)) in
    ap (option_map (value_of_cells k n)) c ∙ ap (λ o. Some (unwrap_or o (Number (narrowed_to k (number_with cs n))))) d
    ∙ ap (λ m. Some (Number m)) (narrowed_to-same k (number_with cs n) n same ∙ narrowed_to-is k n r)

-- what is given is a value that a load may give, whatever the choice
pub loaded-allowed : (s : Store) (k : Width) (p : Value) (cs : List Cell) (n : ℕ) (v : Value) → cells_at s k p ≡ Some cs →
    loaded s k n p ≡ Some v → MayLoad s k cs v × IsInRangeUnless k (decode k cs) v
loaded-allowed s k p cs n v c e = go (decode k cs) refl
  where
    no_some : (u : Value) → None ≡ Some u → ⊥
    no_some u q = cc

    l : length cs ≡ bytes_of k
    l = length-cells_from s p (bytes_of k) (bytes_of k) cs c

    is : value_of_cells k n cs ≡ v
    is = ap (λ o. unwrap_or o v) (ap (option_map (value_of_cells k n)) (sym c) ∙ e)

    go : (o : Option Value) → decode k cs ≡ o → MayLoad s k cs v × IsInRangeUnless k o v
    go (Some u) d =
        let same : u ≡ v = ap (λ o. unwrap_or o (Number (narrowed_to k (number_with cs n)))) (sym d) ∙ is in
        (MayLoad-decode s k cs v l (d ∙ ap Some same), tt)
    go None d =
        let same : Number (narrowed_to k (number_with cs n)) ≡ v = ap (λ o. unwrap_or o (Number (narrowed_to k (number_with cs n)))) (sym d) ∙ is in
        let may : MayLoad s k cs (Number (narrowed_to k (number_with cs n))) =
        record { defined = λ u f. absurd (no_some u (sym d ∙ f)); bytes = HasBytes-number_with s k cs n l; kind = tt } in
        (subst (MayLoad s k cs) same may, (narrowed_to k (number_with cs n), sym same, narrowed_to-in_range k (number_with cs n)))
