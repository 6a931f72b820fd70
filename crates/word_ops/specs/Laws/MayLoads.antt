-- Laws of what a load may give: the bytes that are there, and the value where there is one.
-- No contract cites this file: it holds proofs.
use Rattle.std.proofs.Common.{◌≡◌, refl, sym, ap, ◌∙◌, subst, ℕ, suc, ◌+◌, ◌*◌, List, [], ◌∷◌, length, arith}
use Rattle.std.proofs.lemmas.Bool.{false≢true}
use Rattle.std.proofs.lemmas.Nat.{mod-pow-add}
use Rattle.std.proofs.lemmas.Option.{none-some, same_Some}
use Rattle.std.specs.Prelude.{Option, Some, None, true, ◌&&◌, ◌/◌, ◌%◌, ◌^◌, ◌==◌}
use Rattle.std.specs.Option.{option_map, option_or, option_and_then}
use Rattle.word_ops.specs.declared.operation.Width.{Width}
use Rattle.word_ops.specs.declared.operation.Width.TheVariants.{U8, S8, U16, S16, Word}
use Rattle.word_ops.specs.Choice.{when}
use Rattle.word_ops.specs.Store.{Value, Number, Pointer, Cell, Unset, Byte, Part, Store}
use Rattle.word_ops.specs.Access.{bytes_of, narrowed_to, converted_to, holds_pointer, number_in, are_parts, pointer_in, decode, number_cells, pointer_cells, encode, cells_at, load, write}
use Rattle.word_ops.specs.Changes.{HasBytes, HasNoByte, MayLieIn, MayLoad}
use Rattle.word_ops.specs.Addresses.{word_of_value}
use Rattle.word_ops.specs.Laws.Widths.{narrowed_to-low}
use Rattle.word_ops.specs.Laws.Lists.{and_both, only_if-some, when-some}
use Rattle.word_ops.specs.Laws.Accesses.{initialise-some, write-some}
use Rattle.word_ops.specs.Laws.Loads.{decode-encode, initialise-cells, length-cells_from}

-- ---- what a load may give after a store

has_bytes : (k : Width) (n m : ℕ) → m % 2 ^ (8 * bytes_of k) ≡ n % 2 ^ (8 * bytes_of k) →
    HasBytes (number_cells (bytes_of k) n) m
has_bytes U8 n m e = (omega (arith, e), tt)
has_bytes S8 n m e = (omega (arith, e), tt)
has_bytes U16 n m e = (omega (arith, e), (omega (arith, e), tt))
has_bytes S16 n m e = (omega (arith, e), (omega (arith, e), tt))
has_bytes Word n m e = (omega (arith, e), (omega (arith, e), (omega (arith, e), (omega (arith, e), tt))))

encode-has_bytes : (s : Store) (k : Width) (v : Value) (cs : List Cell) → encode k v ≡ Some cs →
    HasBytes cs (word_of_value s (converted_to k v))
encode-has_bytes s k (Number n) cs e =
    subst (λ cs. HasBytes cs (narrowed_to k n)) (same_Some (number_cells (bytes_of k) n) cs e) (has_bytes k n (narrowed_to k n) (narrowed_to-low k n))
encode-has_bytes s Word (Pointer r o) cs e =
    subst (λ cs. HasBytes cs (word_of_value s (Pointer r o))) (same_Some (pointer_cells r o) cs e) tt
encode-has_bytes s U8 (Pointer r o) cs e = absurd (none-some cs e)
encode-has_bytes s S8 (Pointer r o) cs e = absurd (none-some cs e)
encode-has_bytes s U16 (Pointer r o) cs e = absurd (none-some cs e)
encode-has_bytes s S16 (Pointer r o) cs e = absurd (none-some cs e)

encode-lies : (k : Width) (v : Value) (cs : List Cell) → encode k v ≡ Some cs → MayLieIn k cs (converted_to k v)
encode-lies k (Number n) cs e = tt
encode-lies k (Pointer r o) cs e =
    let t = only_if-some (holds_pointer k) (pointer_cells r o) cs e in (t.0, subst HasNoByte t.1 tt)

pub MayLoad-encode : (s : Store) (k : Width) (v : Value) (cs : List Cell) → encode k v ≡ Some cs →
    MayLoad s k cs (converted_to k v)
MayLoad-encode s k v cs e =
    record { defined = λ u d. same_Some (converted_to k v) u (sym (decode-encode k v cs e) ∙ d); bytes = encode-has_bytes s k v cs e; kind = encode-lies k v cs e }

-- what was stored is what a load of the same place and width may give
pub MayLoad-write : (s t : Store) (k : Width) (p v : Value) (cs : List Cell) → write s k p v ≡ Some t →
    cells_at t k p ≡ Some cs → MayLoad t k cs (converted_to k v)
MayLoad-write s t k p v cs e a =
    let i = (write-some s t k p v e).1 in
    let h = initialise-some s t k p v i in
    let same : h.0 ≡ cs = same_Some h.0 cs (sym (initialise-cells s t k p v h.0 i h.1) ∙ a) in
    subst (λ cs. MayLoad t k cs (converted_to k v)) same (MayLoad-encode t k v h.0 h.1)

-- ---- what a load gives where it is defined

low_byte_of : (n m l : ℕ) → n % 2 ^ (8 * suc l) ≡ m % 2 ^ (8 * suc l) →
    (n % 256 ≡ m % 256) × (n / 256 % 2 ^ (8 * l) ≡ m / 256 % 2 ^ (8 * l))
low_byte_of n m l e =
    let more : 8 * suc l ≡ 8 * l + 8 = omega arith in
    let here : (n / 256 % 2 ^ (8 * l)) * 256 + n % 256 ≡ (m / 256 % 2 ^ (8 * l)) * 256 + m % 256 =
    sym (mod-pow-add n (8 * l) 8) ∙ ap (λ j. n % 2 ^ j) (sym more) ∙ e ∙ ap (λ j. m % 2 ^ j) more
    ∙ mod-pow-add m (8 * l) 8 in
    (omega (arith, here), omega (arith, here))

-- bytes are those of the low bits alone
HasBytes-low : (cs : List Cell) (n m : ℕ) → n % 2 ^ (8 * length cs) ≡ m % 2 ^ (8 * length cs) → HasBytes cs n →
    HasBytes cs m
HasBytes-low [] n m e h = tt
HasBytes-low (Unset ∷ cs) n m e h = HasBytes-low cs (n / 256) (m / 256) (low_byte_of n m (length cs) e).1 h
HasBytes-low (Byte b ∷ cs) n m e h =
    let l = low_byte_of n m (length cs) e in (sym l.0 ∙ h.0, HasBytes-low cs (n / 256) (m / 256) l.1 h.1)
HasBytes-low (Part k r o ∷ cs) n m e h = HasBytes-low cs (n / 256) (m / 256) (low_byte_of n m (length cs) e).1 h

map_some : (b : ℕ) (x : Option ℕ) (n : ℕ) → option_map (λ n. b % 256 + 256 * n) x ≡ Some n →
    (m : ℕ) × (x ≡ Some m) × (n ≡ b % 256 + 256 * m)
map_some b None n e = absurd (none-some n e)
map_some b (Some m) n e = (m, refl, sym (same_Some (b % 256 + 256 * m) n e))

number_has_bytes : (cs : List Cell) (n : ℕ) → number_in cs ≡ Some n → HasBytes cs n
number_has_bytes [] n e = tt
number_has_bytes (Unset ∷ cs) n e = absurd (none-some n e)
number_has_bytes (Part k r o ∷ cs) n e = absurd (none-some n e)
number_has_bytes (Byte b ∷ cs) n e =
    let m = map_some b (number_in cs) n e in
    let rest : n / 256 ≡ m.0 = omega (arith, m.2) in
    (omega (arith, m.2), subst (HasBytes cs) (sym rest) (number_has_bytes cs m.0 m.1))

parts_have_bytes : (k r o : ℕ) (cs : List Cell) (n : ℕ) → are_parts k r o cs ≡ true → HasBytes cs n
parts_have_bytes k r o [] n e = tt
parts_have_bytes k r o (Unset ∷ cs) n e = absurd (false≢true e)
parts_have_bytes k r o (Byte b ∷ cs) n e = absurd (false≢true e)
parts_have_bytes k r o (Part j q p ∷ cs) n e =
    let x = and_both (j == k) ((q == r) && ((p == o) && are_parts (k + 1) r o cs)) e in
    let y = and_both (q == r) ((p == o) && are_parts (k + 1) r o cs) x.1 in
    parts_have_bytes (k + 1) r o cs (n / 256) (and_both (p == o) (are_parts (k + 1) r o cs) y.1).1

pointer_has_bytes : (s : Store) (cs : List Cell) (v : Value) → pointer_in cs ≡ Some v →
    HasBytes cs (word_of_value s v)
pointer_has_bytes s [] v e = absurd (none-some v e)
pointer_has_bytes s (Unset ∷ cs) v e = absurd (none-some v e)
pointer_has_bytes s (Byte b ∷ cs) v e = absurd (none-some v e)
pointer_has_bytes s (Part k r o ∷ cs) v e =
    parts_have_bytes 0 r o (Part k r o ∷ cs) (word_of_value s v) (only_if-some (are_parts 0 r o (Part k r o ∷ cs)) (Pointer r o) v e).0

-- the cells of a pointer have no byte
parts_have_no_byte : (k r o : ℕ) (cs : List Cell) → are_parts k r o cs ≡ true → HasNoByte cs
parts_have_no_byte k r o [] e = tt
parts_have_no_byte k r o (Unset ∷ cs) e = absurd (false≢true e)
parts_have_no_byte k r o (Byte b ∷ cs) e = absurd (false≢true e)
parts_have_no_byte k r o (Part j q p ∷ cs) e =
    let x = and_both (j == k) ((q == r) && ((p == o) && are_parts (k + 1) r o cs)) e in
    let y = and_both (q == r) ((p == o) && are_parts (k + 1) r o cs) x.1 in
    parts_have_no_byte (k + 1) r o cs (and_both (p == o) (are_parts (k + 1) r o cs) y.1).1

pointer_has_no_byte : (cs : List Cell) (v : Value) → pointer_in cs ≡ Some v → HasNoByte cs
pointer_has_no_byte [] v e = absurd (none-some v e)
pointer_has_no_byte (Unset ∷ cs) v e = absurd (none-some v e)
pointer_has_no_byte (Byte b ∷ cs) v e = absurd (none-some v e)
pointer_has_no_byte (Part k r o ∷ cs) v e =
    parts_have_no_byte 0 r o (Part k r o ∷ cs) (only_if-some (are_parts 0 r o (Part k r o ∷ cs)) (Pointer r o) v e).0

lies_whole : (k : Width) (cs : List Cell) (v : Value) → holds_pointer k ≡ true → HasNoByte cs → MayLieIn k cs v
lies_whole k cs (Number n) h b = tt
lies_whole k cs (Pointer r o) h b = (h, b)

decode-lies : (k : Width) (cs : List Cell) (v : Value) (x : Option ℕ) →
    option_or (option_map (λ n. Number (narrowed_to k n)) x) (when (holds_pointer k) (pointer_in cs)) ≡ Some v →
    MayLieIn k cs v
decode-lies k cs v None e =
    let t = when-some (holds_pointer k) (pointer_in cs) v e in lies_whole k cs v t.0 (pointer_has_no_byte cs v t.1)
decode-lies k cs v (Some n) e = subst (MayLieIn k cs) (same_Some (Number (narrowed_to k n)) v e) tt

-- the value of cells is one that a load may give
pub MayLoad-decode : (s : Store) (k : Width) (cs : List Cell) (v : Value) → length cs ≡ bytes_of k →
    decode k cs ≡ Some v → MayLoad s k cs v
MayLoad-decode s k cs v l e = record {
  defined = λ u d. same_Some v u (sym e ∙ d);
  bytes = go (number_in cs) refl e;
  kind = decode-lies k cs v (number_in cs) e;
}
  where
    go : (x : Option ℕ) → number_in cs ≡ x →
        option_or (option_map (λ n. Number (narrowed_to k n)) x) (when (holds_pointer k) (pointer_in cs)) ≡ Some v →
        HasBytes cs (word_of_value s v)
    go None q e = pointer_has_bytes s cs v (when-some (holds_pointer k) (pointer_in cs) v e).1
    go (Some n) q e =
        let low : n % 2 ^ (8 * length cs) ≡ narrowed_to k n % 2 ^ (8 * length cs) =
        ap (λ l. n % 2 ^ (8 * l)) l ∙ sym (narrowed_to-low k n) ∙ ap (λ l. narrowed_to k n % 2 ^ (8 * l)) (sym l) in
        subst (λ v. HasBytes cs (word_of_value s v)) (same_Some (Number (narrowed_to k n)) v e) (HasBytes-low cs n (narrowed_to k n) low (number_has_bytes cs n q))

-- so is what a load gives
pub MayLoad-load : (s : Store) (k : Width) (p : Value) (cs : List Cell) (v : Value) → cells_at s k p ≡ Some cs →
    load s k p ≡ Some v → MayLoad s k cs v
MayLoad-load s k p cs v c e =
    MayLoad-decode s k cs v (length-cells_from s p (bytes_of k) (bytes_of k) cs c) (ap (option_and_then (decode k)) (sym c) ∙ e)
