-- Laws of numbers in bytes of memory: what was written is read, what lies elsewhere is as it was, and what a load gives is
-- the narrowing of the number in the bytes. They are proofs: a contract cites none of them but the carrier `bytes_laws`.
use Rattle.std.proofs.Common.{◌≡◌, refl, sym, ap, ◌∙◌, ℕ, zero, suc, ◌+◌, ◌*◌, ◌≤◌, ◌<◌, ◌⊎◌, inl, inr, List, [], ◌∷◌, length, arith}
use Rattle.std.proofs.lemmas.Bool.Decides.{nat_tests}
use Rattle.std.proofs.lemmas.List.{length-set, get_or-set_same, get_or-set_other}
use Rattle.std.proofs.lemmas.List.Elements.{All-head, All-tail, All-set}
use Rattle.std.proofs.lemmas.Nat.{mod-pow-add, pow-add}
use Rattle.std.specs.Prelude.{All, ◌≢◌, ◌/◌, ◌%◌, ◌^◌, slice_index, slice_set}
use Rattle.std.specs.Int.{w8, w16, w32, cast_unsigned, cast_signed}
use Rattle.word_ops.specs.declared.operation.Width.TheVariants.{U8, S8, U16, S16, Word}
use Rattle.word_ops.specs.Access.{narrowed_to}
use Rattle.rv_machine.specs.Bytes.{byte_in, half_in, word_in, signed_byte_in, signed_half_in, with_byte, with_half, with_word, number_in, with_number}
use Rattle.rv_machine.specs.Sound.{AreBytes}

-- ---- the sizes of the machine are those of one, two and four bytes

pub byte_in-number : (bytes : List ℕ) (k : ℕ) → byte_in bytes k ≡ number_in 1 bytes k
byte_in-number bytes k = omega arith

pub half_in-number : (bytes : List ℕ) (k : ℕ) → half_in bytes k ≡ number_in 2 bytes k
half_in-number bytes k = omega arith

pub word_in-number : (bytes : List ℕ) (k : ℕ) → word_in bytes k ≡ number_in 4 bytes k
word_in-number bytes k =
    let two : k + 2 ≡ k + 1 + 1 = omega arith in
    let three : k + 3 ≡ k + 1 + 1 + 1 = omega arith in
    rw two (rw three (omega arith))

pub with_byte-number : (word : ℕ) (bytes : List ℕ) (k : ℕ) → with_byte word bytes k ≡ with_number 1 word bytes k
with_byte-number word bytes k = refl

pub with_half-number : (word : ℕ) (bytes : List ℕ) (k : ℕ) → with_half word bytes k ≡ with_number 2 word bytes k
with_half-number word bytes k = refl

pub with_word-number : (word : ℕ) (bytes : List ℕ) (k : ℕ) → with_word word bytes k ≡ with_number 4 word bytes k
with_word-number word bytes k =
    let two : k + 2 ≡ k + 1 + 1 = omega arith in
    let three : k + 3 ≡ k + 1 + 1 + 1 = omega arith in
    let third : word / 2 ^ 16 % 2 ^ 8 ≡ word / 2 ^ 8 / 2 ^ 8 % 2 ^ 8 = omega arith in
    let fourth : word / 2 ^ 24 % 2 ^ 8 ≡ word / 2 ^ 8 / 2 ^ 8 / 2 ^ 8 % 2 ^ 8 = omega arith in
    rw two (rw three (rw third (rw fourth refl)))

-- ---- what writing keeps

pub length-with_number : (count word : ℕ) (bytes : List ℕ) (k : ℕ) → length (with_number count word bytes k) ≡ length bytes
length-with_number zero word bytes k = refl
length-with_number (suc count) word bytes k =
    length-with_number count (word / 2 ^ 8) (slice_set bytes k (word % 2 ^ 8)) (k + 1) ∙ length-set bytes k (word % 2 ^ 8)

pub AreBytes-with_number : (count word : ℕ) (bytes : List ℕ) (k : ℕ) → AreBytes bytes → AreBytes (with_number count word bytes k)
AreBytes-with_number zero word bytes k h = h
AreBytes-with_number (suc count) word bytes k h =
    AreBytes-with_number count (word / 2 ^ 8) (slice_set bytes k (word % 2 ^ 8)) (k + 1) (All-set (λ b. b < 2 ^ 8) bytes k (word % 2 ^ 8) (omega arith) h)

-- a byte before the number or behind it
pub with_number-kept : (count word : ℕ) (bytes : List ℕ) (k j : ℕ) → (j < k) ⊎ (k + count ≤ j) → slice_index (with_number count word bytes k) j ≡ slice_index bytes j
with_number-kept zero word bytes k j h = refl
with_number-kept (suc count) word bytes k j h =
    let apart : j ≢ k = grind arith in
    let next : (j < k + 1) ⊎ (k + 1 + count ≤ j) = later h in
    with_number-kept count (word / 2 ^ 8) (slice_set bytes k (word % 2 ^ 8)) (k + 1) j next ∙ get_or-set_other bytes k j (word % 2 ^ 8) 0 apart
  where
    later : (j < k) ⊎ (k + suc count ≤ j) → (j < k + 1) ⊎ (k + 1 + count ≤ j)
    later (inl b) = inl (omega (arith, b))
    later (inr b) = inr (omega (arith, b))

-- ---- what was written is read

pub number_in-with_number : (count word : ℕ) (bytes : List ℕ) (k : ℕ) → k + count ≤ length bytes → number_in count (with_number count word bytes k) k ≡ word % 2 ^ (8 * count)
number_in-with_number zero word bytes k h = let one : word % 2 ^ (8 * 0) ≡ 0 = omega arith in sym one
number_in-with_number (suc count) word bytes k h =
    let put : List ℕ = slice_set bytes k (word % 2 ^ 8) in
    let all : List ℕ = with_number count (word / 2 ^ 8) put (k + 1) in
    let room : k + 1 + count ≤ length put = rw (length-set bytes k (word % 2 ^ 8)) (omega (arith, h)) in
    let rest : number_in count all (k + 1) ≡ word / 2 ^ 8 % 2 ^ (8 * count) = number_in-with_number count (word / 2 ^ 8) put (k + 1) room in
    let first : slice_index all k ≡ word % 2 ^ 8 =
    with_number-kept count (word / 2 ^ 8) put (k + 1) k (inl (omega arith)) ∙ get_or-set_same bytes k (word % 2 ^ 8) 0 (omega (arith, h)) in
    let more : 8 * suc count ≡ 8 * count + 8 = omega arith in
    ap (λ b. b + number_in count all (k + 1) * 2 ^ 8) first ∙ ap (λ n. word % 2 ^ 8 + n * 2 ^ 8) rest
    ∙ exchanged (word % 2 ^ 8) ((word / 2 ^ 8 % 2 ^ (8 * count)) * 2 ^ 8) ∙ sym (mod-pow-add word (8 * count) 8) ∙ ap (λ j. word % 2 ^ j) (sym more)
  where
    exchanged : (a b : ℕ) → a + b ≡ b + a
    exchanged a b = omega arith

-- and a number that lies elsewhere is as it was
pub number_in-elsewhere : (count many word : ℕ) (bytes : List ℕ) (k j : ℕ) → (j + many ≤ k) ⊎ (k + count ≤ j) → number_in many (with_number count word bytes k) j ≡ number_in many bytes j
number_in-elsewhere count zero word bytes k j h = refl
number_in-elsewhere count (suc many) word bytes k j h =
    let first : slice_index (with_number count word bytes k) j ≡ slice_index bytes j = with_number-kept count word bytes k j (here h) in
    let rest : number_in many (with_number count word bytes k) (j + 1) ≡ number_in many bytes (j + 1) = number_in-elsewhere count many word bytes k (j + 1) (later h) in
    ap (λ b. b + number_in many (with_number count word bytes k) (j + 1) * 2 ^ 8) first ∙ ap (λ n. slice_index bytes j + n * 2 ^ 8) rest
  where
    here : (j + suc many ≤ k) ⊎ (k + count ≤ j) → (j < k) ⊎ (k + count ≤ j)
    here (inl b) = inl (omega (arith, b))
    here (inr b) = inr b

    later : (j + suc many ≤ k) ⊎ (k + count ≤ j) → (j + 1 + many ≤ k) ⊎ (k + count ≤ j + 1)
    later (inl b) = inl (omega (arith, b))
    later (inr b) = inr (omega (arith, b))

-- ---- what is read

-- an element of a list all of which lie below a bound, or 0 past its end
pub below-at : (bound : ℕ) (xs : List ℕ) (i : ℕ) → 0 < bound → All (λ x. x < bound) xs → slice_index xs i < bound
below-at bound [] i z h = z
below-at bound (x ∷ xs) zero z h = All-head (λ x. x < bound) x xs h
below-at bound (x ∷ xs) (suc i) z h = below-at bound xs i z (All-tail (λ x. x < bound) x xs h)

pub number_in-below : (count : ℕ) (bytes : List ℕ) (k : ℕ) → AreBytes bytes → number_in count bytes k < 2 ^ (8 * count)
number_in-below zero bytes k h = omega arith
number_in-below (suc count) bytes k h =
    let first : slice_index bytes k < 2 ^ 8 = below-at (2 ^ 8) bytes k (omega arith) h in
    let rest : number_in count bytes (k + 1) < 2 ^ (8 * count) = number_in-below count bytes (k + 1) h in
    let more : 8 * suc count ≡ 8 * count + 8 = omega arith in
    let whole : 2 ^ (8 * suc count) ≡ 2 ^ (8 * count) * 2 ^ 8 = ap (λ j. 2 ^ j) more ∙ pow-add 2 (8 * count) 8 in
    omega (arith, first, rest, whole)

-- what each load gives: the narrowing of the number in its bytes
pub byte_in-narrowed : (bytes : List ℕ) (k : ℕ) → AreBytes bytes → byte_in bytes k ≡ narrowed_to U8 (number_in 1 bytes k)
byte_in-narrowed bytes k h = let b = number_in-below 1 bytes k h in omega (arith, b)

pub half_in-narrowed : (bytes : List ℕ) (k : ℕ) → AreBytes bytes → half_in bytes k ≡ narrowed_to U16 (number_in 2 bytes k)
half_in-narrowed bytes k h = let b = number_in-below 2 bytes k h in omega (arith, b)

pub word_in-narrowed : (bytes : List ℕ) (k : ℕ) → AreBytes bytes → word_in bytes k ≡ narrowed_to Word (number_in 4 bytes k)
word_in-narrowed bytes k h =
    let b = number_in-below 4 bytes k h in
    word_in-number bytes k ∙ whole (number_in 4 bytes k) b
  where
    whole : (n : ℕ) → n < 2 ^ 32 → n ≡ narrowed_to Word n
    whole n b = omega (arith, b)

pub signed_byte_in-narrowed : (bytes : List ℕ) (k : ℕ) → AreBytes bytes → signed_byte_in bytes k ≡ narrowed_to S8 (number_in 1 bytes k)
signed_byte_in-narrowed bytes k h = rw (← byte_in-number bytes k) (signed_byte (byte_in bytes k) (below-at (2 ^ 8) bytes k (omega arith) h))
  where
    signed_byte : (n : ℕ) → n < 2 ^ 8 → cast_unsigned w32 (cast_signed w8 n) ≡ narrowed_to S8 n
    signed_byte n b = grind (arith, nat_tests)

pub signed_half_in-narrowed : (bytes : List ℕ) (k : ℕ) → AreBytes bytes → signed_half_in bytes k ≡ narrowed_to S16 (number_in 2 bytes k)
signed_half_in-narrowed bytes k h = rw (← half_in-number bytes k) (signed_half (half_in bytes k) (rw (half_in-number bytes k) (number_in-below 2 bytes k h)))
  where
    signed_half : (n : ℕ) → n < 2 ^ 16 → cast_unsigned w32 (cast_signed w16 n) ≡ narrowed_to S16 n
    signed_half n b = grind (arith, nat_tests)
