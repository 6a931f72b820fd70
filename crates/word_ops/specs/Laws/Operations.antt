-- Laws of words and of the operations on them.
-- No contract cites this file: it holds proofs.
use Rattle.std.proofs.Common.{◌≡◌, ◌≢◌, refl, sym, ap, ◌∙◌, subst, ℕ, zero, suc, ◌*◌, ◌≤◌, ◌<◌, arith}
use Rattle.std.proofs.lemmas.Bool.Decides.{nat_tests}
use Rattle.std.proofs.lemmas.Grind.{common_steps}
use Rattle.std.proofs.lemmas.Int.{int_wrap_fits, wrapping_add-bits, wrapping_sub-bits, wrapping_mul-bits}
use Rattle.std.proofs.lemmas.Nat.{or_lt, xor_lt, and_le_l, shr_le, div_below}
use lib.Signed.{mag_rem, mag_shr}
use Rattle.std.proofs.Math.Nat.{div-le_self}
use Rattle.std.proofs.lemmas.Bool.{true≢false}
use Rattle.std.proofs.lemmas.Option.{none-some, same_Some}
use Rattle.std.specs.Prelude.{Some, Bool, true, false, not, ◌&&◌, ◌||◌, ◌-◌, ◌/◌, ◌%◌, ◌^◌, ◌==◌, nat_lt, nat_le, if◌then◌else◌, ℤ, pos, negsuc, neg_ℤ, ◌+ℤ◌, ◌-ℤ◌, ◌*ℤ◌, int_lt, int_le, int_div, int_rem, FitsSigned}
use Rattle.std.specs.Int.{w32, int_shr}
use Rattle.word_ops.specs.declared.operation.Op.{Op}
use Rattle.word_ops.specs.declared.operation.Op.TheVariants.{Add, Sub, Mul, Adds, Subs, Muls, Divs, Rems, Divu, Remu, And, Or, Xor, Shl, Shls, Shru, Shrs, Eq, Ne, Lts, Les, Ltu, Leu, Zext8, Sext8, Zext16, Sext16}
use Rattle.word_ops.specs.Choice.{only_if}
use Rattle.word_ops.specs.Word.{signed_value, fits_signed, word_of_integer, number_of_truth}
use Rattle.word_ops.specs.Operation.{machine_word, is_undefined, word_of_operation, signed_quotient, signed_remainder, unsigned_quotient, unsigned_remainder}

-- ---- readings of a word

pub fits_signed-true : (z : ℤ) → fits_signed z ≡ true → FitsSigned w32 z
fits_signed-true (pos n) h = grind (arith, nat_tests)
fits_signed-true (negsuc n) h = grind (arith, nat_tests)

pub fits_signed-is : (z : ℤ) → FitsSigned w32 z → fits_signed z ≡ true
fits_signed-is (pos n) h = grind (arith, nat_tests)
fits_signed-is (negsuc n) h = grind (arith, nat_tests)

pub signed_value-fits : (a : ℕ) → a < 2 ^ 32 → FitsSigned w32 (signed_value a)
signed_value-fits a h = grind (arith, nat_tests)

pub word_of_integer-small : (z : ℤ) → word_of_integer z < 2 ^ 32
word_of_integer-small (pos n) = omega arith
word_of_integer-small (negsuc n) = omega arith

-- a word is the word of its signed value, and an integer that fits is the signed value of its word
pub word_of_integer-signed_value : (a : ℕ) → a < 2 ^ 32 → word_of_integer (signed_value a) ≡ a
word_of_integer-signed_value a h = grind (arith, nat_tests)

pub signed_value-word_of_integer : (z : ℤ) → FitsSigned w32 z → signed_value (word_of_integer z) ≡ z
signed_value-word_of_integer (pos n) h = grind (arith, nat_tests)
signed_value-word_of_integer (negsuc n) h = grind (arith, nat_tests)

-- ---- the words that machines give

bit_small : (b : Bool) → number_of_truth b < 2 ^ 32
bit_small true = omega arith
bit_small false = omega arith

quotient_small : (a b : ℕ) → a < 2 ^ 32 → unsigned_quotient a b < 2 ^ 32
quotient_small a b h = grind (arith, nat_tests, common_steps)

remainder_small : (a b : ℕ) → a < 2 ^ 32 → unsigned_remainder a b < 2 ^ 32
remainder_small a b h = grind (arith, nat_tests, common_steps)

signed_quotient_small : (a b : ℕ) → signed_quotient a b < 2 ^ 32
signed_quotient_small a b = go (b == 0)
  where
    go : (t : Bool) → (if t then 2 ^ 32 - 1 else word_of_integer (int_div (signed_value a) (signed_value b))) < 2 ^ 32
    go true = omega arith
    go false = word_of_integer-small (int_div (signed_value a) (signed_value b))

signed_remainder_small : (a b : ℕ) → a < 2 ^ 32 → signed_remainder a b < 2 ^ 32
signed_remainder_small a b h = go (b == 0)
  where
    go : (t : Bool) → (if t then a else word_of_integer (int_rem (signed_value a) (signed_value b))) < 2 ^ 32
    go true = h
    go false = word_of_integer-small (int_rem (signed_value a) (signed_value b))

pub machine_word-small : (op : Op) (a b : ℕ) → a < 2 ^ 32 → b < 2 ^ 32 → machine_word op a b < 2 ^ 32
machine_word-small Add a b h k = omega arith
machine_word-small Sub a b h k = omega arith
machine_word-small Mul a b h k = omega arith
machine_word-small Adds a b h k = omega arith
machine_word-small Subs a b h k = omega arith
machine_word-small Muls a b h k = omega arith
machine_word-small Divs a b h k = signed_quotient_small a b
machine_word-small Rems a b h k = signed_remainder_small a b h
machine_word-small Divu a b h k = quotient_small a b h
machine_word-small Remu a b h k = remainder_small a b h
machine_word-small And a b h k = omega (arith, and_le_l a b)
machine_word-small Or a b h k = or_lt 32 a b h k
machine_word-small Xor a b h k = xor_lt 32 a b h k
machine_word-small Shl a b h k = omega arith
machine_word-small Shls a b h k = omega arith
machine_word-small Shru a b h k = omega (arith, shr_le a (b % 32))
machine_word-small Shrs a b h k = word_of_integer-small (int_shr (signed_value a) (b % 32))
machine_word-small Eq a b h k = bit_small (a == b)
machine_word-small Ne a b h k = bit_small (not (a == b))
machine_word-small Lts a b h k = bit_small (int_lt (signed_value a) (signed_value b))
machine_word-small Les a b h k = bit_small (int_le (signed_value a) (signed_value b))
machine_word-small Ltu a b h k = bit_small (nat_lt a b)
machine_word-small Leu a b h k = bit_small (nat_le a b)
machine_word-small Zext8 a b h k = omega arith
machine_word-small Sext8 a b h k = grind (arith, nat_tests)
machine_word-small Zext16 a b h k = omega arith
machine_word-small Sext16 a b h k = grind (arith, nat_tests)

-- ---- operations where they are defined

-- a word that an operation gives is the machine's, where the operation is not undefined
pub word_of_operation-some : (op : Op) (a b n : ℕ) → word_of_operation op a b ≡ Some n →
    (is_undefined op a b ≡ false) × (machine_word op a b ≡ n)
word_of_operation-some op a b n e = go (is_undefined op a b) e
  where
    go : (t : Bool) → only_if (not t) (machine_word op a b) ≡ Some n → (t ≡ false) × (machine_word op a b ≡ n)
    go true e = absurd (none-some n e)
    go false e = (refl, same_Some (machine_word op a b) n e)

pub word_of_operation-small : (op : Op) (a b n : ℕ) → a < 2 ^ 32 → b < 2 ^ 32 → word_of_operation op a b ≡ Some n →
    n < 2 ^ 32
word_of_operation-small op a b n h k e =
    subst (λ n. n < 2 ^ 32) (word_of_operation-some op a b n e).1 (machine_word-small op a b h k)

not_false : (b : Bool) → not b ≡ false → b ≡ true
not_false true h = refl
not_false false h = sym h

-- where a signed sum, difference or product is defined, it is the exact one (C11 6.5p5)
pub adds_exact : (a b n : ℕ) → a < 2 ^ 32 → b < 2 ^ 32 → word_of_operation Adds a b ≡ Some n →
    signed_value n ≡ signed_value a +ℤ signed_value b
adds_exact a b n h k e =
    let d = word_of_operation-some Adds a b n e in
    let f = fits_signed-true (signed_value a +ℤ signed_value b) (not_false (fits_signed (signed_value a +ℤ signed_value b)) d.0) in
    ap signed_value (sym d.1) ∙ wrapping_add-bits w32 a b h k ∙ int_wrap_fits w32 (signed_value a +ℤ signed_value b) f

pub subs_exact : (a b n : ℕ) → a < 2 ^ 32 → b < 2 ^ 32 → word_of_operation Subs a b ≡ Some n →
    signed_value n ≡ signed_value a -ℤ signed_value b
subs_exact a b n h k e =
    let d = word_of_operation-some Subs a b n e in
    let f = fits_signed-true (signed_value a -ℤ signed_value b) (not_false (fits_signed (signed_value a -ℤ signed_value b)) d.0) in
    ap signed_value (sym d.1) ∙ wrapping_sub-bits w32 a b h k ∙ int_wrap_fits w32 (signed_value a -ℤ signed_value b) f

pub muls_exact : (a b n : ℕ) → a < 2 ^ 32 → b < 2 ^ 32 → word_of_operation Muls a b ≡ Some n →
    signed_value n ≡ signed_value a *ℤ signed_value b
muls_exact a b n h k e =
    let d = word_of_operation-some Muls a b n e in
    let f = fits_signed-true (signed_value a *ℤ signed_value b) (not_false (fits_signed (signed_value a *ℤ signed_value b)) d.0) in
    ap signed_value (sym d.1) ∙ wrapping_mul-bits w32 a b h k ∙ int_wrap_fits w32 (signed_value a *ℤ signed_value b) f

-- ---- division, toward zero (C11 6.5.5p6)

mag_neg : (n m : ℕ) → n ≤ suc m → m < 2 ^ 31 → FitsSigned w32 (neg_ℤ (pos n))
mag_neg zero m le lt = record { sfits = omega arith }
mag_neg (suc n) m le lt = record { sfits = omega (arith, le, lt) }

over_self : (a b : ℕ) → a < 2 ^ 31 → (a ≡ 2 ^ 31 - 1 → b ≡ 0 → ⊥) → suc a / suc b < 2 ^ 31
over_self a zero h ne = omega (arith, h, above a h (λ e. ne e refl))
  where
    above : (a : ℕ) → a < 2 ^ 31 → (a ≡ 2 ^ 31 - 1 → ⊥) → suc a < 2 ^ 31
    above a h ne = grind arith
over_self a (suc b) h ne = div_below (suc a) (suc (suc b)) (2 ^ 31) (omega arith) (omega (arith, h))

quotient_fits : (x y : ℤ) → FitsSigned w32 x → FitsSigned w32 y → (x ≡ negsuc (2 ^ 31 - 1) → y ≡ negsuc 0 → ⊥) →
    FitsSigned w32 (int_div x y)
quotient_fits (pos a) (pos b) f g ne = record { sfits = omega (arith, div-le_self a b, f.sfits) }
quotient_fits (pos a) (negsuc b) f g ne = mag_neg (a / suc b) a (omega (arith, div-le_self a (suc b))) f.sfits
quotient_fits (negsuc a) (pos b) f g ne = mag_neg (suc a / b) a (div-le_self (suc a) b) f.sfits
quotient_fits (negsuc a) (negsuc b) f g ne =
    record { sfits = over_self a b f.sfits (λ e d. ne (ap negsuc e) (ap negsuc d)) }

-- what is not left undefined
record CanDivide (a b : ℕ) : Type 0 where
  some : b ≢ 0
  apart : a ≡ 2 ^ 31 → b ≡ 2 ^ 32 - 1 → ⊥

can_divide : (a b : ℕ) → (b == 0) || ((a == 2 ^ 31) && (b == 2 ^ 32 - 1)) ≡ false → CanDivide a b
can_divide a b e = record { some = grind (arith, nat_tests); apart = grind (arith, nat_tests) }

word_back : (a : ℕ) (z : ℤ) → a < 2 ^ 32 → signed_value a ≡ z → a ≡ word_of_integer z
word_back a z h e = sym (word_of_integer-signed_value a h) ∙ ap word_of_integer e

not_zero : {A : Type 0} (b : ℕ) (x y : A) → b ≢ 0 → (if b == 0 then x else y) ≡ y
not_zero b x y ne = grind (arith, nat_tests)

pub divs_exact : (a b n : ℕ) → a < 2 ^ 32 → b < 2 ^ 32 → word_of_operation Divs a b ≡ Some n →
    (b ≢ 0) × (signed_value n ≡ int_div (signed_value a) (signed_value b))
divs_exact a b n h k e =
    let d = word_of_operation-some Divs a b n e in
    let c = can_divide a b d.0 in
    let z = int_div (signed_value a) (signed_value b) in
    let f = quotient_fits (signed_value a) (signed_value b) (signed_value-fits a h) (signed_value-fits b k) (λ x y. c.apart (word_back a (negsuc (2 ^ 31 - 1)) h x) (word_back b (negsuc 0) k y)) in
    (c.some, ap signed_value (sym d.1) ∙ ap signed_value (not_zero b (2 ^ 32 - 1) (word_of_integer z) c.some) ∙ signed_value-word_of_integer z f)

rem_fits : (x y : ℤ) → FitsSigned w32 x → FitsSigned w32 (int_rem x y)
rem_fits x y f = record { sfits = omega (arith, mag_rem x y, f.sfits) }

pub rems_exact : (a b n : ℕ) → a < 2 ^ 32 → b < 2 ^ 32 → word_of_operation Rems a b ≡ Some n →
    (b ≢ 0) × (signed_value n ≡ int_rem (signed_value a) (signed_value b))
rems_exact a b n h k e =
    let d = word_of_operation-some Rems a b n e in
    let c = can_divide a b d.0 in
    let z = int_rem (signed_value a) (signed_value b) in
    (c.some, ap signed_value (sym d.1) ∙ ap signed_value (not_zero b a (word_of_integer z) c.some) ∙ signed_value-word_of_integer z (rem_fits (signed_value a) (signed_value b) (signed_value-fits a h)))

pub divu_exact : (a b n : ℕ) → word_of_operation Divu a b ≡ Some n → (b ≢ 0) × (n ≡ a / b)
divu_exact a b n e =
    let d = word_of_operation-some Divu a b n e in
    let ne : b ≢ 0 = let t = d.0 in grind (arith, nat_tests) in
    (ne, sym d.1 ∙ not_zero b (2 ^ 32 - 1) (a / b) ne)

pub remu_exact : (a b n : ℕ) → word_of_operation Remu a b ≡ Some n → (b ≢ 0) × (n ≡ a % b)
remu_exact a b n e =
    let d = word_of_operation-some Remu a b n e in
    let ne : b ≢ 0 = let t = d.0 in grind (arith, nat_tests) in
    (ne, sym d.1 ∙ not_zero b a (a % b) ne)

-- ---- shifts (C11 6.5.7)

distance : (b : ℕ) → nat_lt 31 b ≡ false → (b < 32) × (b % 32 ≡ b)
distance b e = let lt : b < 32 = grind (arith, nat_tests) in (lt, omega (arith, lt))

pub shl_exact : (a b n : ℕ) → word_of_operation Shl a b ≡ Some n → (b < 32) × (n ≡ a * 2 ^ b % 2 ^ 32)
shl_exact a b n e =
    let d = word_of_operation-some Shl a b n e in
    let k = distance b d.0 in
    (k.0, sym d.1 ∙ ap (λ j. a * 2 ^ j % 2 ^ 32) k.1)

pub shru_exact : (a b n : ℕ) → word_of_operation Shru a b ≡ Some n → (b < 32) × (n ≡ a / 2 ^ b)
shru_exact a b n e =
    let d = word_of_operation-some Shru a b n e in
    let k = distance b d.0 in
    (k.0, sym d.1 ∙ ap (λ j. a / 2 ^ j) k.1)

shr_fits : (x : ℤ) (j : ℕ) → FitsSigned w32 x → FitsSigned w32 (int_shr x j)
shr_fits x j f = record { sfits = omega (arith, mag_shr x (2 ^ j), f.sfits) }

pub shrs_exact : (a b n : ℕ) → a < 2 ^ 32 → word_of_operation Shrs a b ≡ Some n →
    (b < 32) × (signed_value n ≡ int_shr (signed_value a) b)
shrs_exact a b n h e =
    let d = word_of_operation-some Shrs a b n e in
    let k = distance b d.0 in
    (k.0, ap signed_value (sym d.1) ∙ signed_value-word_of_integer (int_shr (signed_value a) (b % 32)) (shr_fits (signed_value a) (b % 32) (signed_value-fits a h)) ∙ ap (int_shr (signed_value a)) k.1)

-- a signed shift to the left is defined where no bit is lost
pub shls_exact : (a b n : ℕ) → word_of_operation Shls a b ≡ Some n →
    (b < 32) × (a < 2 ^ 31) × (n ≡ a * 2 ^ b) × (n < 2 ^ 31)
shls_exact a b n e =
    let d = word_of_operation-some Shls a b n e in
    let p = parts (nat_lt 31 b) (nat_le (2 ^ 31) a) (nat_le (2 ^ 31) (a * 2 ^ (b % 32))) d.0 in
    let k = distance b p.0 in
    let small : a * 2 ^ (b % 32) < 2 ^ 31 = let t = p.2 in below (a * 2 ^ (b % 32)) t in
    let here : n ≡ a * 2 ^ (b % 32) = omega (arith, small, sym d.1) in
    (k.0, below a p.1, here ∙ ap (λ j. a * 2 ^ j) k.1, omega (arith, here, small))
  where
    parts : (x y z : Bool) → x || (y || z) ≡ false → (x ≡ false) × (y ≡ false) × (z ≡ false)
    parts true y z q = absurd (true≢false q)
    parts false true z q = absurd (true≢false q)
    parts false false z q = (refl, refl, q)

    below : (m : ℕ) → nat_le (2 ^ 31) m ≡ false → m < 2 ^ 31
    below m t = grind (arith, nat_tests)

-- ---- comparisons give 1 or 0 (C11 6.5.8p6, 6.5.9p3)

pub number_of_truth-one : (b : Bool) → number_of_truth b ≡ 1 → b ≡ true
number_of_truth-one true e = refl
number_of_truth-one false e = absurd (omega (arith, e))

pub number_of_truth-zero : (b : Bool) → number_of_truth b ≡ 0 → b ≡ false
number_of_truth-zero true e = absurd (omega (arith, e))
number_of_truth-zero false e = refl

pub number_of_truth-le : (b : Bool) → number_of_truth b ≤ 1
number_of_truth-le true = omega arith
number_of_truth-le false = omega arith
