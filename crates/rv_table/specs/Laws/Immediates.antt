-- An immediate and its lowest bits: each gives the other.
-- It holds proofs: no contract cites it, and the clauses of `decode` say what they come to.
use Rattle.std.proofs.Common.{◌≡◌, ℕ, ℤ, pos, negsuc, ◌+◌, ◌-◌, ◌*◌, ◌%◌, ◌^◌, ◌<◌, ◌≤◌, suc, refl, sym, ◌∙◌, ap, arith, cond, Bool, true, false}
use Rattle.std.specs.Prelude.{nat_lt}
use Rattle.std.specs.Int.{w32, cast_unsigned, cast_signed}
use Rattle.std.proofs.lemmas.Nat.{mod-mul-add}
use Rattle.std.proofs.lemmas.Int.{ints, of_z-to_z}
use Rattle.std.proofs.lemmas.Bool.Decides.{nat_tests}
use Rattle.std.proofs.Math.Nat.{mod-eq_of_lt}
use Rattle.rv_table.specs.Fields.{sign, low_bits, Within}

-- a negative number modulo m, which divides 2 ^ 32
residue : (k m s : ℕ) → 2 ^ 32 ≡ k * m + m → s ≤ m → 0 < s → (2 ^ 32 - s) % m ≡ m - s
residue k m s e h p =
    let r : 2 ^ 32 - s ≡ k * m + (m - s) = omega arith in
    rw r (mod-mul-add k m (m - s) (omega arith))

-- an immediate of a range is its lowest bits, read with a sign
pub sign-low_bits : (half k count : ℕ) (z : ℤ) → 2 ^ 32 ≡ k * 2 ^ count + 2 ^ count → 2 ^ count ≡ 2 * half → Within half z → sign half (low_bits count z) ≡ z
sign-low_bits half k count (pos n) e d w =
    let low : n % 2 ^ count ≡ n = mod-eq_of_lt (omega arith) in
    rw low (grind (arith, nat_tests))
sign-low_bits half k count (negsuc n) e d w =
    let low : (2 ^ 32 - suc n) % 2 ^ count ≡ 2 ^ count - suc n = residue k (2 ^ count) (suc n) e (omega arith) (omega arith) in
    let back : 2 * half - 1 - (2 ^ count - suc n) ≡ n = omega arith in
    let high : nat_lt (2 ^ count - suc n) half ≡ false = grind (arith, nat_tests) in
    rw low (rw high (ap negsuc back))

signed : (half k count u : ℕ) (t : Bool) → 2 ^ 32 ≡ k * 2 ^ count + 2 ^ count → 2 ^ count ≡ 2 * half → u < 2 * half → nat_lt u half ≡ t → (low_bits count (cond t (pos u) (negsuc (2 * half - 1 - u))) ≡ u) × Within half (cond t (pos u) (negsuc (2 * half - 1 - u)))
signed half k count u true e d b t = (mod-eq_of_lt (omega arith), grind (arith, nat_tests))
signed half k count u false e d b t =
    let low : (2 ^ 32 - suc (2 * half - 1 - u)) % 2 ^ count ≡ 2 ^ count - suc (2 * half - 1 - u) = residue k (2 ^ count) (suc (2 * half - 1 - u)) e (omega arith) (omega arith) in
    let high : half ≤ u = grind (arith, nat_tests) in
    (low ∙ omega arith, omega arith)

-- bits read with a sign are an immediate of the range, whose lowest bits they are
pub low_bits-sign : (half k count u : ℕ) → 2 ^ 32 ≡ k * 2 ^ count + 2 ^ count → 2 ^ count ≡ 2 * half → u < 2 * half → (low_bits count (sign half u) ≡ u) × Within half (sign half u)
low_bits-sign half k count u e d b = signed half k count u (nat_lt u half) e d b refl

-- the same of a whole word
pub cast_unsigned-within : (z : ℤ) → Within (2 ^ 31) z → cast_unsigned w32 z < 2 ^ 32
cast_unsigned-within (pos n) w = omega arith
cast_unsigned-within (negsuc n) w = omega arith

pub cast_signed-cast_unsigned : (z : ℤ) → Within (2 ^ 31) z → cast_signed w32 (cast_unsigned w32 z) ≡ z
cast_signed-cast_unsigned (pos n) w = omega (arith, ints)
cast_signed-cast_unsigned (negsuc n) w = omega (arith, ints)

word_within : (u : ℕ) (t : Bool) → u < 2 ^ 32 → nat_lt u (2 ^ 31) ≡ t → Within (2 ^ 31) (cond t (pos u) (negsuc (2 ^ 32 - suc u)))
word_within u true b e = grind (arith, nat_tests)
word_within u false b e = grind (arith, nat_tests)

pub cast_unsigned-cast_signed : (u : ℕ) → u < 2 ^ 32 → (cast_unsigned w32 (cast_signed w32 u) ≡ u) × Within (2 ^ 31) (cast_signed w32 u)
cast_unsigned-cast_signed u b = (of_z-to_z w32 u b, word_within u (nat_lt u (2 ^ 31)) b refl)
