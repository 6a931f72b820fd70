-- Congruence of integers, by natural multiples on both sides.
use Rattle.std.proofs.Common.{◌≡◌, ℕ, Bool, zero, suc, ◌+◌, ◌-◌, ◌*◌, ◌/◌, ◌%◌, ◌^◌, ◌<◌, ℤ, pos, negsuc, ◌+ℤ◌, ◌-ℤ◌, inl, inr, refl, sym, ap, ◌∙◌, subst, arith}
use Rattle.std.specs.Prelude.{unsigned_abs, FitsSigned, IsTrue, nat_eq, ◌↔◌}
use Rattle.std.specs.Int.{◌∣◌, int_rem_euclid, IsGcd, w64, cast_signed, cast_unsigned}
use Rattle.std.proofs.lemmas.Bool.{cases_lt, eqb-true, eq-eqb}
use Rattle.std.proofs.lemmas.Int.{ints, to_z-of_z, to_z_pos}
use Rattle.std.proofs.lemmas.Nat.{div-add-mod'}
use Rattle.std.proofs.Math.Dec.{eqb-suc-zero}
use Rattle.std.proofs.Math.Nat.{dvd-mul_left, eq-zero_of_zero-dvd, mod-lt}
use Rattle.std.proofs.lemmas.Nat.Gcd.{dvd-zero, dvd_trans, le_of_dvd, mod-eq-zero_of_dvd, dvd_of_mod-eq-zero}
use Rattle.term_form.specs.Congruence.{IsCongruent, rest_number, IsGreatestDivisor}

-- x and y are equal once multiples of m are added
pub record Meet (m : ℕ) (x y : ℤ) : Type 0 where
  pub left : ℕ
  pub right : ℕ
  pub same : x +ℤ pos (left * m) ≡ y +ℤ pos (right * m)

pub to_meet : (m : ℕ) (x y : ℤ) → IsCongruent m x y → Meet m x y
to_meet m x y (pos k, e) = record { left = 0; right = k; same = omega (arith, ints) }
to_meet m x y (negsuc k, e) = record { left = suc k; right = 0; same = omega (arith, ints) }

raised : (m d : ℕ) (x y : ℤ) → x ≡ y +ℤ pos (d * m) → IsCongruent m x y
raised m d x y e = (pos d, omega (arith, ints))

lowered : (m d : ℕ) (x y : ℤ) → x +ℤ pos (d * m) ≡ y → IsCongruent m x y
lowered m zero x y e = (pos 0, omega (arith, ints))
lowered m (suc d) x y e = (negsuc d, omega (arith, ints))

pub from_meet : (m : ℕ) (x y : ℤ) → Meet m x y → IsCongruent m x y
from_meet m x y c = elim (cases_lt c.left c.right) [
  | inl lt ↦ let times : c.right * m ≡ (c.left + (c.right - c.left)) * m = ap (λ t. t * m) (omega arith) in raised m (c.right - c.left) x y (omega (arith, ints))
  | inr le ↦ let times : c.left * m ≡ (c.right + (c.left - c.right)) * m = ap (λ t. t * m) (omega arith) in lowered m (c.left - c.right) x y (omega (arith, ints))
]

pub congruent_refl : (m : ℕ) (x : ℤ) → IsCongruent m x x
congruent_refl m x = (pos 0, omega (arith, ints))

pub congruent_sym : (m : ℕ) (x y : ℤ) → IsCongruent m x y → IsCongruent m y x
congruent_sym m x y h = let c = to_meet m x y h in from_meet m y x (record { left = c.right; right = c.left; same = sym c.same })

pub congruent_trans : (m : ℕ) (x y z : ℤ) → IsCongruent m x y → IsCongruent m y z → IsCongruent m x z
congruent_trans m x y z h k =
    let a = to_meet m x y h in
    let b = to_meet m y z k in
    from_meet m x z (record { left = a.left + b.left; right = a.right + b.right; same = omega (arith, ints) })

-- a divisor times its quotient
times_quotient : (d n : ℕ) → d ∣ n → n ≡ n / d * d
times_quotient d n h = let split = div-add-mod' n d in let none = mod-eq-zero_of_dvd d h in omega arith

-- what is congruent under a modulus is so under each divisor of it
pub congruent_dvd : (d m : ℕ) (x y : ℤ) → d ∣ m → IsCongruent m x y → IsCongruent d x y
congruent_dvd d m x y h k =
    let c = to_meet m x y k in
    let q = times_quotient d m h in
    let left : c.left * m ≡ c.left * (m / d) * d = ap (λ t. c.left * t) q ∙ omega arith in
    let right : c.right * m ≡ c.right * (m / d) * d = ap (λ t. c.right * t) q ∙ omega arith in
    from_meet d x y (record { left = c.left * (m / d); right = c.right * (m / d); same = omega (arith, ints) })

-- two numbers are as far apart either way
flipped : (x y : ℤ) → unsigned_abs (x -ℤ y) ≡ unsigned_abs (y -ℤ x)
flipped x y = by (x -ℤ y) (y -ℤ x) refl refl
  where
    by : (a b : ℤ) → x -ℤ y ≡ a → y -ℤ x ≡ b → unsigned_abs a ≡ unsigned_abs b
    by (pos a) (pos b) e f = omega (arith, ints)
    by (pos a) (negsuc b) e f = omega (arith, ints)
    by (negsuc a) (pos b) e f = omega (arith, ints)
    by (negsuc a) (negsuc b) e f = omega (arith, ints)

-- numbers are congruent exactly where the modulus divides how far they are apart
pub congruent_from_apart : (m : ℕ) (x y : ℤ) → m ∣ unsigned_abs (x -ℤ y) → IsCongruent m x y
congruent_from_apart m x y h = by (x -ℤ y) refl
  where
    quotient : (z : ℤ) → x -ℤ y ≡ z → unsigned_abs z ≡ unsigned_abs z / m * m
    quotient z e = times_quotient m (unsigned_abs z) (subst (λ (t : ℤ). m ∣ unsigned_abs t) e h)

    by : (z : ℤ) → x -ℤ y ≡ z → IsCongruent m x y
    by (pos n) e = let q = quotient (pos n) e in raised m (n / m) x y (omega (arith, ints))
    by (negsuc n) e = let q = quotient (negsuc n) e in lowered m (suc n / m) x y (omega (arith, ints))

pub apart_from_congruent : (m : ℕ) (x y : ℤ) → IsCongruent m x y → m ∣ unsigned_abs (x -ℤ y)
apart_from_congruent m x y (pos k, h) =
    let d : x -ℤ y ≡ pos (k * m) = omega (arith, ints) in
    subst (λ n. m ∣ n) (sym (ap unsigned_abs d)) (dvd-mul_left m k)
apart_from_congruent m x y (negsuc k, h) =
    let d : y -ℤ x ≡ pos (suc k * m) = omega (arith, ints) in
    subst (λ n. m ∣ n) (sym (flipped x y ∙ ap unsigned_abs d)) (dvd-mul_left m (suc k))

-- the test of a remainder
pub divides_tested : (m n : ℕ) → IsTrue (nat_eq (n % m) 0) ↔ (m ∣ n)
divides_tested m n = (λ t. dvd_of_mod-eq-zero m (eqb-true (n % m) 0 t), λ h. eq-eqb (n % m) 0 (mod-eq-zero_of_dvd m h))

-- 0 divides 0 alone
pub zero_tested : (m n : ℕ) → m ≡ 0 → IsTrue (nat_eq n 0) ↔ (m ∣ n)
zero_tested m n e = (
  λ t. subst (λ k. m ∣ k) (sym (eqb-true n 0 t)) (dvd-zero m),
  λ h. eq-eqb n 0 (eq-zero_of_zero-dvd (subst (λ k. k ∣ n) e h)),
)

pub is_congruent : (m k n : ℕ) (x y : ℤ) (t : Bool) → k ≡ m → n ≡ unsigned_abs (x -ℤ y) → IsTrue t ↔ (k ∣ n) → IsTrue t ↔ IsCongruent m x y
is_congruent m k n x y t e f h = (
  λ b. congruent_from_apart m x y (subst (λ i. m ∣ i) f (subst (λ i. i ∣ n) e (h.0 b))),
  λ c. h.1 (subst (λ i. i ∣ n) (sym e) (subst (λ i. m ∣ i) (sym f) (apart_from_congruent m x y c))),
)

-- a number is congruent to its remainder
pub congruent_rem : (m : ℕ) (z : ℤ) → 0 < m → IsCongruent m z (int_rem_euclid z (pos m))
congruent_rem m (pos a) h = let split = div-add-mod' a m in raised m (a / m) (pos a) (pos (a % m)) (omega (arith, ints))
congruent_rem m (negsuc a) h =
    let split = div-add-mod' a m in
    let small = mod-lt a h in
    lowered m (suc (a / m)) (negsuc a) (pos (m - 1 - a % m)) (omega (arith, ints))

-- the greatest common divisor of three numbers is found in two steps
pub greatest_of_three : (a b c a' b' c' g d : ℕ) → a' ≡ a → b' ≡ b → c' ≡ c → IsGcd a' b' g → IsGcd g c' d → IsGreatestDivisor a b c d
greatest_of_three a b c a' b' c' g d e f h p q =
    record {
      first = same d e (dvd_trans d q.0 p.0);
      second = same d f (dvd_trans d q.0 p.1);
      third = same d h q.1;
      greatest = λ n i j k. q.2 n (p.2 n (same n (sym e) i) (same n (sym f) j)) (same n (sym h) k);
    }
  where
    same : {x y : ℕ} (z : ℕ) → x ≡ y → z ∣ x → z ∣ y
    same z i h = subst (λ n. z ∣ n) i h

-- it fits a word where one of the first two is a word that is not 0, or the third is a word
pub greatest_fits : (a b c d : ℕ) → IsGreatestDivisor a b c d → a < 2 ^ 32 → b < 2 ^ 32 → (a ≡ 0 → b ≡ 0 → c < 2 ^ 32) → d < 2 ^ 32
greatest_fits (suc a) b c d h p q r = let le = le_of_dvd {m = d} {n = suc a} (omega arith) h.first in omega arith
greatest_fits zero (suc b) c d h p q r = let le = le_of_dvd {m = d} {n = suc b} (omega arith) h.second in omega arith
greatest_fits zero zero (suc c) d h p q r = let le = le_of_dvd {m = d} {n = suc c} (omega arith) h.third in let lt = r refl refl in omega arith
greatest_fits zero zero zero d h p q r = let none = eq-zero_of_zero-dvd (h.greatest 0 (dvd-zero 0) (dvd-zero 0) (dvd-zero 0)) in omega arith

-- a rest under the divisor 0 of its modulus
pub rest_kept : (m r d : ℕ) → d ∣ m → d ≡ 0 → IsCongruent d (rest_number m r) (rest_number d r)
rest_kept m r d h e =
    let none : m ≡ 0 = eq-zero_of_zero-dvd (subst (λ n. n ∣ m) e h) in
    let same : rest_number m r ≡ rest_number d r = ap (λ n. rest_number n r) (none ∙ sym e) in
    subst (λ (z : ℤ). IsCongruent d (rest_number m r) z) same (congruent_refl d (rest_number m r))

-- a remainder is a natural number below the divisor
rem_is : (z : ℤ) (d : ℕ) → 0 < d → (r : ℕ) × (int_rem_euclid z (pos d) ≡ pos r) × (r < d)
rem_is (pos a) d h = (a % d, refl, mod-lt a h)
rem_is (negsuc a) d h = (d - 1 - a % d, refl, omega arith)

rest_is : (d r : ℕ) → 0 < d → rest_number d r ≡ pos r
rest_is zero r h = absurd (omega arith)
rest_is (suc d) r h = rw (eqb-suc-zero d) refl

-- what a remainder computed in 64 bits is
pub rest_reduced : (d : ℕ) (x z n m : ℤ) → (d ≡ 0 → ⊥) → d < 2 ^ 32 → FitsSigned w64 z → z ≡ x → n ≡ pos d → m ≡ int_rem_euclid (cast_signed w64 (cast_unsigned w64 z)) (cast_signed w64 (cast_unsigned w64 n)) → IsCongruent d x (rest_number d (unsigned_abs (cast_signed w64 (cast_unsigned w64 m))))
rest_reduced d x z n m h fits f e i k =
    let some : 0 < d = omega arith in
    let value : cast_signed w64 (cast_unsigned w64 z) ≡ x = to_z-of_z w64 z f ∙ e in
    let divisor : cast_signed w64 (cast_unsigned w64 n) ≡ pos d = ap (λ t. cast_signed w64 (cast_unsigned w64 t)) i ∙ to_z_pos w64 d (omega arith) in
    let rem : m ≡ int_rem_euclid x (pos d) = k ∙ ap (λ t. int_rem_euclid t (cast_signed w64 (cast_unsigned w64 n))) value ∙ ap (int_rem_euclid x) divisor in
    let r = rem_is x d some in
    let small : r.0 < 2 ^ 63 = omega (arith, r.2) in
    let back : unsigned_abs (cast_signed w64 (cast_unsigned w64 m)) ≡ r.0 = ap (λ t. unsigned_abs (cast_signed w64 (cast_unsigned w64 t))) (rem ∙ r.1) ∙ ap unsigned_abs (to_z_pos w64 r.0 small) in
    let is : int_rem_euclid x (pos d) ≡ rest_number d (unsigned_abs (cast_signed w64 (cast_unsigned w64 m))) = r.1 ∙ sym (rest_is d r.0 some) ∙ ap (rest_number d) (sym back) in
    subst (λ (y : ℤ). IsCongruent d x y) is (congruent_rem d x some)
