-- Laws of widths: which numbers an object of a width holds.
-- No contract cites this file: it holds proofs.
use Rattle.std.proofs.Common.{◌≡◌, ap, subst, ℕ, ◌+◌, ◌*◌, ◌<◌, arith}
use Rattle.std.proofs.lemmas.Bool.Decides.{nat_tests}
use Rattle.std.specs.Prelude.{Bool, ◌-◌, ◌%◌, ◌^◌, ◌&&◌, nat_le, if◌then◌else◌}
use Rattle.word_ops.specs.declared.operation.Width.{Width}
use Rattle.word_ops.specs.declared.operation.Width.TheVariants.{U8, S8, U16, S16, Word}
use Rattle.word_ops.specs.Word.{narrowed}
use Rattle.word_ops.specs.Access.{bytes_of, keeps_sign, narrowed_to, IsInRange}

-- narrowing sees the low bits alone
pub narrowed-low : (bits : ℕ) (s : Bool) (a b : ℕ) → a % 2 ^ bits ≡ b % 2 ^ bits →
    narrowed bits s a ≡ narrowed bits s b
narrowed-low bits s a b e = ap (λ n. if s && nat_le (2 ^ (bits - 1)) n then n + (2 ^ 32 - 2 ^ bits) else n) e

pub narrowed_to-small : (k : Width) (n : ℕ) → narrowed_to k n < 2 ^ 32
narrowed_to-small U8 n = omega arith
narrowed_to-small S8 n = grind (arith, nat_tests)
narrowed_to-small U16 n = omega arith
narrowed_to-small S16 n = grind (arith, nat_tests)
narrowed_to-small Word n = omega arith

-- the low bytes stay
pub narrowed_to-low : (k : Width) (n : ℕ) → narrowed_to k n % 2 ^ (8 * bytes_of k) ≡ n % 2 ^ (8 * bytes_of k)
narrowed_to-low U8 n = omega arith
narrowed_to-low S8 n = grind (arith, nat_tests)
narrowed_to-low U16 n = omega arith
narrowed_to-low S16 n = grind (arith, nat_tests)
narrowed_to-low Word n = omega arith

-- only the low bytes count
pub narrowed_to-same : (k : Width) (n m : ℕ) → n % 2 ^ (8 * bytes_of k) ≡ m % 2 ^ (8 * bytes_of k) →
    narrowed_to k n ≡ narrowed_to k m
narrowed_to-same k n m e = narrowed-low (8 * bytes_of k) (keeps_sign k) n m e

pub narrowed_to-twice : (k : Width) (n : ℕ) → narrowed_to k (narrowed_to k n) ≡ narrowed_to k n
narrowed_to-twice k n = narrowed_to-same k (narrowed_to k n) n (narrowed_to-low k n)

pub narrowed_to-in_range : (k : Width) (n : ℕ) → IsInRange k (narrowed_to k n)
narrowed_to-in_range U8 n = omega arith
narrowed_to-in_range S8 n = grind (arith, nat_tests)
narrowed_to-in_range U16 n = omega arith
narrowed_to-in_range S16 n = grind (arith, nat_tests)
narrowed_to-in_range Word n = omega arith

pub narrowed_to-is : (k : Width) (n : ℕ) → IsInRange k n → narrowed_to k n ≡ n
narrowed_to-is U8 n h = omega (arith, h)
narrowed_to-is S8 n h = grind (arith, nat_tests)
narrowed_to-is U16 n h = omega (arith, h)
narrowed_to-is S16 n h = grind (arith, nat_tests)
narrowed_to-is Word n h = omega (arith, h)

pub IsInRange-small : (k : Width) (n : ℕ) → IsInRange k n → n < 2 ^ 32
IsInRange-small k n h = subst (λ m. m < 2 ^ 32) (narrowed_to-is k n h) (narrowed_to-small k n)
