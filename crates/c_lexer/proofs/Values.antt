-- The values of digits.
use Rattle.std.proofs.Common.{◌≡◌, ℕ, ◌+◌, ◌*◌, ◌^◌, ◌<◌, ◌≤◌, lit<, Bool, false, leb, List, [], ◌∷◌, Some, None, refl, ◌∙◌, arith}
use Rattle.std.proofs.Math.Nat.{mul-le-mul_left}
use Rattle.std.proofs.lemmas.Bool.{cond-false, and_right, lt-leb}
use Rattle.std.specs.Char.{digit_value}
use Rattle.std.specs.List.{find}
use Rattle.std.specs.Str.Parse.{digits_value_after}
use Rattle.c_lexer.specs.declared.number.IntType.{IntType}
use Rattle.c_lexer.specs.declared.number.IntType.TheVariants.{Int, Unsigned, Long, UnsignedLong, LongLong, UnsignedLongLong}
use Rattle.c_lexer.specs.Numbers.{Constant, greatest, longs_of, fits, types, type_of}

grows : (base n d more : ℕ) → 0 < base → n * base + d ≤ more → n ≤ more
grows base n d more h k = let h' : 1 ≤ base = omega arith in omega (arith, mul-le-mul_left n h')

-- more digits write no smaller number
pub digits_value_grows : (base n : ℕ) (digits : List ℕ) → 0 < base → n ≤ digits_value_after base n digits
digits_value_grows base n [] h = omega arith
digits_value_grows base n (d ∷ digits) h =
    grows base n (digit_value d) (digits_value_after base (n * base + digit_value d) digits) h (digits_value_grows base (n * base + digit_value d) digits h)

find_none : {A : Type 0} (test : A → Bool) (xs : List A) → ((x : A) → test x ≡ false) → find test xs ≡ None
find_none test [] h = refl
find_none test (x ∷ xs) h = cond-false (test x) (Some x) (find test xs) (h x) ∙ find_none test xs h

greatest_below : (t : IntType) → greatest t < 2 ^ 64
greatest_below Int = lit< tt
greatest_below Unsigned = lit< tt
greatest_below Long = lit< tt
greatest_below UnsignedLong = lit< tt
greatest_below LongLong = lit< tt
greatest_below UnsignedLongLong = lit< tt

-- no type holds a value from 2 ^ 64 on
pub type_of_none : (c : Constant) → 2 ^ 64 ≤ c.value → type_of c ≡ None
unfolding type_of
type_of_none c h =
    find_none (fits c) (types c.base c.suffix.unsigned)
    (λ t. and_right (leb c.suffix.longs (longs_of t)) (leb c.value (greatest t)) (lt-leb c.value (greatest t) (omega (arith, greatest_below t))))
