-- Words of 32 bits and how they are read. A word is a number below 2^32: int, long and pointers have that width (the
-- profile's choice; C11 5.2.4.2.1, 6.2.5).
use Rattle.std.specs.Prelude.{ℕ, ◌+◌, ◌-◌, ◌%◌, ◌^◌, Bool, true, false, ◌&&◌, if◌then◌else◌, nat_lt, nat_le, ℤ, pos, negsuc}
use Rattle.std.specs.Int.{w32, cast_signed}

-- a word read as signed: two's complement (C11 6.2.6.2p2; the profile's choice of the three that it allows)
abbrev pub signed_value : ℕ → ℤ
signed_value a = cast_signed w32 a

-- whether a signed word has this value: from -2^31 to 2^31 - 1 (C11 5.2.4.2.1p1)
abbrev pub fits_signed : ℤ → Bool
fits_signed (pos n) = nat_lt n (2 ^ 31)
fits_signed (negsuc n) = nat_lt n (2 ^ 31)

-- the word of an integer: its value modulo 2^32 (C11 6.3.1.3p2)
abbrev pub word_of_integer : ℤ → ℕ
word_of_integer (pos n) = n % 2 ^ 32
word_of_integer (negsuc n) = 2 ^ 32 - 1 - n % 2 ^ 32

-- the number of a truth (C11 6.5.8p6, 6.5.9p3)
abbrev pub number_of_truth : Bool → ℕ
number_of_truth true = 1
number_of_truth false = 0

-- the low bits of a number, extended to a word with zeros, or with copies of the highest of them where the sign is kept:
-- the conversion to an unsigned and to a signed type of so many bits (C11 6.3.1.3p2, p3; out of range of a signed type the
-- profile wraps)
abbrev pub narrowed : (bits : ℕ) → (keeps_sign : Bool) → ℕ → ℕ
narrowed bits keeps_sign a = if keeps_sign && nat_le (2 ^ (bits - 1)) (a % 2 ^ bits) then a % 2 ^ bits + (2 ^ 32 - 2 ^ bits) else a % 2 ^ bits
