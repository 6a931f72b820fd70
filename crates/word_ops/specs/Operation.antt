-- The operations on words: the word of each, and where it is undefined.
use Rattle.std.specs.Prelude.{ℕ, ◌+◌, ◌-◌, ◌*◌, ◌/◌, ◌%◌, ◌^◌, Bool, true, false, not, ◌&&◌, ◌||◌, ◌==◌, if◌then◌else◌, nat_lt, nat_le, ◌+ℤ◌, ◌-ℤ◌, ◌*ℤ◌, int_lt, int_le, int_div, int_rem, bit_and, bit_or, bit_xor, Option}
use Rattle.std.specs.Int.{int_shr}
use Rattle.word_ops.specs.declared.operation.Op.{Op}
use Rattle.word_ops.specs.declared.operation.Op.TheVariants.{Add, Sub, Mul, Adds, Subs, Muls, Divs, Rems, Divu, Remu, And, Or, Xor, Shl, Shls, Shru, Shrs, Eq, Ne, Lts, Les, Ltu, Leu, Zext8, Sext8, Zext16, Sext16}
use Rattle.word_ops.specs.Choice.{only_if}
use Rattle.word_ops.specs.Word.{signed_value, fits_signed, word_of_integer, number_of_truth, narrowed}

-- the quotient and the remainder of a signed division, which rounds toward zero (C11 6.5.5p6); a divisor of 0 gives what
-- RISC-V's DIV and REM give, and -2^31 by -1 wraps (RISC-V unprivileged ISA, "M", division operations)
abbrev pub signed_quotient : ℕ → ℕ → ℕ
signed_quotient a b = if b == 0 then 2 ^ 32 - 1 else word_of_integer (int_div (signed_value a) (signed_value b))

abbrev pub signed_remainder : ℕ → ℕ → ℕ
signed_remainder a b = if b == 0 then a else word_of_integer (int_rem (signed_value a) (signed_value b))

-- those of an unsigned division, with what RISC-V's DIVU and REMU give for a divisor of 0
abbrev pub unsigned_quotient : ℕ → ℕ → ℕ
unsigned_quotient a b = if b == 0 then 2 ^ 32 - 1 else a / b

abbrev pub unsigned_remainder : ℕ → ℕ → ℕ
unsigned_remainder a b = if b == 0 then a else a % b

-- the word that a machine gives for an operation
abbrev pub machine_word : Op → ℕ → ℕ → ℕ
-- C11 6.5.5, 6.5.6: of unsigned operands modulo 2^32 (6.2.5p9); two's complement gives signed ones the same word
machine_word Add a b = (a + b) % 2 ^ 32
machine_word Sub a b = (a + (2 ^ 32 - b)) % 2 ^ 32
machine_word Mul a b = a * b % 2 ^ 32
machine_word Adds a b = (a + b) % 2 ^ 32
machine_word Subs a b = (a + (2 ^ 32 - b)) % 2 ^ 32
machine_word Muls a b = a * b % 2 ^ 32
machine_word Divs a b = signed_quotient a b
machine_word Rems a b = signed_remainder a b
machine_word Divu a b = unsigned_quotient a b
machine_word Remu a b = unsigned_remainder a b
-- C11 6.5.10 to 6.5.12
machine_word And a b = bit_and a b
machine_word Or a b = bit_or a b
machine_word Xor a b = bit_xor a b
-- C11 6.5.7; a machine takes the distance modulo 32, and a signed shift to the right brings the sign in
machine_word Shl a b = a * 2 ^ (b % 32) % 2 ^ 32
machine_word Shls a b = a * 2 ^ (b % 32) % 2 ^ 32
machine_word Shru a b = a / 2 ^ (b % 32)
machine_word Shrs a b = word_of_integer (int_shr (signed_value a) (b % 32))
-- C11 6.5.8, 6.5.9
machine_word Eq a b = number_of_truth (a == b)
machine_word Ne a b = number_of_truth (not (a == b))
machine_word Lts a b = number_of_truth (int_lt (signed_value a) (signed_value b))
machine_word Les a b = number_of_truth (int_le (signed_value a) (signed_value b))
machine_word Ltu a b = number_of_truth (nat_lt a b)
machine_word Leu a b = number_of_truth (nat_le a b)
-- C11 6.3.1.1, 6.3.1.3: conversions to narrower types and back
machine_word Zext8 a b = narrowed 8 false a
machine_word Sext8 a b = narrowed 8 true a
machine_word Zext16 a b = narrowed 16 false a
machine_word Sext16 a b = narrowed 16 true a

-- whether C leaves the operation on these words undefined
abbrev pub is_undefined : Op → ℕ → ℕ → Bool
-- a result that is not representable (C11 6.5p5)
is_undefined Adds a b = not (fits_signed (signed_value a +ℤ signed_value b))
is_undefined Subs a b = not (fits_signed (signed_value a -ℤ signed_value b))
is_undefined Muls a b = not (fits_signed (signed_value a *ℤ signed_value b))
-- a divisor of 0, and -2^31 by -1 (C11 6.5.5p5, p6)
is_undefined Divs a b = (b == 0) || ((a == 2 ^ 31) && (b == 2 ^ 32 - 1))
is_undefined Rems a b = (b == 0) || ((a == 2 ^ 31) && (b == 2 ^ 32 - 1))
is_undefined Divu a b = b == 0
is_undefined Remu a b = b == 0
-- a distance of 32 or more (C11 6.5.7p3); of a signed shift to the left also a negative operand and a result that is not
-- representable (p4)
is_undefined Shl a b = nat_lt 31 b
is_undefined Shls a b = nat_lt 31 b || (nat_le (2 ^ 31) a || nat_le (2 ^ 31) (a * 2 ^ (b % 32)))
is_undefined Shru a b = nat_lt 31 b
is_undefined Shrs a b = nat_lt 31 b
is_undefined _ a b = false

-- the word of an operation, or none where it is undefined
abbrev pub word_of_operation : Op → ℕ → ℕ → Option ℕ
word_of_operation op a b = only_if (not (is_undefined op a b)) (machine_word op a b)
