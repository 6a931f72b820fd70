-- The words that instructions compute.
-- RISC-V unprivileged manual, chapter "RV32I Base Integer Instruction Set", section "Integer Computational
-- Instructions", and chapter "M" Extension for Integer Multiplication and Division.
use Rattle.std.specs.Prelude.{ℕ, ◌+◌, ◌-◌, ◌*◌, ◌/◌, ◌%◌, ◌^◌, ◌==◌, Bool, nat_lt, if◌then◌else◌, ℤ, pos, ◌*ℤ◌, int_lt, int_rem}
use Rattle.std.specs.Int.{w32, w64, cast_unsigned, cast_signed, int_shr, int_wrapping_div}

-- a word read as signed, in two's complement
abbrev pub signed : ℕ → ℤ
signed a = cast_signed w32 a

-- 1 for true, 0 for false
abbrev pub truth : Bool → ℕ
truth b = if b then 1 else 0

-- ADD, ADDI, and the sums of addresses: overflow is ignored
abbrev pub sum : ℕ → ℕ → ℕ
sum a b = (a + b) % 2 ^ 32

-- SUB
abbrev pub difference : ℕ → ℕ → ℕ
difference a b = (a + (2 ^ 32 - b)) % 2 ^ 32

-- SLT, SLTI
abbrev pub less : ℕ → ℕ → ℕ
less a b = truth (int_lt (signed a) (signed b))

-- SLTU, SLTIU
abbrev pub less_unsigned : ℕ → ℕ → ℕ
less_unsigned a b = truth (nat_lt a b)

-- SLL, SLLI: by the low 5 bits of the amount
abbrev pub shifted_left : ℕ → ℕ → ℕ
shifted_left a b = a * 2 ^ (b % 32) % 2 ^ 32

-- SRL, SRLI: zeros come in
abbrev pub shifted_right : ℕ → ℕ → ℕ
shifted_right a b = a / 2 ^ (b % 32)

-- SRA, SRAI: the sign comes in
abbrev pub shifted_right_signed : ℕ → ℕ → ℕ
shifted_right_signed a b = cast_unsigned w32 (int_shr (signed a) (b % 32))

-- MUL: the low word of the product
abbrev pub product : ℕ → ℕ → ℕ
product a b = a * b % 2 ^ 32

-- the high word of a product of 64 bits
abbrev pub high_word : ℤ → ℕ
high_word z = cast_unsigned w64 z / 2 ^ 32

-- MULH, MULHSU and MULHU: both factors read as signed, the first alone, none
abbrev pub high_product : ℕ → ℕ → ℕ
high_product a b = high_word (signed a *ℤ signed b)

abbrev pub high_product_mixed : ℕ → ℕ → ℕ
high_product_mixed a b = high_word (signed a *ℤ pos b)

abbrev pub high_product_unsigned : ℕ → ℕ → ℕ
high_product_unsigned a b = high_word (pos (a * b))

-- DIV: rounds toward zero; a divisor of 0 gives all ones, and -2^31 by -1 gives -2^31
abbrev pub quotient : ℕ → ℕ → ℕ
quotient a b = if b == 0 then 2 ^ 32 - 1 else cast_unsigned w32 (int_wrapping_div w32 (signed a) (signed b))

-- DIVU
abbrev pub quotient_unsigned : ℕ → ℕ → ℕ
quotient_unsigned a b = if b == 0 then 2 ^ 32 - 1 else a / b

-- REM: the sign is that of the dividend; a divisor of 0 gives the dividend, and -2^31 by -1 gives 0
abbrev pub remainder : ℕ → ℕ → ℕ
remainder a b = if b == 0 then a else cast_unsigned w32 (int_rem (signed a) (signed b))

-- REMU
abbrev pub remainder_unsigned : ℕ → ℕ → ℕ
remainder_unsigned a b = if b == 0 then a else a % b
