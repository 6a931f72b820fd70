-- Numbers in bytes of memory, the lowest first.
-- RISC-V unprivileged manual, chapter "RV32I Base Integer Instruction Set", section "Load and Store
-- Instructions".
use Rattle.std.specs.Prelude.{ℕ, zero, suc, ◌+◌, ◌*◌, ◌/◌, ◌%◌, ◌^◌, List, slice_index, slice_set}
use Rattle.std.specs.Int.{w8, w16, w32, cast_unsigned, cast_signed}

-- the number in one, two and four bytes from a place on
abbrev pub byte_in : List ℕ → ℕ → ℕ
byte_in bytes k = slice_index bytes k

abbrev pub half_in : List ℕ → ℕ → ℕ
half_in bytes k = slice_index bytes k + slice_index bytes (k + 1) * 2 ^ 8

abbrev pub word_in : List ℕ → ℕ → ℕ
word_in bytes k = slice_index bytes k + slice_index bytes (k + 1) * 2 ^ 8 + slice_index bytes (k + 2) * 2 ^ 16 + slice_index bytes (k + 3) * 2 ^ 24

-- one and two bytes extended with their sign to a word
abbrev pub signed_byte_in : List ℕ → ℕ → ℕ
signed_byte_in bytes k = cast_unsigned w32 (cast_signed w8 (byte_in bytes k))

abbrev pub signed_half_in : List ℕ → ℕ → ℕ
signed_half_in bytes k = cast_unsigned w32 (cast_signed w16 (half_in bytes k))

-- the bytes after the low one, two or four bytes of a word were put at a place
abbrev pub with_byte : ℕ → List ℕ → ℕ → List ℕ
with_byte word bytes k = slice_set bytes k (word % 2 ^ 8)

abbrev pub with_half : ℕ → List ℕ → ℕ → List ℕ
with_half word bytes k = slice_set (slice_set bytes k (word % 2 ^ 8)) (k + 1) (word / 2 ^ 8 % 2 ^ 8)

abbrev pub with_word : ℕ → List ℕ → ℕ → List ℕ
with_word word bytes k = slice_set (slice_set (slice_set (slice_set bytes k (word % 2 ^ 8)) (k + 1) (word / 2 ^ 8 % 2 ^ 8)) (k + 2) (word / 2 ^ 16 % 2 ^ 8)) (k + 3) (word / 2 ^ 24 % 2 ^ 8)

-- The same over any number of bytes, by which their laws are stated once: the number in so many bytes, and the bytes after
-- the low ones of a word were put there.
abbrev pub number_in : ℕ → List ℕ → ℕ → ℕ
number_in zero bytes k = 0
number_in (suc count) bytes k = slice_index bytes k + number_in count bytes (k + 1) * 2 ^ 8

abbrev pub with_number : ℕ → ℕ → List ℕ → ℕ → List ℕ
with_number zero word bytes k = bytes
with_number (suc count) word bytes k = with_number count (word / 2 ^ 8) (slice_set bytes k (word % 2 ^ 8)) (k + 1)
