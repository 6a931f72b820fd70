-- The fields of a word and its immediates.
-- RISC-V unprivileged manual, chapter "RV32I Base Integer Instruction Set", sections "Base Instruction
-- Formats" and "Immediate Encoding Variants".
use Rattle.std.specs.Prelude.{◌≡◌, ℕ, ℤ, pos, negsuc, ◌+◌, ◌-◌, ◌*◌, ◌/◌, ◌%◌, ◌^◌, ◌<◌, nat_lt, if◌then◌else◌}
use Rattle.std.specs.Int.{w32, cast_unsigned, cast_signed}
use Rattle.rv_table.specs.declared.row.Row.{Row}
use Rattle.rv_table.specs.declared.table.Format.{Format}
use Rattle.rv_table.specs.declared.table.Format.TheVariants.{R, I, S, B, U, J, Shift, Whole}
use Rattle.rv_table.specs.declared.instruction.Instr.{Instr}

-- the bits of a word from low on, count of them
abbrev pub bits_at : ℕ → ℕ → ℕ → ℕ
bits_at low count w = w / 2 ^ low % 2 ^ count

-- a number below 2 * half, read as a number with a sign
abbrev pub sign : ℕ → ℕ → ℤ
sign half u = if nat_lt u half then pos u else negsuc (2 * half - 1 - u)

-- the lowest bits of an immediate, count of them
abbrev pub low_bits : ℕ → ℤ → ℕ
low_bits count z = cast_unsigned w32 z % 2 ^ count

-- the instruction of a row whose fields a word has
abbrev pub read_as : Format → Row → ℕ → Instr
read_as R r w = record { row = r; rd = bits_at 7 5 w; rs1 = bits_at 15 5 w; rs2 = bits_at 20 5 w; imm = pos 0 }
read_as I r w = record { row = r; rd = bits_at 7 5 w; rs1 = bits_at 15 5 w; rs2 = 0; imm = sign (2 ^ 11) (bits_at 20 12 w) }
read_as S r w = record { row = r; rd = 0; rs1 = bits_at 15 5 w; rs2 = bits_at 20 5 w; imm = sign (2 ^ 11) (bits_at 25 7 w * 2 ^ 5 + bits_at 7 5 w) }
read_as B r w = record { row = r; rd = 0; rs1 = bits_at 15 5 w; rs2 = bits_at 20 5 w; imm = sign (2 ^ 12) (bits_at 31 1 w * 2 ^ 12 + bits_at 7 1 w * 2 ^ 11 + bits_at 25 6 w * 2 ^ 5 + bits_at 8 4 w * 2) }
read_as U r w = record { row = r; rd = bits_at 7 5 w; rs1 = 0; rs2 = 0; imm = cast_signed w32 (bits_at 12 20 w * 2 ^ 12) }
read_as J r w = record { row = r; rd = bits_at 7 5 w; rs1 = 0; rs2 = 0; imm = sign (2 ^ 20) (bits_at 31 1 w * 2 ^ 20 + bits_at 12 8 w * 2 ^ 12 + bits_at 20 1 w * 2 ^ 11 + bits_at 21 10 w * 2) }
read_as Shift r w = record { row = r; rd = bits_at 7 5 w; rs1 = bits_at 15 5 w; rs2 = 0; imm = pos (bits_at 20 5 w) }
read_as Whole r w = record { row = r; rd = 0; rs1 = 0; rs2 = 0; imm = pos 0 }

-- the bits of an instruction's operands in a word
abbrev pub operands : Format → Instr → ℕ
operands R i = i.rs2 * 2 ^ 20 + i.rs1 * 2 ^ 15 + i.rd * 2 ^ 7
operands I i = low_bits 12 i.imm * 2 ^ 20 + i.rs1 * 2 ^ 15 + i.rd * 2 ^ 7
operands S i = low_bits 12 i.imm / 2 ^ 5 * 2 ^ 25 + i.rs2 * 2 ^ 20 + i.rs1 * 2 ^ 15 + low_bits 12 i.imm % 2 ^ 5 * 2 ^ 7
operands B i = low_bits 13 i.imm / 2 ^ 12 * 2 ^ 31 + bits_at 5 6 (low_bits 13 i.imm) * 2 ^ 25 + i.rs2 * 2 ^ 20 + i.rs1 * 2 ^ 15 + bits_at 1 4 (low_bits 13 i.imm) * 2 ^ 8 + bits_at 11 1 (low_bits 13 i.imm) * 2 ^ 7
operands U i = cast_unsigned w32 i.imm / 2 ^ 12 * 2 ^ 12 + i.rd * 2 ^ 7
operands J i = low_bits 21 i.imm / 2 ^ 20 * 2 ^ 31 + bits_at 1 10 (low_bits 21 i.imm) * 2 ^ 21 + bits_at 11 1 (low_bits 21 i.imm) * 2 ^ 20 + bits_at 12 8 (low_bits 21 i.imm) * 2 ^ 12 + i.rd * 2 ^ 7
operands Shift i = low_bits 5 i.imm * 2 ^ 20 + i.rs1 * 2 ^ 15 + i.rd * 2 ^ 7
operands Whole i = 0

-- an immediate from -half up to half
abbrev pub Within : ℕ → ℤ → Type 0
Within half (pos n) = n < half
Within half (negsuc n) = n < half

-- the fields that a format lacks are 0, and its immediate has the format's range and step
abbrev pub Fits : Format → Instr → Type 0
Fits R i = i.imm ≡ pos 0
Fits I i = (i.rs2 ≡ 0) × Within (2 ^ 11) i.imm
Fits S i = (i.rd ≡ 0) × Within (2 ^ 11) i.imm
Fits B i = (i.rd ≡ 0) × Within (2 ^ 12) i.imm × (low_bits 1 i.imm ≡ 0)
Fits U i = (i.rs1 ≡ 0) × (i.rs2 ≡ 0) × Within (2 ^ 31) i.imm × (low_bits 12 i.imm ≡ 0)
Fits J i = (i.rs1 ≡ 0) × (i.rs2 ≡ 0) × Within (2 ^ 20) i.imm × (low_bits 1 i.imm ≡ 0)
Fits Shift i = (i.rs2 ≡ 0) × (i.imm ≡ pos (low_bits 5 i.imm))
Fits Whole i = (i.rd ≡ 0) × (i.rs1 ≡ 0) × (i.rs2 ≡ 0) × (i.imm ≡ pos 0)
