-- The table of RV32IM's instructions: where the fields of each stand, and which bits it fixes.
-- RISC-V unprivileged manual, chapters "RV32I Base Integer Instruction Set", section "Base Instruction
-- Formats", and "RV32/64G Instruction Set Listings".
use Rattle.std.specs.Prelude.{◌≡◌, ℕ, ◌+◌, ◌-◌, ◌*◌, ◌^◌, ◌==◌, Bool, List, [], ◌∷◌, bit_and}
use Rattle.rv_table.specs.declared.row.Row.{Row}
use Rattle.rv_table.specs.declared.row.Row.TheVariants.{Lui, Auipc, Jal, Jalr, Beq, Bne, Blt, Bge, Bltu, Bgeu, Lb, Lh, Lw, Lbu, Lhu, Sb, Sh, Sw, Addi, Slti, Sltiu, Xori, Ori, Andi, Slli, Srli, Srai, Add, Sub, Sll, Slt, Sltu, Xor, Srl, Sra, Or, And, Mul, Mulh, Mulhsu, Mulhu, Div, Divu, Rem, Remu, Fence, Ecall, Ebreak}
use Rattle.rv_table.specs.declared.table.Format.{Format}
use Rattle.rv_table.specs.declared.table.Format.TheVariants.{R, I, S, B, U, J, Shift, Whole}
use Rattle.rv_table.specs.declared.table.Entry.{Entry}

abbrev pub entry : Format → ℕ → Entry
entry format' pattern' = record { format = format'; pattern = pattern' }

-- the bits of funct7, funct3 and opcode in a word; a field that the format lacks is 0
abbrev pub fixed : ℕ → ℕ → ℕ → ℕ
fixed funct7 funct3 opcode = funct7 * 2 ^ 25 + funct3 * 2 ^ 12 + opcode

-- where the fields of a row's words stand, and what their fixed bits are
abbrev pub instruction_table : Row → Entry
instruction_table Lui = entry U (fixed 0b0000000 0b000 0b0110111)
instruction_table Auipc = entry U (fixed 0b0000000 0b000 0b0010111)
instruction_table Jal = entry J (fixed 0b0000000 0b000 0b1101111)
instruction_table Jalr = entry I (fixed 0b0000000 0b000 0b1100111)
instruction_table Beq = entry B (fixed 0b0000000 0b000 0b1100011)
instruction_table Bne = entry B (fixed 0b0000000 0b001 0b1100011)
instruction_table Blt = entry B (fixed 0b0000000 0b100 0b1100011)
instruction_table Bge = entry B (fixed 0b0000000 0b101 0b1100011)
instruction_table Bltu = entry B (fixed 0b0000000 0b110 0b1100011)
instruction_table Bgeu = entry B (fixed 0b0000000 0b111 0b1100011)
instruction_table Lb = entry I (fixed 0b0000000 0b000 0b0000011)
instruction_table Lh = entry I (fixed 0b0000000 0b001 0b0000011)
instruction_table Lw = entry I (fixed 0b0000000 0b010 0b0000011)
instruction_table Lbu = entry I (fixed 0b0000000 0b100 0b0000011)
instruction_table Lhu = entry I (fixed 0b0000000 0b101 0b0000011)
instruction_table Sb = entry S (fixed 0b0000000 0b000 0b0100011)
instruction_table Sh = entry S (fixed 0b0000000 0b001 0b0100011)
instruction_table Sw = entry S (fixed 0b0000000 0b010 0b0100011)
instruction_table Addi = entry I (fixed 0b0000000 0b000 0b0010011)
instruction_table Slti = entry I (fixed 0b0000000 0b010 0b0010011)
instruction_table Sltiu = entry I (fixed 0b0000000 0b011 0b0010011)
instruction_table Xori = entry I (fixed 0b0000000 0b100 0b0010011)
instruction_table Ori = entry I (fixed 0b0000000 0b110 0b0010011)
instruction_table Andi = entry I (fixed 0b0000000 0b111 0b0010011)
instruction_table Slli = entry Shift (fixed 0b0000000 0b001 0b0010011)
instruction_table Srli = entry Shift (fixed 0b0000000 0b101 0b0010011)
instruction_table Srai = entry Shift (fixed 0b0100000 0b101 0b0010011)
instruction_table Add = entry R (fixed 0b0000000 0b000 0b0110011)
instruction_table Sub = entry R (fixed 0b0100000 0b000 0b0110011)
instruction_table Sll = entry R (fixed 0b0000000 0b001 0b0110011)
instruction_table Slt = entry R (fixed 0b0000000 0b010 0b0110011)
instruction_table Sltu = entry R (fixed 0b0000000 0b011 0b0110011)
instruction_table Xor = entry R (fixed 0b0000000 0b100 0b0110011)
instruction_table Srl = entry R (fixed 0b0000000 0b101 0b0110011)
instruction_table Sra = entry R (fixed 0b0100000 0b101 0b0110011)
instruction_table Or = entry R (fixed 0b0000000 0b110 0b0110011)
instruction_table And = entry R (fixed 0b0000000 0b111 0b0110011)
instruction_table Mul = entry R (fixed 0b0000001 0b000 0b0110011)
instruction_table Mulh = entry R (fixed 0b0000001 0b001 0b0110011)
instruction_table Mulhsu = entry R (fixed 0b0000001 0b010 0b0110011)
instruction_table Mulhu = entry R (fixed 0b0000001 0b011 0b0110011)
instruction_table Div = entry R (fixed 0b0000001 0b100 0b0110011)
instruction_table Divu = entry R (fixed 0b0000001 0b101 0b0110011)
instruction_table Rem = entry R (fixed 0b0000001 0b110 0b0110011)
instruction_table Remu = entry R (fixed 0b0000001 0b111 0b0110011)
instruction_table Fence = entry I (fixed 0b0000000 0b000 0b0001111)
instruction_table Ecall = entry Whole 0x00000073
instruction_table Ebreak = entry Whole 0x00100073

abbrev pub format : Row → Format
format r = (instruction_table r).format

abbrev pub pattern : Row → ℕ
pattern r = (instruction_table r).pattern

-- the bits that a format fixes
abbrev pub mask_of : Format → ℕ
mask_of R = fixed 0b1111111 0b111 0b1111111
mask_of I = fixed 0 0b111 0b1111111
mask_of S = fixed 0 0b111 0b1111111
mask_of B = fixed 0 0b111 0b1111111
mask_of U = fixed 0 0 0b1111111
mask_of J = fixed 0 0 0b1111111
mask_of Shift = fixed 0b1111111 0b111 0b1111111
mask_of Whole = 2 ^ 32 - 1

abbrev pub mask : Row → ℕ
mask r = mask_of (format r)

-- a word has the fixed bits of a row
abbrev pub Matches : ℕ → Row → Type 0
Matches w r = bit_and w (mask r) ≡ pattern r

abbrev pub matches : ℕ → Row → Bool
matches w r = bit_and w (mask r) == pattern r

-- the 48 rows
abbrev pub rows : List Row
rows = Lui ∷ Auipc ∷ Jal ∷ Jalr ∷ Beq ∷ Bne ∷ Blt ∷ Bge ∷ Bltu ∷ Bgeu ∷ Lb ∷ Lh ∷ Lw ∷ Lbu ∷ Lhu ∷ Sb ∷ Sh ∷ Sw ∷ Addi ∷ Slti ∷ Sltiu ∷ Xori ∷ Ori ∷ Andi ∷ Slli ∷ Srli ∷ Srai ∷ Add ∷ Sub ∷ Sll ∷ Slt ∷ Sltu ∷ Xor ∷ Srl ∷ Sra ∷ Or ∷ And ∷ Mul ∷ Mulh ∷ Mulhsu ∷ Mulhu ∷ Div ∷ Divu ∷ Rem ∷ Remu ∷ Fence ∷ Ecall ∷ Ebreak ∷ []
