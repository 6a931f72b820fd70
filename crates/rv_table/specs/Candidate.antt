-- How the decoder chooses the one row that a word can match, by its opcode, funct3 and funct7.
use Rattle.std.specs.Prelude.{ℕ, ◌==◌, if◌then◌else◌, Option, Some, None}
use Rattle.rv_table.specs.declared.row.Row.{Row}
use Rattle.rv_table.specs.declared.row.Row.TheVariants.{Lui, Auipc, Jal, Jalr, Beq, Bne, Blt, Bge, Bltu, Bgeu, Lb, Lh, Lw, Lbu, Lhu, Sb, Sh, Sw, Addi, Slti, Sltiu, Xori, Ori, Andi, Slli, Srli, Srai, Add, Sub, Sll, Slt, Sltu, Xor, Srl, Sra, Or, And, Mul, Mulh, Mulhsu, Mulhu, Div, Divu, Rem, Remu, Fence, Ecall, Ebreak}
use Rattle.rv_table.specs.Fields.{bits_at}

abbrev pub branch : ℕ → Option Row
branch funct3 =
    if funct3 == 0 then Some Beq
    else if funct3 == 1 then Some Bne
    else if funct3 == 4 then Some Blt
    else if funct3 == 5 then Some Bge
    else if funct3 == 6 then Some Bltu
    else if funct3 == 7 then Some Bgeu
    else None

abbrev pub load : ℕ → Option Row
load funct3 =
    if funct3 == 0 then Some Lb
    else if funct3 == 1 then Some Lh
    else if funct3 == 2 then Some Lw
    else if funct3 == 4 then Some Lbu
    else if funct3 == 5 then Some Lhu
    else None

abbrev pub store : ℕ → Option Row
store funct3 =
    if funct3 == 0 then Some Sb
    else if funct3 == 1 then Some Sh
    else if funct3 == 2 then Some Sw
    else None

abbrev pub immediate : ℕ → ℕ → Option Row
immediate funct3 funct7 =
    if funct3 == 0 then Some Addi
    else if funct3 == 1 then Some Slli
    else if funct3 == 2 then Some Slti
    else if funct3 == 3 then Some Sltiu
    else if funct3 == 4 then Some Xori
    else if funct3 == 5 then (if funct7 == 0 then Some Srli else Some Srai)
    else if funct3 == 6 then Some Ori
    else Some Andi

abbrev pub plain : ℕ → ℕ → Option Row
plain funct3 funct7 =
    if funct3 == 0 then (if funct7 == 0 then Some Add else Some Sub)
    else if funct3 == 1 then Some Sll
    else if funct3 == 2 then Some Slt
    else if funct3 == 3 then Some Sltu
    else if funct3 == 4 then Some Xor
    else if funct3 == 5 then (if funct7 == 0 then Some Srl else Some Sra)
    else if funct3 == 6 then Some Or
    else Some And

abbrev pub multiply : ℕ → Option Row
multiply funct3 =
    if funct3 == 0 then Some Mul
    else if funct3 == 1 then Some Mulh
    else if funct3 == 2 then Some Mulhsu
    else if funct3 == 3 then Some Mulhu
    else if funct3 == 4 then Some Div
    else if funct3 == 5 then Some Divu
    else if funct3 == 6 then Some Rem
    else Some Remu

abbrev pub by_opcode : ℕ → ℕ → ℕ → ℕ → Option Row
by_opcode opcode funct3 funct7 register =
    if opcode == 0b0110111 then Some Lui
    else if opcode == 0b0010111 then Some Auipc
    else if opcode == 0b1101111 then Some Jal
    else if opcode == 0b1100111 then Some Jalr
    else if opcode == 0b1100011 then branch funct3
    else if opcode == 0b0000011 then load funct3
    else if opcode == 0b0100011 then store funct3
    else if opcode == 0b0010011 then immediate funct3 funct7
    else if opcode == 0b0110011 then (if funct7 == 1 then multiply funct3 else plain funct3 funct7)
    else if opcode == 0b0001111 then Some Fence
    else if opcode == 0b1110011 then (if register == 0 then Some Ecall else Some Ebreak)
    else None

-- register is the place of rs2, by which ECALL and EBREAK differ
abbrev pub candidate_of : ℕ → Option Row
candidate_of w = by_opcode (bits_at 0 7 w) (bits_at 12 3 w) (bits_at 25 7 w) (bits_at 20 5 w)
