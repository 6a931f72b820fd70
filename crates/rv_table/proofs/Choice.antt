-- The row that a word matches is the one that the decoder tries.
use Rattle.std.proofs.Common.{◌≡◌, ℕ, ◌/◌, ◌%◌, ◌*◌, ◌+◌, ◌^◌, ◌<◌, refl, sym, ◌∙◌, ap, arith, cond, Bool, true, false}
use Rattle.std.specs.Prelude.{bit_and, Option, Some, None}
use Rattle.rv_table.specs.declared.row.Row.{Row}
use Rattle.rv_table.specs.declared.row.Row.TheVariants.{Lui, Auipc, Jal, Jalr, Beq, Bne, Blt, Bge, Bltu, Bgeu, Lb, Lh, Lw, Lbu, Lhu, Sb, Sh, Sw, Addi, Slti, Sltiu, Xori, Ori, Andi, Slli, Srli, Srai, Add, Sub, Sll, Slt, Sltu, Xor, Srl, Sra, Or, And, Mul, Mulh, Mulhsu, Mulhu, Div, Divu, Rem, Remu, Fence, Ecall, Ebreak}
use Rattle.rv_table.specs.Table.{format, mask, pattern, Matches, matches}
use Rattle.rv_table.specs.Fields.{bits_at}
use Rattle.rv_table.specs.Candidate.{by_opcode, candidate_of}
use Rattle.rv_table.specs.Instruction.{row_of}
use Rattle.rv_table.specs.Laws.Masks.{opcode_mask, funct3_mask, funct7_mask, whole_mask}
use Rattle.rv_table.specs.Laws.Uniqueness.{matched, matching, row_of-matches, row_of-none}

choice : (w opcode funct3 funct7 register : ℕ) → bits_at 0 7 w ≡ opcode → bits_at 12 3 w ≡ funct3 → bits_at 25 7 w ≡ funct7 → bits_at 20 5 w ≡ register → candidate_of w ≡ by_opcode opcode funct3 funct7 register
choice w opcode funct3 funct7 register a b c d = cc

by_opcode_alone : (p w : ℕ) → bit_and w 0x7f ≡ p → candidate_of w ≡ by_opcode (p % 2 ^ 7) (bits_at 12 3 w) (bits_at 25 7 w) (bits_at 20 5 w)
by_opcode_alone p w m =
    let e = opcode_mask w in
    choice w (p % 2 ^ 7) (bits_at 12 3 w) (bits_at 25 7 w) (bits_at 20 5 w) (omega arith) refl refl refl

by_funct3 : (p w : ℕ) → bit_and w 0x707f ≡ p → candidate_of w ≡ by_opcode (p % 2 ^ 7) (p / 2 ^ 12 % 8) (bits_at 25 7 w) (bits_at 20 5 w)
by_funct3 p w m =
    let e = funct3_mask w in
    choice w (p % 2 ^ 7) (p / 2 ^ 12 % 8) (bits_at 25 7 w) (bits_at 20 5 w) (omega arith) (omega arith) refl refl

by_funct7 : (p w : ℕ) → w < 2 ^ 32 → bit_and w 0xfe00707f ≡ p → candidate_of w ≡ by_opcode (p % 2 ^ 7) (p / 2 ^ 12 % 8) (p / 2 ^ 25) (bits_at 20 5 w)
by_funct7 p w h m =
    let e = funct7_mask w h in
    choice w (p % 2 ^ 7) (p / 2 ^ 12 % 8) (p / 2 ^ 25) (bits_at 20 5 w) (omega arith) (omega arith) (omega arith) refl

by_word : (p w : ℕ) → w < 2 ^ 32 → bit_and w 0xffffffff ≡ p → candidate_of w ≡ by_opcode (bits_at 0 7 p) (bits_at 12 3 p) (bits_at 25 7 p) (bits_at 20 5 p)
by_word p w h m = let e : w ≡ p = sym (whole_mask w h) ∙ m in ap candidate_of e

-- a word that matches a row has that row as its candidate
pub candidate_of-row : (r : Row) (w : ℕ) → w < 2 ^ 32 → Matches w r → candidate_of w ≡ Some r
candidate_of-row Lui w h m = by_opcode_alone (pattern Lui) w m
candidate_of-row Auipc w h m = by_opcode_alone (pattern Auipc) w m
candidate_of-row Jal w h m = by_opcode_alone (pattern Jal) w m
candidate_of-row Jalr w h m = by_funct3 (pattern Jalr) w m
candidate_of-row Beq w h m = by_funct3 (pattern Beq) w m
candidate_of-row Bne w h m = by_funct3 (pattern Bne) w m
candidate_of-row Blt w h m = by_funct3 (pattern Blt) w m
candidate_of-row Bge w h m = by_funct3 (pattern Bge) w m
candidate_of-row Bltu w h m = by_funct3 (pattern Bltu) w m
candidate_of-row Bgeu w h m = by_funct3 (pattern Bgeu) w m
candidate_of-row Lb w h m = by_funct3 (pattern Lb) w m
candidate_of-row Lh w h m = by_funct3 (pattern Lh) w m
candidate_of-row Lw w h m = by_funct3 (pattern Lw) w m
candidate_of-row Lbu w h m = by_funct3 (pattern Lbu) w m
candidate_of-row Lhu w h m = by_funct3 (pattern Lhu) w m
candidate_of-row Sb w h m = by_funct3 (pattern Sb) w m
candidate_of-row Sh w h m = by_funct3 (pattern Sh) w m
candidate_of-row Sw w h m = by_funct3 (pattern Sw) w m
candidate_of-row Addi w h m = by_funct3 (pattern Addi) w m
candidate_of-row Slti w h m = by_funct3 (pattern Slti) w m
candidate_of-row Sltiu w h m = by_funct3 (pattern Sltiu) w m
candidate_of-row Xori w h m = by_funct3 (pattern Xori) w m
candidate_of-row Ori w h m = by_funct3 (pattern Ori) w m
candidate_of-row Andi w h m = by_funct3 (pattern Andi) w m
candidate_of-row Slli w h m = by_funct7 (pattern Slli) w h m
candidate_of-row Srli w h m = by_funct7 (pattern Srli) w h m
candidate_of-row Srai w h m = by_funct7 (pattern Srai) w h m
candidate_of-row Add w h m = by_funct7 (pattern Add) w h m
candidate_of-row Sub w h m = by_funct7 (pattern Sub) w h m
candidate_of-row Sll w h m = by_funct7 (pattern Sll) w h m
candidate_of-row Slt w h m = by_funct7 (pattern Slt) w h m
candidate_of-row Sltu w h m = by_funct7 (pattern Sltu) w h m
candidate_of-row Xor w h m = by_funct7 (pattern Xor) w h m
candidate_of-row Srl w h m = by_funct7 (pattern Srl) w h m
candidate_of-row Sra w h m = by_funct7 (pattern Sra) w h m
candidate_of-row Or w h m = by_funct7 (pattern Or) w h m
candidate_of-row And w h m = by_funct7 (pattern And) w h m
candidate_of-row Mul w h m = by_funct7 (pattern Mul) w h m
candidate_of-row Mulh w h m = by_funct7 (pattern Mulh) w h m
candidate_of-row Mulhsu w h m = by_funct7 (pattern Mulhsu) w h m
candidate_of-row Mulhu w h m = by_funct7 (pattern Mulhu) w h m
candidate_of-row Div w h m = by_funct7 (pattern Div) w h m
candidate_of-row Divu w h m = by_funct7 (pattern Divu) w h m
candidate_of-row Rem w h m = by_funct7 (pattern Rem) w h m
candidate_of-row Remu w h m = by_funct7 (pattern Remu) w h m
candidate_of-row Fence w h m = by_funct3 (pattern Fence) w m
candidate_of-row Ecall w h m = by_word (pattern Ecall) w h m
candidate_of-row Ebreak w h m = by_word (pattern Ebreak) w h m

-- a candidate that matches is the row of the word, and where it does not match there is none
pub row_of-candidate : (w : ℕ) (r : Row) → matches w r ≡ true → row_of w ≡ Some r
row_of-candidate w r t = row_of-matches w r (matched w r t)

pub row_of-refused : (w : ℕ) (r : Row) → w < 2 ^ 32 → candidate_of w ≡ Some r → matches w r ≡ false → row_of w ≡ None
row_of-refused w r h c t = row_of-none w (λ q m.
    let same : Some r ≡ Some q = sym c ∙ candidate_of-row q w h m in
    let is : r ≡ q = cc in
    let b : matches w q ≡ true = matching w q m in
    let b' : matches w r ≡ true = ap (matches w) is ∙ b in
    cc)

pub row_of-unlisted : (w : ℕ) → w < 2 ^ 32 → candidate_of w ≡ None → row_of w ≡ None
row_of-unlisted w h c = row_of-none w (λ q m. let e : candidate_of w ≡ Some q = candidate_of-row q w h m in absurd cc)
