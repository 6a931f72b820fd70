-- In each format: the operands leave the fixed bits alone, and what is written is what is read.
-- It holds proofs: no contract cites it, and the clauses of `decode` say what they come to.
use Rattle.std.proofs.Common.{◌≡◌, ℕ, ℤ, pos, ◌+◌, ◌*◌, ◌/◌, ◌%◌, ◌^◌, ◌<◌, refl, sym, ◌∙◌, ap, arith}
use Rattle.std.specs.Prelude.{bit_and}
use Rattle.std.specs.Int.{w32, cast_unsigned, cast_signed}
use Rattle.rv_table.specs.declared.row.Row.{Row}
use Rattle.rv_table.specs.declared.table.Format.{Format}
use Rattle.rv_table.specs.declared.table.Format.TheVariants.{R, I, S, B, U, J, Shift, Whole}
use Rattle.rv_table.specs.declared.instruction.Instr.{Instr}
use Rattle.rv_table.specs.Table.{mask_of}
use Rattle.rv_table.specs.Fields.{bits_at, sign, low_bits, read_as, operands, Fits}
use Rattle.rv_table.specs.Laws.Masks.{opcode_mask, funct3_mask, funct7_mask, whole_mask}
use Rattle.rv_table.specs.Laws.Immediates.{sign-low_bits, low_bits-sign, cast_unsigned-within, cast_signed-cast_unsigned, cast_unsigned-cast_signed}

-- a pattern has only bits that its format fixes
pub record IsPattern (f : Format) (p : ℕ) : Type 0 where
  pub masked : bit_and p (mask_of f) ≡ p
  pub word : p < 2 ^ 32

-- the fixed bits of a word of a pattern and operands are the pattern
pub mask-operands : (f : Format) (p : ℕ) (i : Instr) → IsPattern f p → i.rd < 32 → i.rs1 < 32 → i.rs2 < 32 → Fits f i → (bit_and (p + operands f i) (mask_of f) ≡ p) × (p + operands f i < 2 ^ 32)
mask-operands R p i s d a b fits =
    let m = funct7_mask p s.word in
    let h = s.masked in
    let word : p + operands R i < 2 ^ 32 = omega arith in
    (funct7_mask (p + operands R i) word ∙ omega arith, word)
mask-operands I p i s d a b fits =
    let m = funct3_mask p in
    let h = s.masked in
    let word : p + operands I i < 2 ^ 32 = omega arith in
    (funct3_mask (p + operands I i) ∙ omega arith, word)
mask-operands S p i s d a b fits =
    let m = funct3_mask p in
    let h = s.masked in
    let word : p + operands S i < 2 ^ 32 = omega arith in
    (funct3_mask (p + operands S i) ∙ omega arith, word)
mask-operands B p i s d a b fits =
    let m = funct3_mask p in
    let h = s.masked in
    let word : p + operands B i < 2 ^ 32 = omega arith in
    (funct3_mask (p + operands B i) ∙ omega arith, word)
mask-operands U p i s d a b fits =
    let m = opcode_mask p in
    let h = s.masked in
    let small = cast_unsigned-within i.imm fits.2 in
    let word : p + operands U i < 2 ^ 32 = omega arith in
    (opcode_mask (p + operands U i) ∙ omega arith, word)
mask-operands J p i s d a b fits =
    let m = opcode_mask p in
    let h = s.masked in
    let word : p + operands J i < 2 ^ 32 = omega arith in
    (opcode_mask (p + operands J i) ∙ omega arith, word)
mask-operands Shift p i s d a b fits =
    let m = funct7_mask p s.word in
    let h = s.masked in
    let word : p + operands Shift i < 2 ^ 32 = omega arith in
    (funct7_mask (p + operands Shift i) word ∙ omega arith, word)
mask-operands Whole p i s d a b fits =
    let h = s.word in
    let word : p + operands Whole i < 2 ^ 32 = omega arith in
    (whole_mask (p + operands Whole i) word ∙ omega arith, word)

abbrev instr : Row → ℕ → ℕ → ℕ → ℤ → Instr
instr row' rd' rs1' rs2' imm' = record { row = row'; rd = rd'; rs1 = rs1'; rs2 = rs2'; imm = imm' }

same : (row row' : Row) (rd rd' rs1 rs1' rs2 rs2' : ℕ) (imm imm' : ℤ) → row ≡ row' → rd ≡ rd' → rs1 ≡ rs1' → rs2 ≡ rs2' → imm ≡ imm' → instr row rd rs1 rs2 imm ≡ instr row' rd' rs1' rs2' imm'
same row row' rd rd' rs1 rs1' rs2 rs2' imm imm' a b c d e = cc

-- what was written is read back
pub read_as-operands : (f : Format) (p : ℕ) (i : Instr) → IsPattern f p → i.rd < 32 → i.rs1 < 32 → i.rs2 < 32 → Fits f i → read_as f i.row (p + operands f i) ≡ i
read_as-operands R p i s d a b fits =
    let m = funct7_mask p s.word in
    let h = s.masked in
    same _ _ _ _ _ _ _ _ _ _ refl (omega arith) (omega arith) (omega arith) (sym fits)
read_as-operands I p i s d a b fits =
    let m = funct3_mask p in
    let h = s.masked in
    let w : ℕ = p + operands I i in
    let u : bits_at 20 12 w ≡ low_bits 12 i.imm = omega arith in
    same _ _ _ _ _ _ _ _ _ _ refl (omega arith) (omega arith) (sym fits.0) (ap (sign (2 ^ 11)) u ∙ sign-low_bits (2 ^ 11) 1048575 12 i.imm refl refl fits.1)
read_as-operands S p i s d a b fits =
    let m = funct3_mask p in
    let h = s.masked in
    let w : ℕ = p + operands S i in
    let u : bits_at 25 7 w * 2 ^ 5 + bits_at 7 5 w ≡ low_bits 12 i.imm = omega arith in
    same _ _ _ _ _ _ _ _ _ _ refl (sym fits.0) (omega arith) (omega arith) (ap (sign (2 ^ 11)) u ∙ sign-low_bits (2 ^ 11) 1048575 12 i.imm refl refl fits.1)
read_as-operands B p i s d a b fits =
    let m = funct3_mask p in
    let h = s.masked in
    let w : ℕ = p + operands B i in
    let u : bits_at 31 1 w * 2 ^ 12 + bits_at 7 1 w * 2 ^ 11 + bits_at 25 6 w * 2 ^ 5 + bits_at 8 4 w * 2 ≡ low_bits 13 i.imm = omega arith in
    same _ _ _ _ _ _ _ _ _ _ refl (sym fits.0) (omega arith) (omega arith) (ap (sign (2 ^ 12)) u ∙ sign-low_bits (2 ^ 12) 524287 13 i.imm refl refl fits.1)
read_as-operands U p i s d a b fits =
    let m = opcode_mask p in
    let h = s.masked in
    let w : ℕ = p + operands U i in
    let small = cast_unsigned-within i.imm fits.2 in
    let u : bits_at 12 20 w * 2 ^ 12 ≡ cast_unsigned w32 i.imm = omega arith in
    same _ _ _ _ _ _ _ _ _ _ refl (omega arith) (sym fits.0) (sym fits.1) (ap (cast_signed w32) u ∙ cast_signed-cast_unsigned i.imm fits.2)
read_as-operands J p i s d a b fits =
    let m = opcode_mask p in
    let h = s.masked in
    let w : ℕ = p + operands J i in
    let u : bits_at 31 1 w * 2 ^ 20 + bits_at 12 8 w * 2 ^ 12 + bits_at 20 1 w * 2 ^ 11 + bits_at 21 10 w * 2 ≡ low_bits 21 i.imm = omega arith in
    same _ _ _ _ _ _ _ _ _ _ refl (omega arith) (sym fits.0) (sym fits.1) (ap (sign (2 ^ 20)) u ∙ sign-low_bits (2 ^ 20) 2047 21 i.imm refl refl fits.2)
read_as-operands Shift p i s d a b fits =
    let m = funct7_mask p s.word in
    let h = s.masked in
    let w : ℕ = p + operands Shift i in
    let u : bits_at 20 5 w ≡ low_bits 5 i.imm = omega arith in
    same _ _ _ _ _ _ _ _ _ _ refl (omega arith) (omega arith) (sym fits.0) (ap pos u ∙ sym fits.1)
read_as-operands Whole p i s d a b fits = same _ _ _ _ _ _ _ _ _ _ refl (sym fits.0) (sym fits.1) (sym fits.2) (sym fits.3)

-- what is read of a word of a pattern is written back, with operands that fit
pub operands-read_as : (f : Format) (p w : ℕ) (r : Row) → w < 2 ^ 32 → bit_and w (mask_of f) ≡ p → (p + operands f (read_as f r w) ≡ w) × Fits f (read_as f r w)
operands-read_as R p w r h m =
    let e = funct7_mask w h in
    (omega arith, refl)
operands-read_as I p w r h m =
    let e = funct3_mask w in
    let u = low_bits-sign (2 ^ 11) 1048575 12 (bits_at 20 12 w) refl refl (omega arith) in
    (omega arith, (refl, u.1))
operands-read_as S p w r h m =
    let e = funct3_mask w in
    let u = low_bits-sign (2 ^ 11) 1048575 12 (bits_at 25 7 w * 2 ^ 5 + bits_at 7 5 w) refl refl (omega arith) in
    (omega arith, (refl, u.1))
operands-read_as B p w r h m =
    let e = funct3_mask w in
    let u = low_bits-sign (2 ^ 12) 524287 13 (bits_at 31 1 w * 2 ^ 12 + bits_at 7 1 w * 2 ^ 11 + bits_at 25 6 w * 2 ^ 5 + bits_at 8 4 w * 2) refl refl (omega arith) in
    (omega arith, (refl, u.1, omega arith))
operands-read_as U p w r h m =
    let e = opcode_mask w in
    let u = cast_unsigned-cast_signed (bits_at 12 20 w * 2 ^ 12) (omega arith) in
    (omega arith, (refl, refl, u.1, omega arith))
operands-read_as J p w r h m =
    let e = opcode_mask w in
    let u = low_bits-sign (2 ^ 20) 2047 21 (bits_at 31 1 w * 2 ^ 20 + bits_at 12 8 w * 2 ^ 12 + bits_at 20 1 w * 2 ^ 11 + bits_at 21 10 w * 2) refl refl (omega arith) in
    (omega arith, (refl, refl, u.1, omega arith))
operands-read_as Shift p w r h m =
    let e = funct7_mask w h in
    let u : bits_at 20 5 w % 32 ≡ bits_at 20 5 w = omega arith in
    (omega arith, (refl, ap pos (sym u)))
operands-read_as Whole p w r h m =
    let e = whole_mask w h in
    (omega arith, (refl, refl, refl, refl))

-- registers that are read are below 32, and the row is the one that was asked for
pub read_as-registers : (f : Format) (r : Row) (w : ℕ) → ((read_as f r w).rd < 32) × ((read_as f r w).rs1 < 32) × ((read_as f r w).rs2 < 32)
read_as-registers R r w = (omega arith, omega arith, omega arith)
read_as-registers I r w = (omega arith, omega arith, omega arith)
read_as-registers S r w = (omega arith, omega arith, omega arith)
read_as-registers B r w = (omega arith, omega arith, omega arith)
read_as-registers U r w = (omega arith, omega arith, omega arith)
read_as-registers J r w = (omega arith, omega arith, omega arith)
read_as-registers Shift r w = (omega arith, omega arith, omega arith)
read_as-registers Whole r w = (omega arith, omega arith, omega arith)

pub read_as-row : (f : Format) (r : Row) (w : ℕ) → (read_as f r w).row ≡ r
read_as-row R r w = refl
read_as-row I r w = refl
read_as-row S r w = refl
read_as-row B r w = refl
read_as-row U r w = refl
read_as-row J r w = refl
read_as-row Shift r w = refl
read_as-row Whole r w = refl
