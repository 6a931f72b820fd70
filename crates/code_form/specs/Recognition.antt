-- The patterns read off a text: which instructions compute an operation, and with which registers and constants (the forms of
-- `Patterns`, with any scratch register).
use Rattle.std.specs.Prelude.{ℕ, ◌==◌, ◌&&◌, ◌||◌, Bool, if◌then◌else◌, pos, ◌-ℤ◌, List, [], ◌∷◌, Option, Some, None}
use Rattle.std.specs.Option.{option_and_then}
use Rattle.word_ops.specs.declared.operation.Op.{Op}
use Rattle.word_ops.specs.declared.operation.Op.TheVariants as ops
use Rattle.word_ops.specs.declared.operation.Width.{Width}
use Rattle.word_ops.specs.Choice.{only_if}
use Rattle.term_form.specs.declared.listing.StoreWidth.{StoreWidth}
use Rattle.rv_table.specs.declared.row.Row.{Row}
use Rattle.rv_table.specs.declared.row.Row.TheVariants as rows
use Rattle.rv_table.specs.declared.instruction.Instr.{Instr}
use Rattle.code_form.specs.Registers.{is_row, is_scratch, register_of, word_of}
use Rattle.code_form.specs.Instructions.{row_of_load, row_of_store}
use Rattle.code_form.specs.Patterns.{Second, Register, Immediate, Zero, ignores_second}

-- what stands for the second operand: a register, a constant, or nothing where there is one operand
pub data SecondRead : Type 0 where
  InRegister : (register : ℕ) → SecondRead
  Constant : (word : ℕ) → SecondRead
  Ignored : SecondRead

-- a pattern that was recognised: how many words it has, the register of its result, that of its first operand, and its second
pub record Shape : Type 0 where
  pub words : ℕ
  pub result : ℕ
  pub first : ℕ
  pub second : SecondRead

abbrev pub shape : (words result first : ℕ) → SecondRead → Shape
shape n d a b = record { words = n; result = d; first = a; second = b }

-- how the second operand of a pattern is read again
abbrev pub operand_of : Second → SecondRead
operand_of (Register o) = InRegister (register_of o)
operand_of (Immediate k) = Constant (word_of k)
operand_of Zero = Constant 0

abbrev pub second_of : Op → Second → SecondRead
second_of op b = if ignores_second op then Ignored else operand_of b

-- ---- one word

abbrev pub by_registers : Row → Instr → Option Shape
by_registers r i = only_if (is_row r i.row) (shape 1 i.rd i.rs1 (InRegister i.rs2))

abbrev pub by_constant : Row → Instr → Option Shape
by_constant r i = only_if (is_row r i.row) (shape 1 i.rd i.rs1 (Constant (word_of i.imm)))

abbrev pub by_either : (plain immediate : Row) → Instr → Option Shape
by_either plain immediate i = if is_row plain i.row then by_registers plain i else by_constant immediate i

-- a difference with a constant is a sum with its negation
abbrev pub by_difference : Instr → Option Shape
by_difference i =
    if is_row rows.Sub i.row then by_registers rows.Sub i
    else only_if (is_row rows.Addi i.row) (shape 1 i.rd i.rs1 (Constant (word_of (pos 0 -ℤ i.imm))))

-- ---- two words: the first writes a scratch register, which the second reads

-- a second word of this row, on this register and with this immediate
abbrev pub finished : Row → (scratch constant : ℕ) → (first : ℕ) → SecondRead → Instr → Option Shape
finished r t k a b i =
    only_if (is_row r i.row && (is_scratch t && ((i.rs1 == t) && (word_of i.imm == k)))) (shape 2 i.rd a b)

-- the same where the second word compares x0 with the register
abbrev pub finished_above_zero : (scratch : ℕ) → (first : ℕ) → SecondRead → Instr → Option Shape
finished_above_zero t a b i =
    only_if (is_row rows.Sltu i.row && (is_scratch t && ((i.rs1 == 0) && (i.rs2 == t)))) (shape 2 i.rd a b)

abbrev pub equal_from : Option Instr → Instr → Option Shape
equal_from next i =
    if is_row rows.Xor i.row then option_and_then (finished rows.Sltiu i.rd 1 i.rs1 (InRegister i.rs2)) next
    else if is_row rows.Xori i.row then option_and_then (finished rows.Sltiu i.rd 1 i.rs1 (Constant (word_of i.imm))) next
    else only_if (is_row rows.Sltiu i.row && (word_of i.imm == 1)) (shape 1 i.rd i.rs1 (Constant 0))

abbrev pub unequal_from : Option Instr → Instr → Option Shape
unequal_from next i =
    if is_row rows.Xor i.row then option_and_then (finished_above_zero i.rd i.rs1 (InRegister i.rs2)) next
    else if is_row rows.Xori i.row then option_and_then (finished_above_zero i.rd i.rs1 (Constant (word_of i.imm))) next
    else only_if (is_row rows.Sltu i.row && (i.rs1 == 0)) (shape 1 i.rd i.rs2 (Constant 0))

-- at most: not less the other way round
abbrev pub at_most_from : Row → Option Instr → Instr → Option Shape
at_most_from r next i =
    if is_row r i.row then option_and_then (finished rows.Xori i.rd 1 i.rs2 (InRegister i.rs1)) next else None

-- a shift to the left by so many bits, and back
abbrev pub shifted_from : (bits : ℕ) → Row → Option Instr → Instr → Option Shape
shifted_from n r next i =
    if is_row rows.Slli i.row && (word_of i.imm == n) then option_and_then (finished r i.rd n i.rs1 Ignored) next else None

-- ---- the table

-- the pattern of an operation that begins with an instruction, behind which the next one stands
abbrev pub pattern_from : Op → (next : Option Instr) → Instr → Option Shape
pattern_from ops.Add next i = by_either rows.Add rows.Addi i
pattern_from ops.Sub next i = by_difference i
pattern_from ops.Mul next i = by_registers rows.Mul i
pattern_from ops.Adds next i = by_either rows.Add rows.Addi i
pattern_from ops.Subs next i = by_difference i
pattern_from ops.Muls next i = by_registers rows.Mul i
pattern_from ops.Divs next i = by_registers rows.Div i
pattern_from ops.Rems next i = by_registers rows.Rem i
pattern_from ops.Divu next i = by_registers rows.Divu i
pattern_from ops.Remu next i = by_registers rows.Remu i
pattern_from ops.And next i = by_either rows.And rows.Andi i
pattern_from ops.Or next i = by_either rows.Or rows.Ori i
pattern_from ops.Xor next i = by_either rows.Xor rows.Xori i
pattern_from ops.Shl next i = by_either rows.Sll rows.Slli i
pattern_from ops.Shls next i = by_either rows.Sll rows.Slli i
pattern_from ops.Shru next i = by_either rows.Srl rows.Srli i
pattern_from ops.Shrs next i = by_either rows.Sra rows.Srai i
pattern_from ops.Eq next i = equal_from next i
pattern_from ops.Ne next i = unequal_from next i
pattern_from ops.Lts next i = by_either rows.Slt rows.Slti i
pattern_from ops.Les next i = at_most_from rows.Slt next i
pattern_from ops.Ltu next i = by_either rows.Sltu rows.Sltiu i
pattern_from ops.Leu next i = at_most_from rows.Sltu next i
pattern_from ops.Zext8 next i = only_if (is_row rows.Andi i.row && (word_of i.imm == 255)) (shape 1 i.rd i.rs1 Ignored)
pattern_from ops.Sext8 next i = shifted_from 24 rows.Srai next i
pattern_from ops.Zext16 next i = shifted_from 16 rows.Srli next i
pattern_from ops.Sext16 next i = shifted_from 16 rows.Srai next i

-- ---- loads and stores

-- a load at a width, through a register or at an offset from the stack pointer
abbrev pub is_load : Width → Instr → Bool
is_load k i = is_row (row_of_load k) i.row && ((word_of i.imm == 0) || (i.rs1 == 2))

abbrev pub is_store : StoreWidth → Instr → Bool
is_store k i = is_row (row_of_store k) i.row

-- ---- lists of instructions

abbrev pub first_of : List Instr → Option Instr
first_of [] = None
first_of (i ∷ is) = Some i

-- what is read of instructions by the first of them, behind which the next one stands
abbrev pub read_by : (Option Instr → Instr → Option Shape) → List Instr → Option Shape
read_by f [] = None
read_by f (i ∷ is) = f (first_of is) i

-- the pattern of an operation that stands at the front of instructions
abbrev pub recognised : Op → List Instr → Option Shape
recognised op is = read_by (pattern_from op) is
