-- The pattern of each operation on words: the instructions that compute it, over any operands (RISC-V unprivileged manual,
-- "RV32I", section "Integer Computational Instructions", and "M" Extension; that these are used is the profile's choice).
use Rattle.std.specs.Prelude.{ℕ, Bool, true, false, ℤ, pos, ◌-ℤ◌, List, [], ◌∷◌}
use Rattle.word_ops.specs.declared.operation.Op.{Op}
use Rattle.word_ops.specs.declared.operation.Op.TheVariants as ops
use Rattle.rv_table.specs.declared.row.Row.{Row}
use Rattle.rv_table.specs.declared.row.Row.TheVariants as rows
use Rattle.code_form.specs.declared.code.Operand.{Operand}
use Rattle.code_form.specs.declared.code.Loose.{Loose}
use Rattle.code_form.specs.Registers.{x0}

-- the second operand of a pattern: that in a register, a constant as an immediate, or the constant 0, with which words are
-- compared by one instruction
pub data Second : Type 0 where
  Register : Operand → Second
  Immediate : ℤ → Second
  Zero : Second

abbrev pub on_registers : Row → (d a b : Operand) → Loose
on_registers r d' a' b' = record { row = r; d = d'; a = a'; b = b'; imm = pos 0 }

abbrev pub on_immediate : Row → (d a : Operand) → ℤ → Loose
on_immediate r d' a' k = record { row = r; d = d'; a = a'; b = x0; imm = k }

abbrev pub one : Loose → List Loose
one i = i ∷ []

abbrev pub two : (first second : Loose) → List Loose
two i j = i ∷ j ∷ []

-- ---- kinds of patterns; there is none where an operand has no form

abbrev pub either : (plain immediate : Row) → (d a : Operand) → Second → List Loose
either plain immediate d a (Register b) = one (on_registers plain d a b)
either plain immediate d a (Immediate k) = one (on_immediate immediate d a k)
either plain immediate d a Zero = []

abbrev pub registers_only : Row → (d a : Operand) → Second → List Loose
registers_only r d a (Register b) = one (on_registers r d a b)
registers_only r d a (Immediate k) = []
registers_only r d a Zero = []

-- a constant is subtracted by a sum with its negation
abbrev pub difference : (d a : Operand) → Second → List Loose
difference d a (Register b) = one (on_registers rows.Sub d a b)
difference d a (Immediate k) = one (on_immediate rows.Addi d a (pos 0 -ℤ k))
difference d a Zero = []

-- equal where no bit differs
abbrev pub equal : (d a t : Operand) → Second → List Loose
equal d a t (Register b) = two (on_registers rows.Xor t a b) (on_immediate rows.Sltiu d t (pos 1))
equal d a t (Immediate k) = two (on_immediate rows.Xori t a k) (on_immediate rows.Sltiu d t (pos 1))
equal d a t Zero = one (on_immediate rows.Sltiu d a (pos 1))

abbrev pub unequal : (d a t : Operand) → Second → List Loose
unequal d a t (Register b) = two (on_registers rows.Xor t a b) (on_registers rows.Sltu d x0 t)
unequal d a t (Immediate k) = two (on_immediate rows.Xori t a k) (on_registers rows.Sltu d x0 t)
unequal d a t Zero = one (on_registers rows.Sltu d x0 a)

-- at most where it is not less the other way round
abbrev pub at_most : Row → (d a t : Operand) → Second → List Loose
at_most r d a t (Register b) = two (on_registers r t b a) (on_immediate rows.Xori d t (pos 1))
at_most r d a t (Immediate k) = []
at_most r d a t Zero = []

-- to the left, and back with zeros or the sign
abbrev pub there_and_back : (bits : ℕ) → Row → (d a t : Operand) → List Loose
there_and_back n r d a t = two (on_immediate rows.Slli t a (pos n)) (on_immediate r d t (pos n))

-- ---- the table

-- the pattern of an operation: its result in d, its operands in a and the second, and t for what is between
abbrev pub pattern : Op → (d a t : Operand) → Second → List Loose
pattern ops.Add d a t b = either rows.Add rows.Addi d a b
pattern ops.Sub d a t b = difference d a b
pattern ops.Mul d a t b = registers_only rows.Mul d a b
pattern ops.Adds d a t b = either rows.Add rows.Addi d a b
pattern ops.Subs d a t b = difference d a b
pattern ops.Muls d a t b = registers_only rows.Mul d a b
pattern ops.Divs d a t b = registers_only rows.Div d a b
pattern ops.Rems d a t b = registers_only rows.Rem d a b
pattern ops.Divu d a t b = registers_only rows.Divu d a b
pattern ops.Remu d a t b = registers_only rows.Remu d a b
pattern ops.And d a t b = either rows.And rows.Andi d a b
pattern ops.Or d a t b = either rows.Or rows.Ori d a b
pattern ops.Xor d a t b = either rows.Xor rows.Xori d a b
pattern ops.Shl d a t b = either rows.Sll rows.Slli d a b
pattern ops.Shls d a t b = either rows.Sll rows.Slli d a b
pattern ops.Shru d a t b = either rows.Srl rows.Srli d a b
pattern ops.Shrs d a t b = either rows.Sra rows.Srai d a b
pattern ops.Eq d a t b = equal d a t b
pattern ops.Ne d a t b = unequal d a t b
pattern ops.Lts d a t b = either rows.Slt rows.Slti d a b
pattern ops.Les d a t b = at_most rows.Slt d a t b
pattern ops.Ltu d a t b = either rows.Sltu rows.Sltiu d a b
pattern ops.Leu d a t b = at_most rows.Sltu d a t b
pattern ops.Zext8 d a t b = one (on_immediate rows.Andi d a (pos 255))
pattern ops.Sext8 d a t b = there_and_back 24 rows.Srai d a t
pattern ops.Zext16 d a t b = there_and_back 16 rows.Srli d a t
pattern ops.Sext16 d a t b = there_and_back 16 rows.Srai d a t

-- operations with one operand ignore the second
abbrev pub ignores_second : Op → Bool
ignores_second ops.Zext8 = true
ignores_second ops.Sext8 = true
ignores_second ops.Zext16 = true
ignores_second ops.Sext16 = true
ignores_second op = false
