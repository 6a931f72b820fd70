-- Operands and registers, and what each register is for (RISC-V unprivileged manual, "RV32I Base Integer Instruction Set"; which
-- register holds what is the profile's choice).
use Rattle.std.specs.Prelude.{ℕ, ◌==◌, Bool, true, false, not, ◌&&◌, ◌||◌, nat_le, nat_lt, ℤ}
use Rattle.std.specs.Int.{w32, cast_unsigned}
use Rattle.rv_table.specs.declared.row.Row.{Row}
use Rattle.rv_table.specs.declared.instruction.Instr.{Instr}
use Rattle.rv_table.specs.Table.{pattern as bits_of_row}
use Rattle.code_form.specs.declared.code.Operand.{Operand}
use Rattle.code_form.specs.declared.code.Operand.TheVariants.{Of, Fixed}
use Rattle.code_form.specs.declared.code.Loose.{Loose}

-- two rows are one: no two have the same fixed bits
abbrev pub is_row : Row → Row → Bool
is_row r s = bits_of_row s == bits_of_row r

-- an immediate as a word
abbrev pub word_of : ℤ → ℕ
word_of k = cast_unsigned w32 k

-- ---- what registers are for: x1 has the return address, x2 the stack pointer, x3 how many calls may still be nested

-- x4 to x7, x10, x17, x30 and x31 hold no term
abbrev pub is_scratch : (register : ℕ) → Bool
is_scratch n = (nat_le 4 n && nat_le n 7) || ((n == 10) || ((n == 17) || ((n == 30) || (n == 31))))

-- what patterns and glue may write: not x0, the stack pointer, or the count of calls
abbrev pub is_writable : (register : ℕ) → Bool
is_writable n = nat_lt n 32 && not ((n == 0) || ((n == 2) || (n == 3)))

-- ---- operands

abbrev pub x0 : Operand
x0 = Fixed 0

abbrev pub stack_pointer : Operand
stack_pointer = Fixed 2

abbrev pub is_fixed : Operand → Bool
is_fixed (Fixed n) = true
is_fixed (Of t) = false

-- the register of an operand; a term stands for none, and is x0
abbrev pub register_of : Operand → ℕ
register_of (Fixed n) = n
register_of (Of t) = 0

-- an instruction over registers, with its own immediate
abbrev pub instruction_of : Loose → Instr
instruction_of i = record { row = i.row; rd = register_of i.d; rs1 = register_of i.a; rs2 = register_of i.b; imm = i.imm }
