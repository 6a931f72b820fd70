-- What each instruction does.
-- RISC-V unprivileged manual, chapter "RV32I Base Integer Instruction Set", and chapter "M" Extension for
-- Integer Multiplication and Division.
use Rattle.std.specs.Prelude.{ℕ, ◌+◌, ◌-◌, ◌*◌, ◌/◌, ◌%◌, ◌^◌, ◌==◌, ◌&&◌, Bool, not, nat_lt, nat_le, if◌then◌else◌, List, length, Option, Some, None, int_lt, bit_and, bit_or, bit_xor}
use Rattle.rv_table.specs.declared.row.Row.{Row}
use Rattle.rv_table.specs.declared.row.Row.TheVariants.{Lui, Auipc, Jal, Jalr, Beq, Bne, Blt, Bge, Bltu, Bgeu, Lb, Lh, Lw, Lbu, Lhu, Sb, Sh, Sw, Addi, Slti, Sltiu, Xori, Ori, Andi, Slli, Srli, Srai, Add, Sub, Sll, Slt, Sltu, Xor, Srl, Sra, Or, And, Mul, Mulh, Mulhsu, Mulhu, Div, Divu, Rem, Remu, Fence, Ecall, Ebreak}
use Rattle.rv_machine.specs.State.{State, register_of, with_register, following}
use Rattle.rv_machine.specs.Arithmetic.{signed, sum, difference, less, less_unsigned, shifted_left, shifted_right, shifted_right_signed, product, high_product, high_product_mixed, high_product_unsigned, quotient, quotient_unsigned, remainder, remainder_unsigned}
use Rattle.rv_machine.specs.Bytes.{byte_in, half_in, word_in, signed_byte_in, signed_half_in, with_byte, with_half, with_word}

-- what a machine does in one step
pub data Action : Type 0 where
  -- it goes on in this state
  Goes : State → Action
  -- it asks its environment for a byte
  Gets : Action
  -- it puts this byte out
  Puts : ℕ → Action
  -- it ends with this status
  Exits : ℕ → Action
  -- it ends because calls are nested too deep
  Deepens : Action
  -- it traps at this address
  Traps : ℕ → Action

-- on to an address
abbrev pub moves : State → ℕ → Action
moves m to = Goes (record { registers = m.registers; pc = to; base = m.base; memory = m.memory })

-- a register is written, and on to the next instruction
abbrev pub writes : State → ℕ → ℕ → Action
writes m rd word = Goes (record { registers = with_register m.registers rd word; pc = following m.pc; base = m.base; memory = m.memory })

-- a jump with its link; its target must be a multiple of 4
abbrev pub jumps : State → ℕ → ℕ → Action
jumps m rd to = if to % 4 == 0 then Goes (record { registers = with_register m.registers rd (following m.pc); pc = to; base = m.base; memory = m.memory }) else Traps m.pc

-- a branch; the target of one that is taken must be a multiple of 4
abbrev pub branches : State → Bool → ℕ → Action
branches m taken to = if taken then (if to % 4 == 0 then moves m to else Traps m.pc) else moves m (following m.pc)

-- where an access of a size lies in memory: at a multiple of its size, and wholly in data, gap and stack
abbrev pub place_of : ℕ → ℕ → ℕ → ℕ → Option ℕ
place_of base room size at = if (at % size == 0) && (nat_le base at && nat_le (at + size) (base + room)) then Some (at - base) else None

abbrev pub accesses : State → Option ℕ → (ℕ → Action) → Action
accesses m None act = Traps m.pc
accesses m (Some k) act = act k

-- a load: the number that `reading` finds in memory is written to a register
abbrev pub loads : State → ℕ → ℕ → ℕ → (List ℕ → ℕ → ℕ) → Action
loads m rd size at reading = accesses m (place_of m.base (length m.memory) size at) (λ k. writes m rd (reading m.memory k))

-- a store: memory is what `writing` makes of it
abbrev pub stores : State → ℕ → ℕ → (List ℕ → ℕ → List ℕ) → Action
stores m size at writing = accesses m (place_of m.base (length m.memory) size at) (λ k. Goes (record { registers = m.registers; pc = following m.pc; base = m.base; memory = writing m.memory k }))

-- a call of the environment, by x17
abbrev pub calls : State → Action
calls m =
    if register_of m 17 == 1 then Gets
    else if register_of m 17 == 2 then Puts (register_of m 10 % 2 ^ 8)
    else if register_of m 17 == 3 then Exits (register_of m 10 % 2 ^ 8)
    else if register_of m 17 == 4 then Deepens
    else Traps m.pc

-- one instruction, by its row: rd is the number of its destination, k its immediate as a word, and a and b
-- are the words of its source registers rs1 and rs2
abbrev pub effect : Row → (rd k a b : ℕ) → State → Action
effect Lui rd k a b m = writes m rd k
effect Auipc rd k a b m = writes m rd (sum m.pc k)
effect Jal rd k a b m = jumps m rd (sum m.pc k)
effect Jalr rd k a b m = jumps m rd (sum a k / 2 * 2)
effect Beq rd k a b m = branches m (a == b) (sum m.pc k)
effect Bne rd k a b m = branches m (not (a == b)) (sum m.pc k)
effect Blt rd k a b m = branches m (int_lt (signed a) (signed b)) (sum m.pc k)
effect Bge rd k a b m = branches m (not (int_lt (signed a) (signed b))) (sum m.pc k)
effect Bltu rd k a b m = branches m (nat_lt a b) (sum m.pc k)
effect Bgeu rd k a b m = branches m (not (nat_lt a b)) (sum m.pc k)
effect Lb rd k a b m = loads m rd 1 (sum a k) signed_byte_in
effect Lh rd k a b m = loads m rd 2 (sum a k) signed_half_in
effect Lw rd k a b m = loads m rd 4 (sum a k) word_in
effect Lbu rd k a b m = loads m rd 1 (sum a k) byte_in
effect Lhu rd k a b m = loads m rd 2 (sum a k) half_in
effect Sb rd k a b m = stores m 1 (sum a k) (with_byte b)
effect Sh rd k a b m = stores m 2 (sum a k) (with_half b)
effect Sw rd k a b m = stores m 4 (sum a k) (with_word b)
effect Addi rd k a b m = writes m rd (sum a k)
effect Slti rd k a b m = writes m rd (less a k)
effect Sltiu rd k a b m = writes m rd (less_unsigned a k)
effect Xori rd k a b m = writes m rd (bit_xor a k)
effect Ori rd k a b m = writes m rd (bit_or a k)
effect Andi rd k a b m = writes m rd (bit_and a k)
effect Slli rd k a b m = writes m rd (shifted_left a k)
effect Srli rd k a b m = writes m rd (shifted_right a k)
effect Srai rd k a b m = writes m rd (shifted_right_signed a k)
effect Add rd k a b m = writes m rd (sum a b)
effect Sub rd k a b m = writes m rd (difference a b)
effect Sll rd k a b m = writes m rd (shifted_left a b)
effect Slt rd k a b m = writes m rd (less a b)
effect Sltu rd k a b m = writes m rd (less_unsigned a b)
effect Xor rd k a b m = writes m rd (bit_xor a b)
effect Srl rd k a b m = writes m rd (shifted_right a b)
effect Sra rd k a b m = writes m rd (shifted_right_signed a b)
effect Or rd k a b m = writes m rd (bit_or a b)
effect And rd k a b m = writes m rd (bit_and a b)
effect Mul rd k a b m = writes m rd (product a b)
effect Mulh rd k a b m = writes m rd (high_product a b)
effect Mulhsu rd k a b m = writes m rd (high_product_mixed a b)
effect Mulhu rd k a b m = writes m rd (high_product_unsigned a b)
effect Div rd k a b m = writes m rd (quotient a b)
effect Divu rd k a b m = writes m rd (quotient_unsigned a b)
effect Rem rd k a b m = writes m rd (remainder a b)
effect Remu rd k a b m = writes m rd (remainder_unsigned a b)
effect Fence rd k a b m = moves m (following m.pc)
effect Ecall rd k a b m = calls m
effect Ebreak rd k a b m = Traps m.pc
