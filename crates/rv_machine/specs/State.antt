-- What a machine is.
-- RISC-V unprivileged manual, chapter "RV32I Base Integer Instruction Set", section "Programmers' Model for
-- Base Integer ISA".
use Rattle.std.specs.Prelude.{ℕ, ◌+◌, ◌%◌, ◌^◌, ◌==◌, if◌then◌else◌, List, slice_index, slice_set}

-- what instructions read and write
pub record State : Type 0 where
  -- the words of x0 to x31
  pub registers : List ℕ
  -- the address of the instruction to come
  pub pc : ℕ
  -- the address at which the data begins
  pub base : ℕ
  -- the bytes from there on: the data, the gap after it and the stack
  pub memory : List ℕ

abbrev pub state : List ℕ → ℕ → ℕ → List ℕ → State
state registers' pc' base' memory' = record { registers = registers'; pc = pc'; base = base'; memory = memory' }

-- a machine: the words of its text, which nothing writes, and its state
pub record Loaded : Type 0 where
  pub text : List ℕ
  pub state : State

-- the word of a register; x0 reads 0
abbrev pub register_in : List ℕ → ℕ → ℕ
register_in registers n = if n == 0 then 0 else slice_index registers n

abbrev pub register_of : State → ℕ → ℕ
register_of m n = register_in m.registers n

-- the registers after a write, which x0 ignores
abbrev pub with_register : List ℕ → ℕ → ℕ → List ℕ
with_register registers n word = if n == 0 then registers else slice_set registers n word

-- the address of the next instruction in the text, which is also the link of a jump
abbrev pub following : ℕ → ℕ
following pc = (pc + 4) % 2 ^ 32
