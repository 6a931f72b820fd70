-- States that a machine can be in: those that steps lead to from where an image is loaded. In a law a variable ranges over
-- all numbers, so what the types of the code say of them is said here.
use Rattle.std.specs.Prelude.{◌≡◌, ℕ, ◌%◌, ◌^◌, ◌<◌, List, length, All}
use Rattle.rv_machine.specs.State.{State}

-- numbers that are words
abbrev pub AreWords : List ℕ → Type 0
AreWords xs = All (λ w. w < 2 ^ 32) xs

-- numbers that are bytes
abbrev pub AreBytes : List ℕ → Type 0
AreBytes xs = All (λ b. b < 2 ^ 8) xs

-- 32 registers of words, an address that is a multiple of 4, and a memory of bytes
pub record IsSound (m : State) : Type 0 where
  pub count : length m.registers ≡ 32
  pub registers : AreWords m.registers
  pub pc : m.pc < 2 ^ 32
  pub pc_step : m.pc % 4 ≡ 0
  pub memory : AreBytes m.memory

-- data, gap and stack lie where they lay, and have the size that they had
pub record LiesAs (m m' : State) : Type 0 where
  pub base : m'.base ≡ m.base
  pub size : length m'.memory ≡ length m.memory
