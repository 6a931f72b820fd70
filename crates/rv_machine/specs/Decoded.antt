-- The text as the machine keeps it: decoded once, as it is loaded.
use Rattle.std.specs.Prelude.{◌≡◌, ℕ, zero, suc, ◌+◌, ◌-◌, ◌/◌, ◌%◌, ◌^◌, ◌≤◌, ◌==◌, ◌&&◌, Bool, IsTrue, nat_lt, nat_le, if◌then◌else◌, List, length, map, slice_get, Option, Some, None}
use Rattle.std.specs.List.{list_all}
use Rattle.std.specs.Int.{w32, cast_unsigned}
use Rattle.rv_table.specs.declared.row.Row.{Row}
use Rattle.rv_table.specs.declared.row.Row.TheVariants.{Ecall, Ebreak}
use Rattle.rv_table.specs.declared.instruction.Instr.{Instr}
use Rattle.rv_table.specs.Instruction.{decode_of}
use Rattle.rv_machine.specs.declared.decoded.Decoded.{Decoded}
use Rattle.rv_machine.specs.State.{State, register_of}
use Rattle.rv_machine.specs.Effect.{Action, Goes, Traps, calls, effect}

-- a write to x0 goes to a place past the 32 registers
abbrev pub slot_of : ℕ → ℕ
slot_of rd = if rd == 0 then 32 else rd

-- a word that is no instruction traps, as the breakpoint does
abbrev pub decoded_from : Option Instr → Decoded
decoded_from None = record { row = Ebreak; slot = 32; rs1 = 0; rs2 = 0; immediate = 0 }
decoded_from (Some i) = record { row = i.row; slot = slot_of i.rd; rs1 = i.rs1; rs2 = i.rs2; immediate = cast_unsigned w32 i.imm }

abbrev pub decoded_of : ℕ → Decoded
decoded_of word = decoded_from (decode_of word)

unfoldable pub program : List ℕ → List Decoded
program text = map decoded_of text

-- its registers are there
abbrev pub is_in_range : Decoded → Bool
is_in_range i = nat_lt 0 i.slot && (nat_lt i.slot 33 && (nat_lt i.rs1 32 && nat_lt i.rs2 32))

-- what a decoded instruction does
abbrev pub effect_of : Decoded → State → Action
effect_of i m = effect i.row (i.slot % 32) i.immediate (register_of m i.rs1) (register_of m i.rs2) m

-- what an instruction that does not go on does
abbrev pub stops : Row → State → Action
stops Ecall m = calls m
stops other m = Traps m.pc

-- what an instruction did: it went on to an address with these registers and this memory, or it stopped
abbrev pub ran : Option ℕ → List ℕ → List ℕ → Row → State → Action
ran None registers' memory' row m = stops row m
ran (Some pc') registers' memory' row m = Goes (record { registers = registers'; pc = pc'; base = m.base; memory = memory' })

-- the instruction at an address of the text
abbrev pub decoded_at : List Decoded → ℕ → Option Decoded
decoded_at code pc = if (pc % 4 == 0) && nat_le 0x10000 pc then slice_get code ((pc - 0x10000) / 4) else None

abbrev pub action_of : State → Option Decoded → Action
action_of m None = Traps m.pc
action_of m (Some i) = effect_of i m

-- what a machine of a decoded text does in a state
abbrev pub action_in : List Decoded → State → Action
action_in code m = action_of m (decoded_at code m.pc)

-- n instructions, none of which stopped, lead from one state to another
abbrev pub MovesIn : List Decoded → ℕ → State → State → Type 0
MovesIn code zero m m' = m' ≡ m
MovesIn code (suc n) m m' = (u : State) × MovesIn code n m u × (action_in code u ≡ Goes m')

-- a decoded text is that of these words, and there is room for memory below 2 ^ 32
pub record IsConsistent (text : List ℕ) (code : List Decoded) (base : ℕ) (memory : List ℕ) : Type 0 where
  pub decoded : code ≡ program text
  pub range : IsTrue (list_all is_in_range code)
  pub words : length code ≤ 2 ^ 28
  pub count : length text ≡ length code
  pub room : base + length memory ≤ 2 ^ 32
