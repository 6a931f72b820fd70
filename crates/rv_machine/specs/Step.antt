-- One step of a machine: the instruction at pc, decoded, has its effect.
use Rattle.std.specs.Prelude.{ℕ, ◌-◌, ◌/◌, ◌%◌, ◌==◌, ◌&&◌, nat_le, if◌then◌else◌, List, slice_get, Option, Some, None}
use Rattle.std.specs.Option.{option_and_then}
use Rattle.std.specs.Int.{w32, cast_unsigned}
use Rattle.rv_table.specs.declared.instruction.Instr.{Instr}
use Rattle.rv_table.specs.Instruction.{decode_of}
use Rattle.rv_machine.specs.State.{State, register_of}
use Rattle.rv_machine.specs.Effect.{Action, Traps, effect}

-- the word of the text at an address, which must be a multiple of 4; the text begins at 0x10000
abbrev pub fetched : List ℕ → ℕ → Option ℕ
fetched text pc = if (pc % 4 == 0) && nat_le 0x10000 pc then slice_get text ((pc - 0x10000) / 4) else None

-- the instruction at an address of the text, if its word is one
abbrev pub instruction_at : List ℕ → ℕ → Option Instr
instruction_at text pc = option_and_then decode_of (fetched text pc)

-- what an instruction does, if there is one
abbrev pub performs : State → Option Instr → Action
performs m None = Traps m.pc
performs m (Some i) = effect i.row i.rd (cast_unsigned w32 i.imm) (register_of m i.rs1) (register_of m i.rs2) m

-- what a machine of a text does in a state
unfoldable pub step_of : List ℕ → State → Action
step_of text m = performs m (instruction_at text m.pc)
