-- Where everything stands, and the instructions that it makes of those over registers and slots: parts of the addresses of objects,
-- and jumps near and far (RISC-V unprivileged manual, "RV32I", section "Control Transfer Instructions"; which forms are used is
-- the profile's choice).
use Rattle.std.specs.Prelude.{◌≡◌, ℕ, ◌+◌, ◌-◌, ◌%◌, ◌^◌, ◌==◌, ◌⊎◌, if◌then◌else◌, ℤ, pos, List, [], ◌∷◌, Option, Some, None}
use Rattle.std.specs.Int.{w32, cast_signed}
use Rattle.rv_table.specs.declared.row.Row.TheVariants as rows
use Rattle.rv_table.specs.declared.instruction.Instr.{Instr}
use Rattle.code_form.specs.declared.code.Loose.{Loose}
use Rattle.code_form.specs.Registers.{is_row, register_of, instruction_of, word_of}
use Rattle.code_form.specs.Instructions.{upper_part, lower_part, far}
use Rattle.code_form.specs.Contents.{Setting, object_of}

-- of a function its entry; of an item its first word and its own, which of a call is the jump and of an end the last word; the end
-- of runs that nest too deep; static objects
pub record Addresses : Type 0 where
  pub entry : (function : ℕ) → ℕ
  pub item : (function block item : ℕ) → ℕ
  pub own : (function block item : ℕ) → ℕ
  pub deep : ℕ
  pub object : (number : ℕ) → ℕ

-- ---- instructions that are no jumps

-- the immediate of an instruction; where it names an object, a part of that object's address
abbrev pub part_or : (part : ℕ → ℤ) → (object : ℕ → ℕ) → Option ℕ → ℤ → ℤ
part_or part object None k = k
part_or part object (Some g) k = part (object g)

abbrev pub immediate : Addresses → Setting → Loose → ℤ
immediate a s i =
    if is_row rows.Lui i.row then part_or upper_part a.object (object_of s i.a) i.imm
    else if is_row rows.Addi i.row then part_or lower_part a.object (object_of s i.b) i.imm
    else i.imm

abbrev pub placed : Addresses → Setting → Loose → Instr
placed a s i = record (instruction_of i) { imm = immediate a s i }

-- ---- jumps

-- where JAL goes: with a link to a function, else to a block
abbrev pub target_of_jump : Addresses → (function link number : ℕ) → ℕ
target_of_jump a f link n = if link == 1 then a.entry n else a.item f n 0

-- where a jump, a call or a branch goes, if it is one
abbrev pub target : Addresses → (function : ℕ) → Loose → Option ℕ
target a f i =
    if is_row rows.Jal i.row then Some (target_of_jump a f (register_of i.d) (word_of i.imm))
    else if is_row rows.Bne i.row then Some (a.item f (word_of i.imm) 0)
    else if is_row rows.Beq i.row then Some a.deep
    else None

abbrev pub distance : (from to : ℕ) → ℕ
distance from to = (to + (2 ^ 32 - from)) % 2 ^ 32

-- the register through which a far jump goes: that of its link, where it has one
abbrev pub through : (link : ℕ) → ℕ
through link = if link == 0 then far else link

abbrev pub far_jump : (link from to : ℕ) → List Instr
far_jump link from to =
    record { row = rows.Auipc; rd = through link; rs1 = 0; rs2 = 0; imm = upper_part (distance from to) }
    ∷ record { row = rows.Jalr; rd = link; rs1 = through link; rs2 = 0; imm = lower_part (distance from to) } ∷ []

-- the other of BEQ and BNE, over the far jump behind it
abbrev pub skips : Loose → Instr
skips i = record (instruction_of i) { row = (if is_row rows.Beq i.row then rows.Bne else rows.Beq); imm = pos 12 }

abbrev pub far_form : (pc to : ℕ) → Loose → List Instr
far_form pc to i = if is_row rows.Jal i.row then far_jump (register_of i.d) pc to else skips i ∷ far_jump 0 (pc + 4) to

abbrev pub near_form : (pc to : ℕ) → Loose → List Instr
near_form pc to i = record (instruction_of i) { imm = cast_signed w32 (distance pc to) } ∷ []

-- the instructions of one at an address: a jump has one of its two forms
abbrev pub IsForm : Addresses → Setting → (pc : ℕ) → Loose → Option ℕ → List Instr → Type 0
IsForm a s pc i None ws = ws ≡ placed a s i ∷ []
IsForm a s pc i (Some to) ws = (ws ≡ far_form pc to i) ⊎ (ws ≡ near_form pc to i)
