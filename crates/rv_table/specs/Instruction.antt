-- What words and instructions are to each other.
use Rattle.std.specs.Prelude.{◌≡◌, ℕ, ◌+◌, ◌<◌, Option, find}
use Rattle.std.specs.Option.{option_map}
use Rattle.rv_table.specs.declared.row.Row.{Row}
use Rattle.rv_table.specs.declared.instruction.Instr.{Instr}
use Rattle.rv_table.specs.Table.{format, pattern, matches, rows}
use Rattle.rv_table.specs.Fields.{read_as, operands, Fits}

-- registers below 32, an immediate in the format's range and step, fields that the format lacks 0
pub record Valid (i : Instr) : Type 0 where
  pub rd : i.rd < 32
  pub rs1 : i.rs1 < 32
  pub rs2 : i.rs2 < 32
  pub fits : Fits (format i.row) i

-- the word of an instruction: the fixed bits of its row, and its operands
abbrev pub encode_of : Instr → ℕ
encode_of i = pattern i.row + operands (format i.row) i

-- the row whose fixed bits a word has, if there is one
unfoldable pub row_of : ℕ → Option Row
row_of w = find (matches w) rows

-- the instruction of a row that a word is
abbrev pub read : ℕ → Row → Instr
read w r = read_as (format r) r w

-- the instruction that a word is, if it is one
abbrev pub decode_of : ℕ → Option Instr
decode_of w = option_map (read w) (row_of w)
