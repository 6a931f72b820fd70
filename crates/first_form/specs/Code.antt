-- The program that runs what a source of the first form says.
use Rattle.std.specs.Prelude.{ℕ, ◌%◌, pos, List, [], ◌∷◌, ◌++◌}
use Rattle.std.specs.List.{flat_map}
use Rattle.rv_table.specs.declared.instruction.Instr.{Instr}
use Rattle.rv_table.specs.declared.row.Row.TheVariants.{Addi, Ecall}
use Rattle.rv_table.specs.Instruction.{encode_of}
use Rattle.term_form.specs.declared.listing.Listing.{Listing}
use Rattle.image_form.specs.declared.image.Image.{Image}
use Rattle.image_form.specs.Limits.{text_start}

-- ADDI rd, x0, value
abbrev pub set_register : ℕ → ℕ → Instr
set_register rd value = record { row = Addi; rd = rd; rs1 = 0; rs2 = 0; imm = pos value }

abbrev pub environment_call : Instr
environment_call = record { row = Ecall; rd = 0; rs1 = 0; rs2 = 0; imm = pos 0 }

-- an environment call of this number, with a byte as its argument
abbrev pub call_words : ℕ → ℕ → List ℕ
call_words number byte = encode_of (set_register 10 byte) ∷ encode_of (set_register 17 number) ∷ encode_of environment_call ∷ []

-- each constant is put out, and the last one is what the program ends with; both count modulo 256
abbrev pub put_words : ℕ → List ℕ
put_words k = call_words 2 (k % 256)

abbrev pub text_of : List ℕ → ℕ → List ℕ
text_of puts status = flat_map put_words puts ++ call_words 3 (status % 256)

abbrev pub image_of : List ℕ → ℕ → Image
image_of puts status = record { text = text_of puts status; statics = []; stack = 0; entry = text_start; listing = record { records = [] } }
