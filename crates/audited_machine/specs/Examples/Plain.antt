-- Closed audits, computed from the definition.
use Rattle.std.specs.Prelude.{◌≡◌, ℕ, List, [], ◌∷◌}
use Rattle.term_form.specs.declared.listing.Record.{Record}
use Rattle.image_form.specs.declared.image.Image.{Image}
use Rattle.rv_machine.specs.declared.answer.End.TheVariants as ended
use Rattle.audited_machine.specs.Account.{OfInstructions}
use Rattle.audited_machine.specs.Audit.{Holds, Fails, audit}

abbrev pub image_of : List ℕ → List Record → Image
image_of text' rs = record { text = text'; statics = []; stack = 0; entry = 0x10000; listing = record { records = rs } }

-- addi x17,x0,3; addi x10,x0,300; ecall
abbrev pub exits : Image
exits = image_of (0x00300893 ∷ 0x12c00513 ∷ 0x00000073 ∷ []) []

abbrev pub ExitsTrue : Type 0
ExitsTrue = audit exits [] 10 ≡ Holds (ended.Exit 44) 3

-- addi x17,x0,2; addi x10,x0,72; ecall: a byte is put out that no record tells of
abbrev pub puts : Image
puts = image_of (0x00200893 ∷ 0x04800513 ∷ 0x00000073 ∷ []) []

abbrev pub PutsFalse : Type 0
PutsFalse = audit puts [] 10 ≡ Fails 2 OfInstructions

abbrev pub PutsSpent : Type 0
PutsSpent = audit puts [] 1 ≡ Holds ended.Spent 1

abbrev pub TrapsTrue : Type 0
TrapsTrue = audit (image_of (0 ∷ []) []) [] 10 ≡ Holds (ended.Trap 0x10000) 1
