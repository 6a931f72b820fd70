-- What the parts of the top call come to.
use Rattle.std.specs.Prelude.{◌≡◌, ◌⊎◌, ℕ, List}
use Rattle.ccai_io.specs.declared.outside.ShelfFault.{ShelfFault}
use Rattle.ccai_io.specs.declared.outside.ShelfFault.TheVariants as fault
use Rattle.image_form.specs.declared.image.Image.{Image}
use Rattle.first_form.specs.Form.{Form}
use Rattle.top_call.specs.Outcome.{Outcome, Missing, ReadFault, OutOfMemory}
use Rattle.top_call.specs.Drive.{RunsForm, RunsMachine, Streams}

abbrev pub outcome_of_fault : ShelfFault → List ℕ → Outcome
outcome_of_fault fault.Missing name = Missing name
outcome_of_fault fault.Failed name = ReadFault
outcome_of_fault fault.Memory name = OutOfMemory

-- the machine was run, or memory for it is wanting
abbrev pub MayRun : Image → ℕ → Streams → Outcome → Streams → Type 0
MayRun image steps s o t = ((o ≡ OutOfMemory) × (t ≡ s)) ⊎ RunsMachine image steps s o t

-- a source that says this was run, or memory for it is wanting
abbrev pub RunsConstants : List ℕ → ℕ → Streams → Outcome → Streams → Type 0
RunsConstants puts status s o t = ((o ≡ OutOfMemory) × (t ≡ s)) ⊎ ((f : Form) → f.puts ≡ puts → f.status ≡ status → RunsForm f s o t)
