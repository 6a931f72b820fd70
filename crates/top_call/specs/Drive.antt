-- What a call of the program comes to, by what is outside of it: a shelf of files, an input and an output.
use Rattle.std.specs.Prelude.{◌≡◌, ℕ, ◌+◌, ◌%◌, ◌^◌, ◌<◌, ◌≤◌, ◌⊎◌, List, length, Option, Some, None}
use Rattle.ccai_io.specs.Outside.{Files, Holds, Appends, AppendsPrefix, Rose}
use Rattle.ccai_io.specs.declared.outside.Shelf.{Ghosts as Shelf}
use Rattle.ccai_io.specs.declared.outside.Sink.{Ghosts as Sink}
use Rattle.ccai_io.specs.declared.outside.Source.{Ghosts as Source}
use Rattle.first_form.specs.Form.{Form, IsOfFirstForm}
use Rattle.image_form.specs.declared.image.Image.{Image}
use Rattle.image_form.specs.Form.{first_wrong}
use Rattle.image_form.specs.Laws.{IsFileOf}
use Rattle.rv_machine.specs.declared.answer.End.{End}
use Rattle.rv_machine.specs.declared.answer.End.TheVariants as ended
use Rattle.rv_machine.specs.State.{State}
use Rattle.rv_machine.specs.Start.{start}
use Rattle.rv_machine.specs.Run.{World, Run}
use Rattle.rv_machine.specs.After.{RunsAs}
use Rattle.top_call.specs.CommandLine.{Line, Exec, Run as RunLine, line_of}
use Rattle.top_call.specs.FirstForm.{bytes_of}
use Rattle.top_call.specs.Outcome.{Outcome, Own, Usage, Missing, ReadFault, WriteFault, NotYet, Room, BadImage, Trap, StepsSpent, TooDeep, OutOfMemory, status_of, message}

-- the input left and the output held, where they are told, and how many reads and writes have failed
pub record Streams : Type 0 where
  pub left : Option (List ℕ)
  pub held : Option (List ℕ)
  pub read_faults : ℕ
  pub write_faults : ℕ

-- what an input and an output tell
abbrev pub streams : {R W : Type 0} → Source R → Sink W → R → W → Streams
streams source sink input out = record { left = source.left input; held = sink.held out; read_faults = source.faults input; write_faults = sink.faults out }

-- the files of the shelf, where they are told, how many files were asked for in vain and how many could not
-- be read, and the streams
pub record Outside : Type 0 where
  pub files : Option Files
  pub absences : ℕ
  pub shelf_faults : ℕ
  pub streams : Streams

-- what a shelf, an input and an output tell
abbrev pub outside : {F R W : Type 0} → Shelf F → Source R → Sink W → F → R → W → Outside
outside on source sink shelf input out = record { files = on.files shelf; absences = on.absences shelf; shelf_faults = on.faults shelf; streams = streams source sink input out }

-- a machine in this state, with these streams
abbrev pub world_of : Streams → State → World
world_of s m = record { state = m; left = s.left; held = s.held; read_faults = s.read_faults; write_faults = s.write_faults }

-- what the end of a run comes to
abbrev pub outcome_of_end : End → Outcome
outcome_of_end (ended.Exit status) = Own status
outcome_of_end ended.Deep = TooDeep
outcome_of_end (ended.Trap pc) = Trap pc
outcome_of_end ended.ReadFault = ReadFault
outcome_of_end ended.WriteFault = WriteFault
outcome_of_end ended.Spent = StepsSpent

-- The machine of an image was run for at most so many steps. The end and what is left of the streams are those
-- of the machine over whatever the input gives and the output takes; where the input is told, they are those of
-- the machine as a function of it.
pub record RunsMachine (image : Image) (steps : ℕ) (s : Streams) (o : Outcome) (t : Streams) : Type 0 where
  pub end : End
  pub state : State
  pub outcome : o ≡ outcome_of_end end
  pub run : Run image.text steps (world_of s (start image)) end (world_of t state)
  pub told : (input : List ℕ) → s.left ≡ Some input → RunsAs image.text steps input (world_of s (start image)) end (world_of t state)

-- What the source of the first form that says f comes to: its constants are put out and the last is the
-- program's own end, or the output failed, with a prefix of them put out. Nothing is read.
abbrev pub RunsForm : Form → Streams → Outcome → Streams → Type 0
RunsForm f s (Own status) t = (status ≡ f.status % 256) × Appends s.held t.held (bytes_of f.puts) × (t ≡ record s { held = t.held })
RunsForm f s WriteFault t = AppendsPrefix s.held t.held (bytes_of f.puts) × (s.write_faults ≤ t.write_faults) × Rose s.write_faults t.write_faults × (t ≡ record s { held = t.held; write_faults = t.write_faults })
RunsForm f s other t = ⊥

-- A source of these bytes was run: it is too long, or not of the first form, or of the first form.
abbrev pub RunsSource : List ℕ → Streams → Outcome → Streams → Type 0
RunsSource bytes s OutOfMemory t = t ≡ s
RunsSource bytes s Room t = (2 ^ 24 < length bytes) × (t ≡ s)
RunsSource bytes s (NotYet line column) t = (length bytes ≤ 2 ^ 24) × ((f : Form) → IsOfFirstForm bytes f → ⊥) × (t ≡ s)
RunsSource bytes s o t = (length bytes ≤ 2 ^ 24) × ((f : Form) × (IsOfFirstForm bytes f × RunsForm f s o t))

-- the bytes are no image, from this offset on, or memory for the image is wanting
abbrev pub NotRead : List ℕ → Streams → Outcome → Streams → Type 0
NotRead bytes s (BadImage offset) t = (first_wrong bytes ≡ Some offset) × (t ≡ s)
NotRead bytes s OutOfMemory t = t ≡ s
NotRead bytes s other t = ⊥

-- how many steps a run has at most
abbrev pub step_limit : ℕ
step_limit = 100000000

-- the image of these bytes was run, if they are one
abbrev pub RunsImage : List ℕ → Streams → Outcome → Streams → Type 0
RunsImage bytes s o t = NotRead bytes s o t ⊎ ((image : Image) × (IsFileOf bytes image × RunsMachine image step_limit s o t))

-- the file of a name was not taken from the shelf
abbrev pub NotTaken : List ℕ → Outside → Outcome → Outside → Type 0
NotTaken name w (Missing missing) v = (missing ≡ name) × Holds w.files name None × (w.absences ≤ v.absences) × Rose w.absences v.absences × (v ≡ record w { absences = v.absences })
NotTaken name w ReadFault v = (w.shelf_faults ≤ v.shelf_faults) × Rose w.shelf_faults v.shelf_faults × (v ≡ record w { shelf_faults = v.shelf_faults })
NotTaken name w OutOfMemory v = v ≡ w
NotTaken name w other v = ⊥

-- the file of a name was taken from the shelf, if it could be, and something was done with its bytes
abbrev pub OfFile : (List ℕ → Streams → Outcome → Streams → Type 0) → List ℕ → Outside → Outcome → Outside → Type 0
OfFile Does name w o v = NotTaken name w o v ⊎ ((bytes : List ℕ) × (Holds w.files name (Some bytes) × (Does bytes w.streams o v.streams × (v ≡ record w { streams = v.streams }))))

-- what a command line comes to
abbrev pub Drives : Option Line → Outside → Outcome → Outside → Type 0
Drives None w o v = (o ≡ Usage) × (v ≡ w)
Drives (Some (Exec file)) w o v = OfFile RunsSource file w o v
Drives (Some (RunLine image)) w o v = OfFile RunsImage image w o v

-- What a call with these words comes to: its status, and the line on standard error, which is put out whole
-- unless a fault there came in between.
pub record Driven (words : List (List ℕ)) (w v : Outside) (status : ℕ) (err : Option (List ℕ)) (err_faults : ℕ) (err' : Option (List ℕ)) (err_faults' : ℕ) : Type 0 where
  pub outcome : Outcome
  pub status_is : status ≡ status_of outcome
  pub drives : Drives (line_of words) w outcome v
  pub err_later : err_faults ≤ err_faults'
  pub told : (Rose err_faults err_faults' → ⊥) → Appends err err' (message outcome)
