-- A machine after a number of steps on input that is told, as a function.
use Rattle.std.specs.Prelude.{◌≡◌, ℕ, zero, suc, ◌<◌, ◌≤◌, ◌⊎◌, List, [], ◌∷◌, ◌++◌, Option, Some, None}
use Rattle.ccai_io.specs.Outside.{Rose, Appends}
use Rattle.image_form.specs.declared.image.Image.{Image}
use Rattle.rv_machine.specs.declared.answer.Stepped.{Stepped}
use Rattle.rv_machine.specs.declared.answer.Stepped.TheVariants.{Going, Exit, Deep, Trap, ReadFault, WriteFault}
use Rattle.rv_machine.specs.declared.answer.End.{End}
use Rattle.rv_machine.specs.declared.answer.End.TheVariants as ended
use Rattle.rv_machine.specs.State.{State}
use Rattle.rv_machine.specs.Effect.{Action, Goes, Gets, Puts, Exits, Deepens, Traps}
use Rattle.rv_machine.specs.Step.{step_of}
use Rattle.rv_machine.specs.Start.{start}
use Rattle.rv_machine.specs.Run.{World, answered, byte_or_end}

-- a moment of a run: the state, the input left, the output so far, and Going, or the end that a step gave
pub record Moment : Type 0 where
  pub state : State
  pub left : List ℕ
  pub out : List ℕ
  pub answer : Stepped

-- before the first step, with nothing put out
abbrev pub beginning : State → List ℕ → Moment
beginning m input = record { state = m; left = input; out = []; answer = Going }

-- a byte is taken from the input, if there is one
abbrev pub gets : Moment → List ℕ → Moment
gets w [] = record w { state = answered w.state (byte_or_end None); left = [] }
gets w (byte ∷ left') = record w { state = answered w.state (byte_or_end (Some byte)); left = left' }

abbrev pub acts : Moment → Action → Moment
acts w (Goes m) = record w { state = m }
acts w Gets = gets w w.left
acts w (Puts byte) = record w { state = answered w.state byte; out = w.out ++ byte ∷ [] }
acts w (Exits status) = record w { answer = Exit status }
acts w Deepens = record w { answer = Deep }
acts w (Traps pc) = record w { answer = Trap pc }

-- a machine that goes on takes a step, and one that has ended stays as it is
abbrev pub goes_on : List ℕ → Moment → Stepped → Moment
goes_on text w Going = acts w (step_of text w.state)
goes_on text w other = w

unfoldable pub next : List ℕ → Moment → Moment
next text w = goes_on text w w.answer

-- n steps later
unfoldable pub after : List ℕ → ℕ → Moment → Moment
after text zero w = w
after text (suc n) w = next text (after text n w)

-- the machine of an image after n steps on this input
abbrev pub machine_after : Image → List ℕ → ℕ → Moment
machine_after image input n = after image.text n (beginning (start image) input)

-- what a run left is this moment: its state, its input and its output, and no fault rose
pub record Left (w v : World) (at : Moment) : Type 0 where
  pub state : v.state ≡ at.state
  pub left : v.left ≡ Some at.left
  pub held : Appends w.held v.held at.out
  pub read_faults : v.read_faults ≡ w.read_faults
  pub write_faults : v.write_faults ≡ w.write_faults

-- the answer is that of this moment, and what is left is this moment
pub record Answers (answer : Stepped) (w v : World) (at : Moment) : Type 0 where
  pub answer_is : at.answer ≡ answer
  pub left : Left w v at

-- at this moment the machine asked for a byte, and the source failed
pub record FailsReading (text : List ℕ) (w v : World) (at : Moment) : Type 0 where
  pub going : at.answer ≡ Going
  pub asks : step_of text at.state ≡ Gets
  pub state : v.state ≡ at.state
  pub left : v.left ≡ Some at.left
  pub held : Appends w.held v.held at.out
  pub later : w.read_faults ≤ v.read_faults
  pub rose : Rose w.read_faults v.read_faults
  pub write_faults : v.write_faults ≡ w.write_faults

-- at this moment the machine put a byte out, and the sink failed, and has kept that byte or not
pub record FailsWriting (text : List ℕ) (w v : World) (at : Moment) : Type 0 where
  pub going : at.answer ≡ Going
  pub byte : ℕ
  pub asks : step_of text at.state ≡ Puts byte
  pub state : v.state ≡ at.state
  pub left : v.left ≡ Some at.left
  pub held : Appends w.held v.held at.out ⊎ Appends w.held v.held (at.out ++ byte ∷ [])
  pub read_faults : v.read_faults ≡ w.read_faults
  pub later : w.write_faults ≤ v.write_faults
  pub rose : Rose w.write_faults v.write_faults

-- What a run of at most n steps answers and leaves, where its input is told: w has this input left, and
-- v is what was left. The answer is that of the machine after n steps; a fault comes where the machine after
-- fewer steps stands before the call that met it.
abbrev pub RunsAs : List ℕ → ℕ → List ℕ → World → End → World → Type 0
RunsAs text n input w ended.Spent v = Answers Going w v (after text n (beginning w.state input))
RunsAs text n input w (ended.Exit status) v = Answers (Exit status) w v (after text n (beginning w.state input))
RunsAs text n input w ended.Deep v = Answers Deep w v (after text n (beginning w.state input))
RunsAs text n input w (ended.Trap pc) v = Answers (Trap pc) w v (after text n (beginning w.state input))
RunsAs text n input w ended.ReadFault v = (m : ℕ) × (m < n) × FailsReading text w v (after text m (beginning w.state input))
RunsAs text n input w ended.WriteFault v = (m : ℕ) × (m < n) × FailsWriting text w v (after text m (beginning w.state input))

-- the answer of a step as the answer of a run of one step
abbrev pub end_of : Stepped → End
end_of Going = ended.Spent
end_of (Exit status) = ended.Exit status
end_of Deep = ended.Deep
end_of (Trap pc) = ended.Trap pc
end_of ReadFault = ended.ReadFault
end_of WriteFault = ended.WriteFault
