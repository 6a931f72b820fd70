-- The audited machine: a machine with the account of its run beside it, which stops where the account is false.
use Rattle.std.specs.Prelude.{◌≡◌, ℕ, zero, suc, ◌+◌, List, Option, Some, None}
use Rattle.image_form.specs.declared.image.Image.{Image}
use Rattle.rv_machine.specs.declared.answer.Stepped.{Stepped}
use Rattle.rv_machine.specs.declared.answer.Stepped.TheVariants.{Going}
use Rattle.rv_machine.specs.declared.answer.End.{End}
use Rattle.rv_machine.specs.State.{State, Loaded}
use Rattle.rv_machine.specs.Start.{start}
use Rattle.rv_machine.specs.After.{Moment, beginning as first_moment, next, end_of}
use Rattle.audited_machine.specs.Functions.{functions_of}
use Rattle.audited_machine.specs.Account.{Account, beginning, Clause, Judged, then_judge}
use Rattle.audited_machine.specs.Arrival.{arrive}
use Rattle.audited_machine.specs.Settling.{settle}

-- a moment, the account up to it, the least clause that is false there, and the number of steps
pub record Audited : Type 0 where
  pub moment : Moment
  pub account : Account
  pub fault : Option Clause
  pub steps : ℕ

abbrev pub loaded_at : Image → State → Loaded
loaded_at image s = record { text = image.text; state = s }

abbrev pub audited : Moment → (steps : ℕ) → Judged Account → Audited
audited w n j = record { moment = w; account = j.value; fault = j.fault; steps = n }

-- before the first step
abbrev pub audit_beginning : Image → (input : List ℕ) → Audited
audit_beginning image input = audited (first_moment (start image) input) 0 (arrive (loaded_at image (start image)) beginning)

-- behind a step, by what it answered: the account goes on where the machine does
abbrev pub behind_step : Image → (before now : Moment) → (steps : ℕ) → Account → Stepped → Audited
behind_step image w v n a Going = audited v n (then_judge (settle (functions_of image.listing.records) (loaded_at image w.state) v.state a) (arrive (loaded_at image v.state)))
behind_step image w v n a answer = record { moment = v; account = a; fault = None; steps = n }

abbrev pub step_from : Image → Audited → Stepped → Audited
step_from image x Going = let v = next image.text x.moment in behind_step image x.moment v (x.steps + 1) x.account v.answer
step_from image x answer = x

-- where a clause is false nothing goes on
abbrev pub go_on : Image → Audited → Option Clause → Audited
go_on image x None = step_from image x x.moment.answer
go_on image x (Some clause) = x

unfoldable pub audit_next : Image → Audited → Audited
audit_next image x = go_on image x x.fault

-- n steps later
unfoldable pub audit_from : Image → ℕ → Audited → Audited
audit_from image zero x = x
audit_from image (suc n) x = audit_next image (audit_from image n x)

-- the machine of an image and its account after n steps on this input
abbrev pub audit_after : Image → (input : List ℕ) → ℕ → Audited
audit_after image input n = audit_from image n (audit_beginning image input)

-- the account of a run is true up to n steps, and each word in it meets the facts of its term
abbrev pub IsAccounted : Image → (input : List ℕ) → ℕ → Type 0
IsAccounted image input n = (audit_after image input n).fault ≡ None

-- what an audit of at most n steps finds: nothing false up to the end of the run or of these steps, or the first step behind
-- which something is false, with the least clause that is
pub data Verdict : Type 0 where
  Holds : End → (steps : ℕ) → Verdict
  Fails : (step : ℕ) → Clause → Verdict

abbrev pub verdict_of : Audited → Option Clause → Verdict
verdict_of x None = Holds (end_of x.moment.answer) x.steps
verdict_of x (Some clause) = Fails x.steps clause

abbrev pub audit : Image → (input : List ℕ) → (steps : ℕ) → Verdict
audit image input n = let x = audit_after image input n in verdict_of x x.fault
