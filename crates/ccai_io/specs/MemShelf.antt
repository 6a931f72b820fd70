-- Shelves in memory: what they hold, which calls fail, and what each call answers.
use Rattle.std.specs.Prelude.{◌≡◌, ℕ, List, [], Result, Err, IsOk, if◌then◌else◌, ok_or}
use Rattle.std.specs.FinMap.{empty}
use Rattle.ccai_io.specs.Outside.{Files, file_of}
use Rattle.ccai_io.specs.Calls.{raised, is_listed}
use Rattle.ccai_io.specs.declared.outside.ShelfFault.{ShelfFault}
use Rattle.ccai_io.specs.declared.outside.ShelfFault.TheVariants.{Missing, Failed, Memory}

-- the files, how many calls were made, the numbers of those that fail, and the two counts
pub record ShelfState : Type 0 where
  pub files : Files
  pub calls : ℕ
  pub failing : List ℕ
  pub absences : ℕ
  pub faults : ℕ

-- no file, no call made and none that fails
abbrev pub empty_shelf : ShelfState
empty_shelf = record { files = empty; calls = 0; failing = []; absences = 0; faults = 0 }

-- what the next call answers for a name, where memory is not wanting
abbrev pub answer_of : ShelfState → List ℕ → Result (List ℕ) ShelfFault
answer_of shelf name = if is_listed shelf.failing shelf.calls then Err Failed else ok_or (file_of shelf.files name) Missing

-- a refusal is the answer, or memory for the bytes of the answer is wanting
abbrev pub IsRefusal : ShelfFault → Result (List ℕ) ShelfFault → Type 0
IsRefusal Missing answer = answer ≡ Err Missing
IsRefusal Failed answer = answer ≡ Err Failed
IsRefusal Memory answer = IsOk answer

-- the shelf after one more call that took a file or wanted memory
abbrev pub called : ShelfState → ShelfState
called shelf = record shelf { calls = raised shelf.calls }

-- the shelf after one more call that was refused
abbrev pub after_refusal : ShelfState → ShelfFault → ShelfState
after_refusal shelf Missing = record shelf { calls = raised shelf.calls; absences = raised shelf.absences }
after_refusal shelf Failed = record shelf { calls = raised shelf.calls; faults = raised shelf.faults }
after_refusal shelf Memory = called shelf
