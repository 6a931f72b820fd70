-- A shelf that never fails: what it holds, and what each call does.
use Rattle.std.specs.Prelude.{ℕ}
use Rattle.ccai_io.specs.Outside.{Files}
use Rattle.ccai_io.specs.Calls.{raised}
use Rattle.ccai_io.specs.declared.outside.ShelfFault.{ShelfFault}
use Rattle.ccai_io.specs.declared.outside.ShelfFault.TheVariants.{Missing, Failed, Memory}

-- the files, and the count of absences
pub record SureShelfState : Type 0 where
  pub files : Files
  pub absences : ℕ

-- the shelf after a refusal
abbrev pub after_refusal : SureShelfState → ShelfFault → SureShelfState
after_refusal shelf Missing = record shelf { absences = raised shelf.absences }
after_refusal shelf Failed = shelf
after_refusal shelf Memory = shelf
