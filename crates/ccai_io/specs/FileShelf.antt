-- What contracts see of a shelf that does not tell its files.
use Rattle.std.specs.Prelude.{ℕ}
use Rattle.ccai_io.specs.Calls.{raised}
use Rattle.ccai_io.specs.declared.outside.ShelfFault.{ShelfFault}
use Rattle.ccai_io.specs.declared.outside.ShelfFault.TheVariants.{Missing, Failed, Memory}

-- how many files were not found, and how many times a file could not be read
pub record ShelfCounts : Type 0 where
  pub absences : ℕ
  pub faults : ℕ

-- the counts after a refusal
abbrev pub counted : ShelfCounts → ShelfFault → ShelfCounts
counted shelf Missing = record shelf { absences = raised shelf.absences }
counted shelf Failed = record shelf { faults = raised shelf.faults }
counted shelf Memory = shelf
