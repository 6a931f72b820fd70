-- What a run does with more depth, in which calls may nest (a notion of this project).
use Rattle.std.specs.Prelude.{◌≡◌}
use Rattle.word_ops.specs.Run.{Outside, Exit, Deep, More, Run, Gives, Ends, Undefined}
use Rattle.word_ops.specs.Clock.{RunReaches, IsTimed}

-- the second run is the first one with more depth: it does the same, and goes on from there where the first was too deep
abbrev pub GoesDeeper : {S A : Type 0} → Run S A → Run S A → Type 0
GoesDeeper (Gives s u a) r = r ≡ Gives s u a
GoesDeeper (Ends More u) r = r ≡ Ends More u
GoesDeeper (Ends Deep u) r = RunReaches u r
GoesDeeper (Ends (Exit n) u) r = r ≡ Ends (Exit n) u
GoesDeeper Undefined r = r ≡ Undefined

-- the same of parts of programs, at every moment
pub record IsDeeper {S A : Type 0} (h k : Outside → Run S A) : Type 0 where
  pub first_timed : IsTimed h
  pub timed : IsTimed k
  pub deeper : (w : Outside) → GoesDeeper (h w) (k w)
