-- A source in memory: what is left, which calls fail, and what each call does.
use Rattle.std.specs.Prelude.{ℕ, List, [], drop, if◌then◌else◌}
use Rattle.ccai_io.specs.Calls.{raised, is_listed}

-- the bytes that are left, how many calls were made, the numbers of those that fail, and the count of faults
pub record SourceState : Type 0 where
  pub left : List ℕ
  pub calls : ℕ
  pub failing : List ℕ
  pub faults : ℕ

-- a source before its first call, of which no call fails
abbrev pub source_of : List ℕ → SourceState
source_of bytes = record { left = bytes; calls = 0; failing = []; faults = 0 }

-- the source after its next call
abbrev pub after_next : SourceState → SourceState
after_next source =
    if is_listed source.failing source.calls
    then record source { calls = raised source.calls; faults = raised source.faults }
    else record source { left = drop 1 source.left; calls = raised source.calls }
