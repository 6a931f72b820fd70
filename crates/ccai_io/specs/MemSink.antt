-- A sink in memory: what it holds, which calls fail, and what each call does.
use Rattle.std.specs.Prelude.{ℕ, ◌+◌, ◌-◌, Bool, ◌||◌, ◌==◌, nat_lt, List, [], ◌++◌, length, take, Option, is_some, if◌then◌else◌}
use Rattle.std.specs.Option.{option_map, option_map_or}
use Rattle.std.specs.List.{find}
use Rattle.ccai_io.specs.Calls.{raised}

-- the bytes that are held and how many fit in all, how many calls were made, the numbers of those that fail with how many bytes each keeps, and the count of faults
pub record SinkState : Type 0 where
  pub held : List ℕ
  pub room : ℕ
  pub calls : ℕ
  pub failing : List (ℕ × ℕ)
  pub faults : ℕ

-- a sink before its first call, of which no call is listed to fail
abbrev pub empty_sink : ℕ → SinkState
empty_sink room = record { held = []; room = room; calls = 0; failing = []; faults = 0 }

-- how many bytes the next call is to keep, where it is listed to fail: the first entry of its number counts
abbrev pub planned : List (ℕ × ℕ) → ℕ → Option ℕ
planned failing calls = option_map (λ entry. entry.1) (find (λ entry. entry.0 == calls + 1) failing)

-- the bytes of a piece that the room still holds
abbrev pub fitting : SinkState → List ℕ → List ℕ
fitting sink piece = take (sink.room - length sink.held) piece

-- the bytes of a piece that the next call keeps
abbrev pub kept_of : SinkState → List ℕ → List ℕ
kept_of sink piece = option_map_or (λ kept. take kept (fitting sink piece)) (planned sink.failing sink.calls) (fitting sink piece)

-- the next call fails: it is listed, or the room does not hold the piece
abbrev pub fails : SinkState → List ℕ → Bool
fails sink piece = is_some (planned sink.failing sink.calls) || nat_lt (sink.room - length sink.held) (length piece)

-- the sink after its next call
abbrev pub after_put : SinkState → List ℕ → SinkState
after_put sink piece =
    record sink {
      held = sink.held ++ kept_of sink piece;
      calls = raised sink.calls;
      faults = if fails sink piece then raised sink.faults else sink.faults;
    }
