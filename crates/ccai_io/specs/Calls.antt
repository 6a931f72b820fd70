-- How calls are counted and numbered, and which of them fail.
use Rattle.std.specs.Prelude.{ℕ, ◌+◌, ◌-◌, ◌^◌, min, Bool, ◌==◌, List}
use Rattle.std.specs.List.{list_any}

-- a count after one more; at the end of its type it stands still
abbrev pub raised : ℕ → ℕ
raised count = min (count + 1) (2 ^ 64 - 1)

-- after so many calls, the next one is in this list of numbers; the first call has number 1
abbrev pub is_listed : List ℕ → ℕ → Bool
is_listed failing calls = list_any (λ number. number == calls + 1) failing
