-- What stands only where a test holds: words that the other definitions use.
use Rattle.std.specs.Prelude.{Bool, Option, Some, None, if◌then◌else◌}

-- a value where a test holds
abbrev pub only_if : {A : Type 0} → Bool → A → Option A
only_if b a = if b then Some a else None

-- what an option holds where a test holds
abbrev pub when : {A : Type 0} → Bool → Option A → Option A
when b o = if b then o else None
