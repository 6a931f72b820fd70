-- What a check answered, as the offset that it found wrong.
use Rattle.std.specs.Prelude.{ℕ, Option, Some, None, Result, Ok, Err}

abbrev pub wrong_of : {T : Type 0} → Result T ℕ → Option ℕ
wrong_of (Ok x) = None
wrong_of (Err at) = Some at
