-- What holds where there is a value, of a result that is a refusal.
-- It serves the early returns of the productions.
use Rattle.std.specs.Prelude.{Result, Ok, Err, OnOk, IsErr}

pub refused : {A E : Type 0} (P : Type 0) (r : Result A E) → IsErr r → OnOk r P
refused P (Ok a) h = absurd cc
refused P (Err e) h = tt
