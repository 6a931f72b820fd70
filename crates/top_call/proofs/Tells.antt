-- What is written on standard error.
use Rattle.std.proofs.Common.{◌≡◌, ℕ, List, [], ◌++◌, Option, Some, None, refl, sym, ap, append-nil}
use Rattle.ccai_io.specs.Outside.{Appends}

-- nothing was put out
pub appends_nothing : (held : Option (List ℕ)) → Appends held held []
appends_nothing None = refl
appends_nothing (Some bytes) = ap (λ (l : List ℕ). Some l) (sym (append-nil bytes))
