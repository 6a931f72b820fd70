-- A table of scopes as the list of its pairs: what a key stands for, and which marks are good.
use Rattle.std.specs.Prelude.{◌≡◌, ℕ, Bool, List, length, reverse, take, find, Option}
use Rattle.std.specs.Option.{option_map}

-- the value of the last pair whose key equals this one
abbrev pub latest : {K V : Type 0} → (K → K → Bool) → List (K × V) → K → Option V
latest eq pairs key = option_map (λ pair. pair.1) (find (λ pair. eq pair.0 key) (reverse pairs))

-- a mark was made when the list was `at`, and neither it nor an older one has been left since: `now` still begins with that list
pub record Marked {X : Type 0} (now : List X) (mark : ℕ) (at : List X) : Type 0 where
  pub made : mark ≡ length at
  pub kept : take mark now ≡ at
