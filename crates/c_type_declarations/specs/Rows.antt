-- Walks in a row, each of which gives a list.
-- The clauses of `made` and `declarations` cite them.
use Rattle.std.specs.Prelude.{List, ◌++◌, Option, Some, None}

-- one list and then another, where both are there
abbrev pub both : {A : Type 0} → Option (List A) → Option (List A) → Option (List A)
both (Some a) (Some b) = Some (a ++ b)
both _ _ = None

-- the second, where the first is there
abbrev pub behind_any : {A B : Type 0} → Option A → Option B → Option B
behind_any (Some a) b = b
behind_any None b = None
