-- What lists come to that are there only where nothing is wrong.
-- The clauses of `starts` and `values` cite them.
use Rattle.std.specs.Prelude.{List, [], ◌∷◌, ◌++◌, Option, Some, None}

-- one more item behind others
abbrev pub one_more : {A : Type 0} → Option (List A) → Option A → Option (List A)
one_more (Some xs) (Some x) = Some (xs ++ x ∷ [])
one_more xs x = None

-- more items behind others
abbrev pub all_more : {A : Type 0} → Option (List A) → Option (List A) → Option (List A)
all_more (Some xs) (Some ys) = Some (xs ++ ys)
all_more xs ys = None
