-- Lists of what is given, and members in a row.
-- The clauses of `members`, `parameters`, `sequences` and `types` cite them.
use Rattle.std.specs.Prelude.{Bool, if◌then◌else◌, List, [], ◌∷◌, ◌++◌, Option, Some, None}
use Rattle.std.specs.Option.{option_map}
use Rattle.c_typing.specs.Scopes.{Walk, offer, ◌>>=◌, in_row, in_definition}
use Rattle.c_typing.specs.declared.declarator.Parameter.{Parameter}
use Rattle.c_typing.specs.Declarators.{Members, all_members}
use Rattle.c_typing.specs.OfTrees.{in_prototype}

-- one item more, where each is given
abbrev pub one_more : {A : Type 0} → Option (List A) → Option A → Option (List A)
one_more (Some xs) (Some a) = Some (xs ++ a ∷ [])
one_more _ _ = None

abbrev pub both_joined : {A : Type 0} → Option (List A) → Option (List A) → Option (List A)
both_joined (Some xs) (Some ys) = Some (xs ++ ys)
both_joined _ _ = None

abbrev pub all_in_row : List (Walk Members) → Walk Members
all_in_row ws = in_row ws >>= λ ms. offer (option_map all_members ms)

-- the parameters of a definition are in its scope, and those of a declaration are a scope of their own
abbrev pub listed : (defining : Bool) → Walk (List Parameter) → Walk (List Parameter)
listed defining w = if defining then in_definition w else in_prototype w
