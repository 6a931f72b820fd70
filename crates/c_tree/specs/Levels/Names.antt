-- The names that are visible at a place of a source, and what is told of a tree under them (C11 6.2.1).
use Rattle.std.specs.Prelude.{ℕ, Bool, false, List, [], ◌∷◌, ◌++◌, find, reverse, unwrap_or}
use Rattle.std.specs.Option.{option_map}
use Rattle.std.specs.Str.{bytes_eq}

-- each name that is visible, the oldest first, and whether it was declared as a typedef name; the last pair of a name counts
abbrev pub Names : Type 0
Names = List (List ℕ × Bool)

-- the innermost visible declaration of the name is a typedef
abbrev pub is_typedef_name : Names → List ℕ → Bool
is_typedef_name names text = unwrap_or (option_map (λ pair. pair.1) (find (λ pair. bytes_eq pair.0 text) (reverse names))) false

-- what is told of a tree where these names are visible, and the names that it declares for what stands behind it
abbrev pub With : Type 0 → Type 0
With A = Names → A × Names

-- a tree that declares nothing
abbrev pub told : {A : Type 0} → A → With A
told a names = (a, [])

-- what is told, read by a function
abbrev pub by : {A B : Type 0} → (A → B) → With A → With B
by f tree names = let first = tree names in (f first.0, first.1)

-- one tree and then another, which sees what the first declares
infixr 20 ◌then◌
abbrev pub ◌then◌ : {A B : Type 0} → With A → With B → With (A × B)
◌then◌ tree next names = let first = tree names in let second = next (names ++ first.1) in ((first.0, second.0), first.1 ++ second.1)

-- the same where the second is read by what was told of the first
abbrev pub leads_to : {A B : Type 0} → With A → (A → With B) → With B
leads_to tree next names = let first = tree names in let second = next first.0 (names ++ first.1) in (second.0, first.1 ++ second.1)

-- trees in a row
abbrev pub in_row : {A : Type 0} → List (With A) → With (List A)
in_row [] names = ([], [])
in_row (tree ∷ trees) names = let first = tree names in let rest = in_row trees (names ++ first.1) in (first.0 ∷ rest.0, first.1 ++ rest.1)

-- a scope of its own: what is declared in it ends with it
abbrev pub scoped : {A : Type 0} → With A → With A
scoped tree names = ((tree names).0, [])

-- a declaration that is visible from the end of the tree
abbrev pub declaring : {A : Type 0} → (A → Names) → With A → With A
declaring declared tree names = let first = tree names in (first.0, first.1 ++ declared first.0)
