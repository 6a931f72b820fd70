-- The number of a name among names.
-- The place in a list that `indexed_list` finds is the number that typing means.
use Rattle.std.proofs.Common.{◌≡◌, refl, ap, ℕ, ◌+◌, cond, List, [], ◌∷◌, Some}
use Rattle.std.specs.List.{position_from}
use Rattle.std.specs.Str.{bytes_eq}
use Rattle.c_typing.specs.Scopes.{Name, number_in}

pub number_by_place : (n : ℕ) (names : List Name) (name : Name) → position_from (λ one. bytes_eq one name) n names ≡ number_in n names name
number_by_place n [] name = refl
number_by_place n (x ∷ xs) name = ap (cond (bytes_eq x name) (Some n)) (number_by_place (n + 1) xs name)
