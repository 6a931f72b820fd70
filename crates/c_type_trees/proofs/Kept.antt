-- One turn of a loop over a list, for what is left behind it.
-- All rounds over lists of trees cite it.
use Rattle.std.specs.Prelude.{◌≡◌, ℕ, suc, ◌+◌, ◌<◌, ◌≤◌, List, [], ◌∷◌, map, length, drop}
use Rattle.std.proofs.Common.{ap, sym, ◌∙◌, get_or, add-one}
use Rattle.std.proofs.Math.Seq.{drop-cons}
use Rattle.std.proofs.lemmas.List.{at_drop_all}
use Rattle.c_typing.specs.Scopes.{Said, Walk}
use Rattle.c_type_walk.specs.declared.around.Around.{Around}
use Rattle.c_type_walk.specs.declared.found.Found.{Found}
use Rattle.c_type_trees.proofs.After.{after}

-- what is left of a list, by its first item
pub left_at : {A : Type 0} (xs : List A) (i : ℕ) (x : A) → i < length xs → x ≡ get_or xs i x → drop i xs ≡ x ∷ drop (i + 1) xs
left_at xs i x h is = rw add-one (drop-cons xs i x h ∙ ap (λ y. y ∷ drop (suc i) xs) (sym is))

-- what was left before a turn, and what is left behind it
pub turned : {A B R : Type 0} (f : A → B) (xs : List A) (i : ℕ) (x : A) (left : List B → Walk R) (v : Walk R) (whole : Said R) (c : Around) (old new : Found)
    → i < length xs → x ≡ get_or xs i x → whole ≡ after (left (map f (drop i xs))) c old
    → after (left (f x ∷ map f (drop (i + 1) xs))) c old ≡ after v c new → whole ≡ after v c new
turned f xs i x left v whole c old new h is before turn =
    before ∙ ap (λ rest. after (left (map f rest)) c old) (left_at xs i x h is) ∙ turn

-- what is left behind the last turn
pub all_turned : {A B R : Type 0} (f : A → B) (xs : List A) (i : ℕ) (left : List B → Walk R) (whole : Said R) (c : Around) (new : Found)
    → length xs ≤ i → whole ≡ after (left (map f (drop i xs))) c new → whole ≡ after (left []) c new
all_turned f xs i left whole c new h before = before ∙ at_drop_all (λ rest. after (left (map f rest)) c new) xs i h
