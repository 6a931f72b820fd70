-- A list that is read behind an item that is there, and a search through a list.
-- The first serves the loops that read lists, the second the loops that look for a specifier.
use Rattle.std.specs.Prelude.{◌≡◌, ℕ, zero, suc, ◌+◌, ◌<◌, Bool, true, false, ◌||◌, if◌then◌else◌, List, [], ◌∷◌, ◌++◌, length, get_or, drop, Ok, Err, refl}
use Rattle.std.proofs.Common.{ap, sym, ◌∙◌, add-one, drop-cons}
use Rattle.c_grammar.specs.Input.{State, Parser, Outcome, and_then, pure, loop}

-- one turn, where the turns behind it keep the item in front
a_turn : {X : Type 0} (test : Bool) (r : Outcome X) (x : X) (found : List X) (i : State) (with : X → State → Outcome (List X)) (without : X → State → Outcome (List X))
    → ((y : X) (j : State) → with y j ≡ and_then (without y j) (λ xs. pure (x ∷ xs)))
    → (if test then and_then r with else Ok (x ∷ found, i)) ≡ and_then (if test then and_then r without else Ok (found, i)) (λ xs. pure (x ∷ xs))
a_turn false r x found i with without same = refl
a_turn true (Ok p) x found i with without same = same p.0 p.1
a_turn true (Err e) x found i with without same = refl

pub first_before : {S X : Type 0} (goes : S → State → Bool) (item : S → Parser X) (step : S → X → S) (n : ℕ) (s : S) (x : X) (found : List X) (i : State)
    → loop goes item step n s (x ∷ found) i ≡ and_then (loop goes item step n s found i) (λ xs. pure (x ∷ xs))
unfolding loop
first_before goes item step zero s x found i = refl
first_before goes item step (suc n) s x found i =
    a_turn (goes s i) (item s i) x found i
    (λ y j. loop goes item step n (step s y) ((x ∷ found) ++ y ∷ []) j) (λ y j. loop goes item step n (step s y) (found ++ y ∷ []) j)
    (λ y j. first_before goes item step n (step s y) x (found ++ y ∷ []) j)

-- an item and what is behind it
pub item_behind : {X : Type 0} (xs : List X) (i : ℕ) (x : X) → i < length xs → x ≡ get_or xs i x → drop i xs ≡ x ∷ drop (i + 1) xs
item_behind xs i x below is = drop-cons xs i x below ∙ ap (λ y. y ∷ drop (suc i) xs) (sym is) ∙ ap (λ n. x ∷ drop n xs) (sym (add-one i))

module _ {X : Type 0} (any : List X → Bool) (test : X → Bool) (by : (x : X) (xs : List X) → any (x ∷ xs) ≡ (test x || any xs)) where
  -- no item so far, and this one
  pub found_at : (xs : List X) (i : ℕ) (x : X) → i < length xs → x ≡ get_or xs i x → any xs ≡ any (drop i xs) → test x ≡ true → true ≡ any xs
  found_at xs i x below is so_far holds = sym (so_far ∙ ap any (item_behind xs i x below is) ∙ by x (drop (i + 1) xs) ∙ ap (λ b. b || any (drop (i + 1) xs)) holds)

  -- not this one
  pub not_at : (xs : List X) (i : ℕ) (x : X) → i < length xs → x ≡ get_or xs i x → any xs ≡ any (drop i xs) → test x ≡ false → any xs ≡ any (drop (i + 1) xs)
  not_at xs i x below is so_far fails = so_far ∙ ap any (item_behind xs i x below is) ∙ by x (drop (i + 1) xs) ∙ ap (λ b. b || any (drop (i + 1) xs)) fails
