-- The values of the labels of a `switch`.
-- Whether one is among them, told from either side.
use Rattle.std.proofs.Common.{◌≡◌, ◌∙◌, refl, ap, ℕ, ◌==◌, nat_eq, ◌||◌, List, [], ◌∷◌}
use Rattle.std.specs.Cmp.{nat_eq_equiv}
use Rattle.std.specs.List.{list_any}

pub among : (value : ℕ) (values : List ℕ) → list_any (nat_eq value) values ≡ list_any (λ m. m == value) values
among value [] = refl
among value (m ∷ ms) =
    ap (λ b. b || list_any (nat_eq value) ms) (nat_eq_equiv.symm value m)
    ∙ ap (λ b. m == value || b) (among value ms)
