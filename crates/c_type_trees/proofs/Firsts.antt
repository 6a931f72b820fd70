-- The first item of a list.
-- `Arms` cites it, of operators that begin with a first one.
use Rattle.std.specs.Prelude.{◌≡◌, List, [], ◌∷◌, Some, None, slice_get, refl}
use Rattle.std.proofs.Common.{ap}

-- what stands first, and what stands behind it
pub first_is : {A : Type 0} (xs : List A) (x : A) → Some x ≡ slice_get xs 0 → (rest : List A) × (xs ≡ x ∷ rest)
first_is [] x e = cc
first_is (y ∷ ys) x e = (ys, ap (λ z. z ∷ ys) (let same : y ≡ x = cc in same))

pub none_is : {A : Type 0} (xs : List A) → None ≡ slice_get xs 0 → xs ≡ []
none_is [] e = refl
none_is (x ∷ xs) e = cc
