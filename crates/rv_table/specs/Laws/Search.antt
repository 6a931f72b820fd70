-- What the first element that passes a test says of a list, and a test of each element of each.
-- It holds proofs: no contract cites it, and the clauses of `decode` say what they come to.
use Rattle.std.proofs.Common.{◌≡◌, ℕ, zero, suc, refl, sym, ◌∙◌, ap, cond, Bool, true, false, List, [], ◌∷◌}
use Rattle.std.specs.Prelude.{Option, Some, None, find, slice_get, ◌&&◌}
use Rattle.std.specs.List.{list_all}

pub and_left : (a b : Bool) → (a && b) ≡ true → a ≡ true
and_left true b h = refl
and_left false b h = h

pub and_right : (a b : Bool) → (a && b) ≡ true → b ≡ true
and_right true b h = h
and_right false b h = cc

-- what a test of a whole list says of one element
pub list_all-at : {X : Type 0} (t : X → Bool) (xs : List X) (k : ℕ) (x : X) → list_all t xs ≡ true → slice_get xs k ≡ Some x → t x ≡ true
list_all-at t [] k x h e = cc
list_all-at t (y ∷ ys) zero x h e =
    let here : y ≡ x = cc in
    ap t (sym here) ∙ and_left (t y) (list_all t ys) h
list_all-at t (y ∷ ys) (suc k) x h e = list_all-at t ys k x (and_right (t y) (list_all t ys) h) e

passes_step : {X : Type 0} (t : X → Bool) (y x : X) (o : Option X) (b : Bool) → t y ≡ b → (o ≡ Some x → t x ≡ true) → cond b (Some y) o ≡ Some x → t x ≡ true
passes_step t y x o true e more h =
    let here : y ≡ x = cc in
    ap t (sym here) ∙ e
passes_step t y x o false e more h = more h

-- what was found passes
pub find-passes : {X : Type 0} (t : X → Bool) (xs : List X) (x : X) → find t xs ≡ Some x → t x ≡ true
find-passes t [] x e = cc
find-passes t (y ∷ ys) x e = passes_step t y x (find t ys) (t y) refl (find-passes t ys x) e

none_step : {X : Type 0} (y : X) (o : Option X) (b : Bool) → cond b (Some y) o ≡ None → (b ≡ false) × (o ≡ None)
none_step y o true h = (cc, cc)
none_step y o false h = (refl, h)

-- where nothing was found, no element passes
pub find-none : {X : Type 0} (t : X → Bool) (xs : List X) (k : ℕ) (x : X) → find t xs ≡ None → slice_get xs k ≡ Some x → t x ≡ false
find-none t [] k x h e = cc
find-none t (y ∷ ys) zero x h e =
    let here : y ≡ x = cc in
    ap t (sym here) ∙ (none_step y (find t ys) (t y) h).0
find-none t (y ∷ ys) (suc k) x h e = find-none t ys k x (none_step y (find t ys) (t y) h).1 e

-- where no element passes, nothing is found
pub find-nowhere : {X : Type 0} (t : X → Bool) (xs : List X) → ((x : X) → t x ≡ false) → find t xs ≡ None
find-nowhere t [] h = refl
find-nowhere t (y ∷ ys) h =
    let here : t y ≡ false = h y in
    rw here (find-nowhere t ys h)
