-- Tests that hold of each element of a list.
use Rattle.std.proofs.Common.{◌≡◌, refl, sym, ap, ◌∙◌, ℕ, zero, suc, Bool, true, false, ◌&&◌, List, [], ◌∷◌, Some, slice_get, slice_set}
use Rattle.std.specs.List.{list_all}

pub and-left : (a b : Bool) → (a && b) ≡ true → a ≡ true
and-left true b h = refl
and-left false b h = h

pub and-right : (a b : Bool) → (a && b) ≡ true → b ≡ true
and-right true b h = h
and-right false b h = cc

pub and-both : (a b : Bool) → a ≡ true → b ≡ true → (a && b) ≡ true
and-both a b h g = rw (h, g) refl

pub list_all-at : {A : Type 0} (p : A → Bool) (xs : List A) (i : ℕ) (x : A) → list_all p xs ≡ true →
    slice_get xs i ≡ Some x → p x ≡ true
list_all-at p [] i x h e = cc
list_all-at p (y ∷ ys) zero x h e = let q : y ≡ x = cc in ap p (sym q) ∙ and-left (p y) (list_all p ys) h
list_all-at p (y ∷ ys) (suc i) x h e = list_all-at p ys i x (and-right (p y) (list_all p ys) h) e

pub list_all-set : {A : Type 0} (p : A → Bool) (xs : List A) (i : ℕ) (x : A) → list_all p xs ≡ true → p x ≡ true →
    list_all p (slice_set xs i x) ≡ true
list_all-set p [] i x h g = h
list_all-set p (y ∷ ys) zero x h g = and-both (p x) (list_all p ys) g (and-right (p y) (list_all p ys) h)
list_all-set p (y ∷ ys) (suc i) x h g =
    and-both (p y) (list_all p (slice_set ys i x)) (and-left (p y) (list_all p ys) h)
    (list_all-set p ys i x (and-right (p y) (list_all p ys) h) g)
