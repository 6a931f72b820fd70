-- What a name stands for in two scopes, one in the other.
-- The answers of `meaning_of` and `tag_of` cite these lemmas.
use Rattle.std.proofs.Common.{◌≡◌, ◌∙◌, refl, ap, Bool, true, false, List, [], ◌∷◌, ◌++◌, reverse, find, Option, Some, None, if◌then◌else◌}
use Rattle.std.specs.Option.{option_map}
use Rattle.std.specs.Str.{bytes_eq}
use Rattle.std.proofs.lemmas.List.{reverse-append}
use Rattle.c_typing.specs.Scopes.{Name, latest}

abbrev value_of : {V : Type 0} → Option (Name × V) → Option V
value_of o = option_map (λ pair. pair.1) o

found : {V : Type 0} (test : Name × V → Bool) (xs ys : List (Name × V)) (v : V) → value_of (find test xs) ≡ Some v → value_of (find test (xs ++ ys)) ≡ Some v
found test [] ys v h = absurd cc
found {V} test (x ∷ xs) ys v h = by_test (test x) (found test xs ys v) h
  where
    by_test : (b : Bool) → (value_of (find test xs) ≡ Some v → value_of (find test (xs ++ ys)) ≡ Some v) → value_of (if b then Some x else find test xs) ≡ Some v
        → value_of (if b then Some x else find test (xs ++ ys)) ≡ Some v
    by_test true rest h = h
    by_test false rest h = rest h

not_found : {V : Type 0} (test : Name × V → Bool) (xs ys : List (Name × V)) → value_of (find test xs) ≡ None → value_of (find test (xs ++ ys)) ≡ value_of (find test ys)
not_found test [] ys h = refl
not_found {V} test (x ∷ xs) ys h = by_test (test x) (not_found test xs ys) h
  where
    by_test : (b : Bool) → (value_of (find test xs) ≡ None → value_of (find test (xs ++ ys)) ≡ value_of (find test ys)) → value_of (if b then Some x else find test xs) ≡ None
        → value_of (if b then Some x else find test (xs ++ ys)) ≡ value_of (find test ys)
    by_test true rest h = absurd (let e : Some x.1 ≡ None = h in cc)
    by_test false rest h = rest h

turned : {V : Type 0} (outer inner : List (Name × V)) (name : Name) →
    latest (outer ++ inner) name ≡ value_of (find (λ pair. bytes_eq pair.0 name) (reverse inner ++ reverse outer))
turned {V} outer inner name = ap (λ (pairs : List (Name × V)). value_of (find (λ pair. bytes_eq pair.0 name) pairs)) (reverse-append outer inner)

-- the inner scope hides the outer one
pub hidden : {V : Type 0} (outer inner : List (Name × V)) (name : Name) (v : V) → latest inner name ≡ Some v → latest (outer ++ inner) name ≡ Some v
hidden outer inner name v h = turned outer inner name ∙ found (λ pair. bytes_eq pair.0 name) (reverse inner) (reverse outer) v h

-- what the inner one has not declared is that of the outer one
pub seen : {V : Type 0} (outer inner : List (Name × V)) (name : Name) → latest inner name ≡ None → latest (outer ++ inner) name ≡ latest outer name
seen outer inner name h = turned outer inner name ∙ not_found (λ pair. bytes_eq pair.0 name) (reverse inner) (reverse outer) h
