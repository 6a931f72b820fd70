-- The first of some faults, by place and then by kind: that not to come before is an order, and that a walk over a list keeps its
-- least element.
use Rattle.std.proofs.Common.{◌≡◌, refl, sym, ap, ◌∙◌, ℕ, suc, ◌<◌, Bool, true, false, ◌&&◌, ◌||◌, ◌==◌, nat_lt, if◌then◌else◌, List, [], ◌∷◌, Some, None, arith, ◌⊎◌, inl, inr, ⊎_elim, subst, unwrap_or}
use Rattle.std.specs.List.{AllByRecursion, Contains}
use Rattle.c_tree.specs.declared.unit.Unit as tree
use Rattle.c_typing.specs.Faults.{Fault, rank, comes_before, first_of, IsFirst}
use Rattle.c_typing.specs.Units.{faults_of, first_fault}

-- by two numbers, and where these are equal by the rest
abbrev by_numbers : (a b : ℕ) → Bool → Bool
by_numbers a b rest = nat_lt a b || ((a == b) && rest)

not_before : (a b : ℕ) (r : Bool) → by_numbers a b r ≡ false → (b < a) ⊎ ((a ≡ b) × (r ≡ false))
not_before a b r h = grind (arith, h)

above : (a b : ℕ) (r : Bool) → b < a → by_numbers a b r ≡ false
above a b r h = grind (arith, h)

level : (a b : ℕ) (r : Bool) → a ≡ b → r ≡ false → by_numbers a b r ≡ false
level a b r h k = grind (arith, h, k)

chained : (a b c : ℕ) (r s t : Bool) → (r ≡ false → s ≡ false → t ≡ false) → by_numbers a b r ≡ false → by_numbers b c s ≡ false → by_numbers a c t ≡ false
chained a b c r s t rest h k =
    ⊎_elim
    (λ p. ⊎_elim (λ q. above a c t (omega (arith, p, q))) (λ q. above a c t (omega (arith, p, q.0))) (not_before b c s k))
    (λ p. ⊎_elim (λ q. above a c t (omega (arith, p.0, q))) (λ q. level a c t (p.0 ∙ q.0) (rest p.1 q.1)) (not_before b c s k))
    (not_before a b r h)

last : (a b c : ℕ) → nat_lt a b ≡ false → nat_lt b c ≡ false → nat_lt a c ≡ false
last a b c h k = grind (arith, h, k)

-- the same order, number by number
abbrev key : Fault → Fault → Bool
key f g = by_numbers f.place.line g.place.line (by_numbers f.place.column g.place.column (nat_lt (rank f.kind) (rank g.kind)))

as_key : (l m c d r s : ℕ) → ((nat_lt l m || ((l == m) && nat_lt c d)) || (((l == m) && (c == d)) && nat_lt r s)) ≡ by_numbers l m (by_numbers c d (nat_lt r s))
as_key l m c d r s = by_cases (nat_lt l m) (l == m) (nat_lt c d) (c == d) (nat_lt r s)
  where
    by_cases : (a b e f g : Bool) → ((a || (b && e)) || ((b && f) && g)) ≡ (a || (b && (e || (f && g))))
    by_cases true b e f g = refl
    by_cases false true true f g = refl
    by_cases false true false f g = refl
    by_cases false false e f g = refl

is_key : (f g : Fault) → comes_before f g ≡ key f g
is_key f g = as_key f.place.line g.place.line f.place.column g.place.column (rank f.kind) (rank g.kind)

irreflexive : (f : Fault) → comes_before f f ≡ false
irreflexive f = is_key f f ∙ level f.place.line f.place.line _ refl (level f.place.column f.place.column _ refl (not_below (rank f.kind)))
  where
    not_below : (n : ℕ) → nat_lt n n ≡ false
    not_below n = grind arith

key_asymmetric : (l m c d r s : ℕ) → by_numbers l m (by_numbers c d (nat_lt r s)) ≡ true → by_numbers m l (by_numbers d c (nat_lt s r)) ≡ false
key_asymmetric l m c d r s h = grind (arith, h)

asymmetric : (f g : Fault) → comes_before f g ≡ true → comes_before g f ≡ false
asymmetric f g h =
    is_key g f ∙ key_asymmetric f.place.line g.place.line f.place.column g.place.column (rank f.kind) (rank g.kind) (sym (is_key f g) ∙ h)

transitive : (f g h : Fault) → comes_before f g ≡ false → comes_before g h ≡ false → comes_before f h ≡ false
transitive f g h p q =
    is_key f h ∙ chained f.place.line g.place.line h.place.line _ _ _
    (chained f.place.column g.place.column h.place.column _ _ _ (last (rank f.kind) (rank g.kind) (rank h.kind)))
    (sym (is_key f g) ∙ p) (sym (is_key g h) ∙ q)

-- ---- a walk over a list

at_head : (f : Fault) (fs : List Fault) → Contains (f ∷ fs) f
at_head f fs = (0, omega arith, refl)

in_tail : (g : Fault) (fs : List Fault) (f : Fault) → Contains fs f → Contains (g ∷ fs) f
in_tail g fs f c = (suc c.0, omega (arith, c.1), c.2)

some_same : (b f : Fault) → Some b ≡ Some f → b ≡ f
some_same b f h = ap (λ o. unwrap_or o b) h

-- from a fault that was found before
FirstFrom : Fault → List Fault → Fault → Type 0
FirstFrom b fs f = ((b ≡ f) ⊎ Contains fs f) × ((comes_before b f ≡ false) × AllByRecursion (λ g. comes_before g f ≡ false) fs)

one_more : (x : Fault) (fs : List Fault) (b f : Fault) (v : Bool) → comes_before x b ≡ v → first_of (Some (if v then x else b)) fs ≡ Some f →
    ((c : Fault) → first_of (Some c) fs ≡ Some f → FirstFrom c fs f) → FirstFrom b (x ∷ fs) f
unfolding FirstFrom
one_more x fs b f true e h rest =
    let r = rest x h in (
      inr (⊎_elim (λ same. subst (Contains (x ∷ fs)) same (at_head x fs)) (in_tail x fs f) r.0),
      (transitive b x f (asymmetric x b e) r.1.0, (r.1.0, r.1.1)),
    )
one_more x fs b f false e h rest =
    let r = rest b h in
    (⊎_elim (λ same. inl same) (λ c. inr (in_tail x fs f c)) r.0, (r.1.0, (transitive x b f e r.1.0, r.1.1)))

first_from : (fs : List Fault) (b f : Fault) → first_of (Some b) fs ≡ Some f → FirstFrom b fs f
unfolding FirstFrom
first_from [] b f h =
    let same = some_same b f h in
    (inl same, (subst (λ g. comes_before b g ≡ false) same (irreflexive b), tt))
first_from (x ∷ fs) b f h = one_more x fs b f (comes_before x b) refl h (λ c. first_from fs c f)

is_first : (fs : List Fault) (f : Fault) → first_of None fs ≡ Some f → IsFirst fs f
unfolding FirstFrom
is_first [] f h = let none : None ≡ Some f = h in absurd cc
is_first (x ∷ fs) f h =
    let r = first_from fs x f h in
    (⊎_elim (λ same. subst (Contains (x ∷ fs)) same (at_head x fs)) (in_tail x fs f) r.0, (r.1.0, r.1.1))

never_none : (fs : List Fault) (b : Fault) → first_of (Some b) fs ≡ None → ⊥
never_none [] b h = cc
never_none (x ∷ fs) b h = never_none fs (if comes_before x b then x else b) h

is_none : (fs : List Fault) → first_of None fs ≡ None → fs ≡ []
is_none [] h = refl
is_none (x ∷ fs) h = absurd (never_none fs x h)

pub first_is_told : (u : tree.Unit) (f : Fault) → first_fault u ≡ Some f → IsFirst (faults_of u) f
first_is_told u f h = is_first (faults_of u) f h

pub none_is_told : (u : tree.Unit) → first_fault u ≡ None → faults_of u ≡ []
none_is_told u h = is_none (faults_of u) h
