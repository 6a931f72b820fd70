-- The first place of a value in a list, and what a value behind the others makes of it.
use Rattle.std.proofs.Common.{◌≡◌, ◌∙◌, refl, sym, ap, ℕ, ◌+◌, arith, Bool, true, false, ◌||◌, cond, List, [], ◌∷◌, ◌++◌, Option, Some, None, is_some, option_copied, Bor, length, suc, true≢false}
use Rattle.std.specs.Cmp.{IsEquivalence}
use Rattle.std.specs.List.{position_from, list_any}

-- the first of two places that there are
abbrev pub or_else : Option ℕ → Option ℕ → Option ℕ
or_else (Some p) other = Some p
or_else None other = other

step : (b t : Bool) (i n : ℕ) (p q : Option ℕ) → p ≡ or_else q (cond t (Some (i + 1 + n)) None)
    → cond b (Some i) p ≡ or_else (cond b (Some i) q) (cond t (Some (i + suc n)) None)
step true t i n p q e = refl
step false t i n p q e =
    let more : i + 1 + n ≡ i + suc n = omega arith in
    e ∙ ap (λ m. or_else q (cond t (Some m) None)) more

-- with one value more
pub one_more : {A : Type 0} (test : A → Bool) (i : ℕ) (xs : List A) (x : A) →
    position_from test i (xs ++ x ∷ []) ≡ or_else (position_from test i xs) (cond (test x) (Some (i + length xs)) None)
one_more test i [] x =
    let same : i ≡ i + 0 = omega arith in
    ap (λ n. cond (test x) (Some n) None) same
one_more test i (y ∷ ys) x =
    step (test y) (test x) i (length ys) (position_from test (i + 1) (ys ++ x ∷ [])) (position_from test (i + 1) ys) (one_more test (i + 1) ys x)

-- values that are equal have one first place
pub same_place : {A : Type 0} (E : A → A → Bool) → IsEquivalence E → (a b : A) → E a b ≡ true → (i : ℕ) (xs : List A) →
    position_from (λ one. E one a) i xs ≡ position_from (λ one. E one b) i xs
same_place E laws a b e i [] = refl
same_place E laws a b e i (x ∷ xs) =
    ap (λ t. cond t (Some i) (position_from (λ one. E one a) (i + 1) xs)) (laws.symm x a ∙ laws.congr a b x e ∙ laws.symm b x)
    ∙ ap (cond (E x b) (Some i)) (same_place E laws a b e (i + 1) xs)

absorbed : (b : Bool) (p : Option ℕ) (n place : ℕ) → (b ≡ true → p ≡ Some place) → or_else p (cond b (Some n) None) ≡ p
absorbed b (Some q) n place h = refl
absorbed true None n place h = absurd (true≢false (sym (ap is_some (h refl))))
absorbed false None n place h = refl

-- a value that stood already changes no first place
pub stood : {A : Type 0} (E : A → A → Bool) → IsEquivalence E → (xs : List A) (x asked : A) (place : ℕ) →
    position_from (λ one. E one x) 0 xs ≡ Some place →
    position_from (λ one. E one asked) 0 (xs ++ x ∷ []) ≡ position_from (λ one. E one asked) 0 xs
stood E laws xs x asked place e =
    one_more (λ one. E one asked) 0 xs x
    ∙ absorbed (E x asked) (position_from (λ one. E one asked) 0 xs) (0 + length xs) place (λ same. sym (same_place E laws x asked same 0 xs) ∙ e)

chosen : (b : Bool) (p : Option ℕ) (n : ℕ) → (b ≡ true → p ≡ None) → cond b (Some n) p ≡ or_else p (cond b (Some n) None)
chosen true (Some q) n h = absurd (true≢false (ap is_some (h refl)))
chosen true None n h = refl
chosen false (Some q) n h = refl
chosen false None n h = refl

-- the first place of a new value is the end
pub is_new : {A : Type 0} (E : A → A → Bool) → IsEquivalence E → (xs : List A) (x asked : A) →
    position_from (λ one. E one x) 0 xs ≡ None →
    cond (E x asked) (Some (length xs)) (position_from (λ one. E one asked) 0 xs) ≡ position_from (λ one. E one asked) 0 (xs ++ x ∷ [])
is_new E laws xs x asked e =
    let from_none : length xs ≡ 0 + length xs = omega arith in
    chosen (E x asked) (position_from (λ one. E one asked) 0 xs) (length xs) (λ same. sym (same_place E laws x asked same 0 xs) ∙ e)
    ∙ ap (λ n. or_else (position_from (λ one. E one asked) 0 xs) (cond (E x asked) (Some n) None)) from_none
    ∙ sym (one_more (λ one. E one asked) 0 xs x)

stands : (b c : Bool) (i : ℕ) (p : Option ℕ) (rest : Bool) → b ≡ c → is_some p ≡ rest → is_some (cond b (Some i) p) ≡ c || rest
stands true c i p rest same e = ap (λ d. d || rest) same
stands false c i p rest same e = e ∙ ap (λ d. d || rest) same

-- a value has a place where it is among the others
pub has_place : {A : Type 0} (E : A → A → Bool) → IsEquivalence E → (a : A) (i : ℕ) (xs : List A) → is_some (position_from (λ one. E one a) i xs) ≡ list_any (E a) xs
has_place E laws a i [] = refl
has_place E laws a i (x ∷ xs) =
    stands (E x a) (E a x) i (position_from (λ one. E one a) (i + 1) xs) (list_any (E a) xs) (laws.symm x a) (has_place E laws a (i + 1) xs)

-- what is lent of a place that there is, and of none
pub some_of : (lent : Option (Bor ℕ)) → is_some lent ≡ true → (place : ℕ) × (option_copied lent ≡ Some place)
some_of (Some place) e = (place.now, refl)
some_of None e = absurd (true≢false (sym e))

pub none_of : (lent : Option (Bor ℕ)) → is_some lent ≡ false → option_copied lent ≡ None
none_of (Some place) e = absurd (true≢false e)
none_of None e = refl
