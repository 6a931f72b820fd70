-- Laws of lists and of tests that the laws of stores use.
-- No contract cites this file: it holds proofs.
use Rattle.std.proofs.Common.{◌≡◌, ◌≢◌, refl, sym, ap, ◌∙◌, ℕ, zero, suc, ◌+◌, ◌<◌, List, [], ◌∷◌, ◌++◌, length, arith, ⊎_elim, ◌⊎◌, inl, inr}
use Rattle.std.proofs.lemmas.Bool.{false≢true}
use Rattle.std.proofs.lemmas.Option.{none-some, same_Some, slice_get_within}
use Rattle.std.specs.Prelude.{Option, Some, Bool, true, false, ◌&&◌, slice_get, slice_set}
use Rattle.word_ops.specs.Choice.{only_if, when}
use Rattle.word_ops.specs.Store.{in_a_row}

-- ---- tests

pub and_both : (a b : Bool) → a && b ≡ true → (a ≡ true) × (b ≡ true)
and_both true b h = (refl, h)
and_both false b h = absurd (false≢true h)

pub only_if-some : {A : Type 0} (b : Bool) (a v : A) → only_if b a ≡ Some v → (b ≡ true) × (a ≡ v)
only_if-some true a v e = (refl, same_Some a v e)
only_if-some false a v e = absurd (none-some v e)

pub when-some : {A : Type 0} (b : Bool) (o : Option A) (v : A) → when b o ≡ Some v → (b ≡ true) × (o ≡ Some v)
when-some true o v e = (refl, e)
when-some false o v e = absurd (none-some v e)

-- ---- a place of a list

pub slice_get-slice_set : {A : Type 0} (xs : List A) (r : ℕ) (x y : A) → slice_get xs r ≡ Some x →
    slice_get (slice_set xs r y) r ≡ Some y
slice_get-slice_set [] r x y e = absurd (none-some x e)
slice_get-slice_set (z ∷ xs) zero x y e = refl
slice_get-slice_set (z ∷ xs) (suc r) x y e = slice_get-slice_set xs r x y e

pub slice_get-slice_set_other : {A : Type 0} (xs : List A) (r q : ℕ) (y : A) → q ≢ r →
    slice_get (slice_set xs r y) q ≡ slice_get xs q
slice_get-slice_set_other [] r q y ne = refl
slice_get-slice_set_other (z ∷ xs) zero zero y ne = absurd (ne refl)
slice_get-slice_set_other (z ∷ xs) zero (suc q) y ne = refl
slice_get-slice_set_other (z ∷ xs) (suc r) zero y ne = refl
slice_get-slice_set_other (z ∷ xs) (suc r) (suc q) y ne = slice_get-slice_set_other xs r q y (λ e. ne (ap suc e))

pub length-slice_set : {A : Type 0} (xs : List A) (r : ℕ) (y : A) → length (slice_set xs r y) ≡ length xs
length-slice_set [] r y = refl
length-slice_set (z ∷ xs) zero y = refl
length-slice_set (z ∷ xs) (suc r) y = ap suc (length-slice_set xs r y)

pub slice_get-there : {A : Type 0} (xs : List A) (i : ℕ) → i < length xs → (x : A) × (slice_get xs i ≡ Some x)
slice_get-there [] i lt = absurd (omega (arith, lt))
slice_get-there (x ∷ xs) zero lt = (x, refl)
slice_get-there (x ∷ xs) (suc i) lt = slice_get-there xs i (omega (arith, lt))

pub slice_set-twice : {A : Type 0} (xs : List A) (r : ℕ) (x y : A) →
    slice_set (slice_set xs r x) r y ≡ slice_set xs r y
slice_set-twice [] r x y = refl
slice_set-twice (z ∷ xs) zero x y = refl
slice_set-twice (z ∷ xs) (suc r) x y = ap (λ l. z ∷ l) (slice_set-twice xs r x y)

pub slice_set-same : {A : Type 0} (xs : List A) (r : ℕ) (x : A) → slice_get xs r ≡ Some x → slice_set xs r x ≡ xs
slice_set-same [] r x e = refl
slice_set-same (z ∷ xs) zero x e = ap (λ z. z ∷ xs) (same_Some x z (sym e))
slice_set-same (z ∷ xs) (suc r) x e = ap (λ l. z ∷ l) (slice_set-same xs r x e)

-- ---- a list that grows at its end

pub slice_get-append : {A : Type 0} (xs ys : List A) (i : ℕ) → i < length xs → slice_get (xs ++ ys) i ≡ slice_get xs i
slice_get-append [] ys i lt = absurd (omega (arith, lt))
slice_get-append (x ∷ xs) ys zero lt = refl
slice_get-append (x ∷ xs) ys (suc i) lt = slice_get-append xs ys i (omega (arith, lt))

pub slice_get-append_keeps : {A : Type 0} (xs ys : List A) (i : ℕ) (z : A) → slice_get xs i ≡ Some z →
    slice_get (xs ++ ys) i ≡ Some z
slice_get-append_keeps xs ys i z e = slice_get-append xs ys i (slice_get_within xs i z e) ∙ e

pub slice_get-append_behind : {A : Type 0} (xs ys : List A) (i : ℕ) →
    slice_get (xs ++ ys) (length xs + i) ≡ slice_get ys i
slice_get-append_behind [] ys i = let e : 0 + i ≡ i = omega arith in ap (slice_get ys) e
slice_get-append_behind (x ∷ xs) ys i =
    let e : length (x ∷ xs) + i ≡ suc (length xs + i) = omega arith in
    ap (slice_get (x ∷ (xs ++ ys))) e ∙ slice_get-append_behind xs ys i

-- a place of a longer list is one of the old places or one behind
pub slice_get-append_some : {A : Type 0} (xs ys : List A) (i : ℕ) (z : A) → slice_get (xs ++ ys) i ≡ Some z →
    (slice_get xs i ≡ Some z) ⊎ ((j : ℕ) × (i ≡ length xs + j) × (slice_get ys j ≡ Some z))
slice_get-append_some [] ys i z e = inr (i, omega arith, e)
slice_get-append_some (x ∷ xs) ys zero z e = inl e
slice_get-append_some (x ∷ xs) ys (suc i) z e =
    ⊎_elim (λ a. inl a) (λ b. inr (b.0, omega (arith, b.1), b.2)) (slice_get-append_some xs ys i z e)

-- ---- numbers in a row

pub length-in_a_row : (first count : ℕ) → length (in_a_row first count) ≡ count
length-in_a_row first zero = refl
length-in_a_row first (suc count) = ap suc (length-in_a_row (first + 1) count)

pub slice_get-in_a_row : (first count i : ℕ) → i < count → slice_get (in_a_row first count) i ≡ Some (first + i)
slice_get-in_a_row first zero i lt = absurd (omega (arith, lt))
slice_get-in_a_row first (suc count) zero lt = let e : first ≡ first + zero = omega arith in ap Some e
slice_get-in_a_row first (suc count) (suc i) lt =
    let e : first + 1 + i ≡ first + suc i = omega arith in
    slice_get-in_a_row (first + 1) count i (omega (arith, lt)) ∙ ap Some e

pub slice_get-in_a_row_some : (first count i r : ℕ) → slice_get (in_a_row first count) i ≡ Some r →
    (i < count) × (r ≡ first + i)
slice_get-in_a_row_some first zero i r e = absurd (none-some r e)
slice_get-in_a_row_some first (suc count) zero r e = (omega arith, omega (arith, same_Some first r e))
slice_get-in_a_row_some first (suc count) (suc i) r e =
    let h = slice_get-in_a_row_some (first + 1) count i r e in
    (omega (arith, h.0), omega (arith, h.1))
