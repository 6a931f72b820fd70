-- Fronts of bytes that all pass a test, and fronts that begin with a text.
use Rattle.std.proofs.Common.{◌≡◌, ℕ, zero, suc, ◌+◌, ◌<◌, ◌≤◌, Bool, true, false, ◌&&◌, cond, List, [], ◌∷◌, ◌++◌, length, take, refl, ap, ◌∙◌, arith}
use Rattle.std.proofs.lemmas.Bool.{and_from, and_left, and_right, and_parts, false≢true}
use Rattle.std.specs.Prelude.{nat_eq}
use Rattle.std.specs.List.{list_all, prefix_len, starts_with}
use Rattle.c_lexer.specs.Fronts.{Text, begins_with}

list_all_front_by : {A : Type 0} (p : A → Bool) (x : A) (xs : List A) (n : ℕ) → list_all p (take n xs) ≡ true → (b : Bool) → p x ≡ b
    → list_all p (take (cond b (1 + n) 0) (x ∷ xs)) ≡ true
list_all_front_by p x xs n ih true e =
    let s : 1 + n ≡ suc n = omega arith in
    ap (λ k. list_all p (take k (x ∷ xs))) s ∙ and_from (p x) (list_all p (take n xs)) e ih
list_all_front_by p x xs n ih false e = refl

-- the longest front of elements that pass
pub list_all_front : {A : Type 0} (p : A → Bool) (xs : List A) → list_all p (take (prefix_len p xs) xs) ≡ true
list_all_front p [] = refl
list_all_front p (x ∷ xs) = list_all_front_by p x xs (prefix_len p xs) (list_all_front p xs) (p x) refl

list_all_beyond_by : {A : Type 0} (p : A → Bool) (x : A) (xs : List A) (k n : ℕ) → (n < k → list_all p (take k xs) ≡ false) → (b : Bool) → p x ≡ b
    → cond b (1 + n) 0 < suc k → (p x && list_all p (take k xs)) ≡ false
list_all_beyond_by p x xs k n ih true e h = and_right (p x) (list_all p (take k xs)) (ih (omega arith))
list_all_beyond_by p x xs k n ih false e h = and_left (p x) (list_all p (take k xs)) e

-- in a longer front one does not pass
pub list_all_beyond : {A : Type 0} (p : A → Bool) (xs : List A) (k : ℕ) → prefix_len p xs < k → k ≤ length xs → list_all p (take k xs) ≡ false
list_all_beyond p [] k h within = absurd (omega arith)
list_all_beyond p (x ∷ xs) zero h within = absurd (omega arith)
list_all_beyond p (x ∷ xs) (suc k) h within =
    list_all_beyond_by p x xs k (prefix_len p xs) (λ less. list_all_beyond p xs k less (omega arith)) (p x) refl h

-- what a front begins with, the whole begins with
pub begins_with_grows : (test : ℕ → Bool) (xs ys : Text) → begins_with test xs ≡ true → begins_with test (xs ++ ys) ≡ true
begins_with_grows test [] ys h = absurd (false≢true h)
begins_with_grows test (x ∷ xs) ys h = h

pub starts_with_grows : (xs needle ys : Text) → starts_with nat_eq xs needle ≡ true → starts_with nat_eq (xs ++ ys) needle ≡ true
starts_with_grows xs [] ys h = refl
starts_with_grows [] (n ∷ needle) ys h = absurd (false≢true h)
starts_with_grows (x ∷ xs) (n ∷ needle) ys h =
    let parts = and_parts (nat_eq n x) (starts_with nat_eq xs needle) h in
    and_from (nat_eq n x) (starts_with nat_eq (xs ++ ys) needle) parts.0 (starts_with_grows xs needle ys parts.1)
