-- Fronts of numbers.
use Rattle.std.proofs.Common.{◌≡◌, ℕ, zero, suc, ◌+◌, ◌<◌, ◌≤◌, Bool, true, false, ◌&&◌, ◌||◌, cond, eqb, [], ◌∷◌, length, take, refl, sym, ap, ◌∙◌, subst, ⊎_elim, arith}
use Rattle.std.specs.Prelude.{is_some}
use Rattle.std.specs.Char.{is_ascii_digit}
use Rattle.std.proofs.lemmas.Bool.{and_from, and_left, and_right, and_parts, and_cases, or_from, or_parts, or_left, or_right, or_cases, eqb-true, cond-true, both_ways}
use Rattle.c_lexer.specs.Fronts.{Text, begins_with}
use Rattle.c_lexer.specs.Names.{is_letter, is_word}
use Rattle.c_lexer.specs.Numbers.{is_point, is_sign, is_e, is_p, goes_on, all_go_on, begins_number, is_number}
use Rattle.c_lexer.specs.Punctuators.{punctuator_of}
use Rattle.c_lexer.specs.Scan.{number_len}
use Rattle.c_lexer.proofs.Classes.{digit_no_letter, digit_no_slash, digit_no_mark, point_no_mark}

number_len_within_by : (last b : ℕ) (bytes : Text) (go : Bool) → number_len b bytes ≤ length bytes → cond go (1 + number_len b bytes) 0 ≤ suc (length bytes)
number_len_within_by last b bytes true h = omega arith
number_len_within_by last b bytes false h = omega arith

pub number_len_within : (last : ℕ) (bytes : Text) → number_len last bytes ≤ length bytes
number_len_within last [] = omega arith
number_len_within last (b ∷ bytes) = number_len_within_by last b bytes (goes_on last b) (number_len_within b bytes)

go_on_front_by : (last b : ℕ) (bytes : Text) (n : ℕ) → all_go_on b (take n bytes) ≡ true → (go : Bool) → goes_on last b ≡ go → all_go_on last (take (cond go (1 + n) 0) (b ∷ bytes)) ≡ true
go_on_front_by last b bytes n ih true e =
    let s : 1 + n ≡ suc n = omega arith in
    ap (λ k. all_go_on last (take k (b ∷ bytes))) s ∙ and_from (goes_on last b) (all_go_on b (take n bytes)) e ih
go_on_front_by last b bytes n ih false e = refl

go_on_front : (last : ℕ) (bytes : Text) → all_go_on last (take (number_len last bytes) bytes) ≡ true
go_on_front last [] = refl
go_on_front last (b ∷ bytes) = go_on_front_by last b bytes (number_len b bytes) (go_on_front b bytes) (goes_on last b) refl

go_on_beyond_by : (last b : ℕ) (bytes : Text) (k n : ℕ) → (n < k → all_go_on b (take k bytes) ≡ false) → (go : Bool) → goes_on last b ≡ go → cond go (1 + n) 0 < suc k
    → (goes_on last b && all_go_on b (take k bytes)) ≡ false
go_on_beyond_by last b bytes k n ih true e h = and_right (goes_on last b) (all_go_on b (take k bytes)) (ih (omega arith))
go_on_beyond_by last b bytes k n ih false e h = and_left (goes_on last b) (all_go_on b (take k bytes)) e

go_on_beyond : (last : ℕ) (bytes : Text) (k : ℕ) → number_len last bytes < k → k ≤ length bytes → all_go_on last (take k bytes) ≡ false
go_on_beyond last [] k h within = absurd (omega arith)
go_on_beyond last (b ∷ bytes) zero h within = absurd (omega arith)
go_on_beyond last (b ∷ bytes) (suc k) h within =
    go_on_beyond_by last b bytes k (number_len b bytes) (λ less. go_on_beyond b bytes k less (omega arith)) (goes_on last b) refl h

-- ---- what a number begins with

digit_goes_on : (last b : ℕ) → is_ascii_digit b ≡ true → goes_on last b ≡ true
digit_goes_on last b h =
    or_left (is_word b || is_point b) (is_sign b && (is_e last || is_p last)) (or_left (is_word b) (is_point b) (or_right (is_letter b) (is_ascii_digit b) h))

begins_digit_front : (last : ℕ) (rest : Text) → begins_with is_ascii_digit rest ≡ true → begins_with is_ascii_digit (take (number_len last rest) rest) ≡ true
begins_digit_front last [] h = h
begins_digit_front last (c ∷ rest) h =
    let n : number_len last (c ∷ rest) ≡ suc (number_len c rest) = cond-true (goes_on last c) (1 + number_len c rest) 0 (digit_goes_on last c h) ∙ (let s : 1 + number_len c rest ≡ suc (number_len c rest) = omega arith in s) in
    ap (λ k. begins_with is_ascii_digit (take k (c ∷ rest))) n ∙ h

begins_number_front : (b : ℕ) (rest : Text) → begins_number (b ∷ rest) ≡ true → begins_number (b ∷ take (number_len b rest) rest) ≡ true
begins_number_front b rest h =
    ⊎_elim (λ (digit : is_ascii_digit b ≡ true). or_left (is_ascii_digit b) (is_point b && begins_with is_ascii_digit (take (number_len b rest) rest)) digit)
    (λ (point : (is_point b && begins_with is_ascii_digit rest) ≡ true).
    let parts = and_parts (is_point b) (begins_with is_ascii_digit rest) point in
    or_right (is_ascii_digit b) (is_point b && begins_with is_ascii_digit (take (number_len b rest) rest))
    (and_from (is_point b) (begins_with is_ascii_digit (take (number_len b rest) rest)) parts.0 (begins_digit_front b rest parts.1)))
    (or_cases (is_ascii_digit b) (is_point b && begins_with is_ascii_digit rest) h)

-- the bytes that the scanner takes are a number
pub number_here : (b : ℕ) (rest : Text) → begins_number (b ∷ rest) ≡ true → is_number (b ∷ take (number_len b rest) rest) ≡ true
number_here b rest h =
    and_from (begins_number (b ∷ take (number_len b rest) rest)) (all_go_on b (take (number_len b rest) rest)) (begins_number_front b rest h) (go_on_front b rest)

-- and no longer front is one
pub number_beyond : (b : ℕ) (rest : Text) (k : ℕ) → number_len b rest < k → k ≤ length rest → is_number (b ∷ take k rest) ≡ false
number_beyond b rest k less within = and_right (begins_number (b ∷ take k rest)) (all_go_on b (take k rest)) (go_on_beyond b rest k less within)

pub number_no_letter : (b : ℕ) (rest : Text) → begins_number (b ∷ rest) ≡ true → is_letter b ≡ false
number_no_letter b rest h =
    ⊎_elim (λ (digit : is_ascii_digit b ≡ true). digit_no_letter b digit)
    (λ (point : (is_point b && begins_with is_ascii_digit rest) ≡ true). ap is_letter (eqb-true b 46 (and_parts (is_point b) (begins_with is_ascii_digit rest) point).0))
    (or_cases (is_ascii_digit b) (is_point b && begins_with is_ascii_digit rest) h)

pub number_no_slash : (b : ℕ) (rest : Text) → begins_number (b ∷ rest) ≡ true → eqb b 47 ≡ false
number_no_slash b rest h =
    ⊎_elim (λ (digit : is_ascii_digit b ≡ true). digit_no_slash b digit)
    (λ (point : (is_point b && begins_with is_ascii_digit rest) ≡ true). ap (λ c. eqb c 47) (eqb-true b 46 (and_parts (is_point b) (begins_with is_ascii_digit rest) point).0))
    (or_cases (is_ascii_digit b) (is_point b && begins_with is_ascii_digit rest) h)

point_front : (rest : Text) (k : ℕ) → begins_with is_ascii_digit rest ≡ true → 0 < k → is_some (punctuator_of (46 ∷ take k rest)) ≡ false
point_front rest zero h more = absurd (omega arith)
point_front [] (suc k) h more = absurd (both_ways (begins_with is_ascii_digit []) refl h)
point_front (c ∷ rest) (suc k) h more = point_no_mark c (take k rest) h

pub number_no_mark : (b : ℕ) (rest : Text) (k : ℕ) → begins_number (b ∷ rest) ≡ true → 0 < k → is_some (punctuator_of (b ∷ take k rest)) ≡ false
number_no_mark b rest k h more =
    ⊎_elim (λ (digit : is_ascii_digit b ≡ true). digit_no_mark b (take k rest) digit)
    (λ (point : (is_point b && begins_with is_ascii_digit rest) ≡ true).
    let parts = and_parts (is_point b) (begins_with is_ascii_digit rest) point in
    subst (λ n. is_some (punctuator_of (n ∷ take k rest)) ≡ false) (sym (eqb-true b 46 parts.0)) (point_front rest k parts.1 more))
    (or_cases (is_ascii_digit b) (is_point b && begins_with is_ascii_digit rest) h)

-- ---- where a number does not begin, none of its fronts is one

begins_front : (bytes : Text) (k : ℕ) → begins_with is_ascii_digit bytes ≡ false → begins_with is_ascii_digit (take k bytes) ≡ false
begins_front [] zero h = refl
begins_front [] (suc k) h = refl
begins_front (b ∷ bytes) zero h = refl
begins_front (b ∷ bytes) (suc k) h = h

pub no_number_front : (bytes : Text) (k : ℕ) → begins_number bytes ≡ false → is_number (take k bytes) ≡ false
no_number_front bytes zero h = refl
no_number_front [] (suc k) h = refl
no_number_front (b ∷ bytes) (suc k) h =
    let parts = or_parts (is_ascii_digit b) (is_point b && begins_with is_ascii_digit bytes) h in
    and_left (begins_number (b ∷ take k bytes)) (all_go_on b (take k bytes))
    (or_from (is_ascii_digit b) (is_point b && begins_with is_ascii_digit (take k bytes)) parts.0
    (⊎_elim (λ (c : is_point b ≡ false). and_left (is_point b) (begins_with is_ascii_digit (take k bytes)) c)
    (λ (c : begins_with is_ascii_digit bytes ≡ false). and_right (is_point b) (begins_with is_ascii_digit (take k bytes)) (begins_front bytes k c))
    (and_cases (is_point b) (begins_with is_ascii_digit bytes) parts.1)))
