-- What a check that finds nothing says of words and records.
use Rattle.std.proofs.Common.{◌≡◌, ℕ, zero, suc, ◌+◌, ◌-◌, ◌*◌, ◌<◌, ◌≤◌, Bool, true, false, cond, ltb, length, List, Option, Some, None, inl, inr, refl, sym, ap, ◌∙◌, subst, arith}
use Rattle.std.proofs.lemmas.Bool.{ltb-false, le-ltb, cases_lt}
use Rattle.image_form.specs.Form.{word_at, ◌>>◌, reaches, unless, number_is, words_wrong, records_wrong}
use Rattle.image_form.specs.Rightness.{is_right, is_term_code}
use Rattle.image_form.proofs.Chain.{then_none, records_step}

pub reaches_to : (b : List ℕ) (to : ℕ) → reaches b to ≡ None → to ≤ length b
reaches_to b to h = by (ltb (length b) to) refl h
  where
    by : (t : Bool) → ltb (length b) to ≡ t → cond t (Some (length b)) None ≡ None → to ≤ length b
    by true e g = absurd cc
    by false e g = ltb-false _ _ e

pub reached : (b : List ℕ) (to : ℕ) → to ≤ length b → reaches b to ≡ None
reached b to h = rw (le-ltb (length b) to h) refl

pub test_holds : (at : ℕ) (t : Bool) → unless at t ≡ None → t ≡ true
test_holds at true h = refl
test_holds at false h = absurd cc

pub number_right : (b : List ℕ) (at : ℕ) (test : ℕ → Bool) → number_is b at test ≡ None → (at + 4 ≤ length b) × (test (word_at b at) ≡ true)
number_right b at test h = let p = then_none (reaches b (at + 4)) (unless at (test (word_at b at))) h in (reaches_to b (at + 4) p.0, test_holds at (test (word_at b at)) p.1)

pub right_number : (b : List ℕ) (at : ℕ) (test : ℕ → Bool) → at + 4 ≤ length b → test (word_at b at) ≡ true → number_is b at test ≡ None
right_number b at test h t = rw (reached b (at + 4) h, t) refl

-- each word of a record that is right
pub record RightWords (b : List ℕ) (at : ℕ) : Type 0 where
  pub there : at + 64 ≤ length b
  pub right : (place : ℕ) → place < 16 → is_right (word_at b at) (word_at b (at + 8)) place (word_at b (at + 4 * place)) ≡ true

check : List ℕ → ℕ → ℕ → Option ℕ
check b at place = number_is b (at + 4 * place) (is_right (word_at b at) (word_at b (at + 8)) place)

from_words : (b : List ℕ) (at place count k : ℕ) → words_wrong b at place count ≡ None → place ≤ k → k < place + count → check b at k ≡ None
unfolding words_wrong check
from_words b at place zero k h le lt = absurd (omega arith)
from_words b at place (suc count) k h le lt =
    let p = then_none (check b at place) (words_wrong b at (place + 1) count) h in
    elim (cases_lt place k) [
      | inl more ↦ from_words b at (place + 1) count k p.1 (omega arith) (omega arith)
      | inr here ↦ let same : place ≡ k = omega arith in subst (λ i. check b at i ≡ None) same p.0
    ]

to_words : (b : List ℕ) (at place count : ℕ) → ((k : ℕ) → place ≤ k → k < place + count → check b at k ≡ None) → words_wrong b at place count ≡ None
unfolding words_wrong check
to_words b at place zero h = refl
to_words b at place (suc count) h =
    ap (λ t. t >> words_wrong b at (place + 1) count) (h place (omega arith) (omega arith)) ∙ to_words b at (place + 1) count (λ k le lt. h k (omega arith) (omega arith))

pub record_right : (b : List ℕ) (at : ℕ) → words_wrong b at 0 16 ≡ None → RightWords b at
unfolding check
record_right b at h =
    let word = λ (k : ℕ) (lt : k < 16). number_right b (at + 4 * k) (is_right (word_at b at) (word_at b (at + 8)) k) (from_words b at 0 16 k h (omega arith) (omega arith)) in
    record { there = omega (arith, (word 15 (omega arith)).0); right = λ k lt. (word k lt).1 }

pub right_record : (b : List ℕ) (at : ℕ) → RightWords b at → words_wrong b at 0 16 ≡ None
unfolding check
right_record b at w = to_words b at 0 16 (λ k le lt. right_number b (at + 4 * k) (is_right (word_at b at) (word_at b (at + 8)) k) (omega (arith, w.there)) (w.right k (omega arith)))

-- each record of those that are right
pub records_right : (b : List ℕ) (start n : ℕ) → records_wrong b start (suc n) ≡ None → RightWords b start × (records_wrong b (start + 64) n ≡ None)
unfolding records_wrong
records_right b start n h = let p = then_none (words_wrong b start 0 16) (records_wrong b (start + 64) n) h in (record_right b start p.0, p.1)

pub record_right_at : (b : List ℕ) (start i n : ℕ) → i < n → records_wrong b (start + 64 * i) (n - i) ≡ None
    → RightWords b (start + 64 * i) × (records_wrong b (start + 64 * (i + 1)) (n - (i + 1)) ≡ None)
record_right_at b start i n h e =
    let p = then_none (words_wrong b (start + 64 * i) 0 16) (records_wrong b (start + 64 * (i + 1)) (n - (i + 1))) (sym (records_step b start i n h) ∙ e) in
    (record_right b (start + 64 * i) p.0, p.1)

-- the op code of a term that is right
pub term_right : (b : List ℕ) (at : ℕ) → RightWords b at → word_at b at ≡ 3 → is_term_code (word_at b (at + 12)) ≡ true
term_right b at w e = subst (λ k. is_right k (word_at b (at + 8)) 3 (word_at b (at + 12)) ≡ true) e (w.right 3 (omega arith))
