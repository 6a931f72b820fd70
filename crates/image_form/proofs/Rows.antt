-- The sixteen words of a record.
use Rattle.std.proofs.Common.{◌≡◌, ℕ, zero, suc, ◌+◌, ◌*◌, ◌^◌, ◌<◌, ◌≤◌, Bool, true, false, cond, eqb, ◌||◌, List, [], ◌∷◌, ◌++◌, replicate, Some, None, refl, sym, ap, ◌∙◌, arith}
use Rattle.std.specs.Int.{w32, is_in_range}
use Rattle.std.proofs.lemmas.Bool.{eqb-true, leb-true, le-leb, eqb-false}
use Rattle.std.proofs.lemmas.Int.{of_z-to_z}
use Rattle.std.proofs.Math.Dec.{eqb-suc-zero}
use Rattle.std.proofs.Math.Facts.{sfits_to_z}
use Rattle.term_form.specs.declared.listing.StoreWidth.TheVariants as stores
use Rattle.term_form.specs.declared.listing.Effect.TheVariants as effects
use Rattle.image_form.specs.Limits.{HasSignedFacts}
use Rattle.term_form.specs.Records.{none_word, IsTold, IsToldTerm, IsToldEffect, IsToldRecord}
use Rattle.image_form.specs.Words.{option_word, option_term_word, effect_words, words_of}
use Rattle.image_form.specs.Rightness.{words_named, is_used, is_right}
use Rattle.image_form.specs.Form.{word_at}
use Rattle.image_form.specs.Contents.{option_of, term_of, option_term_of, effect_of, record_of, words_at}
use Rattle.image_form.proofs.Numbers.{IsBytes, AreWords, word_fits}
use Rattle.image_form.proofs.Right.{RightWords}
use Rattle.image_form.proofs.CodeTables.{range_is, term_code_kept, end_kept}

-- the words of a record from a place on
abbrev pub row_from : List ℕ → (at place count : ℕ) → List ℕ
row_from b at place zero = []
row_from b at place (suc count) = word_at b (at + 4 * place) ∷ row_from b at (place + 1) count

abbrev pub row : List ℕ → ℕ → List ℕ
row b at = word_at b at ∷ row_from b at 1 15

from_is : (b : List ℕ) (at place count : ℕ) → words_at b (at + 4 * place) count ≡ row_from b at place count
unfolding words_at
from_is b at place zero = refl
from_is b at place (suc count) =
    let next : at + 4 * place + 4 ≡ at + 4 * (place + 1) = omega arith in
    ap (λ t. word_at b (at + 4 * place) ∷ t) (ap (λ k. words_at b k count) next ∙ from_is b at (place + 1) count)

pub row_is : (b : List ℕ) (at : ℕ) → words_at b at 16 ≡ row b at
unfolding words_at
row_is b at = ap (λ t. word_at b at ∷ t) (from_is b at 1 15)

-- a word that its kind does not name is 0
unnamed : (kind effect place word : ℕ) → 0 < place → words_named kind ≤ place → is_right kind effect place word ≡ true → word ≡ 0
unnamed kind effect zero word p h r = absurd (omega arith)
unnamed kind effect (suc place) word p h r =
    eqb-true word 0 (rw (eqb-suc-zero place, le-leb (words_named kind) (suc place) h) at r)

-- the words behind those that are named
blank : (b : List ℕ) (at place count : ℕ) → ((k : ℕ) → place ≤ k → k < place + count → word_at b (at + 4 * k) ≡ 0) → row_from b at place count ≡ replicate count 0
blank b at place zero h = refl
blank b at place (suc count) h =
    rw (h place (omega arith) (omega arith)) (ap (λ t. 0 ∷ t) (blank b at (place + 1) count (λ k le lt. h k (omega arith) (omega arith))))

-- the words of a record of one kind
abbrev AreRight : ℕ → List ℕ → ℕ → Type 0
AreRight kind b at = (place : ℕ) → place < 16 → is_right kind (word_at b (at + 8)) place (word_at b (at + 4 * place)) ≡ true

blank_of : (kind : ℕ) (b : List ℕ) (at place count : ℕ) → 0 < place → words_named kind ≤ place → place + count ≤ 16 → AreRight kind b at → row_from b at place count ≡ replicate count 0
blank_of kind b at place count p named end right =
    blank b at place count (λ k le lt. unnamed kind (word_at b (at + 8)) k (word_at b (at + 4 * k)) (omega arith) (omega arith) (right k (omega arith)))

option_kept : (w : ℕ) → option_word (option_of w) ≡ w
option_kept w = by (eqb w none_word) refl
  where
    by : (t : Bool) → eqb w none_word ≡ t → option_word (cond t None (Some w)) ≡ w
    by true e = sym (eqb-true w none_word e)
    by false e = refl

option_term_kept : (w : ℕ) → option_term_word (option_term_of w) ≡ w
option_term_kept w = by (eqb w none_word) refl
  where
    by : (t : Bool) → eqb w none_word ≡ t → option_term_word (cond t None (Some (term_of w))) ≡ w
    by true e = sym (eqb-true w none_word e)
    by false e = refl

flag_kept : (w : ℕ) → w ≤ 1 → cond (eqb w 1) 1 0 ≡ w
flag_kept zero h = refl
flag_kept (suc zero) h = refl
flag_kept (suc (suc w)) h = absurd (omega arith)

option_told : (w : ℕ) → w < 2 ^ 32 → IsTold (option_of w)
option_told w h = by (eqb w none_word) refl
  where
    by : (t : Bool) → eqb w none_word ≡ t → IsTold (cond t None (Some w))
    by true e = tt
    by false e = let other = eqb-false w none_word e in omega arith

option_term_told : (w : ℕ) → w < 2 ^ 32 → IsToldTerm (option_term_of w)
option_term_told w h = by (eqb w none_word) refl
  where
    by : (t : Bool) → eqb w none_word ≡ t → IsToldTerm (cond t None (Some (term_of w)))
    by true e = tt
    by false e = let other = eqb-false w none_word e in omega arith

-- the words of a record that was read are those that it was read from, and each has its meaning
abbrev pub IsKept : ℕ → List ℕ → ℕ → Type 0
IsKept kind b at = (words_of (record_of kind b at) ≡ row b at) × IsToldRecord (record_of kind b at) × HasSignedFacts (record_of kind b at)

kept_function : (b : List ℕ) (at : ℕ) → word_at b at ≡ 1 → AreRight 1 b at → IsKept 1 b at
kept_function b at kind right =
    let rest = blank_of 1 b at 6 10 (omega arith) (omega arith) (omega arith) right in
    let flag = flag_kept (word_at b (at + 20)) (leb-true _ _ (right 5 (omega arith))) in
    (cc, tt, tt)

kept_block : (b : List ℕ) (at : ℕ) → IsBytes b → word_at b at ≡ 2 → AreRight 2 b at → IsKept 2 b at
kept_block b at fits kind right =
    let rest = blank_of 2 b at 5 11 (omega arith) (omega arith) (omega arith) right in
    let parent = option_kept (word_at b (at + 12)) in
    (cc, option_told (word_at b (at + 12)) (word_fits b (at + 12) fits), tt)

kept_term : (b : List ℕ) (at : ℕ) → IsBytes b → word_at b at ≡ 3 → AreRight 3 b at → IsKept 3 b at
kept_term b at fits kind right =
    let block = option_kept (word_at b (at + 8)) in
    let code = term_code_kept (word_at b (at + 12)) (right 3 (omega arith)) in
    let low = of_z-to_z w32 (word_at b (at + 32)) (word_fits b (at + 32) fits) in
    let high = of_z-to_z w32 (word_at b (at + 36)) (word_fits b (at + 36) fits) in
    (cc, option_told (word_at b (at + 8)) (word_fits b (at + 8) fits), (sfits_to_z {w = w32} (record { fits = word_fits b (at + 32) fits }), sfits_to_z {w = w32} (record { fits = word_fits b (at + 36) fits })))

-- the words of an effect
effect_kept : (block at e a b c : ℕ) → is_in_range 1 7 e ≡ true → is_used e 5 || eqb b none_word ≡ true → is_used e 6 || eqb c none_word ≡ true → effect_words block at (effect_of e a b c) ≡ block ∷ e ∷ at ∷ a ∷ b ∷ c ∷ []
effect_kept block at zero a b c h p q = absurd cc
effect_kept block at (suc zero) a b c h p q = let third = eqb-true c none_word q in cc
effect_kept block at (suc (suc zero)) a b c h p q = let third = eqb-true c none_word q in cc
effect_kept block at (suc (suc (suc zero))) a b c h p q = let third = eqb-true c none_word q in cc
effect_kept block at (suc (suc (suc (suc zero)))) a b c h p q = let third = option_term_kept c in cc
effect_kept block at (suc (suc (suc (suc (suc zero))))) a b c h p q = let second = eqb-true b none_word p in let third = eqb-true c none_word q in cc
effect_kept block at (suc (suc (suc (suc (suc (suc zero)))))) a b c h p q = let second = eqb-true b none_word p in let third = eqb-true c none_word q in cc
effect_kept block at (suc (suc (suc (suc (suc (suc (suc zero))))))) a b c h p q = let second = eqb-true b none_word p in let third = eqb-true c none_word q in cc
effect_kept block at (suc (suc (suc (suc (suc (suc (suc (suc e)))))))) a b c h p q = let r = range_is 1 7 (suc (suc (suc (suc (suc (suc (suc (suc e)))))))) h in absurd (omega arith)

effect_told : (e a b c : ℕ) → c < 2 ^ 32 → IsToldEffect (effect_of e a b c)
effect_told e a b c h = by (eqb e 1) (eqb e 2) (eqb e 3) (eqb e 4) (eqb e 5) (eqb e 6)
  where
    by : (s t u v w x : Bool) → IsToldEffect (cond s (effects.Store stores.Byte (term_of a) (term_of b)) (cond t (effects.Store stores.Half (term_of a) (term_of b)) (cond u (effects.Store stores.Word (term_of a) (term_of b)) (cond v (effects.Call a b (option_term_of c)) (cond w (effects.Get (term_of a)) (cond x (effects.Put (term_of a)) (effects.Exit (term_of a))))))))
    by true t u v w x = tt
    by false true u v w x = tt
    by false false true v w x = tt
    by false false false true w x = option_term_told c h
    by false false false false true x = tt
    by false false false false false true = tt
    by false false false false false false = tt

kept_effect : (b : List ℕ) (at : ℕ) → IsBytes b → word_at b at ≡ 4 → AreRight 4 b at → IsKept 4 b at
kept_effect b at fits kind right =
    let rest = blank_of 4 b at 7 9 (omega arith) (omega arith) (omega arith) right in
    let effect = effect_kept (word_at b (at + 4)) (word_at b (at + 12)) (word_at b (at + 8)) (word_at b (at + 16)) (word_at b (at + 20)) (word_at b (at + 24)) (right 2 (omega arith)) (right 5 (omega arith)) (right 6 (omega arith)) in (
      ap (λ t. 4 ∷ (t ++ 0 ∷ 0 ∷ 0 ∷ 0 ∷ 0 ∷ 0 ∷ 0 ∷ 0 ∷ 0 ∷ [])) effect ∙ cc,
      effect_told (word_at b (at + 8)) (word_at b (at + 16)) (word_at b (at + 20)) (word_at b (at + 24)) (word_fits b (at + 24) fits),
      tt,
    )

kept_argument : (b : List ℕ) (at : ℕ) → word_at b at ≡ 5 → AreRight 5 b at → IsKept 5 b at
kept_argument b at kind right = let rest = blank_of 5 b at 3 13 (omega arith) (omega arith) (omega arith) right in (cc, tt, tt)

kept_edge : (b : List ℕ) (at : ℕ) → word_at b at ≡ 6 → AreRight 6 b at → IsKept 6 b at
kept_edge b at kind right = let rest = blank_of 6 b at 5 11 (omega arith) (omega arith) (omega arith) right in (cc, tt, tt)

kept_end : (b : List ℕ) (at : ℕ) → IsBytes b → word_at b at ≡ 7 → AreRight 7 b at → IsKept 7 b at
kept_end b at fits kind right =
    let rest = blank_of 7 b at 7 9 (omega arith) (omega arith) (omega arith) right in
    let end = end_kept (word_at b (at + 8)) (right 2 (omega arith)) in
    let term = option_term_kept (word_at b (at + 12)) in
    let first = option_kept (word_at b (at + 16)) in
    let second = option_kept (word_at b (at + 20)) in (
      cc,
      (option_term_told (word_at b (at + 12)) (word_fits b (at + 12) fits), option_told (word_at b (at + 16)) (word_fits b (at + 16) fits), option_told (word_at b (at + 20)) (word_fits b (at + 20) fits)),
      tt,
    )

kept_kind : (kind : ℕ) (b : List ℕ) (at : ℕ) → IsBytes b → word_at b at ≡ kind → is_in_range 1 7 kind ≡ true → AreRight kind b at → IsKept kind b at
kept_kind zero b at fits e h right = absurd cc
kept_kind (suc zero) b at fits e h right = kept_function b at e right
kept_kind (suc (suc zero)) b at fits e h right = kept_block b at fits e right
kept_kind (suc (suc (suc zero))) b at fits e h right = kept_term b at fits e right
kept_kind (suc (suc (suc (suc zero)))) b at fits e h right = kept_effect b at fits e right
kept_kind (suc (suc (suc (suc (suc zero))))) b at fits e h right = kept_argument b at e right
kept_kind (suc (suc (suc (suc (suc (suc zero)))))) b at fits e h right = kept_edge b at e right
kept_kind (suc (suc (suc (suc (suc (suc (suc zero))))))) b at fits e h right = kept_end b at fits e right
kept_kind (suc (suc (suc (suc (suc (suc (suc (suc kind)))))))) b at fits e h right = let r = range_is 1 7 (suc (suc (suc (suc (suc (suc (suc (suc kind)))))))) h in absurd (omega arith)

-- a record whose words are right is read so that it is written as it was
pub kept : (b : List ℕ) (at : ℕ) → IsBytes b → RightWords b at → IsKept (word_at b at) b at
kept b at fits w =
    let first : is_in_range 1 7 (word_at b at) ≡ true = ap (λ k. is_in_range 1 7 (word_at b k)) (omega arith) ∙ w.right 0 (omega arith) in
    kept_kind (word_at b at) b at fits refl first w.right

words_from_fit : (b : List ℕ) (at place count : ℕ) → IsBytes b → AreWords (row_from b at place count)
words_from_fit b at place zero fits = tt
words_from_fit b at place (suc count) fits = (word_fits b (at + 4 * place) fits, words_from_fit b at (place + 1) count fits)

pub row_fits : (b : List ℕ) (at : ℕ) → IsBytes b → AreWords (row b at)
row_fits b at fits = (word_fits b at fits, words_from_fit b at 1 15 fits)
