-- Checks one after another, and the steps of the loops over words and records.
use Rattle.std.proofs.Common.{◌≡◌, ℕ, suc, ◌+◌, ◌-◌, ◌*◌, ◌<◌, ◌≤◌, List, [], ◌∷◌, ◌++◌, Option, Some, None, refl, sym, ap, ◌∙◌, subst, arith}
use Rattle.std.proofs.lemmas.List.{append-nil, append_assoc}
use Rattle.term_form.specs.declared.listing.Record.{Record}
use Rattle.image_form.specs.Form.{word_at, ◌>>◌, number_is, words_wrong, records_wrong}
use Rattle.image_form.specs.Rightness.{is_right}
use Rattle.image_form.specs.Contents.{record_of, words_at, records_at}

-- where the first check finds nothing, the next one decides
pub then_on : (x y z : Option ℕ) → x ≡ None → x >> y ≡ z → y ≡ z
then_on x y z e h = subst (λ (t : Option ℕ). t >> y ≡ z) e h

-- where it finds an offset, that is the first one
pub then_found : (x y z : Option ℕ) (at : ℕ) → x ≡ Some at → x >> y ≡ z → z ≡ Some at
then_found x y z at e h = sym h ∙ ap (λ (t : Option ℕ). t >> y) e

-- where both find nothing
pub then_none : (x y : Option ℕ) → x >> y ≡ None → (x ≡ None) × (y ≡ None)
then_none None y h = (refl, h)
then_none (Some at) y h = absurd cc

count_on : (i n : ℕ) → i < n → n - i ≡ suc (n - (i + 1))
count_on i n h = omega arith

pub words_step : (b : List ℕ) (at place : ℕ) → place < 16
    → words_wrong b at place (16 - place) ≡ number_is b (at + 4 * place) (is_right (word_at b at) (word_at b (at + 8)) place) >> words_wrong b at (place + 1) (16 - (place + 1))
unfolding words_wrong
words_step b at place h = rw (count_on place 16 h) refl

pub records_step : (b : List ℕ) (start i n : ℕ) → i < n
    → records_wrong b (start + 64 * i) (n - i) ≡ words_wrong b (start + 64 * i) 0 16 >> records_wrong b (start + 64 * (i + 1)) (n - (i + 1))
unfolding records_wrong
records_step b start i n h =
    let next : start + 64 * i + 64 ≡ start + 64 * (i + 1) = omega arith in
    rw (count_on i n h) (ap (λ k. words_wrong b (start + 64 * i) 0 16 >> records_wrong b k (n - (i + 1))) next)

pub words_at_step : (b : List ℕ) (at i n : ℕ) → i < n → words_at b (at + 4 * i) (n - i) ≡ word_at b (at + 4 * i) ∷ words_at b (at + 4 * (i + 1)) (n - (i + 1))
unfolding words_at
words_at_step b at i n h =
    let next : at + 4 * i + 4 ≡ at + 4 * (i + 1) = omega arith in
    rw (count_on i n h) (ap (λ k. word_at b (at + 4 * i) ∷ words_at b k (n - (i + 1))) next)

pub records_at_step : (b : List ℕ) (at i n : ℕ) → i < n → records_at b (at + 64 * i) (n - i) ≡ record_of (word_at b (at + 64 * i)) b (at + 64 * i) ∷ records_at b (at + 64 * (i + 1)) (n - (i + 1))
unfolding records_at
records_at_step b at i n h =
    let next : at + 64 * i + 64 ≡ at + 64 * (i + 1) = omega arith in
    rw (count_on i n h) (ap (λ k. record_of (word_at b (at + 64 * i)) b (at + 64 * i) ∷ records_at b k (n - (i + 1))) next)

-- a word that is right leaves the first wrong one among those behind it
pub words_on : (b : List ℕ) (at place kind effect : ℕ) (all : Option ℕ) → kind ≡ word_at b at → effect ≡ word_at b (at + 8) → place < 16
    → None ≡ number_is b (at + 4 * place) (is_right kind effect place) → words_wrong b at place (16 - place) ≡ all
    → words_wrong b at (place + 1) (16 - (place + 1)) ≡ all
words_on b at place kind effect all k e h right so_far =
    let same : number_is b (at + 4 * place) (is_right (word_at b at) (word_at b (at + 8)) place) ≡ None = ap (λ n. number_is b (at + 4 * place) (is_right n (word_at b (at + 8)) place)) (sym k) ∙ ap (λ n. number_is b (at + 4 * place) (is_right kind n place)) (sym e) ∙ sym right in
    then_on _ _ all same (sym (words_step b at place h) ∙ so_far)

-- a word that is wrong is the first one
pub words_found : (b : List ℕ) (at place kind effect wrong : ℕ) (all : Option ℕ) → kind ≡ word_at b at → effect ≡ word_at b (at + 8) → place < 16
    → Some wrong ≡ number_is b (at + 4 * place) (is_right kind effect place) → words_wrong b at place (16 - place) ≡ all
    → Some wrong ≡ all
words_found b at place kind effect wrong all k e h found so_far =
    let same : number_is b (at + 4 * place) (is_right (word_at b at) (word_at b (at + 8)) place) ≡ Some wrong = ap (λ n. number_is b (at + 4 * place) (is_right n (word_at b (at + 8)) place)) (sym k) ∙ ap (λ n. number_is b (at + 4 * place) (is_right kind n place)) (sym e) ∙ sym found in
    sym (then_found _ _ all wrong same (sym (words_step b at place h) ∙ so_far))

pub words_done : (b : List ℕ) (at place : ℕ) (all : Option ℕ) → 16 ≤ place → words_wrong b at place (16 - place) ≡ all → None ≡ all
unfolding words_wrong
words_done b at place all h so_far = let k : 16 - place ≡ 0 = omega arith in sym (ap (words_wrong b at place) k) ∙ so_far

pub records_on : (b : List ℕ) (start i n : ℕ) (all : Option ℕ) → i < n → None ≡ words_wrong b (start + 64 * i) 0 16
    → records_wrong b (start + 64 * i) (n - i) ≡ all → records_wrong b (start + 64 * (i + 1)) (n - (i + 1)) ≡ all
records_on b start i n all h right so_far = then_on _ _ all (sym right) (sym (records_step b start i n h) ∙ so_far)

pub records_found : (b : List ℕ) (start i n wrong : ℕ) (all : Option ℕ) → i < n → Some wrong ≡ words_wrong b (start + 64 * i) 0 16
    → records_wrong b (start + 64 * i) (n - i) ≡ all → Some wrong ≡ all
records_found b start i n wrong all h found so_far = sym (then_found _ _ all wrong (sym found) (sym (records_step b start i n h) ∙ so_far))

pub records_done : (b : List ℕ) (start i n : ℕ) (all : Option ℕ) → n ≤ i → records_wrong b (start + 64 * i) (n - i) ≡ all → None ≡ all
unfolding records_wrong
records_done b start i n all h so_far = let k : n - i ≡ 0 = omega arith in sym (ap (records_wrong b (start + 64 * i)) k) ∙ so_far

-- one number more is read, and at the end all are
pub numbers_on : (b ws all : List ℕ) (at i n : ℕ) → i < n → ws ++ words_at b (at + 4 * i) (n - i) ≡ all → (ws ++ word_at b (at + 4 * i) ∷ []) ++ words_at b (at + 4 * (i + 1)) (n - (i + 1)) ≡ all
numbers_on b ws all at i n h so_far = append_assoc ws (word_at b (at + 4 * i) ∷ []) _ ∙ ap (λ rest. ws ++ rest) (sym (words_at_step b at i n h)) ∙ so_far

pub numbers_done : (b ws all : List ℕ) (at i n : ℕ) → n ≤ i → ws ++ words_at b (at + 4 * i) (n - i) ≡ all → ws ≡ all
unfolding words_at
numbers_done b ws all at i n h so_far = let k : n - i ≡ 0 = omega arith in sym (append-nil ws) ∙ ap (λ c. ws ++ words_at b (at + 4 * i) c) (sym k) ∙ so_far

pub listed_on : (b : List ℕ) (rs all : List Record) (at i n : ℕ) → i < n → rs ++ records_at b (at + 64 * i) (n - i) ≡ all
    → (rs ++ record_of (word_at b (at + 64 * i)) b (at + 64 * i) ∷ []) ++ records_at b (at + 64 * (i + 1)) (n - (i + 1)) ≡ all
listed_on b rs all at i n h so_far = append_assoc rs (record_of (word_at b (at + 64 * i)) b (at + 64 * i) ∷ []) _ ∙ ap (λ rest. rs ++ rest) (sym (records_at_step b at i n h)) ∙ so_far

pub listed_done : (b : List ℕ) (rs all : List Record) (at i n : ℕ) → n ≤ i → rs ++ records_at b (at + 64 * i) (n - i) ≡ all → rs ≡ all
unfolding records_at
listed_done b rs all at i n h so_far = let k : n - i ≡ 0 = omega arith in sym (append-nil rs) ∙ ap (λ c. rs ++ records_at b (at + 64 * i) c) (sym k) ∙ so_far
