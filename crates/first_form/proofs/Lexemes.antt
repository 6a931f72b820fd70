-- Lexemes by the runs of bytes in front.
use Rattle.std.specs.Prelude.{◌&&◌}
use Rattle.std.proofs.Common.{◌≡◌, ◌≤◌, ◌<◌, ◌+◌, ℕ, suc, Bool, true, false, List, [], ◌∷◌, length, take, drop, refl, sym, ap, subst, ◌∙◌, arith}
use Rattle.std.proofs.lemmas.Bool.Decides.{nat_tests}
use Rattle.std.specs.List.{prefix_len}
use Rattle.first_form.specs.Lexemes.{starts_word, is_space, is_word, onto_first, lexemes, lexeme_length}

one_more : (n : ℕ) → 1 + n ≡ suc n
one_more n = omega arith

past_space : (b : ℕ) (bs : List ℕ) (t : Bool) → is_space b ≡ t → lexemes (drop (prefix_len is_space bs) bs) ≡ lexemes bs → lexemes (drop (prefix_len is_space (b ∷ bs)) (b ∷ bs)) ≡ lexemes (b ∷ bs)
past_space b bs true e h = rw (e, one_more (prefix_len is_space bs)) h
past_space b bs false e h = rw (e, e) refl

-- white space in front changes no lexeme
pub lexemes_past_spaces : (bs : List ℕ) → lexemes (drop (prefix_len is_space bs) bs) ≡ lexemes bs
lexemes_past_spaces [] = refl
lexemes_past_spaces (b ∷ bs) = past_space b bs (is_space b) refl (lexemes_past_spaces bs)

front_past : (b : ℕ) (bs : List ℕ) (t : Bool) → is_space b ≡ t → prefix_len is_space (drop (prefix_len is_space bs) bs) ≡ 0 → prefix_len is_space (drop (prefix_len is_space (b ∷ bs)) (b ∷ bs)) ≡ 0
front_past b bs true e h = rw (e, one_more (prefix_len is_space bs)) h
front_past b bs false e h = rw (e, e) refl

-- and behind it there is none
pub no_space_past_spaces : (bs : List ℕ) → prefix_len is_space (drop (prefix_len is_space bs) bs) ≡ 0
no_space_past_spaces [] = refl
no_space_past_spaces (b ∷ bs) = front_past b bs (is_space b) refl (no_space_past_spaces bs)

within_step : (p : ℕ → Bool) (b : ℕ) (bs : List ℕ) (t : Bool) → p b ≡ t → prefix_len p bs ≤ length bs → prefix_len p (b ∷ bs) ≤ length (b ∷ bs)
within_step p b bs true e h = rw e (omega arith)
within_step p b bs false e h = rw e (omega arith)

pub prefix_within : (p : ℕ → Bool) (bs : List ℕ) → prefix_len p bs ≤ length bs
prefix_within p [] = omega arith
prefix_within p (b ∷ bs) = within_step p b bs (p b) refl (prefix_within p bs)

-- a letter, a digit or an underscore is no white space
word_no_space : (b : ℕ) → is_word b ≡ true → is_space b ≡ false
word_no_space b h = grind (arith, nat_tests)

-- the first n bytes are the lexeme in front
abbrev SplitsAt : ℕ → List ℕ → Type 0
SplitsAt n bs = lexemes bs ≡ take n bs ∷ lexemes (drop n bs)

prefix_more : (b : ℕ) (bs : List ℕ) → is_word b ≡ true → prefix_len is_word (b ∷ bs) ≡ suc (prefix_len is_word bs)
prefix_more b bs w = rw w (one_more (prefix_len is_word bs))

lexemes_more : (b c : ℕ) (cs : List ℕ) → is_word b ≡ true → is_word c ≡ true → lexemes (b ∷ c ∷ cs) ≡ onto_first b (lexemes (c ∷ cs))
lexemes_more b c cs wb wc = rw (word_no_space b wb, wb, wc) refl

word_more : (b c : ℕ) (cs : List ℕ) (t : Bool) → is_word b ≡ true → is_word c ≡ t → (is_word c ≡ true → SplitsAt (prefix_len is_word (c ∷ cs)) (c ∷ cs)) → SplitsAt (prefix_len is_word (b ∷ c ∷ cs)) (b ∷ c ∷ cs)
word_more b c cs true wb wc h = subst (λ n. SplitsAt n (b ∷ c ∷ cs)) (sym (prefix_more b (c ∷ cs) wb)) (lexemes_more b c cs wb wc ∙ ap (onto_first b) (h wc))
word_more b c cs false wb wc h = rw (word_no_space b wb, wb, wc, wc) refl

-- a run of letters, digits and underscores is one lexeme
word_lexeme : (b : ℕ) (bs : List ℕ) → is_word b ≡ true → SplitsAt (prefix_len is_word (b ∷ bs)) (b ∷ bs)
word_lexeme b [] w = rw (word_no_space b w, w) refl
word_lexeme b (c ∷ cs) w = word_more b c cs (is_word c) w refl (word_lexeme c cs)

no_space_first : (b : ℕ) (bs : List ℕ) (t : Bool) → is_space b ≡ t → prefix_len is_space (b ∷ bs) ≡ 0 → is_space b ≡ false
no_space_first b bs true e h = absurd (omega (arith, rw e at h))
no_space_first b bs false e h = e

word_length : (b : ℕ) (bs : List ℕ) → is_word b ≡ true → lexeme_length (b ∷ bs) ≡ prefix_len is_word (b ∷ bs)
word_length b bs w = rw w refl

split_first : (b : ℕ) (bs : List ℕ) (t : Bool) → is_word b ≡ t → is_space b ≡ false → SplitsAt (lexeme_length (b ∷ bs)) (b ∷ bs)
split_first b bs true w s = subst (λ n. SplitsAt n (b ∷ bs)) (sym (word_length b bs w)) (word_lexeme b bs w)
split_first b bs false w s = rw (s, w) refl

-- the lexeme in front, and what stands behind it
pub lexemes_split : (bs : List ℕ) → prefix_len is_space bs ≡ 0 → 0 < lexeme_length bs → lexemes bs ≡ take (lexeme_length bs) bs ∷ lexemes (drop (lexeme_length bs) bs)
lexemes_split [] s h = absurd (omega arith)
lexemes_split (b ∷ bs) s h = split_first b bs (is_word b) refl (no_space_first b bs (is_space b) refl s)

length_within : (b : ℕ) (bs : List ℕ) (t : Bool) → is_word b ≡ t → prefix_len is_word (b ∷ bs) ≤ length (b ∷ bs) → lexeme_length (b ∷ bs) ≤ length (b ∷ bs)
length_within b bs true w h = subst (λ n. n ≤ length (b ∷ bs)) (sym (word_length b bs w)) h
length_within b bs false w h = rw w (omega arith)

pub lexeme_within : (bs : List ℕ) → lexeme_length bs ≤ length bs
lexeme_within [] = omega arith
lexeme_within (b ∷ bs) = length_within b bs (is_word b) refl (prefix_within is_word (b ∷ bs))

some_lexeme : (b : ℕ) (bs : List ℕ) (t : Bool) → is_word b ≡ t → 0 < lexeme_length (b ∷ bs)
some_lexeme b bs true w = rw w (omega arith)
some_lexeme b bs false w = rw w (omega arith)

pub no_lexeme : (bs : List ℕ) → lexeme_length bs ≡ 0 → bs ≡ []
no_lexeme [] h = refl
no_lexeme (b ∷ bs) h = absurd (omega (arith, some_lexeme b bs (is_word b) refl))

onto_first_length : (b : ℕ) (ts : List (List ℕ)) → length (onto_first b ts) ≤ suc (length ts)
onto_first_length b [] = omega arith
onto_first_length b (t ∷ ts) = omega arith

-- one more byte makes at most one more lexeme
count_step : (b : ℕ) (bs : List ℕ) (space word : Bool) → is_space b ≡ space → (is_word b && starts_word bs) ≡ word → length (lexemes bs) ≤ length bs → length (lexemes (b ∷ bs)) ≤ length (b ∷ bs)
count_step b bs true word es ew h = rw es (omega arith)
count_step b bs false true es ew h = rw (es, ew) (omega (arith, onto_first_length b (lexemes bs)))
count_step b bs false false es ew h = rw (es, ew) (omega arith)

-- there are no more lexemes than bytes
pub lexemes_few : (bs : List ℕ) → length (lexemes bs) ≤ length bs
lexemes_few [] = omega arith
lexemes_few (b ∷ bs) = count_step b bs (is_space b) (is_word b && starts_word bs) refl refl (lexemes_few bs)
