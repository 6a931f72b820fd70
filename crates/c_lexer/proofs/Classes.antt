-- Which bytes begin which tokens.
use Rattle.std.proofs.Common.{◌≡◌, ℕ, ◌<◌, Bool, true, false, not, ◌&&◌, eqb, leb, List, [], ◌∷◌, length, Some, None, refl, sym, ap, ◌∙◌, arith}
use Rattle.std.specs.Prelude.{is_some}
use Rattle.std.specs.Char.{is_ascii_digit}
use Rattle.std.specs.List.{list_any, list_all}
use Rattle.std.specs.Str.{bytes_eq}
use Rattle.std.proofs.lemmas.Bool.{and_left, and_right, and_parts, or_parts, agree_below, agree_below_at, cond-false, not-false, leb-true}
use Rattle.std.proofs.lemmas.Bool.Decides.{nat_tests}
use Rattle.c_tree.specs.declared.token.Punct.{Punct}
use Rattle.c_tree.specs.declared.token.Punct.TheVariants as mark
use Rattle.c_lexer.specs.Fronts.{Text, begins_with, lookup}
use Rattle.c_lexer.specs.Names.{is_letter, is_word}
use Rattle.c_lexer.specs.Numbers.{is_point}
use Rattle.c_lexer.specs.Literals.{is_quote, is_prefix}
use Rattle.c_lexer.specs.Punctuators.{punctuators, punctuator_of}

-- ---- tests that exclude each other below 128

excludes : (p q : ℕ → Bool) → agree_below (λ b. p b && q b) (λ _. false) 128 ≡ true → (b : ℕ) → b < 128 → p b ≡ true → q b ≡ false
excludes p q table b small h = sym (ap (λ t. t && q b) h) ∙ agree_below_at (λ c. p c && q c) (λ _. false) 128 b table small

letter_small : (b : ℕ) → is_letter b ≡ true → b < 128
letter_small b h = grind (arith, nat_tests)

digit_small : (b : ℕ) → is_ascii_digit b ≡ true → b < 128
digit_small b h = grind (arith, nat_tests)

quote_small : (b : ℕ) → is_quote b ≡ true → b < 128
quote_small b h = grind (arith, nat_tests)

-- some punctuator begins with the byte
begins_mark : ℕ → Bool
begins_mark b = list_any (λ (entry : Text × Punct). begins_with (λ c. eqb c b) entry.0) punctuators

pub letter_no_digit : (b : ℕ) → is_letter b ≡ true → is_ascii_digit b ≡ false
letter_no_digit b h = excludes is_letter is_ascii_digit refl b (letter_small b h) h

pub letter_no_point : (b : ℕ) → is_letter b ≡ true → is_point b ≡ false
letter_no_point b h = excludes is_letter is_point refl b (letter_small b h) h

pub letter_no_slash : (b : ℕ) → is_letter b ≡ true → eqb b 47 ≡ false
letter_no_slash b h = excludes is_letter (λ c. eqb c 47) refl b (letter_small b h) h

pub digit_no_letter : (b : ℕ) → is_ascii_digit b ≡ true → is_letter b ≡ false
digit_no_letter b h = excludes is_ascii_digit is_letter refl b (digit_small b h) h

pub digit_no_slash : (b : ℕ) → is_ascii_digit b ≡ true → eqb b 47 ≡ false
digit_no_slash b h = excludes is_ascii_digit (λ c. eqb c 47) refl b (digit_small b h) h

pub digit_other : (b : ℕ) → is_ascii_digit b ≡ true → eqb 46 b ≡ false
digit_other b h = excludes is_ascii_digit (λ c. eqb 46 c) refl b (digit_small b h) h

pub quote_no_word : (b : ℕ) → is_quote b ≡ true → is_word b ≡ false
quote_no_word b h = excludes is_quote is_word refl b (quote_small b h) h

pub quote_no_letter : (b : ℕ) → is_quote b ≡ true → is_letter b ≡ false
quote_no_letter b h = excludes is_quote is_letter refl b (quote_small b h) h

pub quote_no_digit : (b : ℕ) → is_quote b ≡ true → is_ascii_digit b ≡ false
quote_no_digit b h = excludes is_quote is_ascii_digit refl b (quote_small b h) h

pub quote_no_point : (b : ℕ) → is_quote b ≡ true → is_point b ≡ false
quote_no_point b h = excludes is_quote is_point refl b (quote_small b h) h

pub quote_no_newline : (b : ℕ) → is_quote b ≡ true → eqb b 10 ≡ false
quote_no_newline b h = excludes is_quote (λ c. eqb c 10) refl b (quote_small b h) h

pub quote_no_slash : (b : ℕ) → is_quote b ≡ true → eqb b 47 ≡ false
quote_no_slash b h = excludes is_quote (λ c. eqb c 47) refl b (quote_small b h) h

prefix_small : (b : ℕ) → is_prefix b ≡ true → b < 128
prefix_small b h = grind (arith, nat_tests)

pub prefix_letter : (b : ℕ) → is_prefix b ≡ true → is_letter b ≡ true
prefix_letter b h = not-false (is_letter b) (excludes is_prefix (λ c. not (is_letter c)) refl b (prefix_small b h) h)

-- ---- punctuators by their first byte and by their length

first_differs : (key : Text) (b : ℕ) (bytes : Text) → begins_with (λ c. eqb c b) key ≡ false → bytes_eq key (b ∷ bytes) ≡ false
first_differs [] b bytes h = refl
first_differs (c ∷ key) b bytes h = and_left (eqb c b) (bytes_eq key bytes) h

lookup_first : {V : Type 0} (table : List (Text × V)) (b : ℕ) (bytes : Text) → list_any (λ (entry : Text × V). begins_with (λ c. eqb c b) entry.0) table ≡ false → lookup table (b ∷ bytes) ≡ None
lookup_first [] b bytes h = refl
lookup_first {V} (entry ∷ table) b bytes h =
    let parts = or_parts (begins_with (λ c. eqb c b) entry.0) (list_any (λ (e : Text × V). begins_with (λ c. eqb c b) e.0) table) h in
    cond-false (bytes_eq entry.0 (b ∷ bytes)) (Some entry.1) (lookup table (b ∷ bytes)) (first_differs entry.0 b bytes parts.0) ∙ lookup_first table b bytes parts.1

no_mark : (b : ℕ) (bytes : Text) → begins_mark b ≡ false → is_some (punctuator_of (b ∷ bytes)) ≡ false
unfolding begins_mark punctuator_of
no_mark b bytes h = ap is_some (lookup_first punctuators b bytes h)

pub letter_no_mark : (b : ℕ) (bytes : Text) → is_letter b ≡ true → is_some (punctuator_of (b ∷ bytes)) ≡ false
unfolding begins_mark
letter_no_mark b bytes h = no_mark b bytes (excludes is_letter begins_mark refl b (letter_small b h) h)

pub digit_no_mark : (b : ℕ) (bytes : Text) → is_ascii_digit b ≡ true → is_some (punctuator_of (b ∷ bytes)) ≡ false
unfolding begins_mark
digit_no_mark b bytes h = no_mark b bytes (excludes is_ascii_digit begins_mark refl b (digit_small b h) h)

pub quote_no_mark : (b : ℕ) (bytes : Text) → is_quote b ≡ true → is_some (punctuator_of (b ∷ bytes)) ≡ false
unfolding begins_mark
quote_no_mark b bytes h = no_mark b bytes (excludes is_quote begins_mark refl b (quote_small b h) h)

-- a point and a digit begin no punctuator
pub point_no_mark : (c : ℕ) (bytes : Text) → is_ascii_digit c ≡ true → is_some (punctuator_of (46 ∷ c ∷ bytes)) ≡ false
unfolding punctuator_of
point_no_mark c bytes h =
    ap is_some (cond-false (eqb 46 c && bytes_eq (46 ∷ []) bytes) (Some mark.Ellipsis) None (and_left (eqb 46 c) (bytes_eq (46 ∷ []) bytes) (digit_other c h)))

length_differs : (key text : Text) → length key < length text → bytes_eq key text ≡ false
length_differs key [] h = absurd (omega arith)
length_differs [] (b ∷ text) h = refl
length_differs (c ∷ key) (b ∷ text) h = and_right (eqb c b) (bytes_eq key text) (length_differs key text (omega arith))

lookup_long : {V : Type 0} (table : List (Text × V)) (n : ℕ) (text : Text) → list_all (λ (entry : Text × V). leb (length entry.0) n) table ≡ true → n < length text → lookup table text ≡ None
lookup_long [] n text h long = refl
lookup_long {V} (entry ∷ table) n text h long =
    let parts = and_parts (leb (length entry.0) n) (list_all (λ (e : Text × V). leb (length e.0) n) table) h in
    let short = leb-true (length entry.0) n parts.0 in
    cond-false (bytes_eq entry.0 text) (Some entry.1) (lookup table text) (length_differs entry.0 text (omega arith)) ∙ lookup_long table n text parts.1 long

-- no punctuator has more than three bytes
pub long_no_mark : (text : Text) → 3 < length text → is_some (punctuator_of text) ≡ false
unfolding punctuator_of
long_no_mark text h = ap is_some (lookup_long punctuators 3 text refl h)
