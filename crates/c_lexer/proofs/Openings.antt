-- A literal by its opening: what its fronts are.
use Rattle.std.proofs.Common.{◌≡◌, ℕ, zero, suc, ◌<◌, ◌≤◌, Bool, true, false, ◌&&◌, cond, eqb, [], ◌∷◌, length, take, Option, Some, None, refl, sym, ap, ◌∙◌, subst, ⊎_elim, arith}
use Rattle.std.specs.Prelude.{is_some, nat_eq}
use Rattle.std.specs.Char.{is_ascii_digit}
use Rattle.std.specs.List.{list_all, starts_with}
use Rattle.std.proofs.lemmas.Bool.{and_left, and_right, and_parts, and_cases, or_from, eqb-true, eqb-false, ne_eqb, cond-true, cond-false, both_ways}
use Rattle.c_lexer.specs.declared.literal.Opening.{Opening}
use Rattle.c_lexer.specs.Fronts.{Text, begins_with}
use Rattle.c_lexer.specs.WhiteSpace.{is_newline, opens_comment}
use Rattle.c_lexer.specs.Names.{is_letter, is_word, is_name}
use Rattle.c_lexer.specs.Numbers.{is_point, begins_number, all_go_on, is_number}
use Rattle.c_lexer.specs.Literals.{is_double_quote, is_quote, is_prefix, opens, opening_of, is_closed, is_literal}
use Rattle.c_lexer.specs.Punctuators.{punctuator_of}
use Rattle.c_lexer.proofs.Classes.{prefix_letter, quote_no_letter, quote_no_word, quote_no_digit, quote_no_point, quote_no_mark, quote_no_newline, quote_no_slash, letter_no_digit, letter_no_point, letter_no_mark, letter_no_slash}

-- ---- a text without an opening has no front with one

no_opening_one : (a : ℕ) → is_quote a ≡ false → opening_of (a ∷ []) ≡ None
no_opening_one a h = cond-false (is_quote a) (opens a 1) None h

no_opening_two : (a b : ℕ) (bytes : Text) → is_quote a ≡ false → (is_prefix a && is_quote b) ≡ false → ((eqb a 117 && eqb b 56) && begins_with is_double_quote bytes) ≡ false
    → opening_of (a ∷ b ∷ bytes) ≡ None
no_opening_two a b bytes h k m =
    cond-false (is_quote a) (opens a 1) (cond (is_prefix a && is_quote b) (opens b 2) (cond ((eqb a 117 && eqb b 56) && begins_with is_double_quote bytes) (opens 34 3) None)) h
    ∙ cond-false (is_prefix a && is_quote b) (opens b 2) (cond ((eqb a 117 && eqb b 56) && begins_with is_double_quote bytes) (opens 34 3) None) k
    ∙ cond-false ((eqb a 117 && eqb b 56) && begins_with is_double_quote bytes) (opens 34 3) None m

begins_with_front : (test : ℕ → Bool) (bytes : Text) (k : ℕ) → begins_with test bytes ≡ false → begins_with test (take k bytes) ≡ false
begins_with_front test [] zero h = refl
begins_with_front test [] (suc k) h = refl
begins_with_front test (b ∷ bytes) zero h = refl
begins_with_front test (b ∷ bytes) (suc k) h = h

-- what a choice that gave nothing tells of its test
cond_none : {A : Type 0} (b : Bool) (x : A) (other : Option A) → cond b (Some x) other ≡ None → (b ≡ false) × (other ≡ None)
cond_none true x other h = cc
cond_none false x other h = (refl, h)

u8_front : (a b : ℕ) (bytes : Text) (k : ℕ) → ((eqb a 117 && eqb b 56) && begins_with is_double_quote bytes) ≡ false
    → ((eqb a 117 && eqb b 56) && begins_with is_double_quote (take k bytes)) ≡ false
u8_front a b bytes k h =
    ⊎_elim (λ (c : (eqb a 117 && eqb b 56) ≡ false). and_left (eqb a 117 && eqb b 56) (begins_with is_double_quote (take k bytes)) c)
    (λ (c : begins_with is_double_quote bytes ≡ false). and_right (eqb a 117 && eqb b 56) (begins_with is_double_quote (take k bytes)) (begins_with_front is_double_quote bytes k c))
    (and_cases (eqb a 117 && eqb b 56) (begins_with is_double_quote bytes) h)

no_opening_front : (bytes : Text) (k : ℕ) → opening_of bytes ≡ None → opening_of (take k bytes) ≡ None
no_opening_front bytes zero h = refl
no_opening_front [] (suc k) h = refl
no_opening_front (a ∷ []) (suc zero) h = h
no_opening_front (a ∷ []) (suc (suc k)) h = h
no_opening_front (a ∷ b ∷ bytes) (suc zero) h =
    no_opening_one a (cond_none (is_quote a) (record { quote = a; length = 1 }) (cond (is_prefix a && is_quote b) (opens b 2) (cond ((eqb a 117 && eqb b 56) && begins_with is_double_quote bytes) (opens 34 3) None)) h).0
no_opening_front (a ∷ b ∷ bytes) (suc (suc k)) h =
    let first = cond_none (is_quote a) (record { quote = a; length = 1 }) (cond (is_prefix a && is_quote b) (opens b 2) (cond ((eqb a 117 && eqb b 56) && begins_with is_double_quote bytes) (opens 34 3) None)) h in
    let second = cond_none (is_prefix a && is_quote b) (record { quote = b; length = 2 }) (cond ((eqb a 117 && eqb b 56) && begins_with is_double_quote bytes) (opens 34 3) None) first.1 in
    let third = cond_none ((eqb a 117 && eqb b 56) && begins_with is_double_quote bytes) (record { quote = 34; length = 3 }) None second.1 in
    no_opening_two a b (take k bytes) first.0 second.0 (u8_front a b bytes k third.0)

-- a text without an opening has no front that is a literal
pub no_literal_front : (bytes : Text) (k : ℕ) → opening_of bytes ≡ None → is_literal (take k bytes) ≡ false
unfolding is_literal
no_literal_front bytes k h = ap (is_closed (take k bytes)) (no_opening_front bytes k h)

-- ---- the fronts of a text with an opening

pub record Opened (bytes : Text) (o : Opening) : Type 0 where
  pub within : o.length ≤ length bytes
  pub some : 0 < o.length
  pub quoted : is_newline o.quote ≡ false
  pub no_comment : opens_comment bytes ≡ false
  pub short : (k : ℕ) → k < o.length → is_literal (take k bytes) ≡ false
  pub long : (k : ℕ) → o.length ≤ k → opening_of (take k bytes) ≡ Some o
  pub unnamed : (k : ℕ) → o.length ≤ k → is_name (take k bytes) ≡ false
  pub no_number : (k : ℕ) → is_number (take k bytes) ≡ false
  pub no_mark : (k : ℕ) → is_some (punctuator_of (take k bytes)) ≡ false

turned : (a n : ℕ) → eqb a n ≡ false → eqb n a ≡ false
turned a n h = ne_eqb n a (λ e. eqb-false a n h (sym e))

opening_quote : (q : ℕ) (text : Text) → is_quote q ≡ true → opening_of (q ∷ text) ≡ opens q 1
opening_quote q [] h = cond-true (is_quote q) (opens q 1) None h
opening_quote q (b ∷ text) h =
    cond-true (is_quote q) (opens q 1) (cond (is_prefix q && is_quote b) (opens b 2) (cond ((eqb q 117 && eqb b 56) && begins_with is_double_quote text) (opens 34 3) None)) h

quote_short : (q : ℕ) (rest : Text) (k : ℕ) → k < 1 → is_literal (take k (q ∷ rest)) ≡ false
unfolding is_literal
quote_short q rest zero h = refl
quote_short q rest (suc k) h = absurd (omega arith)

quote_long : (q : ℕ) (rest : Text) (k : ℕ) → is_quote q ≡ true → 1 ≤ k → opening_of (take k (q ∷ rest)) ≡ opens q 1
quote_long q rest zero h less = absurd (omega arith)
quote_long q rest (suc k) h less = opening_quote q (take k rest) h

quote_unnamed : (q : ℕ) (rest : Text) (k : ℕ) → is_quote q ≡ true → is_name (take k (q ∷ rest)) ≡ false
quote_unnamed q rest zero h = refl
quote_unnamed q rest (suc k) h = and_left (is_letter q) (list_all is_word (take k rest)) (quote_no_letter q h)

pub no_number_by : (b : ℕ) (rest : Text) (k : ℕ) → is_ascii_digit b ≡ false → is_point b ≡ false → is_number (take k (b ∷ rest)) ≡ false
no_number_by b rest zero h p = refl
no_number_by b rest (suc k) h p =
    and_left (begins_number (b ∷ take k rest)) (all_go_on b (take k rest))
    (or_from (is_ascii_digit b) (is_point b && begins_with is_ascii_digit (take k rest)) h (and_left (is_point b) (begins_with is_ascii_digit (take k rest)) p))

quote_unmarked : (q : ℕ) (rest : Text) (k : ℕ) → is_quote q ≡ true → is_some (punctuator_of (take k (q ∷ rest))) ≡ false
unfolding punctuator_of
quote_unmarked q rest zero h = refl
quote_unmarked q rest (suc k) h = quote_no_mark q (take k rest) h

letter_unmarked : (a : ℕ) (rest : Text) (k : ℕ) → is_letter a ≡ true → is_some (punctuator_of (take k (a ∷ rest))) ≡ false
unfolding punctuator_of
letter_unmarked a rest zero h = refl
letter_unmarked a rest (suc k) h = letter_no_mark a (take k rest) h

pub no_comment_by : (a : ℕ) (rest : Text) → eqb a 47 ≡ false → opens_comment (a ∷ rest) ≡ false
no_comment_by a rest h = and_left (eqb 47 a) (starts_with nat_eq rest (42 ∷ [])) (turned a 47 h)

opened_quote : (q : ℕ) (rest : Text) → is_quote q ≡ true → Opened (q ∷ rest) (record { quote = q; length = 1 })
opened_quote q rest h = record {
  within = omega arith;
  some = omega arith;
  quoted = quote_no_newline q h;
  no_comment = no_comment_by q rest (quote_no_slash q h);
  short = quote_short q rest;
  long = λ k. quote_long q rest k h;
  unnamed = λ k _. quote_unnamed q rest k h;
  no_number = λ k. no_number_by q rest k (quote_no_digit q h) (quote_no_point q h);
  no_mark = λ k. quote_unmarked q rest k h;
}

prefixed_short : (a q : ℕ) (rest : Text) (k : ℕ) → is_quote a ≡ false → k < 2 → is_literal (take k (a ∷ q ∷ rest)) ≡ false
unfolding is_literal
prefixed_short a q rest zero h less = refl
prefixed_short a q rest (suc zero) h less = ap (is_closed (a ∷ [])) (no_opening_one a h)
prefixed_short a q rest (suc (suc k)) h less = absurd (omega arith)

prefixed_long : (a q : ℕ) (rest : Text) (k : ℕ) → is_quote a ≡ false → (is_prefix a && is_quote q) ≡ true → 2 ≤ k → opening_of (take k (a ∷ q ∷ rest)) ≡ opens q 2
prefixed_long a q rest zero h p less = absurd (omega arith)
prefixed_long a q rest (suc zero) h p less = absurd (omega arith)
prefixed_long a q rest (suc (suc k)) h p less =
    cond-false (is_quote a) (opens a 1) (cond (is_prefix a && is_quote q) (opens q 2) (cond ((eqb a 117 && eqb q 56) && begins_with is_double_quote (take k rest)) (opens 34 3) None)) h
    ∙ cond-true (is_prefix a && is_quote q) (opens q 2) (cond ((eqb a 117 && eqb q 56) && begins_with is_double_quote (take k rest)) (opens 34 3) None) p

prefixed_unnamed : (a q : ℕ) (rest : Text) (k : ℕ) → is_quote q ≡ true → 2 ≤ k → is_name (take k (a ∷ q ∷ rest)) ≡ false
prefixed_unnamed a q rest zero h less = absurd (omega arith)
prefixed_unnamed a q rest (suc zero) h less = absurd (omega arith)
prefixed_unnamed a q rest (suc (suc k)) h less =
    and_right (is_letter a) (is_word q && list_all is_word (take k rest)) (and_left (is_word q) (list_all is_word (take k rest)) (quote_no_word q h))

opened_prefixed : (a q : ℕ) (rest : Text) → is_quote a ≡ false → (is_prefix a && is_quote q) ≡ true → Opened (a ∷ q ∷ rest) (record { quote = q; length = 2 })
opened_prefixed a q rest h p =
    let parts = and_parts (is_prefix a) (is_quote q) p in
    let letter = prefix_letter a parts.0 in
    record {
      within = omega arith;
      some = omega arith;
      quoted = quote_no_newline q parts.1;
      no_comment = no_comment_by a (q ∷ rest) (letter_no_slash a letter);
      short = λ k. prefixed_short a q rest k h;
      long = λ k. prefixed_long a q rest k h p;
      unnamed = λ k. prefixed_unnamed a q rest k parts.1;
      no_number = λ k. no_number_by a (q ∷ rest) k (letter_no_digit a letter) (letter_no_point a letter);
      no_mark = λ k. letter_unmarked a (q ∷ rest) k letter;
    }

u8_short : (rest : Text) (k : ℕ) → k < 3 → is_literal (take k (117 ∷ 56 ∷ 34 ∷ rest)) ≡ false
unfolding is_literal
u8_short rest zero less = refl
u8_short rest (suc zero) less = refl
u8_short rest (suc (suc zero)) less = refl
u8_short rest (suc (suc (suc k))) less = absurd (omega arith)

u8_long : (rest : Text) (k : ℕ) → 3 ≤ k → opening_of (take k (117 ∷ 56 ∷ 34 ∷ rest)) ≡ opens 34 3
u8_long rest zero less = absurd (omega arith)
u8_long rest (suc zero) less = absurd (omega arith)
u8_long rest (suc (suc zero)) less = absurd (omega arith)
u8_long rest (suc (suc (suc k))) less = refl

u8_unnamed : (rest : Text) (k : ℕ) → 3 ≤ k → is_name (take k (117 ∷ 56 ∷ 34 ∷ rest)) ≡ false
u8_unnamed rest zero less = absurd (omega arith)
u8_unnamed rest (suc zero) less = absurd (omega arith)
u8_unnamed rest (suc (suc zero)) less = absurd (omega arith)
u8_unnamed rest (suc (suc (suc k))) less = refl

opened_u8 : (rest : Text) → Opened (117 ∷ 56 ∷ 34 ∷ rest) (record { quote = 34; length = 3 })
opened_u8 rest = record {
  within = omega arith;
  some = omega arith;
  quoted = refl;
  no_comment = refl;
  short = u8_short rest;
  long = u8_long rest;
  unnamed = u8_unnamed rest;
  no_number = λ k. no_number_by 117 (56 ∷ 34 ∷ rest) k refl refl;
  no_mark = λ k. letter_unmarked 117 (56 ∷ 34 ∷ rest) k refl;
}

opened_u8_by : (a b : ℕ) (bytes : Text) → ((eqb a 117 && eqb b 56) && begins_with is_double_quote bytes) ≡ true → Opened (a ∷ b ∷ bytes) (record { quote = 34; length = 3 })
opened_u8_by a b [] h = absurd (both_ways ((eqb a 117 && eqb b 56) && false) (and_right (eqb a 117 && eqb b 56) false refl) h)
opened_u8_by a b (c ∷ rest) h =
    let parts = and_parts (eqb a 117 && eqb b 56) (eqb c 34) h in
    let pair = and_parts (eqb a 117) (eqb b 56) parts.0 in
    let Goal : ℕ → ℕ → ℕ → Type 0 = λ x y z. Opened (x ∷ y ∷ z ∷ rest) (record { quote = 34; length = 3 }) in
    subst (λ x. Goal x b c) (sym (eqb-true a 117 pair.0)) (subst (λ y. Goal 117 y c) (sym (eqb-true b 56 pair.1)) (subst (λ z. Goal 117 56 z) (sym (eqb-true c 34 parts.1)) (opened_u8 rest)))

opened_by : (a b : ℕ) (bytes : Text) (o : Opening) (q : Bool) → is_quote a ≡ q → (p : Bool) → (is_prefix a && is_quote b) ≡ p
    → (u : Bool) → ((eqb a 117 && eqb b 56) && begins_with is_double_quote bytes) ≡ u → cond q (opens a 1) (cond p (opens b 2) (cond u (opens 34 3) None)) ≡ Some o → Opened (a ∷ b ∷ bytes) o
opened_by a b bytes o true e p f u g h = let same : record { quote = a; length = 1 } ≡ o = cc in subst (Opened (a ∷ b ∷ bytes)) same (opened_quote a (b ∷ bytes) e)
opened_by a b bytes o false e true f u g h = let same : record { quote = b; length = 2 } ≡ o = cc in subst (Opened (a ∷ b ∷ bytes)) same (opened_prefixed a b bytes e f)
opened_by a b bytes o false e false f true g h = let same : record { quote = 34; length = 3 } ≡ o = cc in subst (Opened (a ∷ b ∷ bytes)) same (opened_u8_by a b bytes g)
opened_by a b bytes o false e false f false g h = cc

opened_one : (a : ℕ) (o : Opening) (q : Bool) → is_quote a ≡ q → cond q (opens a 1) None ≡ Some o → Opened (a ∷ []) o
opened_one a o true e h = let same : record { quote = a; length = 1 } ≡ o = cc in subst (Opened (a ∷ [])) same (opened_quote a [] e)
opened_one a o false e h = cc

pub opened : (bytes : Text) (o : Opening) → opening_of bytes ≡ Some o → Opened bytes o
opened [] o h = cc
opened (a ∷ []) o h = opened_one a o (is_quote a) refl h
opened (a ∷ b ∷ bytes) o h =
    opened_by a b bytes o (is_quote a) refl (is_prefix a && is_quote b) refl ((eqb a 117 && eqb b 56) && begins_with is_double_quote bytes) refl h
