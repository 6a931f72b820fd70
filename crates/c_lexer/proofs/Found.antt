-- The token that the scanner finds is the longest in front, and is read by its form.
use Rattle.std.proofs.Common.{◌≡◌, ℕ, zero, suc, ◌+◌, ◌<◌, ◌≤◌, Bool, true, false, ◌&&◌, ◌||◌, cond, eqb, [], ◌∷◌, length, take, drop, Option, Some, None, ◌⊎◌, inl, inr, refl, sym, ap, ◌∙◌, subst, arith}
use Rattle.std.specs.Prelude.{is_some}
use Rattle.std.specs.Char.{is_ascii_digit}
use Rattle.std.specs.List.{list_all, prefix_len}
use Rattle.std.specs.Option.{option_map}
use Rattle.std.proofs.lemmas.Bool.{and_from, and_left, and_right, or_from, or_left, or_right, eq-eqb, ne_eqb, both_ways, cond-true, cond-false}
use Rattle.std.proofs.lemmas.List.Sums.{prefix_len-le-length}
use Rattle.c_tree.specs.declared.token.Punct.{Punct}
use Rattle.c_lexer.specs.declared.lexeme.Form.{Form}
use Rattle.c_lexer.specs.declared.lexeme.Form.TheVariants as form
use Rattle.c_lexer.specs.declared.literal.Opening.{Opening}
use Rattle.c_lexer.specs.Fronts.{Text, begins_with, longest}
use Rattle.c_lexer.specs.WhiteSpace.{opens_comment}
use Rattle.c_lexer.specs.Names.{is_letter, is_word, is_name, keyword_of}
use Rattle.c_lexer.specs.Numbers.{begins_number, is_number, reading_of_number}
use Rattle.c_lexer.specs.Literals.{opening_of, is_literal, reading_of_literal, reading_of_opened}
use Rattle.c_lexer.specs.Punctuators.{punctuator_of}
use Rattle.c_lexer.specs.Lexemes.{is_lexeme, reading_of_word, reading_of_punctuator, reading_of}
use Rattle.c_lexer.specs.Tokens.{is_unclosed}
use Rattle.c_lexer.specs.Scan.{closing_len, number_len, punctuator_in, number_lexeme, lexeme_by, lexeme, reading_as}
use Rattle.c_lexer.proofs.Longest.{longest_is, longest_same}
use Rattle.c_lexer.proofs.Runs.{list_all_front, list_all_beyond}
use Rattle.c_lexer.proofs.Classes.{letter_no_digit, letter_no_point, letter_no_mark, letter_no_slash}
use Rattle.c_lexer.proofs.Numerals.{number_len_within, number_here, number_beyond, number_no_letter, number_no_slash, number_no_mark, no_number_front}
use Rattle.c_lexer.proofs.Openings.{no_literal_front, Opened, opened, no_number_by, no_comment_by}
use Rattle.c_lexer.proofs.Quoted.{Quoted, quoted}
use Rattle.c_lexer.proofs.Marks.{is_mark, Marked, marked}

-- ---- what is found

pub record IsToken (bytes : Text) (f : Form) (n : ℕ) : Type 0 where
  pub length_is : longest is_lexeme bytes ≡ n
  pub some : 0 < n
  pub within : n ≤ length bytes
  pub closed : is_unclosed bytes ≡ false
  pub read : reading_of (take n bytes) ≡ reading_as f (take n bytes)

-- a comment or a literal that does not end begins in front, or no front is a token
abbrev pub NoToken : Text → Type 0
NoToken bytes = (is_unclosed bytes ≡ true) ⊎ (longest is_lexeme bytes ≡ 0)

abbrev pub Found : Text → Option (Form × ℕ) → Type 0
Found bytes None = NoToken bytes
Found bytes (Some found) = IsToken bytes found.0 found.1

-- ---- the forms of a text, one by one

lexeme_false : (text : Text) → is_name text ≡ false → is_number text ≡ false → is_literal text ≡ false → is_mark text ≡ false → is_lexeme text ≡ false
lexeme_false text a b c d =
    or_from (is_name text) (is_number text || (is_literal text || is_mark text)) a
    (or_from (is_number text) (is_literal text || is_mark text) b (or_from (is_literal text) (is_mark text) c d))

lexeme_name : (text : Text) → is_name text ≡ true → is_lexeme text ≡ true
lexeme_name text h = or_left (is_name text) (is_number text || (is_literal text || is_mark text)) h

lexeme_number : (text : Text) → is_number text ≡ true → is_lexeme text ≡ true
lexeme_number text h =
    or_right (is_name text) (is_number text || (is_literal text || is_mark text)) (or_left (is_number text) (is_literal text || is_mark text) h)

lexeme_literal : (text : Text) → is_literal text ≡ true → is_lexeme text ≡ true
lexeme_literal text h =
    or_right (is_name text) (is_number text || (is_literal text || is_mark text))
    (or_right (is_number text) (is_literal text || is_mark text) (or_left (is_literal text) (is_mark text) h))

lexeme_mark : (text : Text) → is_name text ≡ false → is_number text ≡ false → is_literal text ≡ false → is_lexeme text ≡ is_mark text
lexeme_mark text a b c =
    ap (λ t. t || (is_number text || (is_literal text || is_mark text))) a ∙ ap (λ t. t || (is_literal text || is_mark text)) b ∙ ap (λ t. t || is_mark text) c

read_name : (text : Text) → is_name text ≡ true → reading_of text ≡ reading_of_word text (keyword_of text)
unfolding reading_of
read_name text h =
    cond-true (is_name text) (reading_of_word text (keyword_of text))
    (cond (is_number text) (reading_of_number text) (cond (is_literal text) (reading_of_literal text) (reading_of_punctuator (punctuator_of text)))) h

read_unnamed : (text : Text) → is_name text ≡ false
    → reading_of text ≡ cond (is_number text) (reading_of_number text) (cond (is_literal text) (reading_of_literal text) (reading_of_punctuator (punctuator_of text)))
unfolding reading_of
read_unnamed text h =
    cond-false (is_name text) (reading_of_word text (keyword_of text))
    (cond (is_number text) (reading_of_number text) (cond (is_literal text) (reading_of_literal text) (reading_of_punctuator (punctuator_of text)))) h

read_number : (text : Text) → is_name text ≡ false → is_number text ≡ true → reading_of text ≡ reading_of_number text
read_number text a b =
    read_unnamed text a ∙ cond-true (is_number text) (reading_of_number text) (cond (is_literal text) (reading_of_literal text) (reading_of_punctuator (punctuator_of text))) b

read_literal : (text : Text) → is_name text ≡ false → is_number text ≡ false → is_literal text ≡ true → reading_of text ≡ reading_of_literal text
read_literal text a b c =
    read_unnamed text a ∙ cond-false (is_number text) (reading_of_number text) (cond (is_literal text) (reading_of_literal text) (reading_of_punctuator (punctuator_of text))) b
    ∙ cond-true (is_literal text) (reading_of_literal text) (reading_of_punctuator (punctuator_of text)) c

read_mark : (text : Text) → is_name text ≡ false → is_number text ≡ false → is_literal text ≡ false → reading_of text ≡ reading_of_punctuator (punctuator_of text)
read_mark text a b c =
    read_unnamed text a ∙ cond-false (is_number text) (reading_of_number text) (cond (is_literal text) (reading_of_literal text) (reading_of_punctuator (punctuator_of text))) b
    ∙ cond-false (is_literal text) (reading_of_literal text) (reading_of_punctuator (punctuator_of text)) c

-- ---- a literal

literal_read : (bytes : Text) (o : Opening) → Opened bytes o → (k : ℕ) → o.length ≤ k → is_literal (take k bytes) ≡ true → reading_of (take k bytes) ≡ reading_as (form.Literal o) (take k bytes)
unfolding reading_of_literal
literal_read bytes o open' k long here =
    read_literal (take k bytes) (open'.unnamed k long) (open'.no_number k) here ∙ ap (reading_of_opened (take k bytes)) (open'.long k long)

literal_found : (bytes : Text) (o : Opening) → opening_of bytes ≡ Some o → Opened bytes o → (found : Option ℕ) → Quoted bytes o found
    → Found bytes (option_map (λ n. (form.Literal o, o.length + n)) found)
literal_found bytes o e open' None q =
    inl (or_right (opens_comment bytes) (is_some (opening_of bytes) && eqb (longest is_literal bytes) 0)
    (and_from (is_some (opening_of bytes)) (eqb (longest is_literal bytes) 0) (ap is_some e) (eq-eqb (longest is_literal bytes) 0 q.length_is)))
literal_found bytes o e open' (Some n) q =
    let some = open'.some in
    let length_is = q.length_is in
    let here = q.here (omega arith) in
    record {
      length_is = longest_is is_lexeme bytes (o.length + n) q.within (λ _. lexeme_literal (take (o.length + n) bytes) here)
          (λ k less within. lexeme_false (take k bytes) (open'.unnamed k (omega arith)) (open'.no_number k) (q.beyond k less within) (open'.no_mark k));
      some = omega arith;
      within = q.within;
      closed = or_from (opens_comment bytes) (is_some (opening_of bytes) && eqb (longest is_literal bytes) 0) open'.no_comment
          (and_right (is_some (opening_of bytes)) (eqb (longest is_literal bytes) 0) (ne_eqb (longest is_literal bytes) 0 (λ h. omega arith)));
      read = literal_read bytes o open' (o.length + n) (omega arith) here;
    }

-- ---- no literal

unopened : (bytes : Text) → opening_of bytes ≡ None → opens_comment bytes ≡ false → is_unclosed bytes ≡ false
unopened bytes e h =
    or_from (opens_comment bytes) (is_some (opening_of bytes) && eqb (longest is_literal bytes) 0) h
    (and_left (is_some (opening_of bytes)) (eqb (longest is_literal bytes) 0) (ap is_some e))

number_no_comment : (b : ℕ) (rest : Text) → begins_number (b ∷ rest) ≡ true → opens_comment (b ∷ rest) ≡ false
number_no_comment b rest h = no_comment_by b rest (number_no_slash b rest h)

number_found_here : (b : ℕ) (rest : Text) (n : ℕ) → n ≡ suc (number_len b rest) → begins_number (b ∷ rest) ≡ true → is_number (take n (b ∷ rest)) ≡ true
number_found_here b rest n e h = subst (λ k. is_number (take k (b ∷ rest)) ≡ true) (sym e) (number_here b rest h)

number_unnamed : (b : ℕ) (rest : Text) (k : ℕ) → begins_number (b ∷ rest) ≡ true → is_name (take k (b ∷ rest)) ≡ false
number_unnamed b rest zero h = refl
number_unnamed b rest (suc k) h = and_left (is_letter b) (list_all is_word (take k rest)) (number_no_letter b rest h)

number_found_beyond : (b : ℕ) (rest : Text) (k : ℕ) → opening_of (b ∷ rest) ≡ None → begins_number (b ∷ rest) ≡ true → 1 + number_len b rest < k → k ≤ length (b ∷ rest)
    → is_lexeme (take k (b ∷ rest)) ≡ false
number_found_beyond b rest zero e h less within = absurd (omega arith)
number_found_beyond b rest (suc k) e h less within =
    lexeme_false (b ∷ take k rest) (number_unnamed b rest (suc k) h) (number_beyond b rest k (omega arith) (omega arith)) (no_literal_front (b ∷ rest) (suc k) e) (number_no_mark b rest k h (omega arith))

number_found : (bytes : Text) → opening_of bytes ≡ None → begins_number bytes ≡ true → Found bytes (Some (number_lexeme bytes))
number_found [] e h = absurd (both_ways (begins_number []) refl h)
number_found (b ∷ rest) e h =
    let n : 1 + number_len b rest ≡ suc (number_len b rest) = omega arith in
    let within = number_len_within b rest in
    let here = number_found_here b rest (1 + number_len b rest) n h in
    record {
      length_is = longest_is is_lexeme (b ∷ rest) (1 + number_len b rest) (omega arith) (λ _. lexeme_number (take (1 + number_len b rest) (b ∷ rest)) here)
          (λ k less inside. number_found_beyond b rest k e h less inside);
      some = omega arith;
      within = omega arith;
      closed = unopened (b ∷ rest) e (number_no_comment b rest h);
      read = read_number (take (1 + number_len b rest) (b ∷ rest)) (number_unnamed b rest (1 + number_len b rest) h) here;
    }

-- ---- a name or keyword

word_len_is : (b : ℕ) (rest : Text) → is_letter b ≡ true → prefix_len is_word (b ∷ rest) ≡ suc (prefix_len is_word rest)
word_len_is b rest h =
    cond-true (is_word b) (1 + prefix_len is_word rest) 0 (or_left (is_letter b) (is_ascii_digit b) h) ∙ (let e : 1 + prefix_len is_word rest ≡ suc (prefix_len is_word rest) = omega arith in e)

word_here : (b : ℕ) (rest : Text) → is_letter b ≡ true → is_name (take (prefix_len is_word (b ∷ rest)) (b ∷ rest)) ≡ true
word_here b rest h =
    subst (λ k. is_name (take k (b ∷ rest)) ≡ true) (sym (word_len_is b rest h))
    (and_from (is_letter b) (list_all is_word (take (prefix_len is_word rest) rest)) h (list_all_front is_word rest))

word_beyond : (b : ℕ) (rest : Text) (k : ℕ) → opening_of (b ∷ rest) ≡ None → is_letter b ≡ true → suc (prefix_len is_word rest) < k → k ≤ length (b ∷ rest) → is_lexeme (take k (b ∷ rest)) ≡ false
word_beyond b rest zero e h less within = absurd (omega arith)
word_beyond b rest (suc k) e h less within =
    lexeme_false (b ∷ take k rest) (and_right (is_letter b) (list_all is_word (take k rest)) (list_all_beyond is_word rest k (omega arith) (omega arith)))
    (no_number_by b rest (suc k) (letter_no_digit b h) (letter_no_point b h)) (no_literal_front (b ∷ rest) (suc k) e) (letter_no_mark b (take k rest) h)

word_found : (bytes : Text) → opening_of bytes ≡ None → begins_with is_letter bytes ≡ true → Found bytes (Some (form.Word, prefix_len is_word bytes))
word_found [] e h = absurd (both_ways (begins_with is_letter []) refl h)
word_found (b ∷ rest) e h =
    let n = word_len_is b rest h in
    record {
      length_is = longest_is is_lexeme (b ∷ rest) (prefix_len is_word (b ∷ rest)) (prefix_len-le-length is_word (b ∷ rest))
          (λ _. lexeme_name (take (prefix_len is_word (b ∷ rest)) (b ∷ rest)) (word_here b rest h)) (λ k less within. word_beyond b rest k e h (omega arith) within);
      some = omega arith;
      within = prefix_len-le-length is_word (b ∷ rest);
      closed = unopened (b ∷ rest) e (no_comment_by b rest (letter_no_slash b h));
      read = read_name (take (prefix_len is_word (b ∷ rest)) (b ∷ rest)) (word_here b rest h);
    }

-- ---- a punctuator

no_name_front : (bytes : Text) (k : ℕ) → begins_with is_letter bytes ≡ false → is_name (take k bytes) ≡ false
no_name_front bytes zero h = refl
no_name_front [] (suc k) h = refl
no_name_front (b ∷ bytes) (suc k) h = and_left (is_letter b) (list_all is_word (take k bytes)) h

mark_found_by : (bytes : Text) → opening_of bytes ≡ None → opens_comment bytes ≡ false → begins_with is_letter bytes ≡ false → begins_number bytes ≡ false
    → longest is_lexeme bytes ≡ longest is_mark bytes → (found : Option (Punct × ℕ)) → Marked bytes found → Found bytes (option_map (λ (f : Punct × ℕ). (form.Punctuator f.0, f.1)) found)
mark_found_by bytes e c l d same None m = inr (same ∙ m.length_is)
mark_found_by bytes e c l d same (Some found) m =
    let text = take found.1 bytes in
    record {
      length_is = same ∙ m.length_is;
      some = m.found_is.some;
      within = m.found_is.within;
      closed = unopened bytes e c;
      read = read_mark (take found.1 bytes) (no_name_front bytes found.1 l) (no_number_front bytes found.1 d) (no_literal_front bytes found.1 e) ∙ ap reading_of_punctuator m.found_is.is;
    }

mark_found : (bytes : Text) → opening_of bytes ≡ None → opens_comment bytes ≡ false → begins_with is_letter bytes ≡ false → begins_number bytes ≡ false
    → Found bytes (option_map (λ (f : Punct × ℕ). (form.Punctuator f.0, f.1)) (punctuator_in bytes))
mark_found bytes e c l d =
    mark_found_by bytes e c l d
    (longest_same is_lexeme is_mark bytes (λ k _ _. lexeme_mark (take k bytes) (no_name_front bytes k l) (no_number_front bytes k d) (no_literal_front bytes k e)))
    (punctuator_in bytes) (marked bytes)

-- ---- all of them

comment_found : (bytes : Text) → opens_comment bytes ≡ true → NoToken bytes
comment_found bytes h = inl (or_left (opens_comment bytes) (is_some (opening_of bytes) && eqb (longest is_literal bytes) 0) h)

unquoted_by : (bytes : Text) → opening_of bytes ≡ None → (d : Bool) → begins_number bytes ≡ d → (c : Bool) → opens_comment bytes ≡ c → (l : Bool) → begins_with is_letter bytes ≡ l
    → Found bytes (cond d (Some (number_lexeme bytes)) (cond c None (cond l (Some (form.Word, prefix_len is_word bytes)) (option_map (λ (f : Punct × ℕ). (form.Punctuator f.0, f.1)) (punctuator_in bytes)))))
unquoted_by bytes e true d c c' l l' = number_found bytes e d
unquoted_by bytes e false d true c' l l' = comment_found bytes c'
unquoted_by bytes e false d false c' true l' = word_found bytes e l'
unquoted_by bytes e false d false c' false l' = mark_found bytes e c' l' d

found_by : (bytes : Text) (o : Option Opening) → opening_of bytes ≡ o → Found bytes (lexeme_by bytes o)
found_by bytes (Some o) e =
    let open' = opened bytes o e in
    literal_found bytes o e open' (closing_len o.quote false (drop o.length bytes)) (quoted bytes o open')
found_by bytes None e = unquoted_by bytes e (begins_number bytes) refl (opens_comment bytes) refl (begins_with is_letter bytes) refl

-- the scanner finds the longest token in front, or none where there is none
pub found_in : (bytes : Text) → Found bytes (lexeme bytes)
unfolding lexeme
found_in bytes = found_by bytes (opening_of bytes) refl
