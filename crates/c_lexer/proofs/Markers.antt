-- A marker line is told by its own line, and by no shorter front of it than its beginning.
use Rattle.std.proofs.Common.{◌≡◌, ℕ, Bool, true, false, not, ◌&&◌, ◌||◌, cond, eqb, ◌==◌, [], ◌∷◌, ◌++◌, take, drop, refl, ◌⊎◌, inl, inr, sym, ap, ◌∙◌, subst, ⊎_elim, arith}
use Rattle.std.proofs.lemmas.Bool.{and_from, and_left, and_parts, false≢true, eqb-true, eq-eqb, ne_eqb, not-true, both_ways, false_from_ne_true, or_left, or_right, or_cases}
use Rattle.std.proofs.lemmas.List.{take-append-drop}
use Rattle.std.proofs.lemmas.List.Sums.{take_while-cons}
use Rattle.std.specs.Prelude.{nat_eq}
use Rattle.std.specs.Char.{is_ascii_digit}
use Rattle.std.specs.List.{list_all, starts_with}
use Rattle.c_lexer.specs.Fronts.{Text, begins_with}
use Rattle.c_lexer.specs.WhiteSpace.{is_newline, is_blank, past_blanks, begins_marker, opens_marker}
use Rattle.c_lexer.specs.Scan.{line_len}
use Rattle.c_lexer.proofs.Runs.{begins_with_grows, starts_with_grows}

-- ---- a front that opens a marker line

past_blanks_grows_by : (test : ℕ → Bool) (b : ℕ) (bytes ys : Text) → (begins_with test (past_blanks bytes) ≡ true → past_blanks (bytes ++ ys) ≡ past_blanks bytes ++ ys)
    → (blank : Bool) → begins_with test (cond blank (past_blanks bytes) (b ∷ bytes)) ≡ true
    → cond blank (past_blanks (bytes ++ ys)) (b ∷ (bytes ++ ys)) ≡ cond blank (past_blanks bytes) (b ∷ bytes) ++ ys
past_blanks_grows_by test b bytes ys ih true h = ih h
past_blanks_grows_by test b bytes ys ih false h = refl

past_blanks_grows : (test : ℕ → Bool) (xs ys : Text) → begins_with test (past_blanks xs) ≡ true → past_blanks (xs ++ ys) ≡ past_blanks xs ++ ys
past_blanks_grows test [] ys h = absurd (false≢true h)
past_blanks_grows test (b ∷ bytes) ys h = past_blanks_grows_by test b bytes ys (past_blanks_grows test bytes ys) (is_blank b) h

-- something stands there
any_byte : ℕ → Bool
any_byte b = true

begins_any : (test : ℕ → Bool) (xs : Text) → begins_with test xs ≡ true → begins_with any_byte xs ≡ true
unfolding any_byte
begins_any test [] h = absurd (false≢true h)
begins_any test (b ∷ bytes) h = refl

starts_any : (xs : Text) (n : ℕ) (needle : Text) → starts_with nat_eq xs (n ∷ needle) ≡ true → begins_with any_byte xs ≡ true
unfolding any_byte
starts_any [] n needle h = absurd (false≢true h)
starts_any (b ∷ bytes) n needle h = refl

begins_marker_any : (xs : Text) → begins_marker xs ≡ true → begins_with any_byte xs ≡ true
begins_marker_any xs h =
    ⊎_elim (λ (digit : begins_with is_ascii_digit xs ≡ true). begins_any is_ascii_digit xs digit)
    (λ (pragma : starts_with nat_eq xs (112 ∷ 114 ∷ 97 ∷ 103 ∷ 109 ∷ 97 ∷ []) ≡ true). starts_any xs 112 (114 ∷ 97 ∷ 103 ∷ 109 ∷ 97 ∷ []) pragma)
    (or_cases (begins_with is_ascii_digit xs) (starts_with nat_eq xs (112 ∷ 114 ∷ 97 ∷ 103 ∷ 109 ∷ 97 ∷ [])) h)

begins_marker_grows : (xs ys : Text) → begins_marker xs ≡ true → begins_marker (xs ++ ys) ≡ true
begins_marker_grows xs ys h =
    ⊎_elim (λ (digit : begins_with is_ascii_digit xs ≡ true). or_left (begins_with is_ascii_digit (xs ++ ys)) (starts_with nat_eq (xs ++ ys) (112 ∷ 114 ∷ 97 ∷ 103 ∷ 109 ∷ 97 ∷ [])) (begins_with_grows is_ascii_digit xs ys digit))
    (λ (pragma : starts_with nat_eq xs (112 ∷ 114 ∷ 97 ∷ 103 ∷ 109 ∷ 97 ∷ []) ≡ true).
    or_right (begins_with is_ascii_digit (xs ++ ys)) (starts_with nat_eq (xs ++ ys) (112 ∷ 114 ∷ 97 ∷ 103 ∷ 109 ∷ 97 ∷ [])) (starts_with_grows xs (112 ∷ 114 ∷ 97 ∷ 103 ∷ 109 ∷ 97 ∷ []) ys pragma))
    (or_cases (begins_with is_ascii_digit xs) (starts_with nat_eq xs (112 ∷ 114 ∷ 97 ∷ 103 ∷ 109 ∷ 97 ∷ [])) h)

-- what follows the blanks of a text opens a marker line
opens : Text → Bool
opens front = begins_with (λ b. b == 35) front && begins_marker (past_blanks (drop 1 front))

opens_grows : (front ys : Text) → opens front ≡ true → opens (front ++ ys) ≡ true
unfolding opens
opens_grows [] ys h = absurd (false≢true h)
opens_grows (b ∷ front) ys h =
    let parts = and_parts (eqb b 35) (begins_marker (past_blanks front)) h in
    let past = past_blanks_grows any_byte front ys (begins_marker_any (past_blanks front) parts.1) in
    and_from (eqb b 35) (begins_marker (past_blanks (front ++ ys))) parts.0 (rw past (begins_marker_grows (past_blanks front) ys parts.1))

opens_begins : (front : Text) → opens front ≡ true → begins_with any_byte front ≡ true
unfolding opens any_byte
opens_begins [] h = absurd (false≢true h)
opens_begins (b ∷ front) h = refl

opens_marker_grows : (xs ys : Text) → opens_marker xs ≡ true → opens_marker (xs ++ ys) ≡ true
unfolding opens
opens_marker_grows xs ys h =
    let past = past_blanks_grows any_byte xs ys (opens_begins (past_blanks xs) h) in
    let grown : opens (past_blanks xs ++ ys) ≡ true = opens_grows (past_blanks xs) ys h in
    subst (λ (front : Text). opens front ≡ true) (sym past) grown

-- a text that opens none has no front that does
pub opens_marker_front : (bytes : Text) (k : ℕ) → opens_marker bytes ≡ false → opens_marker (take k bytes) ≡ false
opens_marker_front bytes k h =
    false_from_ne_true (opens_marker (take k bytes))
    (λ yes. both_ways (opens_marker bytes) h (subst (λ (text : Text). opens_marker text ≡ true) (take-append-drop k bytes) (opens_marker_grows (take k bytes) (drop k bytes) yes)))

-- ---- the line of a text

abbrev line_of : Text → Text
line_of bytes = take (line_len bytes) bytes

line_of_by : (b : ℕ) (bytes : Text) (end : Bool) → is_newline b ≡ end → line_of (b ∷ bytes) ≡ cond end [] (b ∷ line_of bytes)
line_of_by b bytes true e = take_while-cons (λ c. not (is_newline c)) b bytes ∙ ap (λ t. cond (not t) (b ∷ line_of bytes) []) e
line_of_by b bytes false e = take_while-cons (λ c. not (is_newline c)) b bytes ∙ ap (λ t. cond (not t) (b ∷ line_of bytes) []) e

blank_is : (b : ℕ) → is_blank b ≡ true → (b ≡ 32) ⊎ (b ≡ 9)
blank_is b h =
    ⊎_elim (λ (space : eqb b 32 ≡ true). inl (eqb-true b 32 space))
    (λ (rest : (eqb b 9 || false) ≡ true). ⊎_elim (λ (tab : eqb b 9 ≡ true). inr (eqb-true b 9 tab)) (λ (none : false ≡ true). absurd (false≢true none)) (or_cases (eqb b 9) false rest))
    (or_cases (eqb b 32) (eqb b 9 || false) h)

blank_in_line : (b : ℕ) → is_blank b ≡ true → is_newline b ≡ false
blank_in_line b h = ne_eqb b 10 (λ k. ⊎_elim (λ (space : b ≡ 32). omega arith) (λ (tab : b ≡ 9). omega arith) (blank_is b h))

past_blanks_line_by : (b : ℕ) (bytes : Text) → past_blanks (line_of bytes) ≡ line_of (past_blanks bytes) → (blank : Bool) → is_blank b ≡ blank → (end : Bool) → is_newline b ≡ end
    → past_blanks (line_of (b ∷ bytes)) ≡ line_of (cond blank (past_blanks bytes) (b ∷ bytes))
past_blanks_line_by b bytes ih true e true k = absurd (both_ways (is_newline b) (blank_in_line b e) k)
past_blanks_line_by b bytes ih true e false k =
    ap past_blanks (line_of_by b bytes false k) ∙ ap (λ t. cond t (past_blanks (line_of bytes)) (b ∷ line_of bytes)) e ∙ ih
past_blanks_line_by b bytes ih false e true k = ap past_blanks (line_of_by b bytes true k) ∙ sym (line_of_by b bytes true k)
past_blanks_line_by b bytes ih false e false k =
    ap past_blanks (line_of_by b bytes false k) ∙ ap (λ t. cond t (past_blanks (line_of bytes)) (b ∷ line_of bytes)) e ∙ sym (line_of_by b bytes false k)

past_blanks_line : (bytes : Text) → past_blanks (line_of bytes) ≡ line_of (past_blanks bytes)
past_blanks_line [] = refl
past_blanks_line (b ∷ bytes) = past_blanks_line_by b bytes (past_blanks_line bytes) (is_blank b) refl (is_newline b) refl

begins_with_line_by : (test : ℕ → Bool) (b : ℕ) (bytes : Text) → test 10 ≡ false → (end : Bool) → is_newline b ≡ end → begins_with test (line_of (b ∷ bytes)) ≡ test b
begins_with_line_by test b bytes h true e =
    ap (begins_with test) (line_of_by b bytes true e) ∙ sym (ap test (eqb-true b 10 e) ∙ h)
begins_with_line_by test b bytes h false e = ap (begins_with test) (line_of_by b bytes false e)

begins_with_line : (test : ℕ → Bool) (bytes : Text) → test 10 ≡ false → begins_with test (line_of bytes) ≡ begins_with test bytes
begins_with_line test [] h = refl
begins_with_line test (b ∷ bytes) h = begins_with_line_by test b bytes h (is_newline b) refl

starts_with_line_by : (b n : ℕ) (bytes needle : Text) → is_newline n ≡ false → starts_with nat_eq (line_of bytes) needle ≡ starts_with nat_eq bytes needle → (end : Bool) → is_newline b ≡ end
    → starts_with nat_eq (line_of (b ∷ bytes)) (n ∷ needle) ≡ starts_with nat_eq (b ∷ bytes) (n ∷ needle)
starts_with_line_by b n bytes needle h ih true e =
    ap (λ xs. starts_with nat_eq xs (n ∷ needle)) (line_of_by b bytes true e)
    ∙ sym (and_left (eqb n b) (starts_with nat_eq bytes needle) (ne_eqb n b (let e' = eqb-true b 10 e in λ (k : n ≡ b). both_ways (is_newline n) h (eq-eqb n 10 (k ∙ e')))))
starts_with_line_by b n bytes needle h ih false e =
    ap (λ xs. starts_with nat_eq xs (n ∷ needle)) (line_of_by b bytes false e) ∙ ap (λ t. eqb n b && t) ih

starts_with_line : (bytes needle : Text) → list_all (λ n. not (is_newline n)) needle ≡ true → starts_with nat_eq (line_of bytes) needle ≡ starts_with nat_eq bytes needle
starts_with_line bytes [] h = refl
starts_with_line [] (n ∷ needle) h = refl
starts_with_line (b ∷ bytes) (n ∷ needle) h =
    let parts = and_parts (not (is_newline n)) (list_all (λ c. not (is_newline c)) needle) h in
    starts_with_line_by b n bytes needle (not-true (is_newline n) parts.0) (starts_with_line bytes needle parts.1) (is_newline b) refl

begins_marker_line : (bytes : Text) → begins_marker (line_of bytes) ≡ begins_marker bytes
begins_marker_line bytes =
    ap (λ t. t || starts_with nat_eq (line_of bytes) (112 ∷ 114 ∷ 97 ∷ 103 ∷ 109 ∷ 97 ∷ [])) (begins_with_line is_ascii_digit bytes refl)
    ∙ ap (λ t. begins_with is_ascii_digit bytes || t) (starts_with_line bytes (112 ∷ 114 ∷ 97 ∷ 103 ∷ 109 ∷ 97 ∷ []) refl)

opens_line_by : (b : ℕ) (front : Text) (mark : Bool) → eqb b 35 ≡ mark → (end : Bool) → is_newline b ≡ end → opens (line_of (b ∷ front)) ≡ opens (b ∷ front)
unfolding opens
opens_line_by b front mark e true k =
    let e' = eqb-true b 10 k in
    let other : eqb b 35 ≡ false = ne_eqb b 35 (λ m. omega arith) in
    ap opens (line_of_by b front true k) ∙ sym (and_left (eqb b 35) (begins_marker (past_blanks front)) other)
opens_line_by b front mark e false k =
    ap opens (line_of_by b front false k)
    ∙ ap (λ t. eqb b 35 && t) (ap begins_marker (past_blanks_line front) ∙ begins_marker_line (past_blanks front))

opens_line : (front : Text) → opens (line_of front) ≡ opens front
opens_line [] = refl
opens_line (b ∷ front) = opens_line_by b front (eqb b 35) refl (is_newline b) refl

-- the line of a text opens a marker line where the text does
pub opens_marker_line : (bytes : Text) → opens_marker (take (line_len bytes) bytes) ≡ opens_marker bytes
unfolding opens
opens_marker_line bytes =
    let past : opens (past_blanks (line_of bytes)) ≡ opens (line_of (past_blanks bytes)) = ap opens (past_blanks_line bytes) in
    let line : opens (line_of (past_blanks bytes)) ≡ opens (past_blanks bytes) = opens_line (past_blanks bytes) in
    past ∙ line

opens_marker_first_by : (b : ℕ) (bytes : Text) (blank : Bool) → is_blank b ≡ blank → opens (cond blank (past_blanks bytes) (b ∷ bytes)) ≡ true → is_newline b ≡ false × eqb b 47 ≡ false
unfolding opens
opens_marker_first_by b bytes true e h =
    (blank_in_line b e, ne_eqb b 47 (λ k. ⊎_elim (λ (space : b ≡ 32). omega arith) (λ (tab : b ≡ 9). omega arith) (blank_is b e)))
opens_marker_first_by b bytes false e h =
    let e' = eqb-true b 35 (and_parts (eqb b 35) (begins_marker (past_blanks bytes)) h).0 in
    (ne_eqb b 10 (λ k. omega arith), ne_eqb b 47 (λ k. omega arith))

-- what opens a marker line begins with no newline and no `/`
pub opens_marker_first : (b : ℕ) (bytes : Text) → opens_marker (b ∷ bytes) ≡ true → is_newline b ≡ false × eqb b 47 ≡ false
unfolding opens
opens_marker_first b bytes h = opens_marker_first_by b bytes (is_blank b) refl h
