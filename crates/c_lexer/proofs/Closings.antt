-- A comment and a literal end at one place only, which is where the scanner ends them.
use Rattle.std.proofs.Common.{◌≡◌, ℕ, zero, suc, ◌+◌, ◌≤◌, Bool, true, false, not, ◌&&◌, cond, eqb, [], ◌∷◌, length, take, Option, Some, None, refl, sym, ap, ◌∙◌, subst, arith}
use Rattle.std.proofs.lemmas.Bool.{and_right, both_ways, eq-eqb, ne_eqb, eqb-true, eqb-false}
use Rattle.c_lexer.specs.Fronts.{Text, is_empty}
use Rattle.c_lexer.specs.WhiteSpace.{is_newline, ends_comment}
use Rattle.c_lexer.specs.Literals.{is_backslash, closes}
use Rattle.c_lexer.specs.Scan.{beyond, comment_len, closing_len}

-- a length is the one that was found
abbrev pub is_at : ℕ → Option ℕ → Bool
is_at k None = false
is_at k (Some n) = eqb k n

eqb-suc_by : (k n : ℕ) (b : Bool) → eqb k n ≡ b → b ≡ eqb (suc k) (1 + n)
eqb-suc_by k n true e = let e' = eqb-true k n e in sym (eq-eqb (suc k) (1 + n) (omega arith))
eqb-suc_by k n false e = let e' = eqb-false k n e in sym (ne_eqb (suc k) (1 + n) (λ h. e' (omega arith)))

is_at-beyond : (k : ℕ) (found : Option ℕ) → is_at k found ≡ is_at (suc k) (beyond 1 found)
is_at-beyond k None = refl
is_at-beyond k (Some n) = eqb-suc_by k n (eqb k n) refl

is_at-zero : (found : Option ℕ) → is_at 0 (beyond 1 found) ≡ false
is_at-zero None = refl
is_at-zero (Some n) = ne_eqb 0 (1 + n) (λ h. omega arith)

-- nothing is taken of a text where one byte alone was found
is_empty-take : (bytes : Text) (k : ℕ) → k ≤ length bytes → is_empty (take k bytes) ≡ eqb (suc k) 1
is_empty-take bytes zero h = refl
is_empty-take [] (suc k) h = absurd (omega arith)
is_empty-take (b ∷ bytes) (suc k) h = sym (ne_eqb (suc (suc k)) 1 (λ e. omega arith))

and_true : (b : Bool) → b ≡ (b && true)
and_true true = refl
and_true false = refl

-- ---- comments

ends_comment-cons_by : (after_star : Bool) (b : ℕ) (text : Text) (close : Bool) → (after_star && eqb b 47) ≡ close
    → ends_comment after_star (b ∷ text) ≡ cond close (is_empty text) (ends_comment (eqb b 42) text)
ends_comment-cons_by after_star b [] true e = e
ends_comment-cons_by after_star b [] false e = e
ends_comment-cons_by after_star b (c ∷ text) true e = ap (λ t. not t && ends_comment (eqb b 42) (c ∷ text)) e
ends_comment-cons_by after_star b (c ∷ text) false e = ap (λ t. not t && ends_comment (eqb b 42) (c ∷ text)) e

comment_at_by : (after_star : Bool) (b : ℕ) (bytes : Text) (k : ℕ) → k ≤ length bytes → ends_comment (eqb b 42) (take k bytes) ≡ is_at k (comment_len (eqb b 42) bytes)
    → (close : Bool) → (after_star && eqb b 47) ≡ close → ends_comment after_star (b ∷ take k bytes) ≡ is_at (suc k) (cond close (Some 1) (beyond 1 (comment_len (eqb b 42) bytes)))
comment_at_by after_star b bytes k h ih true e = ends_comment-cons_by after_star b (take k bytes) true e ∙ is_empty-take bytes k h
comment_at_by after_star b bytes k h ih false e =
    ends_comment-cons_by after_star b (take k bytes) false e ∙ ih ∙ is_at-beyond k (comment_len (eqb b 42) bytes)

comment_none_by : (found : Option ℕ) (close : Bool) → false ≡ is_at 0 (cond close (Some 1) (beyond 1 found))
comment_none_by found true = refl
comment_none_by found false = sym (is_at-zero found)

-- a front of a text ends as a comment does where it has the length that the scanner finds
pub comment_at : (after_star : Bool) (bytes : Text) (k : ℕ) → k ≤ length bytes → ends_comment after_star (take k bytes) ≡ is_at k (comment_len after_star bytes)
comment_at after_star [] zero h = refl
comment_at after_star [] (suc k) h = absurd (omega arith)
comment_at after_star (b ∷ bytes) zero h = comment_none_by (comment_len (eqb b 42) bytes) (after_star && eqb b 47)
comment_at after_star (b ∷ bytes) (suc k) h =
    comment_at_by after_star b bytes k (omega arith) (comment_at (eqb b 42) bytes k (omega arith)) (after_star && eqb b 47) refl

-- ---- literals

closing_at_by : (quote b : ℕ) (bytes : Text) (k : ℕ) → is_newline quote ≡ false → k ≤ length bytes
    → ((after_backslash : Bool) → closes quote after_backslash (take k bytes) ≡ is_at k (closing_len quote after_backslash bytes))
    → (after_backslash : Bool) (end : Bool) → is_newline b ≡ end → (close : Bool) → eqb b quote ≡ close
    → closes quote after_backslash (b ∷ take k bytes)
    ≡ is_at (suc k) (cond end None (cond (close && not after_backslash) (Some 1) (beyond 1 (closing_len quote (is_backslash b && not after_backslash) bytes))))
closing_at_by quote b bytes k q h ih true true e close c = ap (λ t. not t && closes quote false (take k bytes)) e
closing_at_by quote b bytes k q h ih true false e true c =
    ap (λ t. not t && closes quote false (take k bytes)) e ∙ ih false ∙ is_at-beyond k (closing_len quote false bytes)
    ∙ ap (λ t. is_at (suc k) (beyond 1 (closing_len quote t bytes))) (sym (and_right (is_backslash b) false refl))
closing_at_by quote b bytes k q h ih true false e false c =
    ap (λ t. not t && closes quote false (take k bytes)) e ∙ ih false ∙ is_at-beyond k (closing_len quote false bytes)
    ∙ ap (λ t. is_at (suc k) (beyond 1 (closing_len quote t bytes))) (sym (and_right (is_backslash b) false refl))
closing_at_by quote b bytes k q h ih false true e true c =
    absurd (both_ways (is_newline quote) q (subst (λ n. is_newline n ≡ true) (eqb-true b quote c) e))
closing_at_by quote b bytes k q h ih false true e false c =
    ap (λ t. cond t (is_empty (take k bytes)) (not (is_newline b) && closes quote (is_backslash b) (take k bytes))) c
    ∙ ap (λ t. not t && closes quote (is_backslash b) (take k bytes)) e
closing_at_by quote b bytes k q h ih false false e true c =
    ap (λ t. cond t (is_empty (take k bytes)) (not (is_newline b) && closes quote (is_backslash b) (take k bytes))) c ∙ is_empty-take bytes k h
closing_at_by quote b bytes k q h ih false false e false c =
    ap (λ t. cond t (is_empty (take k bytes)) (not (is_newline b) && closes quote (is_backslash b) (take k bytes))) c
    ∙ ap (λ t. not t && closes quote (is_backslash b) (take k bytes)) e
    ∙ ih (is_backslash b) ∙ is_at-beyond k (closing_len quote (is_backslash b) bytes)
    ∙ ap (λ t. is_at (suc k) (beyond 1 (closing_len quote t bytes))) (and_true (is_backslash b))

closing_none : (found : Option ℕ) (end close : Bool) → false ≡ is_at 0 (cond end None (cond close (Some 1) (beyond 1 found)))
closing_none found true close = refl
closing_none found false true = refl
closing_none found false false = sym (is_at-zero found)

-- a front of a text ends as a literal does where it has the length that the scanner finds
pub closing_at : (quote : ℕ) (after_backslash : Bool) (bytes : Text) (k : ℕ) → is_newline quote ≡ false → k ≤ length bytes
    → closes quote after_backslash (take k bytes) ≡ is_at k (closing_len quote after_backslash bytes)
closing_at quote after_backslash [] zero q h = refl
closing_at quote after_backslash [] (suc k) q h = absurd (omega arith)
closing_at quote after_backslash (b ∷ bytes) zero q h =
    closing_none (closing_len quote (is_backslash b && not after_backslash) bytes) (is_newline b) (eqb b quote && not after_backslash)
closing_at quote after_backslash (b ∷ bytes) (suc k) q h =
    closing_at_by quote b bytes k q (omega arith) (λ after. closing_at quote after bytes k q (omega arith)) after_backslash (is_newline b) refl (eqb b quote) refl
