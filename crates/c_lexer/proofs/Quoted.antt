-- The longest literal in front.
use Rattle.std.proofs.Common.{◌≡◌, ℕ, suc, ◌+◌, ◌-◌, ◌<◌, ◌≤◌, Bool, true, false, not, ◌&&◌, cond, eqb, [], ◌∷◌, length, take, drop, Option, Some, None, refl, ap, ◌∙◌, subst, ⊎_elim, arith, length-drop}
use Rattle.std.specs.Prelude.{IfSome}
use Rattle.std.proofs.lemmas.Bool.{eq-eqb, ne_eqb, cases_lt}
use Rattle.std.proofs.lemmas.List.{drop-take}
use Rattle.c_lexer.specs.declared.literal.Opening.{Opening}
use Rattle.c_lexer.specs.Fronts.{Text, longest}
use Rattle.c_lexer.specs.WhiteSpace.{is_newline}
use Rattle.c_lexer.specs.Literals.{is_backslash, closes, is_closed, is_literal}
use Rattle.c_lexer.specs.Scan.{beyond, closing_len, length_or_none}
use Rattle.c_lexer.proofs.Longest.{longest_is}
use Rattle.c_lexer.proofs.Closings.{is_at, closing_at}
use Rattle.c_lexer.proofs.Openings.{Opened}

-- ---- what the scanner finds is within the text

abbrev IsWithin : ℕ → ℕ → Type 0
IsWithin n k = (0 < k) × (k ≤ n)

closing_within_by : (n : ℕ) (found : Option ℕ) (end close : Bool) → IfSome found (IsWithin n) → IfSome (cond end None (cond close (Some 1) (beyond 1 found))) (IsWithin (suc n))
closing_within_by n found true close h = tt
closing_within_by n found false true h = (omega arith, omega arith)
closing_within_by n None false false h = tt
closing_within_by n (Some k) false false h = (omega arith, omega arith)

pub closing_within : (quote : ℕ) (after_backslash : Bool) (bytes : Text) → IfSome (closing_len quote after_backslash bytes) (λ k. (0 < k) × (k ≤ length bytes))
closing_within quote after_backslash [] = tt
closing_within quote after_backslash (b ∷ bytes) =
    closing_within_by (length bytes) (closing_len quote (is_backslash b && not after_backslash) bytes) (is_newline b) (eqb b quote && not after_backslash)
    (closing_within quote (is_backslash b && not after_backslash) bytes)

-- ---- the fronts of an opened text

-- a front that is longer than the opening is a literal where it has the length that the scanner finds
literal_at : (bytes : Text) (o : Opening) → Opened bytes o → (k : ℕ) → o.length + k ≤ length bytes
    → is_literal (take (o.length + k) bytes) ≡ is_at k (closing_len o.quote false (drop o.length bytes))
unfolding is_literal
literal_at bytes o open' k within =
    ap (is_closed (take (o.length + k) bytes)) (open'.long (o.length + k) (omega arith))
    ∙ ap (closes o.quote false) (drop-take o.length k bytes)
    ∙ closing_at o.quote false (drop o.length bytes) k open'.quoted (omega (arith, length-drop o.length bytes))

literal_by : (bytes : Text) (o : Opening) → Opened bytes o → (k : ℕ) → k ≤ length bytes → o.length ≤ k
    → is_literal (take k bytes) ≡ is_at (k - o.length) (closing_len o.quote false (drop o.length bytes))
literal_by bytes o open' k within long =
    let e : o.length + (k - o.length) ≡ k = omega arith in
    subst (λ n. is_literal (take n bytes) ≡ is_at (k - o.length) (closing_len o.quote false (drop o.length bytes))) e (literal_at bytes o open' (k - o.length) (omega arith))

literal_beyond : (bytes : Text) (o : Opening) → Opened bytes o → (found : Option ℕ) → closing_len o.quote false (drop o.length bytes) ≡ found
    → (k : ℕ) → length_or_none o.length found < k → k ≤ length bytes → is_literal (take k bytes) ≡ false
literal_beyond bytes o open' None e k less within =
    ⊎_elim (λ (h : k < o.length). open'.short k h) (λ (h : o.length ≤ k). literal_by bytes o open' k within h ∙ ap (is_at (k - o.length)) e) (cases_lt k o.length)
literal_beyond bytes o open' (Some n) e k less within =
    literal_by bytes o open' k within (omega arith) ∙ ap (is_at (k - o.length)) e ∙ ne_eqb (k - o.length) n (λ h. omega arith)

found_within : (bytes : Text) (o : Opening) → Opened bytes o → (found : Option ℕ) → IfSome found (λ k. (0 < k) × (k ≤ length (drop o.length bytes))) → length_or_none o.length found ≤ length bytes
found_within bytes o open' None h = omega arith
found_within bytes o open' (Some n) h = let within = open'.within in omega (arith, length-drop o.length bytes)

found_here : (bytes : Text) (o : Opening) → Opened bytes o → (found : Option ℕ) → closing_len o.quote false (drop o.length bytes) ≡ found
    → IfSome found (λ k. (0 < k) × (k ≤ length (drop o.length bytes))) → 0 < length_or_none o.length found → is_literal (take (length_or_none o.length found) bytes) ≡ true
found_here bytes o open' None e h some = absurd (omega arith)
found_here bytes o open' (Some n) e h some =
    let within = open'.within in
    literal_at bytes o open' n (omega (arith, length-drop o.length bytes)) ∙ ap (is_at n) e ∙ eq-eqb n n refl

-- the literal in front, by what the scanner finds behind its opening
pub record Quoted (bytes : Text) (o : Opening) (found : Option ℕ) : Type 0 where
  pub length_is : longest is_literal bytes ≡ length_or_none o.length found
  pub within : length_or_none o.length found ≤ length bytes
  pub here : 0 < length_or_none o.length found → is_literal (take (length_or_none o.length found) bytes) ≡ true
  pub beyond : (k : ℕ) → length_or_none o.length found < k → k ≤ length bytes → is_literal (take k bytes) ≡ false

pub quoted : (bytes : Text) (o : Opening) → Opened bytes o → Quoted bytes o (closing_len o.quote false (drop o.length bytes))
quoted bytes o open' =
    let found : Option ℕ = closing_len o.quote false (drop o.length bytes) in
    let inside = closing_within o.quote false (drop o.length bytes) in
    let within = found_within bytes o open' (closing_len o.quote false (drop o.length bytes)) inside in
    let here = found_here bytes o open' (closing_len o.quote false (drop o.length bytes)) refl inside in
    let beyond = literal_beyond bytes o open' (closing_len o.quote false (drop o.length bytes)) refl in
    record { length_is = longest_is is_literal bytes (length_or_none o.length (closing_len o.quote false (drop o.length bytes))) within here beyond; within = within; here = here; beyond = beyond }
