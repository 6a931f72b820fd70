-- What stands between tokens has the length that the scanner finds.
use Rattle.std.proofs.Common.{◌≡◌, ℕ, zero, suc, ◌+◌, ◌<◌, ◌≤◌, Bool, true, false, not, ◌&&◌, ◌||◌, cond, eqb, [], ◌∷◌, length, take, drop, Option, Some, None, refl, sym, ap, ◌∙◌, subst, ⊎_elim, arith}
use Rattle.std.specs.Prelude.{nat_eq, IfSome}
use Rattle.std.specs.List.{starts_with}
use Rattle.std.proofs.lemmas.Bool.{and_from, and_left, and_right, and_parts, and_cases, or_from, or_left, or_right, both_ways, eqb-true, eqb-false, eq-eqb, ne_eqb, cond-true, not_from_false}
use Rattle.std.proofs.lemmas.List.Sums.{prefix_len-le-length}
use Rattle.c_lexer.specs.Fronts.{Text, longest}
use Rattle.c_lexer.specs.WhiteSpace.{is_newline, is_white_space, is_space, is_within_line, is_line_comment, opens_comment, ends_comment, is_block_comment, opens_marker, is_marker_line, is_gap}
use Rattle.c_lexer.specs.Scan.{line_len, beyond, comment_len, length_or_none, space_len, gap_len}
use Rattle.c_lexer.proofs.Longest.{longest_is}
use Rattle.c_lexer.proofs.Runs.{list_all_front, list_all_beyond}
use Rattle.c_lexer.proofs.Markers.{opens_marker_front, opens_marker_line, opens_marker_first}
use Rattle.c_lexer.proofs.Closings.{is_at, comment_at}

-- ---- the parts of a gap, on one byte and on more

gap_false : (at_line_start : Bool) (text : Text) → is_space text ≡ false → is_line_comment text ≡ false → is_block_comment text ≡ false → (at_line_start && is_marker_line text) ≡ false
    → is_gap at_line_start text ≡ false
gap_false s text a b c d =
    or_from (is_space text) (is_line_comment text || (is_block_comment text || (s && is_marker_line text))) a
    (or_from (is_line_comment text) (is_block_comment text || (s && is_marker_line text)) b (or_from (is_block_comment text) (s && is_marker_line text) c d))

gap_marker : (s : Bool) (text : Text) → (s && is_marker_line text) ≡ true → is_gap s text ≡ true
gap_marker s text h =
    or_right (is_space text) (is_line_comment text || (is_block_comment text || (s && is_marker_line text)))
    (or_right (is_line_comment text) (is_block_comment text || (s && is_marker_line text)) (or_right (is_block_comment text) (s && is_marker_line text) h))

gap_line : (s : Bool) (text : Text) → is_line_comment text ≡ true → is_gap s text ≡ true
gap_line s text h =
    or_right (is_space text) (is_line_comment text || (is_block_comment text || (s && is_marker_line text)))
    (or_left (is_line_comment text) (is_block_comment text || (s && is_marker_line text)) h)

gap_block : (s : Bool) (text : Text) → is_block_comment text ≡ true → is_gap s text ≡ true
gap_block s text h =
    or_right (is_space text) (is_line_comment text || (is_block_comment text || (s && is_marker_line text)))
    (or_right (is_line_comment text) (is_block_comment text || (s && is_marker_line text)) (or_left (is_block_comment text) (s && is_marker_line text) h))

gap_space : (s : Bool) (text : Text) → is_space text ≡ true → is_gap s text ≡ true
gap_space s text h = or_left (is_space text) (is_line_comment text || (is_block_comment text || (s && is_marker_line text))) h

-- two bytes or more are no white space
is_space-long : (bytes : Text) (k : ℕ) → 1 < k → k ≤ length bytes → is_space (take k bytes) ≡ false
is_space-long bytes zero h within = absurd (omega arith)
is_space-long bytes (suc zero) h within = absurd (omega arith)
is_space-long [] (suc (suc k)) h within = absurd (omega arith)
is_space-long (a ∷ []) (suc (suc k)) h within = absurd (omega arith)
is_space-long (a ∷ b ∷ bytes) (suc (suc k)) h within = refl

starts_with-other : (n : ℕ) (needle : Text) (b : ℕ) (bytes : Text) (k : ℕ) → eqb b n ≡ false → starts_with nat_eq (take k (b ∷ bytes)) (n ∷ needle) ≡ false
starts_with-other n needle b bytes zero h = refl
starts_with-other n needle b bytes (suc k) h =
    and_left (eqb n b) (starts_with nat_eq (take k bytes) needle) (ne_eqb n b (λ e. eqb-false b n h (sym e)))

-- ---- a marker line

marker_gap : (s : Bool) (bytes : Text) → (s && opens_marker bytes) ≡ true → longest (is_gap s) bytes ≡ line_len bytes
marker_gap s [] h = absurd (both_ways (s && opens_marker []) (and_right s (opens_marker []) refl) h)
marker_gap s (b ∷ bytes) h =
    let p : ℕ → Bool = λ c. not (is_newline c) in
    let parts = and_parts s (opens_marker (b ∷ bytes)) h in
    let first = opens_marker_first b bytes parts.1 in
    let n : ℕ = line_len (b ∷ bytes) in
    let long : line_len (b ∷ bytes) ≡ 1 + line_len bytes = cond-true (not (is_newline b)) (1 + line_len bytes) 0 (not_from_false (is_newline b) first.0) in
    longest_is (is_gap s) (b ∷ bytes) n (prefix_len-le-length p (b ∷ bytes))
    (λ _. gap_marker s (take n (b ∷ bytes)) (and_from s (is_marker_line (take n (b ∷ bytes))) parts.0
    (and_from (opens_marker (take n (b ∷ bytes))) (is_within_line (take n (b ∷ bytes))) (opens_marker_line (b ∷ bytes) ∙ parts.1) (list_all_front p (b ∷ bytes)))))
    (λ k less within.
    let out : is_within_line (take k (b ∷ bytes)) ≡ false = list_all_beyond p (b ∷ bytes) k less within in
    gap_false s (take k (b ∷ bytes)) (is_space-long (b ∷ bytes) k (omega arith) within)
    (and_right (starts_with nat_eq (take k (b ∷ bytes)) (47 ∷ 47 ∷ [])) (is_within_line (take k (b ∷ bytes))) out)
    (and_left (opens_comment (take k (b ∷ bytes))) (ends_comment false (drop 2 (take k (b ∷ bytes)))) (starts_with-other 47 (42 ∷ []) b bytes k first.1))
    (and_right s (is_marker_line (take k (b ∷ bytes))) (and_right (opens_marker (take k (b ∷ bytes))) (is_within_line (take k (b ∷ bytes))) out)))

-- where the text opens no marker line, no front is one
no_marker : (s : Bool) (bytes : Text) → (s && opens_marker bytes) ≡ false → (k : ℕ) → (s && is_marker_line (take k bytes)) ≡ false
no_marker s bytes h k =
    ⊎_elim (λ (inside : s ≡ false). and_left s (is_marker_line (take k bytes)) inside)
    (λ (other : opens_marker bytes ≡ false). and_right s (is_marker_line (take k bytes)) (and_left (opens_marker (take k bytes)) (is_within_line (take k bytes)) (opens_marker_front bytes k other)))
    (and_cases s (opens_marker bytes) h)

-- ---- comments and white space

comment_len-within_by : (n : ℕ) (found : Option ℕ) (close : Bool) → IfSome found (λ k. k ≤ n) → IfSome (cond close (Some 1) (beyond 1 found)) (λ k. k ≤ suc n)
comment_len-within_by n found true h = omega arith
comment_len-within_by n None false h = tt
comment_len-within_by n (Some k) false h = omega arith

comment_len-within : (after_star : Bool) (bytes : Text) → IfSome (comment_len after_star bytes) (λ k. k ≤ length bytes)
comment_len-within after_star [] = tt
comment_len-within after_star (b ∷ bytes) =
    comment_len-within_by (length bytes) (comment_len (eqb b 42) bytes) (after_star && eqb b 47) (comment_len-within (eqb b 42) bytes)

line_comment_beyond : (s : Bool) (rest : Text) (k : ℕ) → (s && is_marker_line (take k (47 ∷ 47 ∷ rest))) ≡ false → line_len (47 ∷ 47 ∷ rest) < k → k ≤ length (47 ∷ 47 ∷ rest)
    → is_gap s (take k (47 ∷ 47 ∷ rest)) ≡ false
line_comment_beyond s rest zero none less within = absurd (omega arith)
line_comment_beyond s rest (suc zero) none less within = absurd (omega arith)
line_comment_beyond s rest (suc (suc k)) none less within =
    gap_false s (47 ∷ 47 ∷ take k rest) refl (list_all_beyond (λ c. not (is_newline c)) rest k (omega arith) (omega arith)) refl none

line_comment_gap : (s : Bool) (rest : Text) → ((k : ℕ) → (s && is_marker_line (take k (47 ∷ 47 ∷ rest))) ≡ false)
    → longest (is_gap s) (47 ∷ 47 ∷ rest) ≡ line_len (47 ∷ 47 ∷ rest)
line_comment_gap s rest none =
    let p : ℕ → Bool = λ c. not (is_newline c) in
    let two : line_len (47 ∷ 47 ∷ rest) ≡ suc (suc (line_len rest)) = omega arith in
    longest_is (is_gap s) (47 ∷ 47 ∷ rest) (line_len (47 ∷ 47 ∷ rest)) (prefix_len-le-length p (47 ∷ 47 ∷ rest))
    (λ _. gap_line s (take (line_len (47 ∷ 47 ∷ rest)) (47 ∷ 47 ∷ rest))
    (and_from (starts_with nat_eq (take (line_len (47 ∷ 47 ∷ rest)) (47 ∷ 47 ∷ rest)) (47 ∷ 47 ∷ [])) (is_within_line (take (line_len (47 ∷ 47 ∷ rest)) (47 ∷ 47 ∷ rest)))
    (ap (λ n. starts_with nat_eq (take n (47 ∷ 47 ∷ rest)) (47 ∷ 47 ∷ [])) two) (list_all_front p (47 ∷ 47 ∷ rest))))
    (λ k less within. line_comment_beyond s rest k (none k) less within)

or_false : (a b : Bool) → b ≡ false → (a || b) ≡ a
or_false true b h = refl
or_false false b h = h

block_at : (s : Bool) (rest : Text) (k : ℕ) → (s && is_marker_line (47 ∷ 42 ∷ take k rest)) ≡ false → k ≤ length rest
    → is_gap s (47 ∷ 42 ∷ take k rest) ≡ is_at k (comment_len false rest)
block_at s rest k none within = or_false (ends_comment false (take k rest)) (s && is_marker_line (47 ∷ 42 ∷ take k rest)) none ∙ comment_at false rest k within

block_beyond : (s : Bool) (rest : Text) (k : ℕ) → (s && is_marker_line (take k (47 ∷ 42 ∷ rest))) ≡ false → 0 < k → k ≤ length (47 ∷ 42 ∷ rest)
    → (found : Option ℕ) → comment_len false rest ≡ found → length_or_none 2 found < k → is_gap s (take k (47 ∷ 42 ∷ rest)) ≡ false
block_beyond s rest zero none more within found e less = absurd (omega arith)
block_beyond s rest (suc zero) none more within found e less = none
block_beyond s rest (suc (suc k)) none more within None e less = block_at s rest k none (omega arith) ∙ ap (is_at k) e
block_beyond s rest (suc (suc k)) none more within (Some n) e less =
    block_at s rest k none (omega arith) ∙ ap (is_at k) e ∙ ne_eqb k n (λ h. omega arith)

block_within : (rest : Text) (found : Option ℕ) → IfSome found (λ n. n ≤ length rest) → length_or_none 2 found ≤ length (47 ∷ 42 ∷ rest)
block_within rest None h = omega arith
block_within rest (Some n) h = omega arith

block_here : (s : Bool) (rest : Text) → ((k : ℕ) → (s && is_marker_line (take k (47 ∷ 42 ∷ rest))) ≡ false) → (found : Option ℕ) → comment_len false rest ≡ found
    → IfSome found (λ n. n ≤ length rest) → 0 < length_or_none 2 found → is_gap s (take (length_or_none 2 found) (47 ∷ 42 ∷ rest)) ≡ true
block_here s rest none None e within h = absurd (omega arith)
block_here s rest none (Some n) e within h =
    let two : 2 + n ≡ suc (suc n) = omega arith in
    ap (λ k. is_gap s (take k (47 ∷ 42 ∷ rest))) two ∙ block_at s rest n (none (suc (suc n))) within ∙ ap (is_at n) e ∙ eq-eqb n n refl

block_gap : (s : Bool) (rest : Text) → ((k : ℕ) → (s && is_marker_line (take k (47 ∷ 42 ∷ rest))) ≡ false)
    → longest (is_gap s) (47 ∷ 42 ∷ rest) ≡ length_or_none 2 (comment_len false rest)
block_gap s rest none =
    let found : Option ℕ = comment_len false rest in
    longest_is (is_gap s) (47 ∷ 42 ∷ rest) (length_or_none 2 (comment_len false rest)) (block_within rest (comment_len false rest) (comment_len-within false rest))
    (block_here s rest none (comment_len false rest) refl (comment_len-within false rest))
    (λ k less within. block_beyond s rest k (none k) (omega arith) within (comment_len false rest) refl less)

-- two tests on bytes, and the same in the order of a table
pair_false : (a b m n : ℕ) → (eqb a m && eqb b n) ≡ false → (eqb m a && (eqb n b && true)) ≡ false
pair_false a b m n h =
    ⊎_elim (λ (first : eqb a m ≡ false). and_left (eqb m a) (eqb n b && true) (ne_eqb m a (λ e. eqb-false a m first (sym e))))
    (λ (second : eqb b n ≡ false). and_right (eqb m a) (eqb n b && true) (and_left (eqb n b) true (ne_eqb n b (λ e. eqb-false b n second (sym e)))))
    (and_cases (eqb a m) (eqb b n) h)

one_false : (s : Bool) (a : ℕ) → (s && is_marker_line (a ∷ [])) ≡ false → is_white_space a ≡ false → is_gap s (a ∷ []) ≡ false
one_false s a none h =
    gap_false s (a ∷ []) h
    (and_left (starts_with nat_eq (a ∷ []) (47 ∷ 47 ∷ [])) (is_within_line (a ∷ [])) (and_right (eqb 47 a) false refl))
    (and_left (opens_comment (a ∷ [])) (ends_comment false []) (and_right (eqb 47 a) false refl)) none

many_false : (s : Bool) (a b : ℕ) (text : Text) → (s && is_marker_line (a ∷ b ∷ text)) ≡ false → (eqb a 47 && eqb b 47) ≡ false → (eqb a 47 && eqb b 42) ≡ false
    → is_gap s (a ∷ b ∷ text) ≡ false
many_false s a b text none line block =
    gap_false s (a ∷ b ∷ text) refl
    (and_left (starts_with nat_eq (a ∷ b ∷ text) (47 ∷ 47 ∷ [])) (is_within_line (a ∷ b ∷ text)) (pair_false a b 47 47 line))
    (and_left (opens_comment (a ∷ b ∷ text)) (ends_comment false text) (pair_false a b 47 42 block)) none

space_beyond : (s : Bool) (a b : ℕ) (rest : Text) (k : ℕ) → (s && is_marker_line (take k (a ∷ b ∷ rest))) ≡ false → (eqb a 47 && eqb b 47) ≡ false → (eqb a 47 && eqb b 42) ≡ false
    → 0 < k → (k ≡ 1 → is_white_space a ≡ false) → is_gap s (take k (a ∷ b ∷ rest)) ≡ false
space_beyond s a b rest zero none line block more one = absurd (omega arith)
space_beyond s a b rest (suc zero) none line block more one = one_false s a none (one refl)
space_beyond s a b rest (suc (suc k)) none line block more one = many_false s a b (take k rest) none line block

space_gap : (s : Bool) (a b : ℕ) (rest : Text) → ((k : ℕ) → (s && is_marker_line (take k (a ∷ b ∷ rest))) ≡ false) → (eqb a 47 && eqb b 47) ≡ false → (eqb a 47 && eqb b 42) ≡ false
    → (white : Bool) → is_white_space a ≡ white → longest (is_gap s) (a ∷ b ∷ rest) ≡ cond white 1 0
space_gap s a b rest none line block true e =
    longest_is (is_gap s) (a ∷ b ∷ rest) 1 (omega arith) (λ _. gap_space s (a ∷ []) e)
    (λ k less within. space_beyond s a b rest k (none k) line block (omega arith) (λ (one : k ≡ 1). absurd (omega arith)))
space_gap s a b rest none line block false e =
    longest_is (is_gap s) (a ∷ b ∷ rest) 0 (omega arith) (λ h. absurd (omega arith))
    (λ k less within. space_beyond s a b rest k (none k) line block less (λ _. e))

single_gap : (s : Bool) (a : ℕ) → ((k : ℕ) → (s && is_marker_line (take k (a ∷ []))) ≡ false) → (white : Bool) → is_white_space a ≡ white
    → longest (is_gap s) (a ∷ []) ≡ cond white 1 0
single_gap s a none true e =
    longest_is (is_gap s) (a ∷ []) 1 (omega arith) (λ _. gap_space s (a ∷ []) e) (λ k less within. absurd (omega arith))
single_gap s a none false e =
    longest_is (is_gap s) (a ∷ []) 0 (omega arith) (λ h. absurd (omega arith))
    (λ k less within. let one : 1 ≡ k = omega arith in subst (λ n. is_gap s (take n (a ∷ [])) ≡ false) one (one_false s a (none 1) e))

pair_gap_by : (s : Bool) (a b : ℕ) (rest : Text) → ((k : ℕ) → (s && is_marker_line (take k (a ∷ b ∷ rest))) ≡ false) → (line : Bool) → (eqb a 47 && eqb b 47) ≡ line → (block : Bool) → (eqb a 47 && eqb b 42) ≡ block
    → longest (is_gap s) (a ∷ b ∷ rest) ≡ cond line (line_len (a ∷ b ∷ rest)) (cond block (length_or_none 2 (comment_len false rest)) (cond (is_white_space a) 1 0))
pair_gap_by s a b rest none true e block f =
    let parts = and_parts (eqb a 47) (eqb b 47) e in
    let first : 47 ≡ a = sym (eqb-true a 47 parts.0) in
    let second : 47 ≡ b = sym (eqb-true b 47 parts.1) in
    let Goal : ℕ → ℕ → Type 0 = λ x y. ((k : ℕ) → (s && is_marker_line (take k (x ∷ y ∷ rest))) ≡ false) → longest (is_gap s) (x ∷ y ∷ rest) ≡ line_len (x ∷ y ∷ rest) in
    subst (λ x. Goal x b) first (subst (λ y. Goal 47 y) second (line_comment_gap s rest)) none
pair_gap_by s a b rest none false e true f =
    let parts = and_parts (eqb a 47) (eqb b 42) f in
    let first : 47 ≡ a = sym (eqb-true a 47 parts.0) in
    let second : 42 ≡ b = sym (eqb-true b 42 parts.1) in
    let Goal : ℕ → ℕ → Type 0 = λ x y. ((k : ℕ) → (s && is_marker_line (take k (x ∷ y ∷ rest))) ≡ false) → longest (is_gap s) (x ∷ y ∷ rest) ≡ length_or_none 2 (comment_len false rest) in
    subst (λ x. Goal x b) first (subst (λ y. Goal 47 y) second (block_gap s rest)) none
pair_gap_by s a b rest none false e false f = space_gap s a b rest none e f (is_white_space a) refl

space_len_gap : (s : Bool) (bytes : Text) → ((k : ℕ) → (s && is_marker_line (take k bytes)) ≡ false) → longest (is_gap s) bytes ≡ space_len bytes
space_len_gap s [] none = longest_is (is_gap s) [] 0 (omega arith) (λ h. absurd (omega arith)) (λ k less within. absurd (omega arith))
space_len_gap s (a ∷ []) none = single_gap s a none (is_white_space a) refl
space_len_gap s (a ∷ b ∷ rest) none = pair_gap_by s a b rest none (eqb a 47 && eqb b 47) refl (eqb a 47 && eqb b 42) refl

longest_gap_by : (s : Bool) (bytes : Text) (marker : Bool) → (s && opens_marker bytes) ≡ marker → longest (is_gap s) bytes ≡ cond marker (line_len bytes) (space_len bytes)
longest_gap_by s bytes true e = marker_gap s bytes e
longest_gap_by s bytes false e = space_len_gap s bytes (no_marker s bytes e)

-- the longest of what may stand between tokens is what the scanner finds
pub longest_gap : (at_line_start : Bool) (bytes : Text) → longest (is_gap at_line_start) bytes ≡ gap_len at_line_start bytes
longest_gap s bytes = longest_gap_by s bytes (s && opens_marker bytes) refl
