-- The longest punctuator in front.
use Rattle.std.proofs.Common.{◌≡◌, ℕ, zero, suc, ◌<◌, ◌≤◌, Bool, false, [], ◌∷◌, length, take, Option, Some, None, refl, ap, subst, arith}
use Rattle.std.specs.Prelude.{is_some}
use Rattle.std.proofs.lemmas.List.{length-take-le}
use Rattle.c_tree.specs.declared.token.Punct.{Punct}
use Rattle.c_lexer.specs.Fronts.{Text, longest}
use Rattle.c_lexer.specs.Punctuators.{punctuator_of}
use Rattle.c_lexer.specs.Scan.{mark_of, first_mark, punctuator_in}
use Rattle.c_lexer.proofs.Classes.{long_no_mark}
use Rattle.c_lexer.proofs.Longest.{longest_is}

abbrev pub is_mark : Text → Bool
is_mark text = is_some (punctuator_of text)

abbrev pub mark_length : Option (Punct × ℕ) → ℕ
mark_length None = 0
mark_length (Some found) = found.1

no_long : (bytes : Text) (k : ℕ) → 3 < k → k ≤ length bytes → is_mark (take k bytes) ≡ false
no_long bytes k h within = let n = length-take-le k bytes within in long_no_mark (take k bytes) (omega arith)

-- where no punctuator of so many bytes is in front, no longer front is one
beyond_three : (a b c : ℕ) (rest : Text) (k : ℕ) → 3 < k → k ≤ length (a ∷ b ∷ c ∷ rest) → is_mark (take k (a ∷ b ∷ c ∷ rest)) ≡ false
beyond_three a b c rest k h within = no_long (a ∷ b ∷ c ∷ rest) k h within

beyond_two : (a b c : ℕ) (rest : Text) (k : ℕ) → punctuator_of (a ∷ b ∷ c ∷ []) ≡ None → 2 < k → k ≤ length (a ∷ b ∷ c ∷ rest) → is_mark (take k (a ∷ b ∷ c ∷ rest)) ≡ false
beyond_two a b c rest zero e h within = absurd (omega arith)
beyond_two a b c rest (suc zero) e h within = absurd (omega arith)
beyond_two a b c rest (suc (suc zero)) e h within = absurd (omega arith)
beyond_two a b c rest (suc (suc (suc zero))) e h within = ap is_some e
beyond_two a b c rest (suc (suc (suc (suc k)))) e h within = no_long (a ∷ b ∷ c ∷ rest) (suc (suc (suc (suc k)))) (omega arith) within

beyond_single : (a b c : ℕ) (rest : Text) (k : ℕ) → punctuator_of (a ∷ b ∷ c ∷ []) ≡ None → punctuator_of (a ∷ b ∷ []) ≡ None → 1 < k → k ≤ length (a ∷ b ∷ c ∷ rest)
    → is_mark (take k (a ∷ b ∷ c ∷ rest)) ≡ false
beyond_single a b c rest zero e f h within = absurd (omega arith)
beyond_single a b c rest (suc zero) e f h within = absurd (omega arith)
beyond_single a b c rest (suc (suc zero)) e f h within = ap is_some f
beyond_single a b c rest (suc (suc (suc k))) e f h within = beyond_two a b c rest (suc (suc (suc k))) e (omega arith) within

beyond_none : (a b c : ℕ) (rest : Text) (k : ℕ) → punctuator_of (a ∷ b ∷ c ∷ []) ≡ None → punctuator_of (a ∷ b ∷ []) ≡ None → punctuator_of (a ∷ []) ≡ None → 0 < k → k ≤ length (a ∷ b ∷ c ∷ rest)
    → is_mark (take k (a ∷ b ∷ c ∷ rest)) ≡ false
beyond_none a b c rest zero e f g h within = absurd (omega arith)
beyond_none a b c rest (suc zero) e f g h within = ap is_some g
beyond_none a b c rest (suc (suc k)) e f g h within = beyond_single a b c rest (suc (suc k)) e f (omega arith) within

-- a punctuator stands in front with this length
pub record IsMarkOf (bytes : Text) (mark : Punct) (n : ℕ) : Type 0 where
  pub is : punctuator_of (take n bytes) ≡ Some mark
  pub some : 0 < n
  pub within : n ≤ length bytes

abbrev pub IsFound : Text → Option (Punct × ℕ) → Type 0
IsFound bytes None = Unit {0}
IsFound bytes (Some found) = IsMarkOf bytes found.0 found.1

-- the punctuator of the longest front that is one, and its length
pub record Marked (bytes : Text) (found : Option (Punct × ℕ)) : Type 0 where
  pub length_is : longest is_mark bytes ≡ mark_length found
  pub found_is : IsFound bytes found

marked_some : (bytes : Text) (mark : Punct) (n : ℕ) → 0 < n → n ≤ length bytes → punctuator_of (take n bytes) ≡ Some mark → ((k : ℕ) → n < k → k ≤ length bytes → is_mark (take k bytes) ≡ false)
    → Marked bytes (Some (mark, n))
marked_some bytes mark n more within e beyond = record {
  length_is = longest_is is_mark bytes n within (λ _. ap is_some e) beyond;
  found_is = record { is = e; some = more; within = within };
}

marked_none : (bytes : Text) → ((k : ℕ) → 0 < k → k ≤ length bytes → is_mark (take k bytes) ≡ false) → Marked bytes None
marked_none bytes beyond = record {
  length_is = longest_is is_mark bytes 0 (omega arith) (λ h. absurd (omega arith)) beyond;
  found_is = tt;
}

marked_long : (a b c : ℕ) (rest : Text) (three : Option Punct) → punctuator_of (a ∷ b ∷ c ∷ []) ≡ three → (two : Option Punct) → punctuator_of (a ∷ b ∷ []) ≡ two
    → (one : Option Punct) → punctuator_of (a ∷ []) ≡ one → Marked (a ∷ b ∷ c ∷ rest) (first_mark (mark_of 3 three) (first_mark (mark_of 2 two) (mark_of 1 one)))
marked_long a b c rest (Some m) e two f one g = marked_some (a ∷ b ∷ c ∷ rest) m 3 (omega arith) (omega arith) e (beyond_three a b c rest)
marked_long a b c rest None e (Some m) f one g = marked_some (a ∷ b ∷ c ∷ rest) m 2 (omega arith) (omega arith) f (λ k. beyond_two a b c rest k e)
marked_long a b c rest None e None f (Some m) g = marked_some (a ∷ b ∷ c ∷ rest) m 1 (omega arith) (omega arith) g (λ k. beyond_single a b c rest k e f)
marked_long a b c rest None e None f None g = marked_none (a ∷ b ∷ c ∷ rest) (λ k. beyond_none a b c rest k e f g)

pair_beyond : (a b : ℕ) (k : ℕ) → punctuator_of (a ∷ b ∷ []) ≡ None → 1 < k → k ≤ 2 → is_mark (take k (a ∷ b ∷ [])) ≡ false
pair_beyond a b k e h within = let two : 2 ≡ k = omega arith in subst (λ n. is_mark (take n (a ∷ b ∷ [])) ≡ false) two (ap is_some e)

pair_none : (a b : ℕ) (k : ℕ) → punctuator_of (a ∷ b ∷ []) ≡ None → punctuator_of (a ∷ []) ≡ None → 0 < k → k ≤ 2 → is_mark (take k (a ∷ b ∷ [])) ≡ false
pair_none a b zero e f h within = absurd (omega arith)
pair_none a b (suc zero) e f h within = ap is_some f
pair_none a b (suc (suc k)) e f h within = pair_beyond a b (suc (suc k)) e (omega arith) within

marked_pair : (a b : ℕ) (two : Option Punct) → punctuator_of (a ∷ b ∷ []) ≡ two → (one : Option Punct) → punctuator_of (a ∷ []) ≡ one
    → Marked (a ∷ b ∷ []) (first_mark (mark_of 2 two) (mark_of 1 one))
marked_pair a b (Some m) e one f = marked_some (a ∷ b ∷ []) m 2 (omega arith) (omega arith) e (λ k h within. absurd (omega arith))
marked_pair a b None e (Some m) f = marked_some (a ∷ b ∷ []) m 1 (omega arith) (omega arith) f (λ k. pair_beyond a b k e)
marked_pair a b None e None f = marked_none (a ∷ b ∷ []) (λ k. pair_none a b k e f)

marked_single : (a : ℕ) (one : Option Punct) → punctuator_of (a ∷ []) ≡ one → Marked (a ∷ []) (mark_of 1 one)
marked_single a (Some m) e = marked_some (a ∷ []) m 1 (omega arith) (omega arith) e (λ k h within. absurd (omega arith))
marked_single a None e = marked_none (a ∷ []) (λ k h within. let one : 1 ≡ k = omega arith in subst (λ n. is_mark (take n (a ∷ [])) ≡ false) one (ap is_some e))

pub marked : (bytes : Text) → Marked bytes (punctuator_in bytes)
unfolding punctuator_in
marked [] = marked_none [] (λ k h within. absurd (omega arith))
marked (a ∷ []) = marked_single a (punctuator_of (a ∷ [])) refl
marked (a ∷ b ∷ []) = marked_pair a b (punctuator_of (a ∷ b ∷ [])) refl (punctuator_of (a ∷ [])) refl
marked (a ∷ b ∷ c ∷ rest) =
    marked_long a b c rest (punctuator_of (a ∷ b ∷ c ∷ [])) refl (punctuator_of (a ∷ b ∷ [])) refl (punctuator_of (a ∷ [])) refl
