-- The longest front that passes a test.
use Rattle.std.proofs.Common.{◌≡◌, ℕ, zero, suc, ◌<◌, ◌≤◌, Bool, true, false, cond, length, take, refl, ap, ◌∙◌, subst, ⊎_elim, arith}
use Rattle.std.proofs.lemmas.Bool.{cond-true, cond-false, cases_lt}
use Rattle.c_lexer.specs.Fronts.{Text, longest_within, longest, IsLongest}

-- where no front above m passes, the longest is among those up to m
longest_within_stops : (test : Text → Bool) (bytes : Text) (n m : ℕ) → m ≤ n → ((k : ℕ) → m < k → k ≤ n → test (take k bytes) ≡ false)
    → longest_within test n bytes ≡ longest_within test m bytes
longest_within_stops test bytes zero m h none = let e : 0 ≡ m = omega arith in ap (λ k. longest_within test k bytes) e
longest_within_stops test bytes (suc n) m h none =
    ⊎_elim
    (λ (less : n < m). let e : suc n ≡ m = omega arith in ap (λ k. longest_within test k bytes) e)
    (λ (more : m ≤ n). cond-false (test (take (suc n) bytes)) (suc n) (longest_within test n bytes) (none (suc n) (omega arith) (omega arith)) ∙ longest_within_stops test bytes n m more (λ k a b. none k a (omega arith)))
    (cases_lt n m)

longest_within_here : (test : Text → Bool) (bytes : Text) (n : ℕ) → (0 < n → test (take n bytes) ≡ true) → longest_within test n bytes ≡ n
longest_within_here test bytes zero h = refl
longest_within_here test bytes (suc n) h = cond-true (test (take (suc n) bytes)) (suc n) (longest_within test n bytes) (h (omega arith))

-- a front that passes is the longest where none above it does
pub longest_is : (test : Text → Bool) (bytes : Text) (n : ℕ) → n ≤ length bytes → (0 < n → test (take n bytes) ≡ true)
    → ((k : ℕ) → n < k → k ≤ length bytes → test (take k bytes) ≡ false) → longest test bytes ≡ n
unfolding longest
longest_is test bytes n h here none = longest_within_stops test bytes (length bytes) n h none ∙ longest_within_here test bytes n here

longest_within_same : (f g : Text → Bool) (bytes : Text) (n : ℕ) → ((k : ℕ) → 0 < k → k ≤ n → f (take k bytes) ≡ g (take k bytes))
    → longest_within f n bytes ≡ longest_within g n bytes
longest_within_same f g bytes zero h = refl
longest_within_same f g bytes (suc n) h =
    ap (λ b. cond b (suc n) (longest_within f n bytes)) (h (suc n) (omega arith) (omega arith))
    ∙ ap (λ m. cond (g (take (suc n) bytes)) (suc n) m) (longest_within_same f g bytes n (λ k a b. h k a (omega arith)))

-- tests that agree on each front have one longest front
pub longest_same : (f g : Text → Bool) (bytes : Text) → ((k : ℕ) → 0 < k → k ≤ length bytes → f (take k bytes) ≡ g (take k bytes)) → longest f bytes ≡ longest g bytes
unfolding longest
longest_same f g bytes h = longest_within_same f g bytes (length bytes) h

-- ---- what is called the longest is so

within_by : (n m : ℕ) (b : Bool) → m ≤ n → cond b (suc n) m ≤ suc n
within_by n m true h = omega arith
within_by n m false h = omega arith

longest_within_le : (test : Text → Bool) (bytes : Text) (n : ℕ) → longest_within test n bytes ≤ n
longest_within_le test bytes zero = omega arith
longest_within_le test bytes (suc n) = within_by n (longest_within test n bytes) (test (take (suc n) bytes)) (longest_within_le test bytes n)

passes_by : (test : Text → Bool) (bytes : Text) (n m : ℕ) (b : Bool) → test (take (suc n) bytes) ≡ b → (0 < m → test (take m bytes) ≡ true)
    → 0 < cond b (suc n) m → test (take (cond b (suc n) m) bytes) ≡ true
passes_by test bytes n m true e ih h = e
passes_by test bytes n m false e ih h = ih h

longest_within_passes : (test : Text → Bool) (bytes : Text) (n : ℕ) → 0 < longest_within test n bytes → test (take (longest_within test n bytes) bytes) ≡ true
longest_within_passes test bytes zero h = absurd (omega arith)
longest_within_passes test bytes (suc n) h =
    passes_by test bytes n (longest_within test n bytes) (test (take (suc n) bytes)) refl (longest_within_passes test bytes n) h

no_longer_by : (test : Text → Bool) (bytes : Text) (n m : ℕ) (b : Bool) → test (take (suc n) bytes) ≡ b → ((k : ℕ) → m < k → k ≤ n → test (take k bytes) ≡ false)
    → (k : ℕ) → cond b (suc n) m < k → k ≤ suc n → test (take k bytes) ≡ false
no_longer_by test bytes n m true e ih k less within = absurd (omega arith)
no_longer_by test bytes n m false e ih k less within =
    ⊎_elim (λ (below : k < suc n). ih k less (omega arith))
    (λ (at : suc n ≤ k). let same : suc n ≡ k = omega arith in subst (λ i. test (take i bytes) ≡ false) same e)
    (cases_lt k (suc n))

longest_within_no_longer : (test : Text → Bool) (bytes : Text) (n k : ℕ) → longest_within test n bytes < k → k ≤ n → test (take k bytes) ≡ false
longest_within_no_longer test bytes zero k less within = absurd (omega arith)
longest_within_no_longer test bytes (suc n) k less within =
    no_longer_by test bytes n (longest_within test n bytes) (test (take (suc n) bytes)) refl (longest_within_no_longer test bytes n) k less within

pub longest_is_longest : (test : Text → Bool) (bytes : Text) → IsLongest test bytes (longest test bytes)
unfolding longest
longest_is_longest test bytes = record {
  within = longest_within_le test bytes (length bytes);
  passes = longest_within_passes test bytes (length bytes);
  no_longer = longest_within_no_longer test bytes (length bytes);
}
