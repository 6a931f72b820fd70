-- The best facts of the results of an operation: the least part that holds of all of them (after Cousot's best transformer).
use Rattle.std.specs.Prelude.{◌≡◌, ℕ, ◌^◌, ◌<◌, ◌≤◌, ℤ, ◌≤ℤ◌, bit_and, Some}
use Rattle.word_ops.specs.declared.operation.Op.{Op}
use Rattle.word_ops.specs.Operation.{word_of_operation}
use Rattle.term_form.specs.declared.facts.Facts.{Facts}
use Rattle.term_form.specs.Interval.{signed}
use Rattle.term_form.specs.Bits.{HasBits}
use Rattle.term_form.specs.Congruence.{HasRest}

-- ---- words that meet one part of facts

abbrev pub IsInSigned : Facts → ℕ → Type 0
IsInSigned f word = (word < 2 ^ 32) × (f.low ≤ℤ signed word) × (signed word ≤ℤ f.high)

abbrev pub IsInUnsigned : Facts → ℕ → Type 0
IsInUnsigned f word = (word < 2 ^ 32) × (f.least ≤ word) × (word ≤ f.most)

abbrev pub IsInBits : Facts → ℕ → Type 0
IsInBits f word = (word < 2 ^ 32) × HasBits f word

abbrev pub IsInRest : Facts → ℕ → Type 0
IsInRest f word = (word < 2 ^ 32) × HasRest f.modulus f.rest word

-- ---- results

-- a defined result of the operation on a word of the first kind and one of the second
abbrev pub IsResult : Op → (First Second : ℕ → Type 0) → ℕ → Type 0
IsResult op First Second n = (a b : ℕ) × First a × Second b × (word_of_operation op a b ≡ Some n)

-- some result is defined
abbrev pub HasResult : Op → (First Second : ℕ → Type 0) → Type 0
HasResult op First Second = (n : ℕ) × IsResult op First Second n

-- ---- the part of facts lies in the least such part that holds of all words of a kind: in each one that does

-- of the signed intervals the least is the hull
abbrev pub IsInBestSigned : (Words : ℕ → Type 0) → Facts → Type 0
IsInBestSigned Words h = (low high : ℤ) → ((n : ℕ) → Words n → (low ≤ℤ signed n) × (signed n ≤ℤ high)) → (low ≤ℤ h.low) × (h.high ≤ℤ high)

abbrev pub IsInBestUnsigned : (Words : ℕ → Type 0) → Facts → Type 0
IsInBestUnsigned Words h = (least most : ℕ) → ((n : ℕ) → Words n → (least ≤ n) × (n ≤ most)) → (least ≤ h.least) × (h.most ≤ most)

-- of known bits the least part has all bits that the words have in common
abbrev pub IsInBestBits : (Words : ℕ → Type 0) → Facts → Type 0
IsInBestBits Words h = (zeros ones : ℕ) → zeros < 2 ^ 32 → ones < 2 ^ 32 → ((n : ℕ) → Words n → (bit_and n zeros ≡ 0) × (bit_and n ones ≡ ones)) → (bit_and h.zeros zeros ≡ zeros) × (bit_and h.ones ones ≡ ones)

-- of congruences the least has the greatest common divisor of the differences as its modulus
abbrev pub IsInBestRest : (Words : ℕ → Type 0) → Facts → Type 0
IsInBestRest Words h = (modulus rest : ℕ) → ((n : ℕ) → Words n → HasRest modulus rest n) → (n : ℕ) → IsInRest h n → HasRest modulus rest n
