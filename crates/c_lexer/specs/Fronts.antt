-- Texts of bytes, and the longest front of a text that is of a form.
use Rattle.std.specs.Prelude.{◌≡◌, ℕ, zero, suc, ◌<◌, ◌≤◌, Bool, true, false, ◌==◌, if◌then◌else◌, List, [], ◌∷◌, length, take, Option, Some, None}
use Rattle.std.specs.List.{list_any}
use Rattle.std.specs.Str.{bytes_eq}

-- the bytes of a source, or of a part of it
abbrev pub Text : Type 0
Text = List ℕ

-- the length of the longest front of at most so many bytes that passes a test; 0 where none does
abbrev pub longest_within : (Text → Bool) → ℕ → Text → ℕ
longest_within test zero bytes = 0
longest_within test (suc n) bytes = if test (take (suc n) bytes) then suc n else longest_within test n bytes

-- the length of the longest front that passes a test; 0 where none does
unfoldable pub longest : (Text → Bool) → Text → ℕ
longest test bytes = longest_within test (length bytes) bytes

-- a front of so many bytes passes the test, if it has any, and no longer front does
pub record IsLongest (test : Text → Bool) (bytes : Text) (n : ℕ) : Type 0 where
  pub within : n ≤ length bytes
  pub passes : 0 < n → test (take n bytes) ≡ true
  pub no_longer : (k : ℕ) → n < k → k ≤ length bytes → test (take k bytes) ≡ false

-- the first byte passes a test
abbrev pub begins_with : (ℕ → Bool) → Text → Bool
begins_with test [] = false
begins_with test (b ∷ bytes) = test b

-- the byte is one of these
abbrev pub is_one_of : Text → ℕ → Bool
is_one_of bytes b = list_any (λ c. b == c) bytes

abbrev pub is_empty : {A : Type 0} → List A → Bool
is_empty [] = true
is_empty (x ∷ xs) = false

-- what stands beside a text in a table
abbrev pub lookup : {V : Type 0} → List (Text × V) → Text → Option V
lookup [] text = None
lookup (entry ∷ entries) text = if bytes_eq entry.0 text then Some entry.1 else lookup entries text
