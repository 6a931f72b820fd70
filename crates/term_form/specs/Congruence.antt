-- Congruences: a word read as signed is a rest plus a multiple of a modulus.
use Rattle.std.specs.Prelude.{◌≡◌, ℕ, ◌<◌, ◌==◌, nat_le, ℤ, pos, ◌+ℤ◌, ◌-ℤ◌, ◌*ℤ◌, Bool, not, ◌&&◌, ◌||◌, if◌then◌else◌, unsigned_abs}
use Rattle.std.specs.Int.{◌∣◌}
use Rattle.term_form.specs.Interval.{signed}

-- x is y plus a multiple of m
abbrev pub IsCongruent : ℕ → ℤ → ℤ → Type 0
IsCongruent m x y = (k : ℤ) × (x ≡ (y +ℤ (k *ℤ pos m)))

-- the number that the rest r stands for beside the modulus m: itself, and beside 0 the word that it is, read as signed
abbrev pub rest_number : (m r : ℕ) → ℤ
rest_number m r = if m == 0 then signed r else pos r

-- the word read as signed is the rest r plus a multiple of the modulus m
abbrev pub HasRest : (m r word : ℕ) → Type 0
HasRest m r word = IsCongruent m (signed word) (rest_number m r)

-- how far the rests of two congruences are apart
abbrev pub rests_apart : (m r m' r' : ℕ) → ℕ
rests_apart m r m' r' = unsigned_abs (rest_number m r -ℤ rest_number m' r')

-- d is the greatest common divisor of three numbers
pub record IsGreatestDivisor (a b c d : ℕ) : Type 0 where
  pub first : d ∣ a
  pub second : d ∣ b
  pub third : d ∣ c
  pub greatest : (e : ℕ) → e ∣ a → e ∣ b → e ∣ c → e ∣ d

-- modulus is the greatest under which all words of two congruences have one rest, and rest is the least such
pub record IsHullOfCongruences (m r m' r' modulus rest : ℕ) : Type 0 where
  pub common : IsGreatestDivisor m m' (rests_apart m r m' r') modulus
  pub same : IsCongruent modulus (rest_number m r) (rest_number modulus rest)
  pub least : 0 < modulus → rest < modulus

-- the modulus m is as large as m', 0 being larger than all others
abbrev pub is_as_large : (m m' : ℕ) → Bool
is_as_large m m' = (m == 0) || (not (m' == 0) && nat_le m' m)

-- modulus and rest are those of the congruence with the larger modulus
pub record IsMeetOfCongruences (m r m' r' modulus rest : ℕ) : Type 0 where
  pub larger : modulus ≡ (if is_as_large m m' then m else m')
  pub same : rest ≡ (if is_as_large m m' then r else r')
