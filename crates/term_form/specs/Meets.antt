-- When a word meets facts, and the hull and the meet of two facts.
use Rattle.std.specs.Prelude.{ℕ, ◌<◌, ◌^◌, ◌%◌, ◌==◌, ◌&&◌, Bool, nat_le, int_le, ◌-ℤ◌, bit_and, if◌then◌else◌, unsigned_abs}
use Rattle.term_form.specs.declared.facts.Facts.{Facts}
use Rattle.term_form.specs.Interval.{signed, IsBetween, HasHullOfIntervals, HasMeetOfIntervals}
use Rattle.term_form.specs.Bits.{HasBits, HasHullOfBits, HasMeetOfBits}
use Rattle.term_form.specs.Congruence.{rest_number, HasRest, IsHullOfCongruences, IsMeetOfCongruences}

-- both intervals hold the word, the known bits agree, and read as signed it is the rest plus a multiple of the modulus
pub record Meets (f : Facts) (word : ℕ) : Type 0 where
  pub between : IsBetween f word
  pub bits : HasBits f word
  pub rest : HasRest f.modulus f.rest word

-- ---- the same as a test

abbrev pub is_between : Facts → ℕ → Bool
is_between f word =
    int_le f.low (signed word) && (int_le (signed word) f.high && (nat_le f.least word && nat_le word f.most))

abbrev pub has_bits : Facts → ℕ → Bool
has_bits f word = (bit_and word f.zeros == 0) && (bit_and word f.ones == f.ones)

-- whether a number is a multiple of another; of 0 is 0 alone
abbrev pub is_multiple : (modulus number : ℕ) → Bool
is_multiple m n = if m == 0 then n == 0 else n % m == 0

abbrev pub has_rest : Facts → ℕ → Bool
has_rest f word = is_multiple f.modulus (unsigned_abs (signed word -ℤ rest_number f.modulus f.rest))

-- whether a word meets facts
abbrev pub meets : Facts → ℕ → Bool
meets f word = is_between f word && (has_bits f word && has_rest f word)

-- ---- parts of facts

-- f lies part by part in g: what a part of f holds of, that part of g holds of
pub record LiesIn (f g : Facts) : Type 0 where
  pub between : (word : ℕ) → word < 2 ^ 32 → IsBetween f word → IsBetween g word
  pub bits : (word : ℕ) → word < 2 ^ 32 → HasBits f word → HasBits g word
  pub rest : (word : ℕ) → word < 2 ^ 32 → HasRest f.modulus f.rest word → HasRest g.modulus g.rest word

-- f is the hull of a and b, part by part
pub record IsHull (a b f : Facts) : Type 0 where
  pub intervals : HasHullOfIntervals a b f
  pub bits : HasHullOfBits a b f
  pub congruences : IsHullOfCongruences a.modulus a.rest b.modulus b.rest f.modulus f.rest

-- f is the meet of a and b, part by part
pub record IsMeet (a b f : Facts) : Type 0 where
  pub intervals : HasMeetOfIntervals a b f
  pub bits : HasMeetOfBits a b f
  pub congruences : IsMeetOfCongruences a.modulus a.rest b.modulus b.rest f.modulus f.rest
