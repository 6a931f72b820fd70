-- The known bits of facts.
use Rattle.std.specs.Prelude.{◌≡◌, ℕ, bit_and, bit_or}
use Rattle.term_form.specs.declared.facts.Facts.{Facts}

-- the bits of zeros are clear in the word, and those of ones are set
pub record HasBits (f : Facts) (word : ℕ) : Type 0 where
  pub zeros : bit_and word f.zeros ≡ 0
  pub ones : bit_and word f.ones ≡ f.ones

-- the bits that a and b know alike
pub record HasHullOfBits (a b f : Facts) : Type 0 where
  pub zeros : f.zeros ≡ bit_and a.zeros b.zeros
  pub ones : f.ones ≡ bit_and a.ones b.ones

-- the bits that a or b knows
pub record HasMeetOfBits (a b f : Facts) : Type 0 where
  pub zeros : f.zeros ≡ bit_or a.zeros b.zeros
  pub ones : f.ones ≡ bit_or a.ones b.ones
