-- The two intervals of facts.
use Rattle.std.specs.Prelude.{◌≡◌, ℕ, ◌≤◌, ℤ, ◌≤ℤ◌, min, max}
use Rattle.std.specs.Int.{w32, cast_signed, int_min, int_max}
use Rattle.term_form.specs.declared.facts.Facts.{Facts}

-- a word read as a signed number, in two's complement
abbrev pub signed : ℕ → ℤ
signed word = cast_signed w32 word

-- the word lies in both intervals, their ends among them
pub record IsBetween (f : Facts) (word : ℕ) : Type 0 where
  pub low : f.low ≤ℤ signed word
  pub high : signed word ≤ℤ f.high
  pub least : f.least ≤ word
  pub most : word ≤ f.most

-- the least intervals that hold those of a and of b
pub record HasHullOfIntervals (a b f : Facts) : Type 0 where
  pub low : f.low ≡ int_min a.low b.low
  pub high : f.high ≡ int_max a.high b.high
  pub least : f.least ≡ min a.least b.least
  pub most : f.most ≡ max a.most b.most

-- what the intervals of a and of b have in common
pub record HasMeetOfIntervals (a b f : Facts) : Type 0 where
  pub low : f.low ≡ int_max a.low b.low
  pub high : f.high ≡ int_min a.high b.high
  pub least : f.least ≡ max a.least b.least
  pub most : f.most ≡ min a.most b.most
