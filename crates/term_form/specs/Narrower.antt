-- Facts that are narrower than others, part by part, and the two ends of that order.
use Rattle.std.specs.Prelude.{◌≡◌, ℕ, ◌-◌, ◌^◌, ◌≤◌, pos, negsuc, ◌≤ℤ◌, bit_and}
use Rattle.std.specs.Int.{◌∣◌}
use Rattle.term_form.specs.declared.facts.Facts.{Facts}
use Rattle.term_form.specs.Interval.{signed}
use Rattle.term_form.specs.Congruence.{IsCongruent, rest_number}

-- each interval of f lies in that of g; they are told apart, so a signed interval is compared with the signed one alone
pub record LiesWithin (f g : Facts) : Type 0 where
  pub low : g.low ≤ℤ f.low
  pub high : f.high ≤ℤ g.high
  pub least : g.least ≤ f.least
  pub most : f.most ≤ g.most

-- f knows each bit that g knows
pub record KnowsBitsOf (f g : Facts) : Type 0 where
  pub zeros : bit_and f.zeros g.zeros ≡ g.zeros
  pub ones : bit_and f.ones g.ones ≡ g.ones

-- the congruence of f lies in that of g
pub record RefinesRest (f g : Facts) : Type 0 where
  pub modulus : g.modulus ∣ f.modulus
  pub rest : IsCongruent g.modulus (rest_number f.modulus f.rest) (rest_number g.modulus g.rest)

-- f is at most as wide as g in each part
pub record IsNarrower (f g : Facts) : Type 0 where
  pub intervals : LiesWithin f g
  pub bits : KnowsBitsOf f g
  pub congruence : RefinesRest f g

-- the facts of one word alone
abbrev pub only_word : ℕ → Facts
only_word word = record { low = signed word; high = signed word; least = word; most = word; zeros = 2 ^ 32 - 1 - word; ones = word; modulus = 0; rest = word }

-- facts that say nothing
abbrev pub any_word : Facts
any_word = record { low = negsuc (2 ^ 31 - 1); high = pos (2 ^ 31 - 1); least = 0; most = 2 ^ 32 - 1; zeros = 0; ones = 0; modulus = 1; rest = 0 }
