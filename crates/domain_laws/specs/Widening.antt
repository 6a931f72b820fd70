-- Widening at the head of a loop: how facts that were assumed give way to those of an edge back (after Cousot and Cousot; the
-- thresholds are the profile's).
use Rattle.std.specs.Prelude.{◌≡◌, ℕ, ◌-◌, ◌^◌, nat_le, ℤ, pos, negsuc, int_le, if◌then◌else◌, List, [], ◌∷◌, reverse, find, unwrap_or}
use Rattle.term_form.specs.declared.facts.Facts.{Facts}
use Rattle.term_form.specs.Bits.{HasHullOfBits}
use Rattle.term_form.specs.Congruence.{IsHullOfCongruences}
use Rattle.term_form.specs.Narrower.{KnowsBitsOf, RefinesRest}
use Rattle.domain_laws.specs.declared.widening.Widening.{Widening}
use Rattle.domain_laws.specs.declared.widening.Widening.TheVariants.{Threshold, Extreme}

-- ---- thresholds

-- the ends and the greatest numbers of the types, in order
abbrev pub signed_thresholds : List ℤ
signed_thresholds = negsuc (2 ^ 31 - 1) ∷ negsuc (2 ^ 15 - 1) ∷ negsuc (2 ^ 7 - 1) ∷ negsuc 0 ∷ pos 0 ∷ pos 127 ∷ pos 255 ∷ pos 32767 ∷ pos 65535 ∷ pos 2147483647 ∷ []

abbrev pub unsigned_thresholds : List ℕ
unsigned_thresholds = 0 ∷ 127 ∷ 255 ∷ 32767 ∷ 65535 ∷ 2147483647 ∷ 4294967295 ∷ []

-- the greatest threshold that is at most the bound: the last of them
abbrev pub signed_below : ℤ → ℤ
signed_below bound = unwrap_or (find (λ t. int_le t bound) (reverse signed_thresholds)) (negsuc (2 ^ 31 - 1))

-- the least threshold that is at least the bound: the first of them
abbrev pub signed_above : ℤ → ℤ
signed_above bound = unwrap_or (find (λ t. int_le bound t) signed_thresholds) (pos (2 ^ 31 - 1))

abbrev pub unsigned_below : ℕ → ℕ
unsigned_below bound = unwrap_or (find (λ t. nat_le t bound) (reverse unsigned_thresholds)) 0

abbrev pub unsigned_above : ℕ → ℕ
unsigned_above bound = unwrap_or (find (λ t. nat_le bound t) unsigned_thresholds) (2 ^ 32 - 1)

-- ---- all parts

-- a bound that back does not pass stays, another one moves outward to the nearest threshold that back does not pass; bits and
-- congruences take the hull
pub record IsWidenedByThreshold (assumed back result : Facts) : Type 0 where
  pub low : result.low ≡ (if int_le assumed.low back.low then assumed.low else signed_below back.low)
  pub high : result.high ≡ (if int_le back.high assumed.high then assumed.high else signed_above back.high)
  pub least : result.least ≡ (if nat_le assumed.least back.least then assumed.least else unsigned_below back.least)
  pub most : result.most ≡ (if nat_le back.most assumed.most then assumed.most else unsigned_above back.most)
  pub bits : HasHullOfBits assumed back result
  pub congruence : IsHullOfCongruences assumed.modulus assumed.rest back.modulus back.rest result.modulus result.rest

-- bits stay where back knows them all, else nothing is known of any
pub record HasBitsOrNone (assumed back result : Facts) : Type 0 where
  pub kept : KnowsBitsOf back assumed → (result.zeros ≡ assumed.zeros) × (result.ones ≡ assumed.ones)
  pub dropped : (KnowsBitsOf back assumed → ⊥) → (result.zeros ≡ 0) × (result.ones ≡ 0)

-- a congruence stays where that of back lies in it, else nothing is known
pub record HasRestOrNone (assumed back result : Facts) : Type 0 where
  pub kept : RefinesRest back assumed → (result.modulus ≡ assumed.modulus) × (result.rest ≡ assumed.rest)
  pub dropped : (RefinesRest back assumed → ⊥) → (result.modulus ≡ 1) × (result.rest ≡ 0)

-- a bound that back does not pass stays, another one goes to its end; bits and congruences that were not covered are dropped
pub record IsWidenedToExtremes (assumed back result : Facts) : Type 0 where
  pub low : result.low ≡ (if int_le assumed.low back.low then assumed.low else negsuc (2 ^ 31 - 1))
  pub high : result.high ≡ (if int_le back.high assumed.high then assumed.high else pos (2 ^ 31 - 1))
  pub least : result.least ≡ (if nat_le assumed.least back.least then assumed.least else 0)
  pub most : result.most ≡ (if nat_le back.most assumed.most then assumed.most else 2 ^ 32 - 1)
  pub bits : HasBitsOrNone assumed back result
  pub congruence : HasRestOrNone assumed back result

-- what was assumed, widened by the facts of an edge back
abbrev pub IsWidened : (assumed back : Facts) → Widening → (result : Facts) → Type 0
IsWidened a b Threshold r = IsWidenedByThreshold a b r
IsWidened a b Extreme r = IsWidenedToExtremes a b r
