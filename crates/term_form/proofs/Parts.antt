-- What the hull and the meet of two facts hold of, part by part.
use Rattle.std.proofs.Common.{◌≡◌, ℕ, ◌<◌, ◌^◌, Bool, true, false, cond, ◌⊎◌, inl, inr, sym, ap, ◌∙◌, subst, arith, bit_and, bit_or}
use Rattle.std.proofs.lemmas.Int.{ints, clamps}
use Rattle.std.proofs.lemmas.Nat.{and_assoc, and_comm}
use Rattle.std.proofs.lemmas.Nat.Bits.{same_from_bits, bit_at_and, bit_at_or}
use Rattle.term_form.specs.declared.facts.Facts.{Facts}
use Rattle.term_form.specs.Interval.{IsBetween, HasHullOfIntervals, HasMeetOfIntervals}
use Rattle.term_form.specs.Bits.{HasBits, HasHullOfBits, HasMeetOfBits}
use Rattle.term_form.specs.Congruence.{rest_number, HasRest, is_as_large, IsHullOfCongruences, IsMeetOfCongruences}
use Rattle.term_form.proofs.Congruences.{congruent_sym, congruent_trans, congruent_dvd, congruent_from_apart}
use Rattle.term_form.specs.Meets.{Meets, LiesIn, IsHull, IsMeet}

between_first : (a b f : Facts) (word : ℕ) → HasHullOfIntervals a b f → IsBetween a word → IsBetween f word
between_first a b f word h m = record { low = omega (arith, ints, clamps); high = omega (arith, ints, clamps); least = omega arith; most = omega arith }

between_second : (a b f : Facts) (word : ℕ) → HasHullOfIntervals a b f → IsBetween b word → IsBetween f word
between_second a b f word h m = record { low = omega (arith, ints, clamps); high = omega (arith, ints, clamps); least = omega arith; most = omega arith }

between_both : (a b f : Facts) (word : ℕ) → HasMeetOfIntervals a b f → IsBetween a word → IsBetween b word → IsBetween f word
between_both a b f word h m n = record { low = omega (arith, ints, clamps); high = omega (arith, ints, clamps); least = omega arith; most = omega arith }

-- the bits in common with a part of a mask
and_part : (w x y z : ℕ) → bit_and w x ≡ z → bit_and w (bit_and x y) ≡ bit_and z y
and_part w x y z e = sym (and_assoc y w x) ∙ ap (λ t. bit_and t y) e

bits_first : (a b f : Facts) (word : ℕ) → HasHullOfBits a b f → HasBits a word → HasBits f word
bits_first a b f word h m = record {
  zeros = ap (bit_and word) h.zeros ∙ and_part word a.zeros b.zeros 0 m.zeros;
  ones = ap (bit_and word) h.ones ∙ and_part word a.ones b.ones a.ones m.ones ∙ sym h.ones;
}

bits_second : (a b f : Facts) (word : ℕ) → HasHullOfBits a b f → HasBits b word → HasBits f word
bits_second a b f word h m = bits_first b a f word (record { zeros = h.zeros ∙ and_comm a.zeros b.zeros; ones = h.ones ∙ and_comm a.ones b.ones }) m

-- the bits in common with two masks together
and-or : (w x y : ℕ) → bit_and w (bit_or x y) ≡ bit_or (bit_and w x) (bit_and w y)
and-or w x y = same_from_bits _ _ (λ i. omega (arith, bit_at_and w (bit_or x y) i, bit_at_or x y i, bit_at_or (bit_and w x) (bit_and w y) i, bit_at_and w x i, bit_at_and w y i))

bits_both : (a b f : Facts) (word : ℕ) → HasMeetOfBits a b f → HasBits a word → HasBits b word → HasBits f word
bits_both a b f word h m n = record {
  zeros = ap (bit_and word) h.zeros ∙ and-or word a.zeros b.zeros ∙ ap (λ t. bit_or t (bit_and word b.zeros)) m.zeros ∙ ap (bit_or 0) n.zeros;
  ones = ap (bit_and word) h.ones ∙ and-or word a.ones b.ones ∙ ap (λ t. bit_or t (bit_and word b.ones)) m.ones ∙ ap (bit_or a.ones) n.ones ∙ sym h.ones;
}

rest_first : (a b f : Facts) (word : ℕ) → IsHullOfCongruences a.modulus a.rest b.modulus b.rest f.modulus f.rest → HasRest a.modulus a.rest word → HasRest f.modulus f.rest word
rest_first a b f word h m = congruent_trans f.modulus _ _ _ (congruent_dvd f.modulus a.modulus _ _ h.common.first m) h.same

rest_second : (a b f : Facts) (word : ℕ) → IsHullOfCongruences a.modulus a.rest b.modulus b.rest f.modulus f.rest → HasRest b.modulus b.rest word → HasRest f.modulus f.rest word
rest_second a b f word h m =
    let between = congruent_sym f.modulus _ _ (congruent_from_apart f.modulus (rest_number a.modulus a.rest) (rest_number b.modulus b.rest) h.common.third) in
    congruent_trans f.modulus _ _ _ (congruent_dvd f.modulus b.modulus _ _ h.common.second m) (congruent_trans f.modulus _ _ _ between h.same)

rest_both : (a b f : Facts) (word : ℕ) → IsMeetOfCongruences a.modulus a.rest b.modulus b.rest f.modulus f.rest → HasRest a.modulus a.rest word → HasRest b.modulus b.rest word → HasRest f.modulus f.rest word
rest_both a b f word h m n = by (is_as_large a.modulus b.modulus) h.larger h.same
  where
    by : (t : Bool) → f.modulus ≡ cond t a.modulus b.modulus → f.rest ≡ cond t a.rest b.rest → HasRest f.modulus f.rest word
    by true e d = subst (λ (k : ℕ). HasRest k f.rest word) (sym e) (subst (λ (r : ℕ). HasRest a.modulus r word) (sym d) m)
    by false e d = subst (λ (k : ℕ). HasRest k f.rest word) (sym e) (subst (λ (r : ℕ). HasRest b.modulus r word) (sym d) n)

pub lies_first : (a b f : Facts) → IsHull a b f → LiesIn a f
lies_first a b f h = record {
  between = λ word lt m. between_first a b f word h.intervals m;
  bits = λ word lt m. bits_first a b f word h.bits m;
  rest = λ word lt m. rest_first a b f word h.congruences m;
}

pub lies_second : (a b f : Facts) → IsHull a b f → LiesIn b f
lies_second a b f h = record {
  between = λ word lt m. between_second a b f word h.intervals m;
  bits = λ word lt m. bits_second a b f word h.bits m;
  rest = λ word lt m. rest_second a b f word h.congruences m;
}

-- what facts hold of, wider facts hold of
pub meets_wider : (f g : Facts) (word : ℕ) → word < 2 ^ 32 → LiesIn f g → Meets f word → Meets g word
meets_wider f g word lt h m = record { between = h.between word lt m.between; bits = h.bits word lt m.bits; rest = h.rest word lt m.rest }

pub meets_either : (a b f : Facts) (word : ℕ) → word < 2 ^ 32 → IsHull a b f → Meets a word ⊎ Meets b word → Meets f word
meets_either a b f word lt h m = elim m [ inl l ↦ meets_wider a f word lt (lies_first a b f h) l | inr r ↦ meets_wider b f word lt (lies_second a b f h) r ]

pub meets_both : (a b f : Facts) (word : ℕ) → IsMeet a b f → Meets a word → Meets b word → Meets f word
meets_both a b f word h m n = record {
  between = between_both a b f word h.intervals m.between n.between;
  bits = bits_both a b f word h.bits m.bits n.bits;
  rest = rest_both a b f word h.congruences m.rest n.rest;
}
