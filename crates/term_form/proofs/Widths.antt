-- Laws of facts that are narrower than others.
use Rattle.std.proofs.Common.{◌≡◌, ℕ, min, ◌-◌, ◌<◌, ◌^◌, sym, ap, ◌∙◌, subst, arith, bit_and, bit_xor}
use Rattle.std.specs.Int.{◌∣◌}
use Rattle.std.specs.Int.{bit_at}
use Rattle.std.specs.Int.Bits.{and_self, and_zero_l, and_zero_r, xor_add_and}
use Rattle.std.proofs.lemmas.Int.{ints, clamps}
use Rattle.std.proofs.lemmas.Nat.{and_assoc, and_comm, and_mask}
use Rattle.std.proofs.lemmas.Nat.Bits.{same_from_bits, bit_at_and, bit_at_xor, bit_at-zero, bit_at-lt}
use Rattle.std.proofs.Math.Nat.{mod-eq_of_lt, one-dvd}
use Rattle.word_ops.specs.Laws.Operations.{signed_value-fits}
use Rattle.std.proofs.lemmas.Nat.Gcd.{dvd_refl, dvd_trans, dvd_antisymm}
use Rattle.term_form.specs.declared.facts.Facts.{Facts}
use Rattle.term_form.specs.Interval.{signed, IsBetween}
use Rattle.term_form.specs.Bits.{HasBits}
use Rattle.term_form.specs.Congruence.{rest_number, HasRest, rests_apart}
use Rattle.term_form.specs.Meets.{Meets, LiesIn, IsHull}
use Rattle.term_form.specs.Narrower.{IsNarrower, LiesWithin, KnowsBitsOf, RefinesRest, only_word, any_word}
use Rattle.term_form.proofs.Congruences.{congruent_refl, congruent_sym, congruent_trans, congruent_dvd, congruent_from_apart, apart_from_congruent}

-- ---- an order

pub IsNarrower-refl : (f : Facts) → IsNarrower f f
IsNarrower-refl f = record {
  intervals = record { low = omega (arith, ints); high = omega (arith, ints); least = omega arith; most = omega arith };
  bits = record { zeros = and_self f.zeros; ones = and_self f.ones };
  congruence = record { modulus = dvd_refl f.modulus; rest = congruent_refl f.modulus (rest_number f.modulus f.rest) };
}

-- a mask of masks
and_left : (x y z : ℕ) → bit_and x (bit_and y z) ≡ bit_and (bit_and x y) z
and_left x y z = sym (and_assoc z x y)

mask_trans : (x y z : ℕ) → bit_and x y ≡ y → bit_and y z ≡ z → bit_and x z ≡ z
mask_trans x y z e f = ap (bit_and x) (sym f) ∙ and_left x y z ∙ ap (λ t. bit_and t z) e ∙ f

pub IsNarrower-trans : (f g h : Facts) → IsNarrower f g → IsNarrower g h → IsNarrower f h
IsNarrower-trans f g h p q = record {
  intervals = record {
    low = omega (arith, ints, p.intervals.low, q.intervals.low);
    high = omega (arith, ints, p.intervals.high, q.intervals.high);
    least = omega (arith, p.intervals.least, q.intervals.least);
    most = omega (arith, p.intervals.most, q.intervals.most);
  };
  bits = record { zeros = mask_trans f.zeros g.zeros h.zeros p.bits.zeros q.bits.zeros; ones = mask_trans f.ones g.ones h.ones p.bits.ones q.bits.ones };
  congruence = record {
    modulus = dvd_trans h.modulus q.congruence.modulus p.congruence.modulus;
    rest = congruent_trans h.modulus _ _ _ (congruent_dvd h.modulus g.modulus _ _ q.congruence.modulus p.congruence.rest) q.congruence.rest;
  };
}

-- ---- what narrower facts hold of, the wider ones hold of

between_wider : (f g : Facts) (word : ℕ) → LiesWithin f g → IsBetween f word → IsBetween g word
between_wider f g word p m = record {
  low = omega (arith, ints, p.low, m.low);
  high = omega (arith, ints, p.high, m.high);
  least = omega (arith, p.least, m.least);
  most = omega (arith, p.most, m.most);
}

bits_wider : (f g : Facts) (word : ℕ) → KnowsBitsOf f g → HasBits f word → HasBits g word
bits_wider f g word p m = record {
  zeros = ap (bit_and word) (sym p.zeros) ∙ and_left word f.zeros g.zeros ∙ ap (λ t. bit_and t g.zeros) m.zeros ∙ and_zero_l g.zeros;
  ones = ap (bit_and word) (sym p.ones) ∙ and_left word f.ones g.ones ∙ ap (λ t. bit_and t g.ones) m.ones ∙ p.ones;
}

rest_wider : (f g : Facts) (word : ℕ) → RefinesRest f g → HasRest f.modulus f.rest word → HasRest g.modulus g.rest word
rest_wider f g word p m = congruent_trans g.modulus _ _ _ (congruent_dvd g.modulus f.modulus _ _ p.modulus m) p.rest

pub IsNarrower-lies : (f g : Facts) → IsNarrower f g → LiesIn f g
IsNarrower-lies f g p = record {
  between = λ word lt m. between_wider f g word p.intervals m;
  bits = λ word lt m. bits_wider f g word p.bits m;
  rest = λ word lt m. rest_wider f g word p.congruence m;
}

pub IsNarrower-meets : (f g : Facts) (word : ℕ) → IsNarrower f g → Meets f word → Meets g word
IsNarrower-meets f g word p m =
    record { between = between_wider f g word p.intervals m.between; bits = bits_wider f g word p.bits m.bits; rest = rest_wider f g word p.congruence m.rest }

-- ---- the hull

masked : (x y z : ℕ) → z ≡ bit_and x y → bit_and x z ≡ z
masked x y z e = ap (bit_and x) e ∙ and_left x x y ∙ ap (λ t. bit_and t y) (and_self x) ∙ sym e

pub IsHull-first : (a b f : Facts) → IsHull a b f → IsNarrower a f
IsHull-first a b f h = record {
  intervals = record {
    low = omega (arith, ints, clamps, h.intervals.low);
    high = omega (arith, ints, clamps, h.intervals.high);
    least = omega (arith, h.intervals.least);
    most = omega (arith, h.intervals.most);
  };
  bits = record { zeros = masked a.zeros b.zeros f.zeros h.bits.zeros; ones = masked a.ones b.ones f.ones h.bits.ones };
  congruence = record { modulus = h.congruences.common.first; rest = h.congruences.same };
}

pub IsHull-second : (a b f : Facts) → IsHull a b f → IsNarrower b f
IsHull-second a b f h = record {
  intervals = record {
    low = omega (arith, ints, clamps, h.intervals.low);
    high = omega (arith, ints, clamps, h.intervals.high);
    least = omega (arith, h.intervals.least);
    most = omega (arith, h.intervals.most);
  };
  bits = record {
    zeros = masked b.zeros a.zeros f.zeros (h.bits.zeros ∙ and_comm a.zeros b.zeros);
    ones = masked b.ones a.ones f.ones (h.bits.ones ∙ and_comm a.ones b.ones);
  };
  congruence = record {
    modulus = h.congruences.common.second;
    rest = congruent_trans f.modulus _ _ _ (congruent_sym f.modulus _ _ (congruent_from_apart f.modulus (rest_number a.modulus a.rest) (rest_number b.modulus b.rest) h.congruences.common.third)) h.congruences.same;
  };
}

-- the congruence of a lies in that of b exactly where the hull of both has the modulus of b
pub modulus_of_hull : (a b f : Facts) → IsHull a b f → RefinesRest a b → f.modulus ≡ b.modulus
modulus_of_hull a b f h r =
    dvd_antisymm h.congruences.common.second (h.congruences.common.greatest b.modulus r.modulus (dvd_refl b.modulus) (apart_from_congruent b.modulus _ _ r.rest))

pub refines_by_hull : (a b f : Facts) → IsHull a b f → f.modulus ≡ b.modulus → RefinesRest a b
refines_by_hull a b f h e = record {
  modulus = subst (λ m. m ∣ a.modulus) e h.congruences.common.first;
  rest = congruent_from_apart b.modulus _ _ (subst (λ m. m ∣ rests_apart a.modulus a.rest b.modulus b.rest) e h.congruences.common.third);
}

-- ---- the two ends

-- a word and its complement have no bit in common
and_complement : (w : ℕ) → w < 2 ^ 32 → bit_and w (2 ^ 32 - 1 - w) ≡ 0
and_complement w lt =
    let mask : bit_and w (2 ^ 32 - 1) ≡ w = and_mask w 32 ∙ mod-eq_of_lt lt in
    let sum = xor_add_and w (2 ^ 32 - 1) in
    let is : 2 ^ 32 - 1 - w ≡ bit_xor w (2 ^ 32 - 1) = omega (arith, mask, sum) in
    ap (bit_and w) is ∙ same_from_bits _ _ (λ i.
    let here : bit_at w i ≡ min (bit_at w i) (bit_at (2 ^ 32 - 1) i) = ap (λ n. bit_at n i) (sym mask) ∙ bit_at_and w (2 ^ 32 - 1) i in
    omega (arith, here, bit_at_and w (bit_xor w (2 ^ 32 - 1)) i, bit_at_xor w (2 ^ 32 - 1) i, bit_at-zero i, bit_at-lt w i, bit_at-lt (2 ^ 32 - 1) i))

pub only_meets : (w : ℕ) → w < 2 ^ 32 → Meets (only_word w) w
only_meets w lt = record {
  between = record { low = omega (arith, ints); high = omega (arith, ints); least = omega arith; most = omega arith };
  bits = record { zeros = and_complement w lt; ones = and_self w };
  rest = congruent_refl 0 (signed w);
}

pub only_alone : (w n : ℕ) → Meets (only_word w) n → n ≡ w
only_alone w n m = omega (arith, m.between.least, m.between.most)

pub any_meets : (n : ℕ) → n < 2 ^ 32 → Meets any_word n
any_meets n lt = record {
  between = record { low = omega (arith, ints, signed_value-fits n lt); high = omega (arith, ints, signed_value-fits n lt); least = omega arith; most = omega arith };
  bits = record { zeros = and_zero_r n; ones = and_zero_r n };
  rest = congruent_from_apart 1 (signed n) (rest_number 1 0) (one-dvd _);
}
