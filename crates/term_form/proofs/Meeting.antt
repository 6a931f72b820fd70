-- The test whether a word meets facts is exact.
use Rattle.std.proofs.Common.{◌≡◌, refl, sym, ap, subst, ℕ, zero, suc, ℤ, ◌≤ℤ◌, ◌-ℤ◌, Bool, true, false, ◌==◌}
use Rattle.std.specs.Prelude.{◌%◌, ◌&&◌, ◌↔◌, IsTrue, T, nat_le, int_le, bit_and, unsigned_abs}
use Rattle.std.specs.Int.{◌∣◌}
use Rattle.std.proofs.lemmas.Bool.{and_from, and_parts, eqb-true, eq-eqb, leb-true, le-leb}
use Rattle.std.specs.Int.Signed.{le_z_yes}
use Rattle.std.proofs.Math.Dec.{eqb-suc-zero}
use Rattle.term_form.specs.declared.facts.Facts.{Facts}
use Rattle.term_form.specs.Interval.{signed, IsBetween}
use Rattle.term_form.specs.Bits.{HasBits}
use Rattle.term_form.specs.Congruence.{rest_number, HasRest}
use Rattle.term_form.specs.Meets.{Meets, is_between, has_bits, is_multiple, has_rest, meets}
use Rattle.term_form.proofs.Congruences.{congruent_from_apart, apart_from_congruent, divides_tested, zero_tested}

int_told : (a b : ℤ) → a ≤ℤ b → int_le a b ≡ true
int_told a b h = go (int_le a b) h.le
  where
    go : (t : Bool) → T t → t ≡ true
    go true h = refl
    go false h = absurd h

int_tells : (a b : ℤ) → int_le a b ≡ true → a ≤ℤ b
int_tells a b e = le_z_yes (subst T (sym e) tt)

-- ---- the parts

between-exact : (f : Facts) (word : ℕ) → IsTrue (is_between f word) ↔ IsBetween f word
between-exact f word = (
  λ t.
      let a = and_parts (int_le f.low (signed word)) (int_le (signed word) f.high && (nat_le f.least word && nat_le word f.most)) t in
      let b = and_parts (int_le (signed word) f.high) (nat_le f.least word && nat_le word f.most) a.1 in
      let c = and_parts (nat_le f.least word) (nat_le word f.most) b.1 in
      record { low = int_tells f.low (signed word) a.0; high = int_tells (signed word) f.high b.0; least = leb-true f.least word c.0; most = leb-true word f.most c.1 },
  λ h. and_from (int_le f.low (signed word)) (int_le (signed word) f.high && (nat_le f.least word && nat_le word f.most)) (int_told f.low (signed word) h.low)
      (and_from (int_le (signed word) f.high) (nat_le f.least word && nat_le word f.most) (int_told (signed word) f.high h.high)
      (and_from (nat_le f.least word) (nat_le word f.most) (le-leb f.least word h.least) (le-leb word f.most h.most))),
)

bits-exact : (f : Facts) (word : ℕ) → IsTrue (has_bits f word) ↔ HasBits f word
bits-exact f word = (
  λ t.
      let a = and_parts (bit_and word f.zeros == 0) (bit_and word f.ones == f.ones) t in
      record { zeros = eqb-true (bit_and word f.zeros) 0 a.0; ones = eqb-true (bit_and word f.ones) f.ones a.1 },
  λ h. and_from (bit_and word f.zeros == 0) (bit_and word f.ones == f.ones) (eq-eqb (bit_and word f.zeros) 0 h.zeros) (eq-eqb (bit_and word f.ones) f.ones h.ones),
)

multiple-exact : (m n : ℕ) → IsTrue (is_multiple m n) ↔ (m ∣ n)
multiple-exact zero n = zero_tested 0 n refl
multiple-exact (suc m) n = rw (eqb-suc-zero m) (divides_tested (suc m) n)

rest-exact : (f : Facts) (word : ℕ) → IsTrue (has_rest f word) ↔ HasRest f.modulus f.rest word
rest-exact f word =
    let h = multiple-exact f.modulus (unsigned_abs (signed word -ℤ rest_number f.modulus f.rest)) in (
      λ t. congruent_from_apart f.modulus (signed word) (rest_number f.modulus f.rest) (h.0 t),
      λ c. h.1 (apart_from_congruent f.modulus (signed word) (rest_number f.modulus f.rest) c),
    )

-- ---- facts

pub meets-exact : (f : Facts) (word : ℕ) → IsTrue (meets f word) ↔ Meets f word
meets-exact f word = (
  λ t.
      let a = and_parts (is_between f word) (has_bits f word && has_rest f word) t in
      let b = and_parts (has_bits f word) (has_rest f word) a.1 in
      record { between = (between-exact f word).0 a.0; bits = (bits-exact f word).0 b.0; rest = (rest-exact f word).0 b.1 },
  λ m. and_from (is_between f word) (has_bits f word && has_rest f word) ((between-exact f word).1 m.between)
      (and_from (has_bits f word) (has_rest f word) ((bits-exact f word).1 m.bits) ((rest-exact f word).1 m.rest)),
)

-- a test that tells the same is the same
pub meets-test : (f : Facts) (word : ℕ) (b : Bool) → IsTrue b ↔ Meets f word → b ≡ meets f word
meets-test f word b h = go b (meets f word) (λ t. (meets-exact f word).1 (h.0 t)) (λ t. h.1 ((meets-exact f word).0 t))
  where
    go : (a b : Bool) → (a ≡ true → b ≡ true) → (b ≡ true → a ≡ true) → a ≡ b
    go true b h k = sym (h refl)
    go false true h k = k refl
    go false false h k = refl
