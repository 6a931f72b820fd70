-- What bytes of the form satisfy.
use Rattle.std.proofs.Common.{◌≡◌, ℕ, zero, suc, ◌+◌, ◌*◌, ◌%◌, ◌^◌, ◌<◌, ◌≤◌, Bool, true, false, ◌&&◌, eqb, leb, ltb, length, List, None, refl, arith}
use Rattle.std.specs.Prelude.{slice_index}
use Rattle.std.proofs.lemmas.Bool.{eqb-true, leb-true, ltb-true}
use Rattle.image_form.specs.Limits.{text_start}
use Rattle.image_form.specs.Form.{word_at, ◌>>◌, reaches, unless, byte_is, number_is, is_entry, header_wrong, records_wrong, records_start, ends, first_wrong}
use Rattle.image_form.proofs.Chain.{then_none}
use Rattle.image_form.proofs.Right.{reaches_to, test_holds, number_right, records_right}

-- records that are right lie inside the bytes
pub records_reach : (b : List ℕ) (start n : ℕ) → start ≤ length b → records_wrong b start n ≡ None → start + 64 * n ≤ length b
records_reach b start zero h e = omega arith
records_reach b start (suc n) h e = let p = records_right b start n e in omega (arith, records_reach b (start + 64) n p.0.there p.1)

pub record Whole (b : List ℕ) : Type 0 where
  pub header : header_wrong b ≡ None
  pub start : records_start b ≤ length b
  pub records : records_wrong b (records_start b) (word_at b 20) ≡ None
  pub all : length b ≡ records_start b + 64 * word_at b 20

pub whole : (b : List ℕ) → first_wrong b ≡ None → Whole b
unfolding first_wrong
whole b h =
    let start = records_start b in
    let p = then_none (header_wrong b) (reaches b start >> records_wrong b start (word_at b 20) >> ends b (start + 64 * word_at b 20)) h in
    let q = then_none (reaches b start) (records_wrong b start (word_at b 20) >> ends b (start + 64 * word_at b 20)) p.1 in
    let r = then_none (records_wrong b start (word_at b 20)) (ends b (start + 64 * word_at b 20)) q.1 in
    let there = reaches_to b start q.0 in
    let low = records_reach b start (word_at b 20) there r.0 in
    let high = leb-true _ _ (test_holds (start + 64 * word_at b 20) (leb (length b) (start + 64 * word_at b 20)) r.1) in
    record { header = p.0; start = there; records = r.0; all = omega arith }

both : (s t : Bool) → s && t ≡ true → (s ≡ true) × (t ≡ true)
both true t h = (refl, h)
both false t h = absurd cc

-- what the header says
pub record Sizes (b : List ℕ) : Type 0 where
  pub first : slice_index b 0 ≡ 82
  pub second : slice_index b 1 ≡ 86
  pub third : slice_index b 2 ≡ 73
  pub fourth : slice_index b 3 ≡ 49
  pub text : word_at b 4 ≤ 2 ^ 28
  pub statics : word_at b 8 ≤ 2 ^ 24
  pub stack : word_at b 12 ≤ 2 ^ 30
  pub stack_step : word_at b 12 % 8 ≡ 0
  pub entry_low : text_start ≤ word_at b 16
  pub entry_high : word_at b 16 < text_start + 4 * word_at b 4
  pub entry_step : word_at b 16 % 4 ≡ 0
  pub there : 24 ≤ length b

byte_right : (b : List ℕ) (at value : ℕ) → byte_is b at value ≡ None → slice_index b at ≡ value
byte_right b at value h = eqb-true _ _ (test_holds at (eqb (slice_index b at) value) (then_none (reaches b (at + 1)) (unless at (eqb (slice_index b at) value)) h).1)

pub sizes : (b : List ℕ) → header_wrong b ≡ None → Sizes b
unfolding header_wrong
sizes b h =
    let stack_test = λ (n : ℕ). leb n (2 ^ 30) && eqb (n % 8) 0 in
    let c6 = number_is b 16 (is_entry (word_at b 4)) >> reaches b 24 in
    let c5 = number_is b 12 stack_test >> c6 in
    let c4 = number_is b 8 (λ n. leb n (2 ^ 24)) >> c5 in
    let c3 = number_is b 4 (λ n. leb n (2 ^ 28)) >> c4 in
    let c2 = byte_is b 3 49 >> c3 in
    let c1 = byte_is b 2 73 >> c2 in
    let p0 = then_none (byte_is b 0 82) (byte_is b 1 86 >> c1) h in
    let p1 = then_none (byte_is b 1 86) c1 p0.1 in
    let p2 = then_none (byte_is b 2 73) c2 p1.1 in
    let p3 = then_none (byte_is b 3 49) c3 p2.1 in
    let p4 = then_none (number_is b 4 (λ n. leb n (2 ^ 28))) c4 p3.1 in
    let p5 = then_none (number_is b 8 (λ n. leb n (2 ^ 24))) c5 p4.1 in
    let p6 = then_none (number_is b 12 stack_test) c6 p5.1 in
    let p7 = then_none (number_is b 16 (is_entry (word_at b 4))) (reaches b 24) p6.1 in
    let stack = both (leb (word_at b 12) (2 ^ 30)) (eqb (word_at b 12 % 8) 0) (number_right b 12 stack_test p6.0).1 in
    let entry = both (leb text_start (word_at b 16) && ltb (word_at b 16) (text_start + 4 * word_at b 4)) (eqb (word_at b 16 % 4) 0) (number_right b 16 (is_entry (word_at b 4)) p7.0).1 in
    let range = both (leb text_start (word_at b 16)) (ltb (word_at b 16) (text_start + 4 * word_at b 4)) entry.0 in
    record {
      first = byte_right b 0 82 p0.0;
      second = byte_right b 1 86 p1.0;
      third = byte_right b 2 73 p2.0;
      fourth = byte_right b 3 49 p3.0;
      text = leb-true _ _ (number_right b 4 (λ n. leb n (2 ^ 28)) p4.0).1;
      statics = leb-true _ _ (number_right b 8 (λ n. leb n (2 ^ 24)) p5.0).1;
      stack = leb-true _ _ stack.0;
      stack_step = eqb-true _ _ stack.1;
      entry_low = leb-true _ _ range.0;
      entry_high = ltb-true _ _ range.1;
      entry_step = eqb-true _ _ entry.1;
      there = reaches_to b 24 p7.1;
    }
