-- Laws of words read anywhere in a machine: in its memory they are the words of the bytes there, and in its text the words
-- of the text. They are proofs: a contract cites none of them but the carrier `step_laws`.
use Rattle.std.proofs.Common.{◌≡◌, refl, ap, ◌∙◌, ℕ, ◌+◌, ◌-◌, ◌*◌, ◌≤◌, ◌<◌, true, false, List, length, arith}
use Rattle.std.proofs.lemmas.Bool.Decides.{nat_tests}
use Rattle.std.specs.Prelude.{Option, Some, None, ◌/◌, ◌%◌, ◌^◌, ◌&&◌, nat_le, slice_index, if◌then◌else◌}
use Rattle.rv_machine.specs.State.{Loaded}
use Rattle.rv_machine.specs.Bytes.{word_in}
use Rattle.rv_machine.specs.Reading.{text_word, word_at}
use Rattle.rv_machine.specs.Sound.{AreWords}
use Rattle.rv_machine.specs.Laws.Bytes.{below-at}

-- in data, gap and stack, which lie behind the text
pub word_at-memory : (m : Loaded) (at : ℕ) → 0x10000 + 4 * length m.text ≤ m.state.base → m.state.base ≤ at → at + 4 ≤ m.state.base + length m.state.memory → word_at m at ≡ Some (word_in m.state.memory (at - m.state.base))
word_at-memory m at apart low high =
    let text : (nat_le 0x10000 at && nat_le (at + 4) (0x10000 + 4 * length m.text)) ≡ false = grind (arith, nat_tests) in
    let memory : (nat_le m.state.base at && nat_le (at + 4) (m.state.base + length m.state.memory)) ≡ true = grind (arith, nat_tests) in
    let second : Option ℕ = if nat_le m.state.base at && nat_le (at + 4) (m.state.base + length m.state.memory) then Some (word_in m.state.memory (at - m.state.base)) else None in
    ap (λ t. if t then Some (text_word m.text (at - 0x10000)) else second) text
    ∙ ap (λ t. if t then Some (word_in m.state.memory (at - m.state.base)) else None) memory

-- at the address of a word of the text
text_word_aligned : (text : List ℕ) (n w : ℕ) → slice_index text n ≡ w → w < 2 ^ 32 → text_word text (4 * n) ≡ w
text_word_aligned text n w e h =
    let q : 4 * n / 4 ≡ n = omega arith in
    let q' : (4 * n + 1) / 4 ≡ n = omega arith in
    let q'' : (4 * n + 2) / 4 ≡ n = omega arith in
    let q''' : (4 * n + 3) / 4 ≡ n = omega arith in
    let r : 4 * n % 4 ≡ 0 = omega arith in
    let r' : (4 * n + 1) % 4 ≡ 1 = omega arith in
    let r'' : (4 * n + 2) % 4 ≡ 2 = omega arith in
    let r''' : (4 * n + 3) % 4 ≡ 3 = omega arith in
    rw q (rw q' (rw q'' (rw q''' (rw r (rw r' (rw r'' (rw r''' (rw e (omega (arith, h))))))))))

pub word_at-text : (m : Loaded) (n : ℕ) → AreWords m.text → n < length m.text → word_at m (0x10000 + 4 * n) ≡ Some (slice_index m.text n)
word_at-text m n h inside =
    let text : (nat_le 0x10000 (0x10000 + 4 * n) && nat_le (0x10000 + 4 * n + 4) (0x10000 + 4 * length m.text)) ≡ true = grind (arith, nat_tests) in
    let place : 0x10000 + 4 * n - 0x10000 ≡ 4 * n = omega arith in
    rw text (rw place (ap Some (text_word_aligned m.text n (slice_index m.text n) refl (below-at (2 ^ 32) m.text n (omega arith) h))))
