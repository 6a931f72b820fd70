-- The two parts of a word make it, whichever two instructions put them together.
-- No contract cites this file: it holds proofs.
use Rattle.std.proofs.Common.{◌≡◌, refl, ◌∙◌, ap, arith, cond, ℕ, ◌+◌, ◌*◌, ◌-◌, ◌/◌, ◌<◌, ◌≤◌, ◌%◌, Bool, true, false, nat_lt}
use Rattle.std.specs.Prelude.{◌^◌, pos, negsuc}
use Rattle.std.proofs.lemmas.Bool.Decides.{nat_tests}
use Rattle.rv_table.specs.Fields.{Within}
use Rattle.rv_table.specs.Laws.Immediates.{cast_unsigned-cast_signed, low_bits-sign}
use Rattle.code_form.specs.Registers.{word_of}
use Rattle.code_form.specs.Instructions.{upper_part, lower_part}

-- the lower part, by whether it has a sign
lower : (n : ℕ) (t : Bool) → n < 2 ^ 32 → nat_lt (n % 2 ^ 12) (2 ^ 11) ≡ t →
    ((n + 2 ^ 11) / 2 ^ 12 * 2 ^ 12 % 2 ^ 32 + word_of (cond t (pos (n % 2 ^ 12)) (negsuc (2 * 2 ^ 11 - 1 - n % 2 ^ 12)))) % 2 ^ 32 ≡ n
lower n true h e =
    let low : n % 2 ^ 12 < 2 ^ 11 = grind (arith, nat_tests) in
    omega (arith, low)
lower n false h e =
    let high : 2 ^ 11 ≤ n % 2 ^ 12 = grind (arith, nat_tests) in
    omega (arith, high)

pub word_of-upper_part : (n : ℕ) → word_of (upper_part n) ≡ (n + 2 ^ 11) / 2 ^ 12 * 2 ^ 12 % 2 ^ 32
word_of-upper_part n = (cast_unsigned-cast_signed ((n + 2 ^ 11) / 2 ^ 12 * 2 ^ 12 % 2 ^ 32) (omega arith)).0

pub parts-sum : (n : ℕ) → n < 2 ^ 32 → (word_of (upper_part n) + word_of (lower_part n)) % 2 ^ 32 ≡ n
parts-sum n h = ap (λ k. (k + word_of (lower_part n)) % 2 ^ 32) (word_of-upper_part n) ∙ lower n (nat_lt (n % 2 ^ 12) (2 ^ 11)) h refl

pub lower_part-within : (n : ℕ) → Within (2 ^ 11) (lower_part n)
lower_part-within n = (low_bits-sign (2 ^ 11) 1048575 12 (n % 2 ^ 12) refl refl (omega arith)).1
