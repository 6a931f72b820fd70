-- What the masks of the formats leave of a word.
-- It holds proofs: no contract cites it, and the clauses of `decode` say what they come to.
use Rattle.std.proofs.Common.{◌≡◌, ℕ, ◌+◌, ◌-◌, ◌*◌, ◌/◌, ◌%◌, ◌^◌, ◌<◌, ◌≤◌, refl, sym, ◌∙◌, ap, arith}
use Rattle.std.specs.Prelude.{bit_and}
use Rattle.std.proofs.lemmas.Nat.{and_mask, and_block}
use Rattle.std.proofs.lemmas.Nat.Bits.{ones_shr}

-- a shift and a mask of ones take the bits of a field
pub field_is : (n low count : ℕ) → count ≤ 32 → bit_and (n / 2 ^ low) ((2 ^ 32 - 1) / 2 ^ (32 - count)) ≡ n / 2 ^ low % 2 ^ count
field_is n low count h =
    let same : 32 - (32 - count) ≡ count = omega arith in
    let e : (2 ^ 32 - 1) / 2 ^ (32 - count) ≡ 2 ^ count - 1 = ones_shr 32 (32 - count) (omega arith) ∙ ap (λ k. 2 ^ k - 1) same in
    rw e (and_mask (n / 2 ^ low) count)

-- the opcode alone
pub opcode_mask : (w : ℕ) → bit_and w 0x7f ≡ w % 2 ^ 7
opcode_mask w = and_mask w 7

-- funct3 and the opcode
pub funct3_mask : (w : ℕ) → bit_and w 0x707f ≡ w / 2 ^ 12 % 8 * 2 ^ 12 + w % 2 ^ 7
funct3_mask w =
    let cut : w ≡ w / 2 ^ 12 * 2 ^ 12 + w % 2 ^ 12 = omega arith in
    let parts : bit_and (w / 2 ^ 12 * 2 ^ 12 + w % 2 ^ 12) (7 * 2 ^ 12 + 0x7f) ≡ bit_and (w / 2 ^ 12) 7 * 2 ^ 12 + bit_and (w % 2 ^ 12) 0x7f = and_block 12 (w / 2 ^ 12) 7 (w % 2 ^ 12) 0x7f (omega arith) (omega arith) in
    let high : bit_and (w / 2 ^ 12) 7 ≡ w / 2 ^ 12 % 8 = and_mask (w / 2 ^ 12) 3 in
    let low : bit_and (w % 2 ^ 12) 0x7f ≡ w % 2 ^ 12 % 2 ^ 7 = and_mask (w % 2 ^ 12) 7 in
    ap (λ x. bit_and x 0x707f) cut ∙ parts ∙ omega arith

-- funct7, funct3 and the opcode
pub funct7_mask : (w : ℕ) → w < 2 ^ 32 → bit_and w 0xfe00707f ≡ w / 2 ^ 25 * 2 ^ 25 + w / 2 ^ 12 % 8 * 2 ^ 12 + w % 2 ^ 7
funct7_mask w h =
    let cut : w ≡ w / 2 ^ 25 * 2 ^ 25 + w % 2 ^ 25 = omega arith in
    let parts : bit_and (w / 2 ^ 25 * 2 ^ 25 + w % 2 ^ 25) (127 * 2 ^ 25 + 0x707f) ≡ bit_and (w / 2 ^ 25) 127 * 2 ^ 25 + bit_and (w % 2 ^ 25) 0x707f = and_block 25 (w / 2 ^ 25) 127 (w % 2 ^ 25) 0x707f (omega arith) (omega arith) in
    let high : bit_and (w / 2 ^ 25) 127 ≡ w / 2 ^ 25 % 128 = and_mask (w / 2 ^ 25) 7 in
    let low : bit_and (w % 2 ^ 25) 0x707f ≡ w % 2 ^ 25 / 2 ^ 12 % 8 * 2 ^ 12 + w % 2 ^ 25 % 2 ^ 7 = funct3_mask (w % 2 ^ 25) in
    ap (λ x. bit_and x 0xfe00707f) cut ∙ parts ∙ omega arith

-- the whole word
pub whole_mask : (w : ℕ) → w < 2 ^ 32 → bit_and w 0xffffffff ≡ w
whole_mask w h = let e : bit_and w 0xffffffff ≡ w % 2 ^ 32 = and_mask w 32 in omega arith
