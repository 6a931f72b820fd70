-- Laws of the words that instructions compute: those of the operations on words, one set of equations for both tables. They
-- are proofs: a contract cites none of them but the carrier `arithmetic_laws`.
use Rattle.std.proofs.Common.{◌≡◌, refl, ap, ◌∙◌, ℕ, zero, suc, ◌-◌, ◌*◌, ◌≤◌, ◌<◌, Bool, true, false, ℤ, pos, negsuc, neg_ℤ, arith}
use Rattle.std.proofs.lemmas.Bool.Decides.{nat_tests}
use Rattle.std.proofs.lemmas.Nat.{mul-lt}
use Rattle.std.proofs.lemmas.Int.{of_z-to_z, unsigned_abs-mul}
use Rattle.std.proofs.lemmas.Option.{none-some, same_Some}
use Rattle.std.proofs.Math.Nat.{div-le_self}
use lib.Signed.{mag, mag_rem, mag_shr}
use Rattle.std.specs.Prelude.{Some, ◌*ℤ◌, ◌/◌, ◌%◌, ◌^◌, ◌==◌, if◌then◌else◌, unsigned_abs, int_div, int_rem}
use Rattle.std.specs.Int.{w32, cast_unsigned, int_shr}
use Rattle.word_ops.specs.declared.operation.Op.{Op}
use Rattle.word_ops.specs.declared.operation.Op.TheVariants as op
use Rattle.word_ops.specs.Word.{word_of_integer, number_of_truth}
use Rattle.word_ops.specs.Operation.{machine_word}
use Rattle.rv_table.specs.declared.row.Row.{Row}
use Rattle.rv_table.specs.declared.row.Row.TheVariants.{Lui, Auipc, Jal, Jalr, Beq, Bne, Blt, Bge, Bltu, Bgeu, Lb, Lh, Lw, Lbu, Lhu, Sb, Sh, Sw, Addi, Slti, Sltiu, Xori, Ori, Andi, Slli, Srli, Srai, Add, Sub, Sll, Slt, Sltu, Xor, Srl, Sra, Or, And, Mul, Mulh, Mulhsu, Mulhu, Div, Divu, Rem, Remu, Fence, Ecall, Ebreak}
use Rattle.rv_machine.specs.Arithmetic.{signed, truth, less, less_unsigned, shifted_right_signed, high_word, high_product, high_product_mixed, high_product_unsigned, quotient, remainder}
use Rattle.rv_machine.specs.State.{State}
use Rattle.rv_machine.specs.Effect.{writes, effect}
use Rattle.rv_machine.specs.Operations.{operation_of_registers, operation_of_immediate}

-- ---- the words that are not the operation's by definition

truth-is : (b : Bool) → truth b ≡ number_of_truth b
truth-is true = refl
truth-is false = refl

-- an integer from -2^31 to 2^31
abbrev IsNearWord : ℤ → Type 0
IsNearWord (pos n) = n ≤ 2 ^ 31
IsNearWord (negsuc n) = n < 2 ^ 31

near_word : (z : ℤ) → IsNearWord z → cast_unsigned w32 z ≡ word_of_integer z
near_word (pos n) h = omega (arith, h)
near_word (negsuc n) h = omega (arith, h)

near_small : (z : ℤ) → IsNearWord z → cast_unsigned w32 z < 2 ^ 32
near_small (pos n) h = omega (arith, h)
near_small (negsuc n) h = omega (arith, h)

near_of_mag : (z : ℤ) → mag z < 2 ^ 31 → IsNearWord z
near_of_mag (pos n) h = omega (arith, h)
near_of_mag (negsuc n) h = h

mag-signed : (a : ℕ) → a < 2 ^ 32 → mag (signed a) < 2 ^ 31
mag-signed a h = grind (arith, nat_tests)

near_neg : (n m : ℕ) → n ≤ suc m → m < 2 ^ 31 → IsNearWord (neg_ℤ (pos n))
near_neg zero m le lt = omega arith
near_neg (suc n) m le lt = omega (arith, le, lt)

near_quotient : (x y : ℤ) → mag x < 2 ^ 31 → IsNearWord (int_div x y)
near_quotient (pos a) (pos b) h = omega (arith, div-le_self a b, h)
near_quotient (pos a) (negsuc b) h = near_neg (a / suc b) a (omega (arith, div-le_self a (suc b))) h
near_quotient (negsuc a) (pos b) h = near_neg (suc a / b) a (div-le_self (suc a) b) h
near_quotient (negsuc a) (negsuc b) h = omega (arith, div-le_self (suc a) (suc b), h)

pub less-word : (a b : ℕ) → less a b ≡ machine_word op.Lts a b
less-word a b = truth-is _

pub less_unsigned-word : (a b : ℕ) → less_unsigned a b ≡ machine_word op.Ltu a b
less_unsigned-word a b = truth-is _

pub shifted_right_signed-word : (a b : ℕ) → a < 2 ^ 32 → shifted_right_signed a b ≡ machine_word op.Shrs a b
shifted_right_signed-word a b h =
    let z : ℤ = int_shr (signed a) (b % 32) in
    near_word z (near_of_mag z (omega (arith, mag_shr (signed a) (2 ^ (b % 32)), mag-signed a h)))

pub quotient-word : (a b : ℕ) → a < 2 ^ 32 → quotient a b ≡ machine_word op.Divs a b
quotient-word a b h =
    let z : ℤ = int_div (signed a) (signed b) in
    let near : IsNearWord z = near_quotient (signed a) (signed b) (mag-signed a h) in
    ap (λ n. if b == 0 then 2 ^ 32 - 1 else n) (of_z-to_z w32 (cast_unsigned w32 z) (near_small z near) ∙ near_word z near)

pub remainder-word : (a b : ℕ) → a < 2 ^ 32 → remainder a b ≡ machine_word op.Rems a b
remainder-word a b h =
    let z : ℤ = int_rem (signed a) (signed b) in
    ap (λ n. if b == 0 then a else n) (near_word z (near_of_mag z (omega (arith, mag_rem (signed a) (signed b), mag-signed a h))))

-- ---- the high words of products

high_small : (z : ℤ) → unsigned_abs z < 2 ^ 64 → high_word z < 2 ^ 32
high_small (pos n) h = omega (arith, h)
high_small (negsuc n) h = omega arith

abs-signed : (a : ℕ) → a < 2 ^ 32 → unsigned_abs (signed a) < 2 ^ 32
abs-signed a h = grind (arith, nat_tests)

product_small : (x y : ℤ) → unsigned_abs x < 2 ^ 32 → unsigned_abs y < 2 ^ 32 → high_word (x *ℤ y) < 2 ^ 32
product_small x y h k =
    high_small (x *ℤ y) (omega (arith, unsigned_abs-mul x y, mul-lt (unsigned_abs x) (unsigned_abs y) (2 ^ 32) (2 ^ 32) h k))

pub high_product-small : (a b : ℕ) → a < 2 ^ 32 → b < 2 ^ 32 → high_product a b < 2 ^ 32
high_product-small a b h k = product_small (signed a) (signed b) (abs-signed a h) (abs-signed b k)

pub high_product_mixed-small : (a b : ℕ) → a < 2 ^ 32 → b < 2 ^ 32 → high_product_mixed a b < 2 ^ 32
high_product_mixed-small a b h k = product_small (signed a) (pos b) (abs-signed a h) (omega (arith, k))

pub high_product_unsigned-small : (a b : ℕ) → a < 2 ^ 32 → b < 2 ^ 32 → high_product_unsigned a b < 2 ^ 32
high_product_unsigned-small a b h k = high_small (pos (a * b)) (omega (arith, mul-lt a b (2 ^ 32) (2 ^ 32) h k))

-- ---- rows

written : (m : State) (rd x y : ℕ) → x ≡ y → writes m rd x ≡ writes m rd y
written m rd x y e = ap (writes m rd) e

-- a row of two registers writes the word of its operation
pub effect-registers : (row : Row) (o : Op) (rd k a b : ℕ) (m : State) → operation_of_registers row ≡ Some o → a < 2 ^ 32 → effect row rd k a b m ≡ writes m rd (machine_word o a b)
effect-registers Lui o rd k a b m e h = absurd (none-some o e)
effect-registers Auipc o rd k a b m e h = absurd (none-some o e)
effect-registers Jal o rd k a b m e h = absurd (none-some o e)
effect-registers Jalr o rd k a b m e h = absurd (none-some o e)
effect-registers Beq o rd k a b m e h = absurd (none-some o e)
effect-registers Bne o rd k a b m e h = absurd (none-some o e)
effect-registers Blt o rd k a b m e h = absurd (none-some o e)
effect-registers Bge o rd k a b m e h = absurd (none-some o e)
effect-registers Bltu o rd k a b m e h = absurd (none-some o e)
effect-registers Bgeu o rd k a b m e h = absurd (none-some o e)
effect-registers Lb o rd k a b m e h = absurd (none-some o e)
effect-registers Lh o rd k a b m e h = absurd (none-some o e)
effect-registers Lw o rd k a b m e h = absurd (none-some o e)
effect-registers Lbu o rd k a b m e h = absurd (none-some o e)
effect-registers Lhu o rd k a b m e h = absurd (none-some o e)
effect-registers Sb o rd k a b m e h = absurd (none-some o e)
effect-registers Sh o rd k a b m e h = absurd (none-some o e)
effect-registers Sw o rd k a b m e h = absurd (none-some o e)
effect-registers Addi o rd k a b m e h = absurd (none-some o e)
effect-registers Slti o rd k a b m e h = absurd (none-some o e)
effect-registers Sltiu o rd k a b m e h = absurd (none-some o e)
effect-registers Xori o rd k a b m e h = absurd (none-some o e)
effect-registers Ori o rd k a b m e h = absurd (none-some o e)
effect-registers Andi o rd k a b m e h = absurd (none-some o e)
effect-registers Slli o rd k a b m e h = absurd (none-some o e)
effect-registers Srli o rd k a b m e h = absurd (none-some o e)
effect-registers Srai o rd k a b m e h = absurd (none-some o e)
effect-registers Add o rd k a b m e h = ap (λ q. writes m rd (machine_word q a b)) (same_Some op.Add o e)
effect-registers Sub o rd k a b m e h = ap (λ q. writes m rd (machine_word q a b)) (same_Some op.Sub o e)
effect-registers Sll o rd k a b m e h = ap (λ q. writes m rd (machine_word q a b)) (same_Some op.Shl o e)
effect-registers Slt o rd k a b m e h = written m rd (less a b) (machine_word o a b) ((less-word a b) ∙ ap (λ q. machine_word q a b) (same_Some op.Lts o e))
effect-registers Sltu o rd k a b m e h = written m rd (less_unsigned a b) (machine_word o a b) ((less_unsigned-word a b) ∙ ap (λ q. machine_word q a b) (same_Some op.Ltu o e))
effect-registers Xor o rd k a b m e h = ap (λ q. writes m rd (machine_word q a b)) (same_Some op.Xor o e)
effect-registers Srl o rd k a b m e h = ap (λ q. writes m rd (machine_word q a b)) (same_Some op.Shru o e)
effect-registers Sra o rd k a b m e h = written m rd (shifted_right_signed a b) (machine_word o a b) ((shifted_right_signed-word a b h) ∙ ap (λ q. machine_word q a b) (same_Some op.Shrs o e))
effect-registers Or o rd k a b m e h = ap (λ q. writes m rd (machine_word q a b)) (same_Some op.Or o e)
effect-registers And o rd k a b m e h = ap (λ q. writes m rd (machine_word q a b)) (same_Some op.And o e)
effect-registers Mul o rd k a b m e h = ap (λ q. writes m rd (machine_word q a b)) (same_Some op.Mul o e)
effect-registers Mulh o rd k a b m e h = absurd (none-some o e)
effect-registers Mulhsu o rd k a b m e h = absurd (none-some o e)
effect-registers Mulhu o rd k a b m e h = absurd (none-some o e)
effect-registers Div o rd k a b m e h = written m rd (quotient a b) (machine_word o a b) ((quotient-word a b h) ∙ ap (λ q. machine_word q a b) (same_Some op.Divs o e))
effect-registers Divu o rd k a b m e h = ap (λ q. writes m rd (machine_word q a b)) (same_Some op.Divu o e)
effect-registers Rem o rd k a b m e h = written m rd (remainder a b) (machine_word o a b) ((remainder-word a b h) ∙ ap (λ q. machine_word q a b) (same_Some op.Rems o e))
effect-registers Remu o rd k a b m e h = ap (λ q. writes m rd (machine_word q a b)) (same_Some op.Remu o e)
effect-registers Fence o rd k a b m e h = absurd (none-some o e)
effect-registers Ecall o rd k a b m e h = absurd (none-some o e)
effect-registers Ebreak o rd k a b m e h = absurd (none-some o e)

-- a row of a register and the immediate writes the word of its operation
pub effect-immediate : (row : Row) (o : Op) (rd k a b : ℕ) (m : State) → operation_of_immediate row ≡ Some o → a < 2 ^ 32 → effect row rd k a b m ≡ writes m rd (machine_word o a k)
effect-immediate Lui o rd k a b m e h = absurd (none-some o e)
effect-immediate Auipc o rd k a b m e h = absurd (none-some o e)
effect-immediate Jal o rd k a b m e h = absurd (none-some o e)
effect-immediate Jalr o rd k a b m e h = absurd (none-some o e)
effect-immediate Beq o rd k a b m e h = absurd (none-some o e)
effect-immediate Bne o rd k a b m e h = absurd (none-some o e)
effect-immediate Blt o rd k a b m e h = absurd (none-some o e)
effect-immediate Bge o rd k a b m e h = absurd (none-some o e)
effect-immediate Bltu o rd k a b m e h = absurd (none-some o e)
effect-immediate Bgeu o rd k a b m e h = absurd (none-some o e)
effect-immediate Lb o rd k a b m e h = absurd (none-some o e)
effect-immediate Lh o rd k a b m e h = absurd (none-some o e)
effect-immediate Lw o rd k a b m e h = absurd (none-some o e)
effect-immediate Lbu o rd k a b m e h = absurd (none-some o e)
effect-immediate Lhu o rd k a b m e h = absurd (none-some o e)
effect-immediate Sb o rd k a b m e h = absurd (none-some o e)
effect-immediate Sh o rd k a b m e h = absurd (none-some o e)
effect-immediate Sw o rd k a b m e h = absurd (none-some o e)
effect-immediate Addi o rd k a b m e h = ap (λ q. writes m rd (machine_word q a k)) (same_Some op.Add o e)
effect-immediate Slti o rd k a b m e h = written m rd (less a k) (machine_word o a k) ((less-word a k) ∙ ap (λ q. machine_word q a k) (same_Some op.Lts o e))
effect-immediate Sltiu o rd k a b m e h = written m rd (less_unsigned a k) (machine_word o a k) ((less_unsigned-word a k) ∙ ap (λ q. machine_word q a k) (same_Some op.Ltu o e))
effect-immediate Xori o rd k a b m e h = ap (λ q. writes m rd (machine_word q a k)) (same_Some op.Xor o e)
effect-immediate Ori o rd k a b m e h = ap (λ q. writes m rd (machine_word q a k)) (same_Some op.Or o e)
effect-immediate Andi o rd k a b m e h = ap (λ q. writes m rd (machine_word q a k)) (same_Some op.And o e)
effect-immediate Slli o rd k a b m e h = ap (λ q. writes m rd (machine_word q a k)) (same_Some op.Shl o e)
effect-immediate Srli o rd k a b m e h = ap (λ q. writes m rd (machine_word q a k)) (same_Some op.Shru o e)
effect-immediate Srai o rd k a b m e h = written m rd (shifted_right_signed a k) (machine_word o a k) ((shifted_right_signed-word a k h) ∙ ap (λ q. machine_word q a k) (same_Some op.Shrs o e))
effect-immediate Add o rd k a b m e h = absurd (none-some o e)
effect-immediate Sub o rd k a b m e h = absurd (none-some o e)
effect-immediate Sll o rd k a b m e h = absurd (none-some o e)
effect-immediate Slt o rd k a b m e h = absurd (none-some o e)
effect-immediate Sltu o rd k a b m e h = absurd (none-some o e)
effect-immediate Xor o rd k a b m e h = absurd (none-some o e)
effect-immediate Srl o rd k a b m e h = absurd (none-some o e)
effect-immediate Sra o rd k a b m e h = absurd (none-some o e)
effect-immediate Or o rd k a b m e h = absurd (none-some o e)
effect-immediate And o rd k a b m e h = absurd (none-some o e)
effect-immediate Mul o rd k a b m e h = absurd (none-some o e)
effect-immediate Mulh o rd k a b m e h = absurd (none-some o e)
effect-immediate Mulhsu o rd k a b m e h = absurd (none-some o e)
effect-immediate Mulhu o rd k a b m e h = absurd (none-some o e)
effect-immediate Div o rd k a b m e h = absurd (none-some o e)
effect-immediate Divu o rd k a b m e h = absurd (none-some o e)
effect-immediate Rem o rd k a b m e h = absurd (none-some o e)
effect-immediate Remu o rd k a b m e h = absurd (none-some o e)
effect-immediate Fence o rd k a b m e h = absurd (none-some o e)
effect-immediate Ecall o rd k a b m e h = absurd (none-some o e)
effect-immediate Ebreak o rd k a b m e h = absurd (none-some o e)
