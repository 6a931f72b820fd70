-- What is selected is what is recognised: for each operation its pattern, over any registers, is read as that operation.
-- No contract cites this file: it holds proofs.
use Rattle.std.proofs.Common.{◌≡◌, ◌≢◌, refl, ap, arith, ℕ, true, false, List, [], ◌++◌, map, length, Option, Some}
use Rattle.std.specs.Prelude.{◌==◌, ◌-ℤ◌, ℤ, pos, IsTrue}
use Rattle.std.proofs.lemmas.Int.{ints}
use Rattle.std.proofs.lemmas.Bool.Decides.{nat_tests}
use Rattle.word_ops.specs.declared.operation.Op.{Op}
use Rattle.word_ops.specs.declared.operation.Op.TheVariants as ops
use Rattle.rv_table.specs.declared.row.Row.{Row}
use Rattle.rv_table.specs.declared.row.Row.TheVariants as rows
use Rattle.rv_table.specs.declared.instruction.Instr.{Instr}
use Rattle.code_form.specs.declared.code.Operand.{Operand}
use Rattle.code_form.specs.declared.code.Loose.{Loose}
use Rattle.code_form.specs.Registers.{is_row, is_scratch, register_of, instruction_of, word_of}
use Rattle.code_form.specs.Patterns.{Second, Register, Immediate, Zero, pattern, either, registers_only, difference, equal, unequal, at_most}
use Rattle.code_form.specs.Recognition.{SecondRead, Constant, Shape, shape, operand_of, second_of, by_registers, by_either, by_difference, equal_from, unequal_from, at_most_from, read_by, recognised}

-- instructions, with any behind them, are read as a pattern with these operands
abbrev pub AreRead : (Option Instr → Instr → Option Shape) → (d a : Operand) → SecondRead → List Loose → Type 0
AreRead f d a b ws = (rest : List Instr) → read_by f (map instruction_of ws ++ rest) ≡ Some (shape (length ws) (register_of d) (register_of a) b)

-- ---- patterns of one word, by rows that are told apart

abbrev IsOwn : Row → Type 0
IsOwn r = is_row r r ≡ true

either-read : (r m : Row) (d a : Operand) (b : Second) → IsOwn r → IsOwn m → is_row r m ≡ false → either r m d a b ≢ [] →
    AreRead (λ next i. by_either r m i) d a (operand_of b) (either r m d a b)
either-read r m d a (Register b) o p e h rest = rw o refl
either-read r m d a (Immediate k) o p e h rest = rw e (rw p refl)
either-read r m d a Zero o p e h rest = absurd (h refl)

registers_only-read : (r : Row) (d a : Operand) (b : Second) → IsOwn r → registers_only r d a b ≢ [] →
    AreRead (λ next i. by_registers r i) d a (operand_of b) (registers_only r d a b)
registers_only-read r d a (Register b) o h rest = rw o refl
registers_only-read r d a (Immediate k) o h rest = absurd (h refl)
registers_only-read r d a Zero o h rest = absurd (h refl)

negated-twice : (k : ℤ) → pos 0 -ℤ (pos 0 -ℤ k) ≡ k
negated-twice k = omega (arith, ints)

difference-read : (d a : Operand) (b : Second) → difference d a b ≢ [] →
    AreRead (λ next i. by_difference i) d a (operand_of b) (difference d a b)
difference-read d a (Register b) h rest = refl
difference-read d a (Immediate k) h rest = ap (λ k. Some (shape 1 (register_of d) (register_of a) (Constant (word_of k)))) (negated-twice k)
difference-read d a Zero h rest = absurd (h refl)

-- ---- patterns of two words, the second of which reads the scratch register

same : (n : ℕ) → (n == n) ≡ true
same n = grind (arith, nat_tests)

equal-read : (d a t : Operand) (b : Second) → IsTrue (is_scratch (register_of t)) → AreRead equal_from d a (operand_of b) (equal d a t b)
equal-read d a t (Register b) s rest = rw s (rw (same (register_of t)) refl)
equal-read d a t (Immediate k) s rest = rw s (rw (same (register_of t)) refl)
equal-read d a t Zero s rest = refl

unequal-read : (d a t : Operand) (b : Second) → IsTrue (is_scratch (register_of t)) → AreRead unequal_from d a (operand_of b) (unequal d a t b)
unequal-read d a t (Register b) s rest = rw s (rw (same (register_of t)) refl)
unequal-read d a t (Immediate k) s rest = rw s (rw (same (register_of t)) refl)
unequal-read d a t Zero s rest = refl

at_most-read : (r : Row) (d a t : Operand) (b : Second) → IsOwn r → at_most r d a t b ≢ [] → IsTrue (is_scratch (register_of t)) →
    AreRead (at_most_from r) d a (operand_of b) (at_most r d a t b)
at_most-read r d a t (Register b) o h s rest = rw o (rw s (rw (same (register_of t)) refl))
at_most-read r d a t (Immediate k) o h s rest = absurd (h refl)
at_most-read r d a t Zero o h s rest = absurd (h refl)

-- ---- the table

pub patterns-recognised : (op : Op) (d a t : Operand) (b : Second) (rest : List Instr) → pattern op d a t b ≢ [] →
    IsTrue (is_scratch (register_of t)) → recognised op (map instruction_of (pattern op d a t b) ++ rest)
    ≡ Some (shape (length (pattern op d a t b)) (register_of d) (register_of a) (second_of op b))
patterns-recognised ops.Add d a t b rest h s = either-read rows.Add rows.Addi d a b refl refl refl h rest
patterns-recognised ops.Sub d a t b rest h s = difference-read d a b h rest
patterns-recognised ops.Mul d a t b rest h s = registers_only-read rows.Mul d a b refl h rest
patterns-recognised ops.Adds d a t b rest h s = either-read rows.Add rows.Addi d a b refl refl refl h rest
patterns-recognised ops.Subs d a t b rest h s = difference-read d a b h rest
patterns-recognised ops.Muls d a t b rest h s = registers_only-read rows.Mul d a b refl h rest
patterns-recognised ops.Divs d a t b rest h s = registers_only-read rows.Div d a b refl h rest
patterns-recognised ops.Rems d a t b rest h s = registers_only-read rows.Rem d a b refl h rest
patterns-recognised ops.Divu d a t b rest h s = registers_only-read rows.Divu d a b refl h rest
patterns-recognised ops.Remu d a t b rest h s = registers_only-read rows.Remu d a b refl h rest
patterns-recognised ops.And d a t b rest h s = either-read rows.And rows.Andi d a b refl refl refl h rest
patterns-recognised ops.Or d a t b rest h s = either-read rows.Or rows.Ori d a b refl refl refl h rest
patterns-recognised ops.Xor d a t b rest h s = either-read rows.Xor rows.Xori d a b refl refl refl h rest
patterns-recognised ops.Shl d a t b rest h s = either-read rows.Sll rows.Slli d a b refl refl refl h rest
patterns-recognised ops.Shls d a t b rest h s = either-read rows.Sll rows.Slli d a b refl refl refl h rest
patterns-recognised ops.Shru d a t b rest h s = either-read rows.Srl rows.Srli d a b refl refl refl h rest
patterns-recognised ops.Shrs d a t b rest h s = either-read rows.Sra rows.Srai d a b refl refl refl h rest
patterns-recognised ops.Eq d a t b rest h s = equal-read d a t b s rest
patterns-recognised ops.Ne d a t b rest h s = unequal-read d a t b s rest
patterns-recognised ops.Lts d a t b rest h s = either-read rows.Slt rows.Slti d a b refl refl refl h rest
patterns-recognised ops.Les d a t b rest h s = at_most-read rows.Slt d a t b refl h s rest
patterns-recognised ops.Ltu d a t b rest h s = either-read rows.Sltu rows.Sltiu d a b refl refl refl h rest
patterns-recognised ops.Leu d a t b rest h s = at_most-read rows.Sltu d a t b refl h s rest
patterns-recognised ops.Zext8 d a t b rest h s = refl
patterns-recognised ops.Sext8 d a t b rest h s = rw s (rw (same (register_of t)) refl)
patterns-recognised ops.Zext16 d a t b rest h s = rw s (rw (same (register_of t)) refl)
patterns-recognised ops.Sext16 d a t b rest h s = rw s (rw (same (register_of t)) refl)
