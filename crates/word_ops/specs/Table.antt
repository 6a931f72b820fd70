-- A table of operations on two words, and what narrowing gives: words computed by instructions of RV32IM, run under qemu, and
-- compared with the operators of C on int32_t and uint32_t as gcc compiles them, wherever these are defined.
use Rattle.std.specs.Prelude.{ℕ, Bool, true, false, not, ◌&&◌, ◌==◌, List, [], ◌∷◌}
use Rattle.word_ops.specs.declared.operation.Op.{Op}
use Rattle.word_ops.specs.declared.operation.Op.TheVariants as op
use Rattle.word_ops.specs.Word.{narrowed}
use Rattle.word_ops.specs.Operation.{machine_word, is_undefined}

-- an operation on two words, whether C defines it, and the word that the machine gives
pub record Row : Type 0 where
  pub operation : Op
  pub first : ℕ
  pub second : ℕ
  pub defined : Bool
  pub word : ℕ

abbrev pub row : Op → (first second : ℕ) → Bool → ℕ → Row
row o a b defined word = record { operation = o; first = a; second = b; defined = defined; word = word }

-- a truth is this one
abbrev pub is_same : Bool → Bool → Bool
is_same true b = b
is_same false b = not b

-- whether each row tells what the definitions give: the operation's word where it is defined is the machine's
abbrev pub tell : List Row → Bool
tell [] = true
tell (r ∷ rows) =
    (machine_word r.operation r.first r.second == r.word) && (is_same (is_undefined r.operation r.first r.second) (not r.defined) && tell rows)

abbrev pub operations : List Row
operations =
    row op.Add 0 0 true 0
    ∷ row op.Add 1 4294967295 true 0
    ∷ row op.Add 2147483647 1 true 2147483648
    ∷ row op.Add 2147483648 4294967295 true 2147483647
    ∷ row op.Add 2147483648 2147483648 true 0
    ∷ row op.Add 0 2147483648 true 2147483648
    ∷ row op.Add 2147483647 4294967295 true 2147483646
    ∷ row op.Add 4294967295 2147483647 true 2147483646
    ∷ row op.Add 2147483648 1 true 2147483649
    ∷ row op.Add 5 7 true 12
    ∷ row op.Adds 0 0 true 0
    ∷ row op.Adds 1 4294967295 true 0
    ∷ row op.Adds 2147483647 1 false 2147483648
    ∷ row op.Adds 2147483648 4294967295 false 2147483647
    ∷ row op.Adds 2147483648 2147483648 false 0
    ∷ row op.Adds 0 2147483648 true 2147483648
    ∷ row op.Adds 2147483647 4294967295 true 2147483646
    ∷ row op.Adds 4294967295 2147483647 true 2147483646
    ∷ row op.Adds 2147483648 1 true 2147483649
    ∷ row op.Adds 5 7 true 12
    ∷ row op.Sub 0 0 true 0
    ∷ row op.Sub 1 4294967295 true 2
    ∷ row op.Sub 2147483647 1 true 2147483646
    ∷ row op.Sub 2147483648 4294967295 true 2147483649
    ∷ row op.Sub 2147483648 2147483648 true 0
    ∷ row op.Sub 0 2147483648 true 2147483648
    ∷ row op.Sub 2147483647 4294967295 true 2147483648
    ∷ row op.Sub 4294967295 2147483647 true 2147483648
    ∷ row op.Sub 2147483648 1 true 2147483647
    ∷ row op.Sub 5 7 true 4294967294
    ∷ row op.Subs 0 0 true 0
    ∷ row op.Subs 1 4294967295 true 2
    ∷ row op.Subs 2147483647 1 true 2147483646
    ∷ row op.Subs 2147483648 4294967295 true 2147483649
    ∷ row op.Subs 2147483648 2147483648 true 0
    ∷ row op.Subs 0 2147483648 false 2147483648
    ∷ row op.Subs 2147483647 4294967295 false 2147483648
    ∷ row op.Subs 4294967295 2147483647 true 2147483648
    ∷ row op.Subs 2147483648 1 false 2147483647
    ∷ row op.Subs 5 7 true 4294967294
    ∷ row op.Mul 0 2147483648 true 0
    ∷ row op.Mul 65536 65536 true 0
    ∷ row op.Mul 65536 32768 true 2147483648
    ∷ row op.Mul 46341 46341 true 2147488281
    ∷ row op.Mul 46340 46340 true 2147395600
    ∷ row op.Mul 2147483648 4294967295 true 2147483648
    ∷ row op.Mul 2147483648 1 true 2147483648
    ∷ row op.Mul 2147483647 4294967295 true 2147483649
    ∷ row op.Mul 4294901760 32768 true 2147483648
    ∷ row op.Mul 4294967293 7 true 4294967275
    ∷ row op.Muls 0 2147483648 true 0
    ∷ row op.Muls 65536 65536 false 0
    ∷ row op.Muls 65536 32768 false 2147483648
    ∷ row op.Muls 46341 46341 false 2147488281
    ∷ row op.Muls 46340 46340 true 2147395600
    ∷ row op.Muls 2147483648 4294967295 false 2147483648
    ∷ row op.Muls 2147483648 1 true 2147483648
    ∷ row op.Muls 2147483647 4294967295 true 2147483649
    ∷ row op.Muls 4294901760 32768 true 2147483648
    ∷ row op.Muls 4294967293 7 true 4294967275
    ∷ row op.Divs 7 0 false 4294967295
    ∷ row op.Divs 2147483648 0 false 4294967295
    ∷ row op.Divs 2147483648 4294967295 false 2147483648
    ∷ row op.Divs 2147483648 1 true 2147483648
    ∷ row op.Divs 7 4294967294 true 4294967293
    ∷ row op.Divs 4294967289 2 true 4294967293
    ∷ row op.Divs 4294967289 4294967294 true 3
    ∷ row op.Divs 2147483647 4294967295 true 2147483649
    ∷ row op.Divs 1 2147483648 true 0
    ∷ row op.Divs 4294967295 2147483648 true 0
    ∷ row op.Rems 7 0 false 7
    ∷ row op.Rems 2147483648 0 false 2147483648
    ∷ row op.Rems 2147483648 4294967295 false 0
    ∷ row op.Rems 2147483648 1 true 0
    ∷ row op.Rems 7 4294967294 true 1
    ∷ row op.Rems 4294967289 2 true 4294967295
    ∷ row op.Rems 4294967289 4294967294 true 4294967295
    ∷ row op.Rems 2147483647 4294967295 true 0
    ∷ row op.Rems 1 2147483648 true 1
    ∷ row op.Rems 4294967295 2147483648 true 4294967295
    ∷ row op.Divu 7 0 false 4294967295
    ∷ row op.Divu 2147483648 0 false 4294967295
    ∷ row op.Divu 2147483648 4294967295 true 0
    ∷ row op.Divu 2147483648 1 true 2147483648
    ∷ row op.Divu 7 4294967294 true 0
    ∷ row op.Divu 4294967289 2 true 2147483644
    ∷ row op.Divu 4294967289 4294967294 true 0
    ∷ row op.Divu 2147483647 4294967295 true 0
    ∷ row op.Divu 1 2147483648 true 0
    ∷ row op.Divu 4294967295 2147483648 true 1
    ∷ row op.Remu 7 0 false 7
    ∷ row op.Remu 2147483648 0 false 2147483648
    ∷ row op.Remu 2147483648 4294967295 true 2147483648
    ∷ row op.Remu 2147483648 1 true 0
    ∷ row op.Remu 7 4294967294 true 7
    ∷ row op.Remu 4294967289 2 true 1
    ∷ row op.Remu 4294967289 4294967294 true 4294967289
    ∷ row op.Remu 2147483647 4294967295 true 2147483647
    ∷ row op.Remu 1 2147483648 true 1
    ∷ row op.Remu 4294967295 2147483648 true 2147483647
    ∷ row op.And 4278255360 267390960 true 251662080
    ∷ row op.And 4294967295 2147483648 true 2147483648
    ∷ row op.And 0 2147483647 true 0
    ∷ row op.Or 4278255360 267390960 true 4293984240
    ∷ row op.Or 4294967295 2147483648 true 4294967295
    ∷ row op.Or 0 2147483647 true 2147483647
    ∷ row op.Xor 4278255360 267390960 true 4042322160
    ∷ row op.Xor 4294967295 2147483648 true 2147483647
    ∷ row op.Xor 0 2147483647 true 2147483647
    ∷ row op.Shl 1 0 true 1
    ∷ row op.Shl 1 30 true 1073741824
    ∷ row op.Shl 1 31 true 2147483648
    ∷ row op.Shl 1 32 false 1
    ∷ row op.Shl 3 30 true 3221225472
    ∷ row op.Shl 1073741824 1 true 2147483648
    ∷ row op.Shl 2147483648 0 true 2147483648
    ∷ row op.Shl 4294967295 1 true 4294967294
    ∷ row op.Shl 2147483648 31 true 0
    ∷ row op.Shl 2147483648 32 false 2147483648
    ∷ row op.Shl 0 31 true 0
    ∷ row op.Shl 2147483647 33 false 4294967294
    ∷ row op.Shl 1 4294967295 false 2147483648
    ∷ row op.Shls 1 0 true 1
    ∷ row op.Shls 1 30 true 1073741824
    ∷ row op.Shls 1 31 false 2147483648
    ∷ row op.Shls 1 32 false 1
    ∷ row op.Shls 3 30 false 3221225472
    ∷ row op.Shls 1073741824 1 false 2147483648
    ∷ row op.Shls 2147483648 0 false 2147483648
    ∷ row op.Shls 4294967295 1 false 4294967294
    ∷ row op.Shls 2147483648 31 false 0
    ∷ row op.Shls 2147483648 32 false 2147483648
    ∷ row op.Shls 0 31 true 0
    ∷ row op.Shls 2147483647 33 false 4294967294
    ∷ row op.Shls 1 4294967295 false 2147483648
    ∷ row op.Shru 1 0 true 1
    ∷ row op.Shru 1 30 true 0
    ∷ row op.Shru 1 31 true 0
    ∷ row op.Shru 1 32 false 1
    ∷ row op.Shru 3 30 true 0
    ∷ row op.Shru 1073741824 1 true 536870912
    ∷ row op.Shru 2147483648 0 true 2147483648
    ∷ row op.Shru 4294967295 1 true 2147483647
    ∷ row op.Shru 2147483648 31 true 1
    ∷ row op.Shru 2147483648 32 false 2147483648
    ∷ row op.Shru 0 31 true 0
    ∷ row op.Shru 2147483647 33 false 1073741823
    ∷ row op.Shru 1 4294967295 false 0
    ∷ row op.Shrs 1 0 true 1
    ∷ row op.Shrs 1 30 true 0
    ∷ row op.Shrs 1 31 true 0
    ∷ row op.Shrs 1 32 false 1
    ∷ row op.Shrs 3 30 true 0
    ∷ row op.Shrs 1073741824 1 true 536870912
    ∷ row op.Shrs 2147483648 0 true 2147483648
    ∷ row op.Shrs 4294967295 1 true 4294967295
    ∷ row op.Shrs 2147483648 31 true 4294967295
    ∷ row op.Shrs 2147483648 32 false 2147483648
    ∷ row op.Shrs 0 31 true 0
    ∷ row op.Shrs 2147483647 33 false 1073741823
    ∷ row op.Shrs 1 4294967295 false 0
    ∷ row op.Eq 0 0 true 1
    ∷ row op.Eq 0 1 true 0
    ∷ row op.Eq 4294967295 0 true 0
    ∷ row op.Eq 2147483648 2147483647 true 0
    ∷ row op.Eq 2147483647 2147483648 true 0
    ∷ row op.Eq 4294967295 2147483648 true 0
    ∷ row op.Eq 2147483648 2147483648 true 1
    ∷ row op.Ne 0 0 true 0
    ∷ row op.Ne 0 1 true 1
    ∷ row op.Ne 4294967295 0 true 1
    ∷ row op.Ne 2147483648 2147483647 true 1
    ∷ row op.Ne 2147483647 2147483648 true 1
    ∷ row op.Ne 4294967295 2147483648 true 1
    ∷ row op.Ne 2147483648 2147483648 true 0
    ∷ row op.Lts 0 0 true 0
    ∷ row op.Lts 0 1 true 1
    ∷ row op.Lts 4294967295 0 true 1
    ∷ row op.Lts 2147483648 2147483647 true 1
    ∷ row op.Lts 2147483647 2147483648 true 0
    ∷ row op.Lts 4294967295 2147483648 true 0
    ∷ row op.Lts 2147483648 2147483648 true 0
    ∷ row op.Les 0 0 true 1
    ∷ row op.Les 0 1 true 1
    ∷ row op.Les 4294967295 0 true 1
    ∷ row op.Les 2147483648 2147483647 true 1
    ∷ row op.Les 2147483647 2147483648 true 0
    ∷ row op.Les 4294967295 2147483648 true 0
    ∷ row op.Les 2147483648 2147483648 true 1
    ∷ row op.Ltu 0 0 true 0
    ∷ row op.Ltu 0 1 true 1
    ∷ row op.Ltu 4294967295 0 true 0
    ∷ row op.Ltu 2147483648 2147483647 true 0
    ∷ row op.Ltu 2147483647 2147483648 true 1
    ∷ row op.Ltu 4294967295 2147483648 true 0
    ∷ row op.Ltu 2147483648 2147483648 true 0
    ∷ row op.Leu 0 0 true 1
    ∷ row op.Leu 0 1 true 1
    ∷ row op.Leu 4294967295 0 true 0
    ∷ row op.Leu 2147483648 2147483647 true 0
    ∷ row op.Leu 2147483647 2147483648 true 1
    ∷ row op.Leu 4294967295 2147483648 true 0
    ∷ row op.Leu 2147483648 2147483648 true 1
    ∷ row op.Zext8 0 0 true 0
    ∷ row op.Zext8 127 9 true 127
    ∷ row op.Zext8 128 9 true 128
    ∷ row op.Zext8 255 9 true 255
    ∷ row op.Zext8 256 9 true 0
    ∷ row op.Zext8 32767 9 true 255
    ∷ row op.Zext8 32768 9 true 0
    ∷ row op.Zext8 65535 9 true 255
    ∷ row op.Zext8 305419896 9 true 120
    ∷ row op.Zext8 4294967167 9 true 127
    ∷ row op.Zext8 2147549056 9 true 128
    ∷ row op.Sext8 0 0 true 0
    ∷ row op.Sext8 127 9 true 127
    ∷ row op.Sext8 128 9 true 4294967168
    ∷ row op.Sext8 255 9 true 4294967295
    ∷ row op.Sext8 256 9 true 0
    ∷ row op.Sext8 32767 9 true 4294967295
    ∷ row op.Sext8 32768 9 true 0
    ∷ row op.Sext8 65535 9 true 4294967295
    ∷ row op.Sext8 305419896 9 true 120
    ∷ row op.Sext8 4294967167 9 true 127
    ∷ row op.Sext8 2147549056 9 true 4294967168
    ∷ row op.Zext16 0 0 true 0
    ∷ row op.Zext16 127 9 true 127
    ∷ row op.Zext16 128 9 true 128
    ∷ row op.Zext16 255 9 true 255
    ∷ row op.Zext16 256 9 true 256
    ∷ row op.Zext16 32767 9 true 32767
    ∷ row op.Zext16 32768 9 true 32768
    ∷ row op.Zext16 65535 9 true 65535
    ∷ row op.Zext16 305419896 9 true 22136
    ∷ row op.Zext16 4294967167 9 true 65407
    ∷ row op.Zext16 2147549056 9 true 65408
    ∷ row op.Sext16 0 0 true 0
    ∷ row op.Sext16 127 9 true 127
    ∷ row op.Sext16 128 9 true 128
    ∷ row op.Sext16 255 9 true 255
    ∷ row op.Sext16 256 9 true 256
    ∷ row op.Sext16 32767 9 true 32767
    ∷ row op.Sext16 32768 9 true 4294934528
    ∷ row op.Sext16 65535 9 true 4294967295
    ∷ row op.Sext16 305419896 9 true 22136
    ∷ row op.Sext16 4294967167 9 true 4294967167
    ∷ row op.Sext16 2147549056 9 true 4294967168
    ∷ []

-- so many bits of a word, whether the sign is kept, the word, and what it becomes
pub record Narrowing : Type 0 where
  pub bits : ℕ
  pub keeps_sign : Bool
  pub word : ℕ
  pub narrow : ℕ

abbrev pub narrowing : (bits : ℕ) → Bool → (word narrow : ℕ) → Narrowing
narrowing bits keeps_sign word narrow = record { bits = bits; keeps_sign = keeps_sign; word = word; narrow = narrow }

abbrev pub narrow_so : List Narrowing → Bool
narrow_so [] = true
narrow_so (n ∷ all) = (narrowed n.bits n.keeps_sign n.word == n.narrow) && narrow_so all

abbrev pub narrowings : List Narrowing
narrowings =
    narrowing 1 false 3 1
    ∷ narrowing 1 true 3 4294967295
    ∷ narrowing 12 true 305420288 4294965248
    ∷ narrowing 12 true 305420287 2047
    ∷ narrowing 31 true 1073741824 3221225472
    ∷ narrowing 31 false 4294967295 2147483647
    ∷ narrowing 32 true 2147483648 2147483648
    ∷ narrowing 32 false 2147483648 2147483648
    ∷ []
