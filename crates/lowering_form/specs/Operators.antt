-- What operators are in core code: the act of each, and what takes more than one (C11 6.3, 6.5.2.3, 6.5.2.4, 6.5.3, 6.5.5 to
-- 6.5.12, 6.5.16).
use Rattle.std.specs.Prelude.{ℕ, ◌-◌, ◌*◌, ◌%◌, ◌^◌, ◌==◌, if◌then◌else◌, Option, Some, None}
use Rattle.word_ops.specs.declared.operation.Op.{Op}
use Rattle.word_ops.specs.declared.operation.Op.TheVariants as op
use Rattle.word_ops.specs.declared.operation.Width.{Width}
use Rattle.word_ops.specs.declared.operation.Width.TheVariants as width
use Rattle.core_lang.specs.declared.act.Atom.{Atom}
use Rattle.core_lang.specs.declared.act.Atom.TheVariants as at
use Rattle.core_lang.specs.declared.act.PointerOp.TheVariants as pointer
use Rattle.core_lang.specs.declared.act.Core.{Core}
use Rattle.core_lang.specs.declared.act.Core.TheVariants as c
use Rattle.c_tree.specs.declared.typed.operator.Sign.{Sign}
use Rattle.c_tree.specs.declared.typed.operator.Sign.TheVariants as sign
use Rattle.c_tree.specs.declared.typed.operator.Conversion.{Conversion}
use Rattle.c_tree.specs.declared.typed.operator.Conversion.TheVariants as conversion
use Rattle.c_tree.specs.declared.typed.operator.Relation.{Relation}
use Rattle.c_tree.specs.declared.typed.operator.Relation.TheVariants as relation
use Rattle.c_tree.specs.declared.typed.operator.Arithmetic.{Arithmetic}
use Rattle.c_tree.specs.declared.typed.operator.Arithmetic.TheVariants as arithmetic
use Rattle.c_tree.specs.declared.typed.operator.Scalar.{Scalar}
use Rattle.c_tree.specs.declared.typed.operator.Change.{Change}
use Rattle.c_tree.specs.declared.typed.operator.Given.{Given}
use Rattle.c_tree.specs.declared.typed.operator.Given.TheVariants as giving
use Rattle.c_tree.specs.declared.typed.operator.Increment.{Increment}
use Rattle.c_tree.specs.declared.typed.operator.Primary.{Primary}
use Rattle.c_tree.specs.declared.typed.operator.Primary.TheVariants as primary
use Rattle.c_tree.specs.declared.typed.operator.Unary.{Unary}
use Rattle.c_tree.specs.declared.typed.operator.Unary.TheVariants as unary
use Rattle.lowering_form.specs.declared.place.Place.{Place}
use Rattle.lowering_form.specs.declared.place.Place.TheVariants as place
use Rattle.lowering_form.specs.Code.{Code, Valued, given, assigned}
use Rattle.lowering_form.specs.Places.{Scope, place_in, address_of, read_code, write_code, offset_code}

-- ---- comparisons

-- that of integers, by how they are read; what is greater has its operands exchanged (C11 6.5.8, 6.5.9)
abbrev pub compare_act : Relation → Sign → (left right : Atom) → (made : ℕ) → Core
compare_act relation.Less sign.Signed a b t = c.Operate t op.Lts a b
compare_act relation.Less sign.Unsigned a b t = c.Operate t op.Ltu a b
compare_act relation.Greater sign.Signed a b t = c.Operate t op.Lts b a
compare_act relation.Greater sign.Unsigned a b t = c.Operate t op.Ltu b a
compare_act relation.AtMost sign.Signed a b t = c.Operate t op.Les a b
compare_act relation.AtMost sign.Unsigned a b t = c.Operate t op.Leu a b
compare_act relation.AtLeast sign.Signed a b t = c.Operate t op.Les b a
compare_act relation.AtLeast sign.Unsigned a b t = c.Operate t op.Leu b a
compare_act relation.Equal s a b t = c.Operate t op.Eq a b
compare_act relation.NotEqual s a b t = c.Operate t op.Ne a b

-- that of pointers (C11 6.5.8p5, 6.5.9p6)
abbrev pub compare_pointers_act : Relation → (left right : Atom) → (made : ℕ) → Core
compare_pointers_act relation.Less a b t = c.Pointer t pointer.Before a b
compare_pointers_act relation.Greater a b t = c.Pointer t pointer.Before b a
compare_pointers_act relation.AtMost a b t = c.Pointer t pointer.AtMost a b
compare_pointers_act relation.AtLeast a b t = c.Pointer t pointer.AtMost b a
compare_pointers_act relation.Equal a b t = c.Pointer t pointer.Equal a b
compare_pointers_act relation.NotEqual a b t = c.Operate t op.Ne a b

-- ---- pointers and integers (C11 6.5.6p8, p9)

-- a word times a constant, where that is not 1
abbrev pub multiplied_code : Atom → (factor : ℕ) → Code → Valued
multiplied_code v n k = if n == 1 then given v k else assigned (λ t. c.Operate t op.Mul v (at.Word n)) k

-- the same, where a word that is known is multiplied at once
abbrev pub scaled_code : Atom → (factor : ℕ) → Code → Valued
scaled_code (at.Word m) n k = given (at.Word (m * n % 2 ^ 32)) k
scaled_code (at.Var x) n k = multiplied_code (at.Var x) n k
scaled_code (at.Global x) n k = multiplied_code (at.Global x) n k
scaled_code (at.Local x) n k = multiplied_code (at.Local x) n k

-- a pointer moved by a number of elements, each of so many bytes
abbrev pub moved_code : (pointer : Atom) → (element : ℕ) → (count : Atom) → Code → Valued
moved_code p n v k =
    let bytes = scaled_code v n k in assigned (λ t. c.Pointer t pointer.Offset p bytes.atom) bytes.code

-- the word by which a pointer moves back
abbrev pub negated_word : ℕ → ℕ
negated_word n = (2 ^ 32 - n) % 2 ^ 32

-- a number of bytes as a number of elements
abbrev pub divided_code : (element : ℕ) → Valued → Valued
divided_code n d = if n == 1 then d else assigned (λ t. c.Operate t op.Divs d.atom (at.Word n)) d.code

-- ---- binary operators

-- what one gives of the values of its operands
abbrev pub arithmetic_code : Arithmetic → (left right : Atom) → Code → Valued
arithmetic_code (arithmetic.Word o) a b k = assigned (λ t. c.Operate t o a b) k
arithmetic_code (arithmetic.Compare r s) a b k = assigned (compare_act r s a b) k
arithmetic_code (arithmetic.ComparePointers r) a b k = assigned (compare_pointers_act r a b) k
arithmetic_code (arithmetic.PointerPlus z) a b k = moved_code a z.element b k
arithmetic_code (arithmetic.PlusPointer z) a b k = moved_code b z.element a k
arithmetic_code (arithmetic.PointerMinus z) a b k = moved_code a (negated_word z.element) b k
arithmetic_code (arithmetic.Difference n) a b k =
    divided_code n (assigned (λ t. c.Pointer t pointer.Difference a b) k)

-- ---- conversions

-- the operation that narrows a word to a width; the widest leaves it as it is (C11 6.3.1.3)
abbrev pub narrowing : Width → Option Op
narrowing width.U8 = Some op.Zext8
narrowing width.S8 = Some op.Sext8
narrowing width.U16 = Some op.Zext16
narrowing width.S16 = Some op.Sext16
narrowing width.Word = None

abbrev pub narrowed_by : Option Op → Valued → Valued
narrowed_by None v = v
narrowed_by (Some o) v = assigned (λ t. c.Operate t o v.atom (at.Word 0)) v.code

-- a value converted (C11 6.3)
abbrev pub converted_code : Conversion → Valued → Valued
converted_code (conversion.Integer w) v = narrowed_by (narrowing w) v
converted_code conversion.Bool v = assigned (λ t. c.Operate t op.Ne v.atom (at.Word 0)) v.code
converted_code conversion.Pointer v = v

-- ---- objects that change

-- which of the two values `++` and `--` give
abbrev pub given_of : Given → (old new : Atom) → Atom
given_of giving.Old a b = a
given_of giving.New a b = b

-- the new value of an object that `++` or `--` changes, by its old one
abbrev pub increased_code : Increment → Valued → Valued
increased_code h old = converted_code h.conversion (arithmetic_code h.operator old.atom (at.Word 1) old.code)

-- `++` and `--` of the object at a place (C11 6.5.2.4p2, 6.5.3.1p2)
abbrev pub increment_code : Place → Increment → Code → Valued
increment_code p h k =
    let old = read_code p h.scalar k in let new = increased_code h old in
    record { code = write_code p h.scalar new.atom new.code; atom = given_of h.given old.atom new.atom }

-- what is assigned: the right operand, or what the operator of a compound assignment gives of the old value and that
-- (C11 6.5.16.2p3)
abbrev pub operated_code : Place → Scalar → Option Arithmetic → Valued → Valued
operated_code p s None v = v
operated_code p s (Some o) v = let old = read_code p s v.code in arithmetic_code o old.atom v.atom old.code

-- an assignment to the object at a place, which gives the new value (C11 6.5.16p3)
abbrev pub changed_code : Place → Change → Valued → Valued
changed_code p h v =
    let new = converted_code h.conversion (operated_code p h.scalar h.operator v) in
    record { code = write_code p h.scalar new.atom new.code; atom = new.atom }

-- ---- what expressions begin with, and what is done with one value

-- C11 6.5.1, 6.5.2.4, 6.5.3.1, 6.5.3.2
abbrev pub primary_code : Primary → Scope → Code → Valued
primary_code (primary.Number n) sc k = given (at.Word n) k
primary_code primary.Null sc k = given (at.Word 0) k
primary_code (primary.Variable s i) sc k = read_code (place_in sc i) s k
primary_code (primary.Address i) sc k = given (address_of (place_in sc i)) k
primary_code (primary.Static i) sc k = given (at.Global i) k
primary_code (primary.Increment i h) sc k = increment_code (place_in sc i) h k

-- C11 6.3, 6.5.2.3, 6.5.2.4, 6.5.3
abbrev pub unary_code : Unary → Valued → Valued
unary_code (unary.Load s) v = read_code (place.Memory v.atom) s v.code
unary_code (unary.Convert h) v = converted_code h v
unary_code (unary.Negate sign.Signed) v = assigned (λ t. c.Operate t op.Subs (at.Word 0) v.atom) v.code
unary_code (unary.Negate sign.Unsigned) v = assigned (λ t. c.Operate t op.Sub (at.Word 0) v.atom) v.code
unary_code unary.Complement v = assigned (λ t. c.Operate t op.Xor v.atom (at.Word (2 ^ 32 - 1))) v.code
unary_code unary.Not v = assigned (λ t. c.Operate t op.Eq v.atom (at.Word 0)) v.code
unary_code (unary.Member n) v = offset_code v.atom n v.code
unary_code (unary.Increment h) v = increment_code (place.Memory v.atom) h v.code
unary_code unary.Drop v = given (at.Word 0) v.code
