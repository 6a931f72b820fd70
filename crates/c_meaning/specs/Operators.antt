-- What operators do with values: conversions, arithmetic, comparisons, pointers, and the ways to change an object. Each gives
-- none where it is undefined (C11 3.4.3).
use Rattle.std.specs.Prelude.{ℕ, ◌-◌, ◌%◌, ◌^◌, ◌==◌, Bool, not, ◌&&◌, ℤ, pos, ◌*ℤ◌, neg_ℤ, int_div, unsigned_abs, Option, Some, None}
use Rattle.std.specs.Option.{option_map, option_and_then}
use Rattle.word_ops.specs.declared.operation.Op.TheVariants as op
use Rattle.word_ops.specs.declared.operation.Width.{Width}
use Rattle.word_ops.specs.declared.operation.Width.TheVariants as width
use Rattle.word_ops.specs.Choice.{only_if, when}
use Rattle.word_ops.specs.Word.{signed_value, word_of_integer, number_of_truth}
use Rattle.word_ops.specs.Store.{Value, Number, Pointer, Store}
use Rattle.word_ops.specs.Access.{narrowed_to, load_integer, load_pointer, write}
use Rattle.word_ops.specs.Values.{value_of_operation, truth, is_pointer_or_null, equal_pointers, pointer_before, pointer_at_most, pointer_plus, pointer_minus}
use Rattle.c_tree.specs.declared.typed.operator.Scalar.{Scalar}
use Rattle.c_tree.specs.declared.typed.operator.Scalar.TheVariants as scalar
use Rattle.c_tree.specs.declared.typed.operator.Sign.{Sign}
use Rattle.c_tree.specs.declared.typed.operator.Sign.TheVariants as sign
use Rattle.c_tree.specs.declared.typed.operator.Conversion.{Conversion}
use Rattle.c_tree.specs.declared.typed.operator.Conversion.TheVariants as conversion
use Rattle.c_tree.specs.declared.typed.operator.Relation.{Relation}
use Rattle.c_tree.specs.declared.typed.operator.Relation.TheVariants as relation
use Rattle.c_tree.specs.declared.typed.operator.Stride.{Stride}
use Rattle.c_tree.specs.declared.typed.operator.Arithmetic.{Arithmetic}
use Rattle.c_tree.specs.declared.typed.operator.Arithmetic.TheVariants as arithmetic
use Rattle.c_tree.specs.declared.typed.operator.Change.{Change}
use Rattle.c_tree.specs.declared.typed.operator.Given.{Given}
use Rattle.c_tree.specs.declared.typed.operator.Given.TheVariants as giving
use Rattle.c_tree.specs.declared.typed.operator.Increment.{Increment}
use Rattle.c_tree.specs.declared.typed.operator.Primary.{Primary}
use Rattle.c_tree.specs.declared.typed.operator.Primary.TheVariants as primary
use Rattle.c_tree.specs.declared.typed.operator.Unary.{Unary}
use Rattle.c_tree.specs.declared.typed.operator.Unary.TheVariants as unary
use Rattle.c_tree.specs.TypedKinds.{width_of}
use Rattle.c_meaning.specs.Environment.{Environment, automatic_place, static_place}

-- ---- objects of scalar type

-- the value of the object at an address (C11 6.3.2.1p2): an integer is read from bytes, and a pointer from one whole pointer
-- or the bytes of the null pointer
abbrev pub value_at : Store → Scalar → Value → Option Value
value_at st (scalar.Integer k) p = load_integer st k p
value_at st scalar.Pointer p = load_pointer st p

-- ---- conversions (C11 6.3)

-- a number that is narrowed to a width and read at it (C11 6.3.1.3)
abbrev pub narrowed_value : Width → Value → Option Value
narrowed_value k (Number n) = Some (Number (narrowed_to k n))
narrowed_value k (Pointer r o) = None

-- the number of a truth (C11 6.3.1.2p1, 6.5.8p6)
abbrev pub truth_value : Option Bool → Option Value
truth_value o = option_map (λ b. Number (number_of_truth b)) o

-- a value converted; of a pointer to an integer type other than `_Bool` there is none, but typed units never ask for it
abbrev pub converted : Store → Conversion → Value → Option Value
-- C11 6.3.1.3: between types of four bytes the word stays; a value of a narrower type is a word already (6.3.1.1p2)
converted st (conversion.Integer width.Word) v = Some v
converted st (conversion.Integer k) v = narrowed_value k v
-- C11 6.3.1.2
converted st conversion.Bool v = truth_value (truth st v)
-- C11 6.3.2.3p1, p7: a pointer leads to the same place
converted st conversion.Pointer v = Some v

-- ---- comparisons (C11 6.5.8, 6.5.9)

-- each relation by "less", "at most", "equal" and "not equal"
abbrev pub related : (less at_most equal different : Value → Value → Option Value) → Relation → Value → Value →
    Option Value
related less at_most equal different relation.Less x y = less x y
related less at_most equal different relation.Greater x y = less y x
related less at_most equal different relation.AtMost x y = at_most x y
related less at_most equal different relation.AtLeast x y = at_most y x
related less at_most equal different relation.Equal x y = equal x y
related less at_most equal different relation.NotEqual x y = different x y

-- of integers
abbrev pub integers_compared : Store → Sign → Relation → Value → Value → Option Value
integers_compared st sign.Signed r x y =
    related (value_of_operation st op.Lts) (value_of_operation st op.Les) (value_of_operation st op.Eq) (value_of_operation st op.Ne) r x y
integers_compared st sign.Unsigned r x y =
    related (value_of_operation st op.Ltu) (value_of_operation st op.Leu) (value_of_operation st op.Eq) (value_of_operation st op.Ne) r x y

-- whether two pointers are unequal (C11 6.5.9p6)
abbrev pub unequal_pointers : Store → Value → Value → Option Value
unequal_pointers st x y = when (is_pointer_or_null x && is_pointer_or_null y) (value_of_operation st op.Ne x y)

-- of pointers: their order within one object (C11 6.5.8p5), and whether they lead to the same place (6.5.9p6)
abbrev pub pointers_compared : Store → Relation → Value → Value → Option Value
pointers_compared st r x y =
    related (pointer_before st) (pointer_at_most st) (equal_pointers st) (unequal_pointers st) r x y

-- ---- additive operators on pointers (C11 6.5.6)

-- a word read as an integer of the type of the operand
abbrev pub integer_of : Sign → ℕ → ℤ
integer_of sign.Signed n = signed_value n
integer_of sign.Unsigned n = pos n

-- by how many bytes an integer moves a pointer
abbrev pub bytes_moved : Stride → ℕ → ℤ
bytes_moved z n = integer_of z.sign n *ℤ pos z.element

-- a pointer moved by an integer number of elements, forward and back (C11 6.5.6p8)
abbrev pub moved_forward : Store → Stride → (pointer integer : Value) → Option Value
moved_forward st z p (Number n) = pointer_plus st p (bytes_moved z n)
moved_forward st z p (Pointer r o) = None

-- the same, back
abbrev pub moved_back : Store → Stride → (pointer integer : Value) → Option Value
moved_back st z p (Number n) = pointer_plus st p (neg_ℤ (bytes_moved z n))
moved_back st z p (Pointer r o) = None

-- a distance in bytes as a number of elements, where it is one (C11 6.5.6p9)
abbrev pub elements_in : (element : ℕ) → ℤ → Option Value
elements_in e d = only_if (unsigned_abs d % e == 0) (Number (word_of_integer (int_div d (pos e))))

-- how many elements the first pointer is above the second (C11 6.5.6p9)
abbrev pub elements_between : Store → (element : ℕ) → Value → Value → Option Value
elements_between st e x y = option_and_then (elements_in e) (pointer_minus st x y)

-- ---- binary operators

-- the value of a binary operator on the values of its operands, or none where it is undefined
abbrev pub arithmetic_value : Store → Arithmetic → Value → Value → Option Value
-- C11 6.5.5 to 6.5.7, 6.5.10 to 6.5.12
arithmetic_value st (arithmetic.Word o) x y = value_of_operation st o x y
-- C11 6.5.8, 6.5.9
arithmetic_value st (arithmetic.Compare r s) x y = integers_compared st s r x y
arithmetic_value st (arithmetic.ComparePointers r) x y = pointers_compared st r x y
-- C11 6.5.6
arithmetic_value st (arithmetic.PointerPlus z) x y = moved_forward st z x y
arithmetic_value st (arithmetic.PlusPointer z) x y = moved_forward st z y x
arithmetic_value st (arithmetic.PointerMinus z) x y = moved_back st z x y
arithmetic_value st (arithmetic.Difference e) x y = elements_between st e x y

-- ---- what changes an object

-- a store, and the value that an operator gives
pub record Changed : Type 0 where
  pub store : Store
  pub value : Value

-- a value, and the store as it was
abbrev pub unchanged : Store → Option Value → Option Changed
unchanged st o = option_map (λ v. record { store = st; value = v }) o

-- stores a value, and gives it (C11 6.5.16p3, 6.5.16.1p2)
abbrev pub stored : Store → Scalar → (place value : Value) → Option Changed
stored st k p v = option_map (λ t. record { store = t; value = v }) (write st (width_of k) p v)

-- what a compound assignment stores: the operator's result, converted (C11 6.5.16.2p3)
abbrev pub operated : Store → Arithmetic → Conversion → (old operand : Value) → Option Value
operated st o c x y = option_and_then (converted st c) (arithmetic_value st o x y)

-- an assignment of a value to the object at an address: a simple one (C11 6.5.16.1), or a compound one, which reads the old
-- value behind the evaluation of its right operand (6.5.16.2; the order is the profile's)
abbrev pub assigned_by : Store → Change → (place value : Value) → Option Arithmetic → Option Changed
assigned_by st c p v None = option_and_then (stored st c.scalar p) (converted st c.conversion v)
assigned_by st c p v (Some o) =
    option_and_then (λ x. option_and_then (stored st c.scalar p) (operated st o c.conversion x v)) (value_at st c.scalar p)

-- an assignment of a value to the object at an address
abbrev pub assigned : Store → Change → (place value : Value) → Option Changed
assigned st c p v = assigned_by st c p v c.operator

-- the value that `++` or `--` gives (C11 6.5.2.4p2, 6.5.3.1p2)
abbrev pub given_of : Given → (old new : Value) → Value
given_of giving.Old x y = x
given_of giving.New x y = y

-- `++` or `--` of the object at an address
abbrev pub incremented : Store → Increment → (place : Value) → Option Changed
incremented st i p =
    option_and_then (λ x. option_map (λ (h : Changed). record { store = h.store; value = given_of i.given x h.value }) (option_and_then (stored st i.scalar p) (operated st i.operator i.conversion x (Number 1)))) (value_at st i.scalar p)

-- ---- what an expression begins with

-- the value of what an expression begins with, and the store behind it, or none where it is undefined
abbrev pub primary_value : Environment → Store → Primary → Option Changed
-- C11 6.4.4, 6.5.1p3, 6.5.3.4
primary_value env st (primary.Number n) = unchanged st (Some (Number n))
-- C11 6.3.2.3p3
primary_value env st primary.Null = unchanged st (Some (Number 0))
-- C11 6.5.1p2, 6.3.2.1p2
primary_value env st (primary.Variable k x) = unchanged st (option_and_then (value_at st k) (automatic_place env x))
-- C11 6.5.3.2p3, 6.3.2.1p3
primary_value env st (primary.Address x) = unchanged st (automatic_place env x)
primary_value env st (primary.Static x) = unchanged st (static_place env x)
-- C11 6.5.2.4, 6.5.3.1
primary_value env st (primary.Increment x i) = option_and_then (incremented st i) (automatic_place env x)

-- ---- unary operators

-- the negative of a value (C11 6.5.3.3p3)
abbrev pub negated : Store → Sign → Value → Option Value
negated st sign.Signed v = value_of_operation st op.Subs (Number 0) v
negated st sign.Unsigned v = value_of_operation st op.Sub (Number 0) v

-- the value of a unary operator on the value of its operand, and the store behind it, or none where it is undefined
abbrev pub unary_value : Store → Unary → Value → Option Changed
-- C11 6.3.2.1p2
unary_value st (unary.Load k) v = unchanged st (value_at st k v)
-- C11 6.3
unary_value st (unary.Convert c) v = unchanged st (converted st c v)
-- C11 6.5.3.3
unary_value st (unary.Negate s) v = unchanged st (negated st s v)
unary_value st unary.Complement v = unchanged st (value_of_operation st op.Xor v (Number (2 ^ 32 - 1)))
unary_value st unary.Not v = unchanged st (truth_value (option_map not (truth st v)))
-- C11 6.5.2.3p3, p4: a sum of a pointer and the member's offset
unary_value st (unary.Member n) v = unchanged st (pointer_plus st v (pos n))
-- C11 6.5.2.4, 6.5.3.1
unary_value st (unary.Increment i) v = incremented st i v
-- C11 6.3.2.2, 6.8.3p2: nothing is done with the value; the 0 in its place is used by nothing
unary_value st unary.Drop v = unchanged st (Some (Number 0))
