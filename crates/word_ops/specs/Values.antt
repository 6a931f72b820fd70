-- What operations give on values, pointers among them (C11 6.5.3.3, 6.5.5 to 6.5.12).
use Rattle.std.specs.Prelude.{ℕ, ◌+◌, ◌-◌, ◌%◌, ◌^◌, Bool, true, false, not, ◌&&◌, ◌==◌, nat_le, ℤ, pos, negsuc, ◌+ℤ◌, ◌-ℤ◌, Option, Some, None}
use Rattle.std.specs.Option.{option_map}
use Rattle.word_ops.specs.declared.operation.Op.{Op}
use Rattle.word_ops.specs.declared.operation.Op.TheVariants.{Add, Sub, Eq, Ne, Ltu, Leu}
use Rattle.word_ops.specs.Choice.{only_if, when}
use Rattle.word_ops.specs.Word.{number_of_truth}
use Rattle.word_ops.specs.Operation.{machine_word, word_of_operation}
use Rattle.word_ops.specs.Store.{Value, Number, Pointer, Store, Shape, shape_at, is_live}

-- a pointer to a place in a live object or one past its end (C11 6.5.6p8; the bounds are those of the whole object, by the
-- profile's choice)
abbrev pub pointer_within : Option Shape → (region offset : ℕ) → Option Value
pointer_within None r o = None
pointer_within (Some z) r o = only_if (z.live && nat_le o z.size) (Pointer r o)

-- a pointer and a number: sums and differences (C11 6.5.6p8), and equality with the null pointer (6.5.9p5, p6); a number
-- counts modulo 2^32, so 2^32 - 1 moves back by one
abbrev pub of_pointer_and_number : Option Shape → Op → (region offset : ℕ) → ℕ → Option Value
of_pointer_and_number z Add r o n = pointer_within z r ((o + n) % 2 ^ 32)
of_pointer_and_number z Sub r o n = pointer_within z r ((o + (2 ^ 32 - n)) % 2 ^ 32)
of_pointer_and_number z Eq r o n = only_if (is_live z && (n == 0)) (Number 0)
of_pointer_and_number z Ne r o n = only_if (is_live z && (n == 0)) (Number 1)
of_pointer_and_number z _ r o n = None

-- a number and a pointer: sums (C11 6.5.6p2, p8), and equality with the null pointer
abbrev pub of_number_and_pointer : Option Shape → Op → ℕ → (region offset : ℕ) → Option Value
of_number_and_pointer z Add n r o = pointer_within z r ((n + o) % 2 ^ 32)
of_number_and_pointer z Eq n r o = only_if (is_live z && (n == 0)) (Number 0)
of_number_and_pointer z Ne n r o = only_if (is_live z && (n == 0)) (Number 1)
of_number_and_pointer z _ n r o = None

-- two pointers: the difference and the order within one live object (C11 6.5.6p9, 6.5.8p5), and whether they are the same
-- place of live objects (6.5.9p6)
abbrev pub of_pointers : (first second : Option Shape) → Op → (region offset : ℕ) → (other_region other_offset : ℕ) →
    Option Value
of_pointers y z Sub r o q p = only_if (is_live y && (r == q)) (Number (machine_word Sub o p))
of_pointers y z Ltu r o q p = only_if (is_live y && (r == q)) (Number (machine_word Ltu o p))
of_pointers y z Leu r o q p = only_if (is_live y && (r == q)) (Number (machine_word Leu o p))
of_pointers y z Eq r o q p = only_if (is_live y && is_live z) (Number (number_of_truth ((r == q) && (o == p))))
of_pointers y z Ne r o q p = only_if (is_live y && is_live z) (Number (number_of_truth (not ((r == q) && (o == p)))))
of_pointers y z _ r o q p = None

-- the value of an operation in a store, or none where it is undefined: on numbers the word of the operation, on pointers
-- what C11 says of them, and nothing else
abbrev pub value_of_operation : Store → Op → Value → Value → Option Value
value_of_operation s op (Number a) (Number b) = option_map Number (word_of_operation op a b)
value_of_operation s op (Pointer r o) (Number b) = of_pointer_and_number (shape_at s r) op r o b
value_of_operation s op (Number a) (Pointer q p) = of_number_and_pointer (shape_at s q) op a q p
value_of_operation s op (Pointer r o) (Pointer q p) = of_pointers (shape_at s r) (shape_at s q) op r o q p

-- whether a value compares unequal to 0 (C11 6.8.4.1p2, 6.5.3.3p5, 6.3.1.2), or none where that is undefined
abbrev pub truth : Store → Value → Option Bool
truth s (Number n) = Some (not (n == 0))
truth s (Pointer r o) = only_if (is_live (shape_at s r)) true

-- ---- operations on pointers alone: where one operand has to be a pointer, the null pointer has no value

-- a pointer that is not null
abbrev pub is_pointer : Value → Bool
is_pointer (Number n) = false
is_pointer (Pointer r o) = true

-- a value of a pointer type (C11 6.2.5p20, 6.3.2.3p3)
abbrev pub is_pointer_or_null : Value → Bool
is_pointer_or_null (Number n) = n == 0
is_pointer_or_null (Pointer r o) = true

-- a pointer moved by a number of bytes (C11 6.5.6p8)
abbrev pub moved_pointer : Store → (pointer number : Value) → Option Value
moved_pointer s x y = when (is_pointer x && not (is_pointer y)) (value_of_operation s Add x y)

-- how many bytes the first pointer is above the second (C11 6.5.6p9)
abbrev pub pointer_difference : Store → Value → Value → Option Value
pointer_difference s x y = when (is_pointer x && is_pointer y) (value_of_operation s Sub x y)

-- whether two pointers are equal (C11 6.5.9p6)
abbrev pub equal_pointers : Store → Value → Value → Option Value
equal_pointers s x y = when (is_pointer_or_null x && is_pointer_or_null y) (value_of_operation s Eq x y)

-- whether the first pointer is below the second (C11 6.5.8p5)
abbrev pub pointer_before : Store → Value → Value → Option Value
pointer_before s x y = when (is_pointer x && is_pointer y) (value_of_operation s Ltu x y)

-- whether the first pointer is at most at the second (C11 6.5.8p5)
abbrev pub pointer_at_most : Store → Value → Value → Option Value
pointer_at_most s x y = when (is_pointer x && is_pointer y) (value_of_operation s Leu x y)

-- ---- sums and differences of pointers in integers, whatever type the number has: the result is not taken modulo anything

abbrev pub place_within : Option Shape → (region : ℕ) → (place : ℤ) → Option Value
place_within z r (pos o) = pointer_within z r o
place_within z r (negsuc n) = None

-- a pointer and an integer number of bytes (C11 6.5.6p8)
abbrev pub pointer_plus : Store → Value → ℤ → Option Value
pointer_plus s (Number n) i = None
pointer_plus s (Pointer r o) i = place_within (shape_at s r) r (pos o +ℤ i)

-- the distance in bytes from the second pointer to the first (C11 6.5.6p9)
abbrev pub pointer_minus : Store → Value → Value → Option ℤ
pointer_minus s (Pointer r o) (Pointer q p) = only_if (is_live (shape_at s r) && (r == q)) (pos o -ℤ pos p)
pointer_minus s _ _ = None
