-- Loads and stores: how a value is kept in cells, and where an object may be accessed.
use Rattle.std.specs.Prelude.{◌≢◌, ℕ, zero, suc, ◌+◌, ◌-◌, ◌*◌, ◌/◌, ◌%◌, ◌^◌, ◌<◌, ◌≤◌, ◌⊎◌, Bool, true, false, not, ◌&&◌, ◌==◌, nat_le, List, [], ◌∷◌, ◌++◌, length, take, drop, Option, Some, None, slice_get, slice_set}
use Rattle.std.specs.Option.{option_map, option_or, option_and_then}
use Rattle.word_ops.specs.declared.operation.Width.{Width}
use Rattle.word_ops.specs.declared.operation.Width.TheVariants.{U8, S8, U16, S16, Word}
use Rattle.word_ops.specs.Choice.{only_if, when}
use Rattle.word_ops.specs.Word.{narrowed}
use Rattle.word_ops.specs.Store.{Value, Number, Pointer, Cell, Unset, Byte, Part, Region, Store}

-- ---- widths

-- how many bytes an access takes, which is also the alignment that it asks for (C11 6.5.3.4p2, 6.2.8p1; the numbers are the
-- profile's)
abbrev pub bytes_of : Width → ℕ
bytes_of U8 = 1
bytes_of S8 = 1
bytes_of U16 = 2
bytes_of S16 = 2
bytes_of Word = 4

-- whether a number that is read is that of a signed type (C11 6.2.5p4)
abbrev pub keeps_sign : Width → Bool
keeps_sign S8 = true
keeps_sign S16 = true
keeps_sign _ = false

-- a number converted to the type of a width and promoted to a word (C11 6.3.1.3, 6.3.1.1p2)
abbrev pub narrowed_to : Width → ℕ → ℕ
narrowed_to k n = narrowed (8 * bytes_of k) (keeps_sign k) n

-- the numbers that an object of this width holds, as words: from 0 on, or round 0 where the sign is kept (C11 6.2.6.2p1, p2)
abbrev pub IsInRange : Width → ℕ → Type 0
IsInRange U8 n = n < 2 ^ 8
IsInRange S8 n = (n < 2 ^ 7) ⊎ ((2 ^ 32 - 2 ^ 7 ≤ n) × (n < 2 ^ 32))
IsInRange U16 n = n < 2 ^ 16
IsInRange S16 n = (n < 2 ^ 15) ⊎ ((2 ^ 32 - 2 ^ 15 ≤ n) × (n < 2 ^ 32))
IsInRange Word n = n < 2 ^ 32

-- what an object of this width has as its value once this value was stored there (C11 6.5.16.1p2)
abbrev pub converted_to : Width → Value → Value
converted_to k (Number n) = Number (narrowed_to k n)
converted_to k (Pointer r o) = Pointer r o

-- only an object of the width of a word holds a pointer (the profile: a pointer has four bytes)
abbrev pub holds_pointer : Width → Bool
holds_pointer Word = true
holds_pointer _ = false

-- whether an object of this width holds the value as it is
abbrev pub is_kept_by : Width → Value → Bool
is_kept_by k (Number n) = narrowed_to k n == n
is_kept_by k (Pointer r o) = holds_pointer k

-- ---- values as cells (C11 6.2.6.1p2, p4)

-- the number whose bytes these cells are, the lowest first (the profile: little-endian); a byte counts modulo 2^8
abbrev pub number_in : List Cell → Option ℕ
number_in [] = Some 0
number_in (Byte b ∷ cs) = option_map (λ n. b % 256 + 256 * n) (number_in cs)
number_in (Unset ∷ cs) = None
number_in (Part k r o ∷ cs) = None

-- whether these cells are the parts of one pointer from part k on to part 3, in order
abbrev pub are_parts : (k region offset : ℕ) → List Cell → Bool
are_parts k r o [] = k == 4
are_parts k r o (Part j q p ∷ cs) = (j == k) && ((q == r) && ((p == o) && are_parts (k + 1) r o cs))
are_parts k r o (Unset ∷ cs) = false
are_parts k r o (Byte b ∷ cs) = false

-- the pointer of which these cells are the whole, in order
abbrev pub pointer_in : List Cell → Option Value
pointer_in (Part k r o ∷ cs) = only_if (are_parts 0 r o (Part k r o ∷ cs)) (Pointer r o)
pointer_in _ = None

-- the value of cells that are read at a width, or none where they represent none (C11 6.2.6.1p5); four zero bytes are the
-- null pointer, as they are the number 0
abbrev pub decode : Width → List Cell → Option Value
decode k cs = option_or (option_map (λ n. Number (narrowed_to k n)) (number_in cs)) (when (holds_pointer k) (pointer_in cs))

-- the low bytes of a number, the lowest first
abbrev pub number_cells : (count : ℕ) → ℕ → List Cell
number_cells zero n = []
number_cells (suc count) n = Byte (n % 256) ∷ number_cells count (n / 256)

-- a whole pointer
abbrev pub pointer_cells : (region offset : ℕ) → List Cell
pointer_cells r o = Part 0 r o ∷ Part 1 r o ∷ Part 2 r o ∷ Part 3 r o ∷ []

-- the cells of a value that is stored at a width; no part of a pointer is stored alone
abbrev pub encode : Width → Value → Option (List Cell)
encode k (Number n) = Some (number_cells (bytes_of k) n)
encode k (Pointer r o) = only_if (holds_pointer k) (pointer_cells r o)

-- ---- accesses

-- whether bytes of an object may be accessed: its lifetime goes on, they lie in it, and they are aligned (C11 6.2.4p2,
-- 6.5.3.2p4, 6.5.6p8, 6.3.2.3p7)
abbrev pub may_access : Region → (size alignment offset : ℕ) → Bool
may_access g n a o = g.live && ((o % a == 0) && nat_le (o + n) (length g.cells))

-- the cells of an access to a region, where it may be made
abbrev pub cells_in : Option Region → (size alignment offset : ℕ) → Option (List Cell)
cells_in None n a o = None
cells_in (Some g) n a o = only_if (may_access g n a o) (take n (drop o g.cells))

-- the cells of an access through a value, which has to be a pointer (C11 6.5.3.2p4)
abbrev pub cells_from : Store → Value → (size alignment : ℕ) → Option (List Cell)
cells_from s (Number n) size alignment = None
cells_from s (Pointer r o) size alignment = cells_in (slice_get s r) size alignment o

-- those of an access of a width
abbrev pub cells_at : Store → Width → Value → Option (List Cell)
cells_at s k p = cells_from s p (bytes_of k) (bytes_of k)

-- the value that a load gives, or none where it is undefined (C11 6.3.2.1p2)
abbrev pub load : Store → Width → Value → Option Value
load s k p = option_and_then (decode k) (cells_at s k p)

-- a load through an lvalue of integer type reads no pointer, and one through an lvalue of pointer type no number but that
-- of the null pointer (C11 6.2.6.1p5; no other rule ties an access to the type of an object, by the profile's choice)
abbrev pub integer_only : Value → Option Value
integer_only (Number n) = Some (Number n)
integer_only (Pointer r o) = None

abbrev pub pointer_only : Value → Option Value
pointer_only (Number n) = only_if (n == 0) (Number n)
pointer_only (Pointer r o) = Some (Pointer r o)

abbrev pub load_integer : Store → Width → Value → Option Value
load_integer s k p = option_and_then integer_only (load s k p)

abbrev pub load_pointer : Store → Value → Option Value
load_pointer s p = option_and_then pointer_only (load s Word p)

-- a region with other cells from an offset on
abbrev pub with_cells : Region → (offset : ℕ) → List Cell → Region
with_cells g o cs = record g { cells = take o g.cells ++ (cs ++ drop (o + length cs) g.cells) }

-- the store with other cells in a region, where they may be accessed
abbrev pub put_in : Store → (region offset alignment : ℕ) → List Cell → Option Region → Option Store
put_in s r o a cs None = None
put_in s r o a cs (Some g) = only_if (may_access g (length cs) a o) (slice_set s r (with_cells g o cs))

-- the store with other cells at the place of a pointer
abbrev pub put_cells : Store → Value → (alignment : ℕ) → List Cell → Option Store
put_cells s (Number n) a cs = None
put_cells s (Pointer r o) a cs = put_in s r o a cs (slice_get s r)

-- whether a value points to an object that may not be modified (C11 6.7.3p6, 6.4.5p7)
abbrev pub is_constant_in : Option Region → Bool
is_constant_in None = false
is_constant_in (Some g) = g.constant

abbrev pub is_constant : Store → Value → Bool
is_constant s (Number n) = false
is_constant s (Pointer r o) = is_constant_in (slice_get s r)

-- the store after an initialiser has stored a value: an object whose type is const gets its value so (C11 6.7.9p8, p11)
abbrev pub initialise : Store → Width → Value → Value → Option Store
initialise s k p v = option_and_then (put_cells s p (bytes_of k)) (encode k v)

-- the store after a value was stored, or none where that is undefined: a constant is not modified (C11 6.5.16.1p2, 6.7.3p6,
-- 6.4.5p7)
abbrev pub write : Store → Width → Value → Value → Option Store
write s k p v = when (not (is_constant s p)) (initialise s k p v)

-- the store after an object was initialised with the bytes of another, whatever they hold (C11 6.7.9p13, 6.2.6.1p4)
abbrev pub initialise_from : Store → (to from : Value) → (size alignment : ℕ) → Option Store
initialise_from s to from size alignment = option_and_then (put_cells s to alignment) (cells_from s from size alignment)

-- the store after the bytes of one object were copied to another (C11 6.5.16.1p2): all are read before one is written
abbrev pub copy : Store → (to from : Value) → (size alignment : ℕ) → Option Store
copy s to from size alignment = when (not (is_constant s to)) (initialise_from s to from size alignment)

-- an access of n bytes at p and one of m bytes at q have no byte in common
abbrev pub AreDisjoint : (p : Value) (n : ℕ) (q : Value) (m : ℕ) → Type 0
AreDisjoint (Pointer r o) n (Pointer x u) m = (r ≢ x) ⊎ ((u + m ≤ o) ⊎ (o + n ≤ u))
AreDisjoint _ n _ m = Unit {0}
