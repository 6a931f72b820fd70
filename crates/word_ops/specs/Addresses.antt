-- Addresses: the word of a value, and what is asked of the stores in which words are spoken of. The meaning of a source
-- knows none of this; it is the profile's tie to a machine with a memory of bytes.
use Rattle.std.specs.Prelude.{◌≡◌, ◌≢◌, ℕ, ◌+◌, ◌/◌, ◌%◌, ◌^◌, ◌<◌, ◌≤◌, ◌⊎◌, true, List, [], ◌∷◌, ◌++◌, Option, Some, None, slice_get}
use Rattle.word_ops.specs.Store.{Value, Number, Pointer, Cell, Unset, Byte, Part, Region, Store, Shape, shape_at}

-- the address of an object
abbrev pub address_in : Option Shape → ℕ
address_in None = 0
address_in (Some z) = z.address

-- the word of a value: of a number it is the number, of a pointer the address of its object and the offset
abbrev pub word_of_value : Store → Value → ℕ
word_of_value s (Number n) = n
word_of_value s (Pointer r o) = address_in (shape_at s r) + o

-- a place in an object, or one past its end (C11 6.5.6p8)
abbrev pub IsOffsetIn : Option Shape → ℕ → Type 0
IsOffsetIn None o = ⊥
IsOffsetIn (Some z) o = o ≤ z.size

-- a value of the store: a word, or a pointer to one of its objects with an offset from 0 to the object's size
abbrev pub IsValueIn : Store → Value → Type 0
IsValueIn s (Number n) = n < 2 ^ 32
IsValueIn s (Pointer r o) = IsOffsetIn (shape_at s r) o

-- the pointers of which cells hold parts are values of the store
abbrev pub AreCellsIn : Store → List Cell → Type 0
AreCellsIn s [] = Unit {0}
AreCellsIn s (Unset ∷ cs) = AreCellsIn s cs
AreCellsIn s (Byte b ∷ cs) = AreCellsIn s cs
AreCellsIn s (Part k r o ∷ cs) = IsValueIn s (Pointer r o) × AreCellsIn s cs

-- two objects do not touch: at least 8 bytes lie between them, so one past the end of one is no place of the other
abbrev pub AreApart : Shape → Shape → Type 0
AreApart y z = (y.address + y.size + 8 ≤ z.address) ⊎ (z.address + z.size + 8 ≤ y.address)

-- a store whose objects have addresses of their own
pub record IsAddressed (s : Store) : Type 0 where
  -- no object has the address 0, and one past its end is a word
  pub bounds : (r : ℕ) (z : Shape) → shape_at s r ≡ Some z → (0 < z.address) × (z.address + z.size < 2 ^ 32)
  -- objects that are live together do not touch
  pub apart : (r q : ℕ) (y z : Shape) → shape_at s r ≡ Some y → shape_at s q ≡ Some z → y.live ≡ true →
      z.live ≡ true → r ≢ q → AreApart y z
  -- pointers that objects hold are values of the store
  pub pointers : (r : ℕ) (g : Region) → slice_get s r ≡ Some g → AreCellsIn s g.cells

-- what is asked of regions that a store gets: bounds, distances among them and from the live old ones, and pointers
pub record AreNewTo (s new : Store) : Type 0 where
  pub bounds : (i : ℕ) (z : Shape) → shape_at new i ≡ Some z → (0 < z.address) × (z.address + z.size < 2 ^ 32)
  pub apart : (i j : ℕ) (y z : Shape) → shape_at new i ≡ Some y → shape_at new j ≡ Some z → y.live ≡ true →
      z.live ≡ true → i ≢ j → AreApart y z
  pub beside : (r i : ℕ) (y z : Shape) → shape_at s r ≡ Some y → shape_at new i ≡ Some z → y.live ≡ true →
      z.live ≡ true → AreApart y z
  pub pointers : (i : ℕ) (g : Region) → slice_get new i ≡ Some g → AreCellsIn (s ++ new) g.cells

-- a cell that is no part of a pointer
abbrev pub IsPlain : Cell → Type 0
IsPlain (Part k r o) = ⊥
IsPlain c = Unit {0}

-- the byte that a machine has in its memory for a cell, where it has one: for a part of a pointer that byte of its word
abbrev pub byte_of_cell : Store → Cell → Option ℕ
byte_of_cell s Unset = None
byte_of_cell s (Byte b) = Some (b % 256)
byte_of_cell s (Part k r o) = Some (word_of_value s (Pointer r o) / 256 ^ k % 256)

-- the byte of a memory that has this one, or any where it is not told
abbrev pub IsByte : Option ℕ → ℕ → Type 0
IsByte None n = Unit {0}
IsByte (Some b) n = n ≡ b

-- the bytes of a number, the lowest first, are those that a machine has for these cells
abbrev pub HasCells : Store → List Cell → ℕ → Type 0
HasCells s [] n = Unit {0}
HasCells s (c ∷ cs) n = IsByte (byte_of_cell s c) (n % 256) × HasCells s cs (n / 256)
