-- Values, and the objects of a program as regions of cells (the profile's model of C11 6.2.4 and 6.2.6.1).
use Rattle.std.specs.Prelude.{◌≡◌, ℕ, zero, suc, ◌+◌, ◌^◌, ◌<◌, Bool, true, false, List, [], ◌∷◌, length, replicate, Option, Some, None, slice_get, slice_set}
use Rattle.std.specs.Option.{option_map}

-- what an expression or an object of scalar type has as its value (C11 6.2.5p21): a number of one word, or a pointer to a
-- place in an object; the null pointer is the number 0 (C11 6.3.2.3p3; its representation is the profile's choice)
pub data Value : Type 0 where
  Number : (word : ℕ) → Value
  Pointer : (region offset : ℕ) → Value

-- the number of a value that is one
abbrev pub number_of : Value → Option ℕ
number_of (Number n) = Some n
number_of (Pointer r o) = None

-- what one byte of an object holds (C11 6.2.6.1p2, p4): no value yet, a byte, or the part k of a pointer, from 0 to 3
pub data Cell : Type 0 where
  Unset : Cell
  Byte : (byte : ℕ) → Cell
  Part : (k region offset : ℕ) → Cell

-- an object (C11 3.15): whether its lifetime goes on (6.2.4p2), whether it may not be modified (6.7.3p6, 6.4.5p7), its
-- address, and its cells from the lowest on
pub record Region : Type 0 where
  pub live : Bool
  pub constant : Bool
  pub address : ℕ
  pub cells : List Cell

-- the objects that ever were; the number of a region is its place, and a region never leaves
abbrev pub Store : Type 0
Store = List Region

-- what of a region no access changes: the size in bytes, the flags and the address
pub record Shape : Type 0 where
  pub size : ℕ
  pub live : Bool
  pub constant : Bool
  pub address : ℕ

abbrev pub shape : Region → Shape
shape g = record { size = length g.cells; live = g.live; constant = g.constant; address = g.address }

-- the shape of the region of a number, where there is one
abbrev pub shape_at : Store → ℕ → Option Shape
shape_at s r = option_map shape (slice_get s r)

-- whether there is an object whose lifetime goes on
abbrev pub is_live : Option Shape → Bool
is_live None = false
is_live (Some z) = z.live

-- each object has fewer than 2^32 bytes, so that its places are words (the profile allows 2^24)
abbrev pub AreSmall : Store → Type 0
AreSmall s = (r : ℕ) (z : Shape) → shape_at s r ≡ Some z → z.size < 2 ^ 32

-- the cells of an object of automatic storage duration as its lifetime begins (C11 6.2.4p6, 6.7.9p10)
abbrev pub unset_cells : ℕ → List Cell
unset_cells size = replicate size Unset

-- the cells of an object of static storage duration without an initialiser, and the rest of an aggregate that has one
-- (C11 6.7.9p10, p21)
abbrev pub zero_cells : ℕ → List Cell
zero_cells size = replicate size (Byte 0)

-- an object whose lifetime begins (C11 6.2.4p2); the meaning of a source never reads its address
abbrev pub new_region : (constant : Bool) (address : ℕ) (cells : List Cell) → Region
new_region constant address cells = record { live = true; constant = constant; address = address; cells = cells }

-- the store with one region changed, where there is one
abbrev pub change_found : Store → ℕ → (Region → Region) → Option Region → Store
change_found s r f None = s
change_found s r f (Some g) = slice_set s r (f g)

abbrev pub change_region : Store → ℕ → (Region → Region) → Store
change_region s r f = change_found s r f (slice_get s r)

-- the end of an object's lifetime (C11 6.2.4p2, p6)
abbrev pub end_region : Store → ℕ → Store
end_region s r = change_region s r (λ g. record g { live = false })

-- the ends of the lifetimes of several regions in a row
abbrev pub end_regions : Store → (first count : ℕ) → Store
end_regions s first zero = s
end_regions s first (suc count) = end_regions (end_region s first) (first + 1) count

-- the store with all cells of one region made the same: Unset at a new entry into the object's block (C11 6.2.4p6), or zero
-- (6.7.9p21)
abbrev pub refill_region : Store → ℕ → Cell → Store
refill_region s r c = change_region s r (λ g. record g { cells = replicate (length g.cells) c })

-- numbers in a row: those of regions that are appended together
abbrev pub in_a_row : (first count : ℕ) → List ℕ
in_a_row first zero = []
in_a_row first (suc count) = first ∷ in_a_row (first + 1) count
