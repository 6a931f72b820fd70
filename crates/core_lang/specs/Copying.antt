-- What a copy does to cells. It goes in units of the alignment, each of which a machine loads and stores as one word.
use Rattle.std.specs.Prelude.{◌≡◌, ℕ, zero, suc, ◌+◌, ◌/◌, ◌%◌, Bool, false, not, ◌&&◌, ◌||◌, ◌==◌, if◌then◌else◌, nat_le, List, [], ◌++◌, take, drop, map, Option, Some, None}
use Rattle.std.specs.Option.{option_map, option_and_then}
use Rattle.word_ops.specs.declared.operation.Width.{Width}
use Rattle.word_ops.specs.declared.operation.Width.TheVariants.{U8, U16, Word}
use Rattle.word_ops.specs.Choice.{when}
use Rattle.word_ops.specs.Store.{Value, Pointer, Cell, Unset, Byte, Part, Store}
use Rattle.word_ops.specs.Access.{bytes_of, pointer_in, cells_from, cells_at, put_cells, write, is_constant}
use Rattle.word_ops.specs.Changes.{MayLoad, Fades}

-- a cell whose byte, where it is one, is below 2^8: a byte counts modulo 2^8
abbrev pub reduced : Cell → Cell
reduced (Byte b) = Byte (b % 256)
reduced Unset = Unset
reduced (Part k r o) = Part k r o

-- a byte alone, as a load and a store give it: what is no byte becomes Unset
abbrev pub only_byte : Cell → Cell
only_byte (Byte b) = Byte (b % 256)
only_byte _ = Unset

-- the cells of a unit as they are where they are the whole of one pointer, else their bytes alone
abbrev pub cells_of_unit : List Cell → Option Value → List Cell
cells_of_unit cells (Some pointer) = cells
cells_of_unit cells None = map only_byte cells

-- so many units one after another
abbrev pub in_units : (count alignment : ℕ) → List Cell → List Cell
in_units zero alignment cells = []
in_units (suc count) alignment cells =
    cells_of_unit (take alignment cells) (pointer_in (take alignment cells)) ++ in_units count alignment (drop alignment cells)

-- whether two ranges of so many bytes have bytes in common but are not the same (C11 6.5.16.1p3)
abbrev pub overlap_in_part : (to from : Value) → (size : ℕ) → Bool
overlap_in_part (Pointer r o) (Pointer q p) size = (r == q) && (not (o == p) && not (nat_le (o + size) p || nat_le (p + size) o))
overlap_in_part _ _ size = false

-- the store after a copy, or none where it is undefined: all is read before anything is written, both ranges have to be
-- accessible at the alignment, and a constant is not modified (C11 6.5.16.1p2, p3, 6.7.3p6)
abbrev pub copied : Store → (to from : Value) → (size alignment : ℕ) → Option Store
copied s to from size alignment =
    when (not (is_constant s to || overlap_in_part to from size)) (option_and_then (put_cells s to alignment) (option_map (in_units (size / alignment) alignment) (cells_from s from size alignment)))

-- ---- the loads and stores of a copy

-- the width at which a unit is loaded and stored
abbrev pub width_of_unit : (alignment : ℕ) → Width
width_of_unit alignment = if alignment == 1 then U8 else if alignment == 2 then U16 else Word

-- so many units, from an offset of one region to one of another, can be loaded and stored one behind the other, whatever the
-- loads give of what they may give; and then the store is the last one, but for cells that are Unset in that
abbrev pub LoadsAndStores : Width → (count : ℕ) → Store → (to at from place : ℕ) → Store → Type 0
LoadsAndStores k zero s r o q p t = Fades s t
LoadsAndStores k (suc n) s r o q p t =
    (cells : List Cell) × (cells_at s k (Pointer q p) ≡ Some cells) × ((v : Value) → MayLoad s k cells v → (u : Store) × (write s k (Pointer r o) v ≡ Some u) × LoadsAndStores k n u r (o + bytes_of k) q (p + bytes_of k) t)
