-- How one store may differ from another, and what a load may give where its cells do not say (notions of this project).
use Rattle.std.specs.Prelude.{◌≡◌, ℕ, ◌/◌, ◌%◌, true, List, [], ◌∷◌, Option, Some, None, slice_get}
use Rattle.word_ops.specs.declared.operation.Width.{Width}
use Rattle.word_ops.specs.Store.{Value, Number, Pointer, Cell, Unset, Byte, Part, Region, Store, Shape, shape_at}
use Rattle.word_ops.specs.Access.{decode, holds_pointer, IsInRange}
use Rattle.word_ops.specs.Addresses.{word_of_value}

-- the old regions keep their sizes, flags and addresses; their cells may be any, and there may be further regions
abbrev pub SameRegions : Store → Store → Type 0
SameRegions s t = (r : ℕ) (z : Shape) → shape_at s r ≡ Some z → shape_at t r ≡ Some z

-- the same regions, and no further ones
abbrev pub SameShapes : Store → Store → Type 0
SameShapes s t = (r : ℕ) → shape_at t r ≡ shape_at s r

-- each cell is as before or Unset
abbrev pub CellsFade : List Cell → List Cell → Type 0
CellsFade [] [] = Unit {0}
CellsFade (c ∷ cs) [] = ⊥
CellsFade [] (d ∷ ds) = ⊥
CellsFade (c ∷ cs) (Unset ∷ ds) = CellsFade cs ds
CellsFade (c ∷ cs) (Byte b ∷ ds) = (c ≡ Byte b) × CellsFade cs ds
CellsFade (c ∷ cs) (Part k r o ∷ ds) = (c ≡ Part k r o) × CellsFade cs ds

-- a region is as before, but for cells that were made Unset
abbrev pub RegionFades : Option Region → Option Region → Type 0
RegionFades None None = Unit {0}
RegionFades (Some g) None = ⊥
RegionFades None (Some h) = ⊥
RegionFades (Some g) (Some h) = (h.live ≡ g.live) × (h.constant ≡ g.constant) × (h.address ≡ g.address) × CellsFade g.cells h.cells

-- the same store, but for cells that were made Unset
abbrev pub Fades : Store → Store → Type 0
Fades s t = (r : ℕ) → RegionFades (slice_get s r) (slice_get t r)

-- a word has the bytes of these cells, from its lowest byte on, wherever a cell is a byte
abbrev pub HasBytes : List Cell → ℕ → Type 0
HasBytes [] n = Unit {0}
HasBytes (Byte b ∷ cs) n = (n % 256 ≡ b % 256) × HasBytes cs (n / 256)
HasBytes (Unset ∷ cs) n = HasBytes cs (n / 256)
HasBytes (Part k r o ∷ cs) n = HasBytes cs (n / 256)

-- no cell of these is a byte
abbrev pub HasNoByte : List Cell → Type 0
HasNoByte [] = Unit {0}
HasNoByte (Byte b ∷ cs) = ⊥
HasNoByte (Unset ∷ cs) = HasNoByte cs
HasNoByte (Part k r o ∷ cs) = HasNoByte cs

-- a pointer comes of a load at the width of one alone, and of cells of which none is a byte
abbrev pub MayLieIn : Width → List Cell → Value → Type 0
MayLieIn k cells (Number n) = Unit {0}
MayLieIn k cells (Pointer r o) = (holds_pointer k ≡ true) × HasNoByte cells

-- a value that a load of these cells may give: theirs where they have one, and in any case with the bytes that are there
pub record MayLoad (s : Store) (k : Width) (cells : List Cell) (v : Value) : Type 0 where
  pub defined : (u : Value) → decode k cells ≡ Some u → v ≡ u
  pub bytes : HasBytes cells (word_of_value s v)
  pub kind : MayLieIn k cells v

-- where cells have no value, any number in the range of the width
abbrev pub IsInRangeUnless : Width → Option Value → Value → Type 0
IsInRangeUnless k (Some u) v = Unit {0}
IsInRangeUnless k None v = (n : ℕ) × (v ≡ Number n) × IsInRange k n
