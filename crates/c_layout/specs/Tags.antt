-- The structure types of a unit, by their numbers (C11 6.7.2.1, 6.7.2.3).
use Rattle.std.specs.Prelude.{ℕ, Bool, true, ◌||◌, ◌==◌, List, Option, Some, None, slice_get}
use Rattle.std.specs.List.{list_all}
use Rattle.c_layout.specs.declared.tags.StructLayout.{StructLayout}

-- each structure type with its layout, or none as long as it has no members
abbrev pub Structs : Type 0
Structs = List (Option StructLayout)

-- what is there, where something may be there or not
abbrev pub told : Option (Option StructLayout) → Option StructLayout
told (Some o) = o
told None = None

-- the layout of the structure type of a number, where it has members
abbrev pub layout_of : Structs → (tag : ℕ) → Option StructLayout
layout_of tags tag = told (slice_get tags tag)

-- the alignments that there are: 1, 2 and 4 (the profile; C11 6.2.8p4)
abbrev pub is_alignment : ℕ → Bool
is_alignment a = (a == 1) || ((a == 2) || (a == 4))

abbrev pub is_aligned : Option StructLayout → Bool
is_aligned (Some l) = is_alignment l.alignment
is_aligned None = true

-- whether each layout has one of these alignments
abbrev pub are_aligned : Structs → Bool
are_aligned tags = list_all is_aligned tags
