-- What is true of every layout, in the standard's terms.
use Rattle.std.specs.Prelude.{◌≡◌, ℕ, ◌+◌, ◌%◌, ◌≤◌, List, [], ◌∷◌, Some}
use Rattle.c_tree.specs.declared.typed.types.CType.{CType}
use Rattle.c_layout.specs.declared.tags.MemberLayout.{MemberLayout}
use Rattle.c_layout.specs.declared.tags.StructLayout.{StructLayout}
use Rattle.c_layout.specs.Tags.{Structs, layout_of}
use Rattle.c_layout.specs.Sizes.{size_of, alignment_of}
use Rattle.c_layout.specs.Structures.{bytes_of, strictness_of}

-- members lie one behind another between two places, each at a multiple of its alignment (C11 6.7.2.1p15, 6.2.8p1)
abbrev pub LieBetween : Structs → (from to : ℕ) → List MemberLayout → Type 0
LieBetween tags from to [] = from ≤ to
LieBetween tags from to (m ∷ ms) =
    (from ≤ m.offset) × (m.offset % strictness_of tags m.ctype ≡ 0)
    × LieBetween tags (m.offset + bytes_of tags m.ctype) to ms

-- what was known of a structure is known of it still
abbrev pub KeepsLayouts : (old new : Structs) → Type 0
KeepsLayouts old new = (tag : ℕ) (l : StructLayout) → layout_of old tag ≡ Some l → layout_of new tag ≡ Some l

-- a type has the size and the alignment that it had
abbrev pub Measures : (old new : Structs) → CType → Type 0
Measures old new t = (size_of new t ≡ size_of old t) × (alignment_of new t ≡ alignment_of old t)
