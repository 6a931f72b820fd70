-- The sizes and the alignments of types (C11 6.2.5, 6.2.8, 6.5.3.4). The numbers of bytes are the profile's (6.2.6.1p2,
-- 6.2.8p1): those of the ABI ilp32 of RISC-V and of System V for i386.
use Rattle.std.specs.Prelude.{ℕ, ◌-◌, ◌*◌, ◌^◌, min, Bool, true, false, List, [], ◌∷◌, Option, Some, None, is_some}
use Rattle.std.specs.Option.{option_map}
use Rattle.c_tree.specs.declared.typed.types.Base.{Base}
use Rattle.c_tree.specs.declared.typed.types.Base.TheVariants as base
use Rattle.c_tree.specs.declared.typed.types.Derived.{Derived}
use Rattle.c_tree.specs.declared.typed.types.Derived.TheVariants as derived
use Rattle.c_tree.specs.declared.typed.types.CType.{CType, out-CType}
use Rattle.c_layout.specs.Tags.{Structs, layout_of, is_alignment}

-- how a number of bytes is told in 64 bits: one that is greater than the greatest number as that number
abbrev pub capped : ℕ → ℕ
capped n = min n (2 ^ 64 - 1)

abbrev pub capped_size : Option ℕ → Option ℕ
capped_size o = option_map capped o

-- how many bytes an integer or enumerated type has, which is also its alignment (C11 6.2.5p4 to p6, p16); void has none, and
-- the members of a structure tell its number
abbrev pub scalar_bytes : Base → ℕ
scalar_bytes base.Void = 0
scalar_bytes base.Bool = 1
scalar_bytes base.Char = 1
scalar_bytes base.SignedChar = 1
scalar_bytes base.UnsignedChar = 1
scalar_bytes base.Short = 2
scalar_bytes base.UnsignedShort = 2
scalar_bytes base.Int = 4
scalar_bytes base.Unsigned = 4
scalar_bytes base.Long = 4
scalar_bytes base.UnsignedLong = 4
scalar_bytes (base.Enum n) = 4
scalar_bytes (base.Struct n) = 0

-- void is never complete (C11 6.2.5p19), and a structure is where it has members (6.7.2.1p8)
abbrev pub base_size : Structs → Base → Option ℕ
base_size tags base.Void = None
base_size tags (base.Struct n) = option_map (λ l. l.size) (layout_of tags n)
base_size tags b = Some (scalar_bytes b)

abbrev pub base_alignment : Structs → Base → Option ℕ
base_alignment tags base.Void = None
base_alignment tags (base.Struct n) = option_map (λ l. l.alignment) (layout_of tags n)
base_alignment tags b = Some (scalar_bytes b)

-- an array has as many times the bytes of its element as it has elements; without a number of elements it is incomplete
-- (C11 6.2.5p20, p22, 6.5.3.4p4)
abbrev pub array_size : (count element : Option ℕ) → Option ℕ
array_size (Some k) element = option_map (λ n. k * n) element
array_size None element = None

-- the size of a type that is derived from one of this size; a pointer has four bytes, a function has no size
-- (C11 6.5.3.4p1)
abbrev pub derived_size : Option ℕ → Derived → Option ℕ
derived_size o (derived.Pointer c) = Some 4
derived_size o (derived.Array count) = array_size count o
derived_size o _ = None

-- the alignment of an array is that of its element
abbrev pub array_alignment : (count element : Option ℕ) → Option ℕ
array_alignment (Some k) element = element
array_alignment None element = None

abbrev pub derived_alignment : Option ℕ → Derived → Option ℕ
derived_alignment o (derived.Pointer c) = Some 4
derived_alignment o (derived.Array count) = array_alignment count o
derived_alignment o _ = None

-- derivations apply one after another, each to the type before it (C11 6.2.5p20)
abbrev pub sized : Option ℕ → List Derived → Option ℕ
sized o [] = o
sized o (d ∷ ds) = sized (derived_size o d) ds

abbrev pub aligned : Option ℕ → List Derived → Option ℕ
aligned o [] = o
aligned o (d ∷ ds) = aligned (derived_alignment o d) ds

-- the size of a type in bytes, however great, or none where the type is incomplete or a function
abbrev pub whole_size : Structs → CType → Option ℕ
whole_size tags t = sized (base_size tags (out-CType t).base) (out-CType t).derived

-- the size of a type as it is told
abbrev pub size_of : Structs → CType → Option ℕ
size_of tags t = capped_size (whole_size tags t)

-- the alignment of a type in bytes, or none where the type is incomplete or a function
abbrev pub alignment_of : Structs → CType → Option ℕ
alignment_of tags t = aligned (base_alignment tags (out-CType t).base) (out-CType t).derived

-- ---- alignments

-- where a type has an alignment, it is one of those that there are
abbrev pub is_alignment_if_any : Option ℕ → Bool
is_alignment_if_any (Some a) = is_alignment a
is_alignment_if_any None = true

-- ---- completeness

-- whether an array of such elements is complete (C11 6.2.5p22)
abbrev pub is_complete_array : (count : Option ℕ) → (element : Bool) → Bool
is_complete_array (Some k) element = element
is_complete_array None element = false

-- whether a type is complete and no function, where it is derived from one that is or is not; a pointer always is
-- (C11 6.2.5p20)
abbrev pub is_complete_derived : Bool → Derived → Bool
is_complete_derived b (derived.Pointer c) = true
is_complete_derived b (derived.Array count) = is_complete_array count b
is_complete_derived b _ = false

abbrev pub is_complete_by : Bool → List Derived → Bool
is_complete_by b [] = b
is_complete_by b (d ∷ ds) = is_complete_by (is_complete_derived b d) ds

-- void is never complete (C11 6.2.5p19), and a structure is where it has members (6.7.2.1p8)
abbrev pub is_complete_base : Structs → Base → Bool
is_complete_base tags base.Void = false
is_complete_base tags (base.Struct n) = is_some (layout_of tags n)
is_complete_base tags b = true

-- whether a type is a complete object type (C11 6.2.5p1)
abbrev pub is_complete : Structs → CType → Bool
is_complete tags t = is_complete_by (is_complete_base tags (out-CType t).base) (out-CType t).derived
