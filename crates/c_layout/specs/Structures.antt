-- Where the members of a structure lie (C11 6.7.2.1p15, p17): in the order of their declarations, each at the next multiple of
-- its alignment. A structure is aligned as the strictest of its members, and its size is a multiple of that (the profile:
-- the ABI ilp32, without bit-fields).
use Rattle.std.specs.Prelude.{ℕ, ◌+◌, ◌-◌, ◌%◌, max, nat_eq, Bool, List, [], ◌∷◌, Option, unwrap_or, find}
use Rattle.std.specs.Option.{option_map, option_and_then}
use Rattle.std.specs.Cmp.Lexicographic.{pointwise}
use Rattle.c_tree.specs.declared.typed.types.CType.{CType}
use Rattle.c_layout.specs.declared.tags.MemberLayout.{MemberLayout}
use Rattle.c_layout.specs.declared.tags.StructLayout.{StructLayout}
use Rattle.c_layout.specs.Tags.{Structs, layout_of}
use Rattle.c_layout.specs.Sizes.{capped, whole_size, alignment_of}

-- a member as it is declared: its name and its type, which is complete (C11 6.7.2.1p3)
abbrev pub Declared : Type 0
Declared = List ℕ × CType

-- the bytes and the alignment of an object of a complete type
abbrev pub bytes_of : Structs → CType → ℕ
bytes_of tags t = unwrap_or (whole_size tags t) 0

abbrev pub strictness_of : Structs → CType → ℕ
strictness_of tags t = unwrap_or (alignment_of tags t) 1

-- the least multiple of an alignment that is not below a number: between the two there is padding
abbrev pub next_multiple : (n alignment : ℕ) → ℕ
next_multiple n a = n + (a - n % a) % a

-- where a member begins, and where it ends, behind so many bytes
abbrev pub start_behind : Structs → (end : ℕ) → Declared → ℕ
start_behind tags end m = next_multiple end (strictness_of tags m.1)

abbrev pub end_behind : Structs → (end : ℕ) → Declared → ℕ
end_behind tags end m = start_behind tags end m + bytes_of tags m.1

-- where the last of some members ends
abbrev pub end_of : Structs → (end : ℕ) → List Declared → ℕ
end_of tags end [] = end
end_of tags end (m ∷ ms) = end_of tags (end_behind tags end m) ms

-- the members with their offsets, as these are told
abbrev pub placed : Structs → (end : ℕ) → List Declared → List MemberLayout
placed tags end [] = []
placed tags end (m ∷ ms) =
    record { name = m.0; ctype = m.1; offset = capped (start_behind tags end m) } ∷ placed tags (end_behind tags end m) ms

-- the strictest alignment of some members (C11 6.2.8p4)
abbrev pub strictest : Structs → List Declared → ℕ
strictest tags [] = 1
strictest tags (m ∷ ms) = max (strictness_of tags m.1) (strictest tags ms)

-- the layout of a structure of these members: behind the last one there may be padding (C11 6.7.2.1p17)
abbrev pub layout : Structs → List Declared → StructLayout
layout tags ms = record {
  size = capped (next_multiple (end_of tags 0 ms) (strictest tags ms));
  alignment = strictest tags ms;
  members = placed tags 0 ms;
}

-- ---- members by name

abbrev pub has_name : List ℕ → MemberLayout → Bool
has_name name m = pointwise nat_eq m.name name

-- the member of a name, where the structure has members and one of them has that name (C11 6.2.3p1, 6.5.2.3p1)
abbrev pub member_of : Structs → (tag : ℕ) → (name : List ℕ) → Option MemberLayout
member_of tags tag name = option_and_then (λ l. find (has_name name) l.members) (layout_of tags tag)

abbrev pub offset_of : Structs → (tag : ℕ) → (name : List ℕ) → Option ℕ
offset_of tags tag name = option_map (λ m. m.offset) (member_of tags tag name)
