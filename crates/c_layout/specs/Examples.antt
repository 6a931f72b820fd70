-- Closed examples, computed. The numbers are what gcc 12 tells with -m32 -funsigned-char.
use Rattle.std.specs.Prelude.{◌≡◌, ℕ, ◌-◌, ◌^◌, false, List, [], ◌∷◌, map, Some, None, refl}
use Rattle.c_tree.specs.declared.typed.types.Base.{Base}
use Rattle.c_tree.specs.declared.typed.types.Base.TheVariants as base
use Rattle.c_tree.specs.declared.typed.types.Derived.{Derived}
use Rattle.c_tree.specs.declared.typed.types.Derived.TheVariants as derived
use Rattle.c_tree.specs.declared.typed.types.CType.{CType, roll-CType}
use Rattle.c_layout.specs.declared.tags.MemberLayout.{MemberLayout}
use Rattle.c_layout.specs.Tags.{Structs}
use Rattle.c_layout.specs.Sizes.{size_of, alignment_of}
use Rattle.c_layout.specs.Structures.{Declared, layout}

abbrev type : Base → List Derived → CType
type b ds = roll-CType (record { base = b; constant = false; derived = ds })

abbrev offsets : List MemberLayout → List ℕ
offsets ms = map (λ m. m.offset) ms

-- char *a[7]
pointers : size_of [] (type base.Char (derived.Pointer false ∷ derived.Array (Some 7) ∷ [])) ≡ Some 28
pointers = refl

-- int a[2][3][5]
cube : size_of [] (type base.Int (derived.Array (Some 5) ∷ derived.Array (Some 3) ∷ derived.Array (Some 2) ∷ [])) ≡ Some 120
cube = refl

-- 2^33 rows of 2^33 bytes
great : size_of [] (type base.Char (derived.Array (Some (2 ^ 33)) ∷ derived.Array (Some (2 ^ 33)) ∷ [])) ≡ Some (2 ^ 64 - 1)
great = refl

open_array : size_of [] (type base.Int (derived.Array None ∷ derived.Array (Some 3) ∷ [])) ≡ None
open_array = refl

-- struct { char a[3]; short b; int c[2]; _Bool d; }
abbrev four : List Declared
four =
    (97 ∷ [], type base.Char (derived.Array (Some 3) ∷ [])) ∷ (98 ∷ [], type base.Short [])
    ∷ (99 ∷ [], type base.Int (derived.Array (Some 2) ∷ [])) ∷ (100 ∷ [], type base.Bool []) ∷ []

four-size : (layout [] four).size ≡ 20
four-size = refl

four-alignment : (layout [] four).alignment ≡ 4
four-alignment = refl

four-offsets : offsets (layout [] four).members ≡ 0 ∷ 4 ∷ 8 ∷ 16 ∷ []
four-offsets = refl

-- a structure in an array, and a pointer to itself: struct { char a; struct S x[3]; struct T *next; } as T, S as above
abbrev both : Structs
both = Some (layout [] four) ∷ None ∷ []

abbrev three : List Declared
three =
    (97 ∷ [], type base.Char []) ∷ (98 ∷ [], type (base.Struct 0) (derived.Array (Some 3) ∷ []))
    ∷ (99 ∷ [], type (base.Struct 1) (derived.Pointer false ∷ [])) ∷ []

three-size : (layout both three).size ≡ 68
three-size = refl

three-offsets : offsets (layout both three).members ≡ 0 ∷ 4 ∷ 64 ∷ []
three-offsets = refl

-- the second structure has no members yet
no_members : alignment_of both (type (base.Struct 1) []) ≡ None
no_members = refl
