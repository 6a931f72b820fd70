-- A type has a size and an alignment exactly where it is complete, and the alignment is one of those that there are.
use Rattle.std.proofs.Common.{◌≡◌, refl, ap, ◌∙◌, ℕ, true, List, [], ◌∷◌, Option, Some, None, is_some, zero, suc}
use Rattle.std.specs.Option.{option_map}
use Rattle.c_tree.specs.declared.typed.types.Base.{Base}
use Rattle.c_tree.specs.declared.typed.types.Base.TheVariants as base
use Rattle.c_tree.specs.declared.typed.types.Derived.{Derived}
use Rattle.c_tree.specs.declared.typed.types.Derived.TheVariants as derived
use Rattle.c_tree.specs.declared.typed.types.CType.{CType, out-CType}
use Rattle.c_layout.specs.declared.tags.StructLayout.{StructLayout}
use Rattle.c_layout.specs.Tags.{Structs, layout_of, is_aligned, are_aligned}
use Rattle.c_layout.specs.Sizes.{capped, sized, aligned, base_size, base_alignment, derived_size, derived_alignment, size_of, alignment_of, is_complete, is_complete_by, is_complete_base, is_complete_derived, is_alignment_if_any}
use Rattle.c_layout.proofs.Lists.{and-left, and-right}

is_some-option_map : {A B : Type 0} (f : A → B) (o : Option A) → is_some (option_map f o) ≡ is_some o
is_some-option_map f None = refl
is_some-option_map f (Some a) = refl

derived_size-complete : (o : Option ℕ) (d : Derived) → is_some (derived_size o d) ≡ is_complete_derived (is_some o) d
derived_size-complete o (derived.Pointer c) = refl
derived_size-complete o (derived.Array None) = refl
derived_size-complete None (derived.Array (Some k)) = refl
derived_size-complete (Some n) (derived.Array (Some k)) = refl
derived_size-complete o (derived.Function' n ps) = refl

derived_alignment-complete : (o : Option ℕ) (d : Derived) →
    is_some (derived_alignment o d) ≡ is_complete_derived (is_some o) d
derived_alignment-complete o (derived.Pointer c) = refl
derived_alignment-complete o (derived.Array None) = refl
derived_alignment-complete o (derived.Array (Some k)) = refl
derived_alignment-complete o (derived.Function' n ps) = refl

pub sized-complete : (ds : List Derived) (o : Option ℕ) → is_some (sized o ds) ≡ is_complete_by (is_some o) ds
sized-complete [] o = refl
sized-complete (d ∷ ds) o =
    sized-complete ds (derived_size o d) ∙ ap (λ b. is_complete_by b ds) (derived_size-complete o d)

pub aligned-complete : (ds : List Derived) (o : Option ℕ) → is_some (aligned o ds) ≡ is_complete_by (is_some o) ds
aligned-complete [] o = refl
aligned-complete (d ∷ ds) o =
    aligned-complete ds (derived_alignment o d) ∙ ap (λ b. is_complete_by b ds) (derived_alignment-complete o d)

pub base_size-complete : (tags : Structs) (b : Base) → is_some (base_size tags b) ≡ is_complete_base tags b
base_size-complete tags base.Void = refl
base_size-complete tags (base.Struct n) = is_some-option_map (λ l. l.size) (layout_of tags n)
base_size-complete tags base.Bool = refl
base_size-complete tags base.Char = refl
base_size-complete tags base.SignedChar = refl
base_size-complete tags base.UnsignedChar = refl
base_size-complete tags base.Short = refl
base_size-complete tags base.UnsignedShort = refl
base_size-complete tags base.Int = refl
base_size-complete tags base.Unsigned = refl
base_size-complete tags base.Long = refl
base_size-complete tags base.UnsignedLong = refl
base_size-complete tags (base.Enum n) = refl

pub base_alignment-complete : (tags : Structs) (b : Base) → is_some (base_alignment tags b) ≡ is_complete_base tags b
base_alignment-complete tags base.Void = refl
base_alignment-complete tags (base.Struct n) = is_some-option_map (λ l. l.alignment) (layout_of tags n)
base_alignment-complete tags base.Bool = refl
base_alignment-complete tags base.Char = refl
base_alignment-complete tags base.SignedChar = refl
base_alignment-complete tags base.UnsignedChar = refl
base_alignment-complete tags base.Short = refl
base_alignment-complete tags base.UnsignedShort = refl
base_alignment-complete tags base.Int = refl
base_alignment-complete tags base.Unsigned = refl
base_alignment-complete tags base.Long = refl
base_alignment-complete tags base.UnsignedLong = refl
base_alignment-complete tags (base.Enum n) = refl

pub size_of-complete : (tags : Structs) (t : CType) → is_some (size_of tags t) ≡ is_complete tags t
size_of-complete tags t =
    is_some-option_map capped (sized (base_size tags (out-CType t).base) (out-CType t).derived)
    ∙ sized-complete (out-CType t).derived (base_size tags (out-CType t).base)
    ∙ ap (λ b. is_complete_by b (out-CType t).derived) (base_size-complete tags (out-CType t).base)

pub alignment_of-complete : (tags : Structs) (t : CType) → is_some (alignment_of tags t) ≡ is_complete tags t
alignment_of-complete tags t =
    aligned-complete (out-CType t).derived (base_alignment tags (out-CType t).base)
    ∙ ap (λ b. is_complete_by b (out-CType t).derived) (base_alignment-complete tags (out-CType t).base)

derived_alignment-aligned : (o : Option ℕ) (d : Derived) → is_alignment_if_any o ≡ true →
    is_alignment_if_any (derived_alignment o d) ≡ true
derived_alignment-aligned o (derived.Pointer c) h = refl
derived_alignment-aligned o (derived.Array None) h = refl
derived_alignment-aligned o (derived.Array (Some k)) h = h
derived_alignment-aligned o (derived.Function' n ps) h = refl

-- an array is aligned as its element, and so on
pub aligned-aligned : (ds : List Derived) (o : Option ℕ) → is_alignment_if_any o ≡ true →
    is_alignment_if_any (aligned o ds) ≡ true
aligned-aligned [] o h = h
aligned-aligned (d ∷ ds) o h = aligned-aligned ds (derived_alignment o d) (derived_alignment-aligned o d h)

layout_of-aligned : (tags : Structs) (n : ℕ) → are_aligned tags ≡ true → is_aligned (layout_of tags n) ≡ true
layout_of-aligned [] n h = refl
layout_of-aligned (x ∷ xs) zero h = and-left (is_aligned x) (are_aligned xs) h
layout_of-aligned (x ∷ xs) (suc n) h = layout_of-aligned xs n (and-right (is_aligned x) (are_aligned xs) h)

aligned-told : (o : Option StructLayout) → is_aligned o ≡ true → is_alignment_if_any (option_map (λ l. l.alignment) o) ≡ true
aligned-told None h = refl
aligned-told (Some l) h = h

pub base_alignment-aligned : (tags : Structs) (b : Base) → are_aligned tags ≡ true →
    is_alignment_if_any (base_alignment tags b) ≡ true
base_alignment-aligned tags base.Void h = refl
base_alignment-aligned tags (base.Struct n) h = aligned-told (layout_of tags n) (layout_of-aligned tags n h)
base_alignment-aligned tags base.Bool h = refl
base_alignment-aligned tags base.Char h = refl
base_alignment-aligned tags base.SignedChar h = refl
base_alignment-aligned tags base.UnsignedChar h = refl
base_alignment-aligned tags base.Short h = refl
base_alignment-aligned tags base.UnsignedShort h = refl
base_alignment-aligned tags base.Int h = refl
base_alignment-aligned tags base.Unsigned h = refl
base_alignment-aligned tags base.Long h = refl
base_alignment-aligned tags base.UnsignedLong h = refl
base_alignment-aligned tags (base.Enum n) h = refl
