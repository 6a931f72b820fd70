-- A complete type keeps its size and its alignment.
use Rattle.std.proofs.Common.{◌≡◌, refl, ap, ◌∙◌, ℕ, zero, suc, ◌⊎◌, inl, inr, true, List, [], ◌∷◌, ◌++◌, Option, Some, None, is_some, slice_get, slice_set}
use Rattle.std.specs.Option.{option_map}
use Rattle.c_tree.specs.declared.typed.types.Base.{Base}
use Rattle.c_tree.specs.declared.typed.types.Base.TheVariants as base
use Rattle.c_tree.specs.declared.typed.types.Derived.{Derived}
use Rattle.c_tree.specs.declared.typed.types.Derived.TheVariants as derived
use Rattle.c_tree.specs.declared.typed.types.CType.{CType, out-CType}
use Rattle.c_layout.specs.declared.tags.StructLayout.{StructLayout}
use Rattle.c_layout.specs.Tags.{Structs, layout_of}
use Rattle.c_layout.specs.Sizes.{capped_size, sized, aligned, base_size, base_alignment, derived_size, derived_alignment, is_complete, is_complete_by}
use Rattle.c_layout.specs.Laws.{KeepsLayouts, Measures}
use Rattle.c_layout.proofs.Completeness.{sized-complete, aligned-complete, base_size-complete, base_alignment-complete}

-- what was told stays as it was, or was not told
abbrev pub Grows : Option ℕ → Option ℕ → Type 0
Grows o p = (p ≡ o) ⊎ (o ≡ None)

derived_size-grows : (o p : Option ℕ) (d : Derived) → Grows o p → Grows (derived_size o d) (derived_size p d)
derived_size-grows o p d (inl e) = inl (ap (λ q. derived_size q d) e)
derived_size-grows o p (derived.Pointer c) (inr e) = inl refl
derived_size-grows o p (derived.Array None) (inr e) = inl refl
derived_size-grows o p (derived.Array (Some k)) (inr e) = inr (rw e refl)
derived_size-grows o p (derived.Function' n ps) (inr e) = inl refl

derived_alignment-grows : (o p : Option ℕ) (d : Derived) → Grows o p →
    Grows (derived_alignment o d) (derived_alignment p d)
derived_alignment-grows o p d (inl e) = inl (ap (λ q. derived_alignment q d) e)
derived_alignment-grows o p (derived.Pointer c) (inr e) = inl refl
derived_alignment-grows o p (derived.Array None) (inr e) = inl refl
derived_alignment-grows o p (derived.Array (Some k)) (inr e) = inr e
derived_alignment-grows o p (derived.Function' n ps) (inr e) = inl refl

sized-grows : (ds : List Derived) (o p : Option ℕ) → Grows o p → Grows (sized o ds) (sized p ds)
sized-grows [] o p g = g
sized-grows (d ∷ ds) o p g = sized-grows ds (derived_size o d) (derived_size p d) (derived_size-grows o p d g)

aligned-grows : (ds : List Derived) (o p : Option ℕ) → Grows o p → Grows (aligned o ds) (aligned p ds)
aligned-grows [] o p g = g
aligned-grows (d ∷ ds) o p g =
    aligned-grows ds (derived_alignment o d) (derived_alignment p d) (derived_alignment-grows o p d g)

-- a structure's number, where its layout is kept
kept_by : (f : StructLayout → ℕ) (o p : Option StructLayout) → ((l : StructLayout) → o ≡ Some l → p ≡ Some l) →
    Grows (option_map f o) (option_map f p)
kept_by f None p k = inr refl
kept_by f (Some l) p k = inl (ap (option_map f) (k l refl))

base_size-grows : (old new : Structs) (b : Base) → KeepsLayouts old new → Grows (base_size old b) (base_size new b)
base_size-grows old new (base.Struct n) k = kept_by (λ l. l.size) (layout_of old n) (layout_of new n) (k n)
base_size-grows old new base.Void k = inl refl
base_size-grows old new base.Bool k = inl refl
base_size-grows old new base.Char k = inl refl
base_size-grows old new base.SignedChar k = inl refl
base_size-grows old new base.UnsignedChar k = inl refl
base_size-grows old new base.Short k = inl refl
base_size-grows old new base.UnsignedShort k = inl refl
base_size-grows old new base.Int k = inl refl
base_size-grows old new base.Unsigned k = inl refl
base_size-grows old new base.Long k = inl refl
base_size-grows old new base.UnsignedLong k = inl refl
base_size-grows old new (base.Enum n) k = inl refl

base_alignment-grows : (old new : Structs) (b : Base) → KeepsLayouts old new →
    Grows (base_alignment old b) (base_alignment new b)
base_alignment-grows old new (base.Struct n) k = kept_by (λ l. l.alignment) (layout_of old n) (layout_of new n) (k n)
base_alignment-grows old new base.Void k = inl refl
base_alignment-grows old new base.Bool k = inl refl
base_alignment-grows old new base.Char k = inl refl
base_alignment-grows old new base.SignedChar k = inl refl
base_alignment-grows old new base.UnsignedChar k = inl refl
base_alignment-grows old new base.Short k = inl refl
base_alignment-grows old new base.UnsignedShort k = inl refl
base_alignment-grows old new base.Int k = inl refl
base_alignment-grows old new base.Unsigned k = inl refl
base_alignment-grows old new base.Long k = inl refl
base_alignment-grows old new base.UnsignedLong k = inl refl
base_alignment-grows old new (base.Enum n) k = inl refl

-- what was told of a complete type stays
stays : (o p : Option ℕ) → is_some o ≡ true → Grows o p → p ≡ o
stays o p h (inl e) = e
stays None p h (inr e) = cc
stays (Some n) p h (inr e) = cc

pub complete-kept : (old new : Structs) (t : CType) → KeepsLayouts old new → is_complete old t ≡ true →
    Measures old new t
complete-kept old new t k h =
    let ds = (out-CType t).derived in
    let b = (out-CType t).base in
    let size : is_some (sized (base_size old b) ds) ≡ true =
    sized-complete ds (base_size old b) ∙ ap (λ c. is_complete_by c ds) (base_size-complete old b) ∙ h in
    let alignment : is_some (aligned (base_alignment old b) ds) ≡ true =
    aligned-complete ds (base_alignment old b) ∙ ap (λ c. is_complete_by c ds) (base_alignment-complete old b) ∙ h in
    (ap capped_size (stays (sized (base_size old b) ds) (sized (base_size new b) ds) size (sized-grows ds (base_size old b) (base_size new b) (base_size-grows old new b k))), stays (aligned (base_alignment old b) ds) (aligned (base_alignment new b) ds) alignment (aligned-grows ds (base_alignment old b) (base_alignment new b) (base_alignment-grows old new b k)))

-- ---- declaring and completing

pub declared-keeps : (tags : Structs) → KeepsLayouts tags (tags ++ None ∷ [])
declared-keeps [] tag l e = cc
declared-keeps (x ∷ xs) zero l e = e
declared-keeps (x ∷ xs) (suc tag) l e = declared-keeps xs tag l e

pub completed-keeps : (tags : Structs) (at : ℕ) (l : StructLayout) → slice_get tags at ≡ Some None →
    KeepsLayouts tags (slice_set tags at (Some l))
completed-keeps [] at l none_yet tag k e = cc
completed-keeps (x ∷ xs) zero l none_yet zero k e = let none : x ≡ None = cc in cc
completed-keeps (x ∷ xs) zero l none_yet (suc tag) k e = e
completed-keeps (x ∷ xs) (suc at) l none_yet zero k e = e
completed-keeps (x ∷ xs) (suc at) l none_yet (suc tag) k e = completed-keeps xs at l none_yet tag k e
