-- Objects of complete types have the size, the alignment and the width that core code asks of them.
use Rattle.std.proofs.Common.{◌≡◌, refl, sym, ap, ◌∙◌, subst, ℕ, zero, suc, ◌⊎◌, Bool, true, false, ◌&&◌, ◌||◌, List, [], ◌∷◌, ◌++◌, Option, Some, None, reverse, slice_get, unwrap_or, arith, inl, inr, ⊎_elim}
use mathlib.Core.List.{reverse-cons, reverse-reverse}
use Rattle.std.proofs.lemmas.Bool.Decides.{eqb_tells}
use Rattle.std.specs.Prelude.{◌==◌}
use Rattle.std.specs.List.{list_all}
use Rattle.std.specs.Option.{option_map}
use Rattle.c_tree.specs.declared.typed.types.Base.{Base}
use Rattle.c_tree.specs.declared.typed.types.Base.TheVariants as base
use Rattle.c_tree.specs.declared.typed.types.Derived.{Derived}
use Rattle.c_tree.specs.declared.typed.types.Derived.TheVariants as derived
use Rattle.c_tree.specs.declared.typed.types.CType.{CType, out-CType}
use Rattle.c_tree.specs.declared.typed.operator.Scalar.{Scalar}
use Rattle.c_tree.specs.declared.typed.operator.Scalar.TheVariants as scalar
use Rattle.c_tree.specs.TypedKinds.{IsSize}
use Rattle.c_tree.specs.TypedUnits.{IsKeptIn, IsObject}
use Rattle.c_layout.specs.declared.tags.StructLayout.{StructLayout}
use Rattle.c_layout.specs.Tags.{Structs, told, layout_of, is_alignment, is_aligned, are_aligned}
use Rattle.c_layout.specs.Sizes.{capped_size, base_size, base_alignment, derived_size, derived_alignment, sized, aligned, whole_size, size_of, alignment_of}
use Rattle.c_typing.specs.Types.{in_word, shape_from}
use Rattle.c_typing.specs.Conversions.{scalar_of_shape, scalar_of}
use Rattle.c_typing.specs.Declarations.{object_of}

-- ---- the outermost derivation

sized_behind : (o : Option ℕ) (xs : List Derived) (d : Derived) → sized o (xs ++ d ∷ []) ≡ derived_size (sized o xs) d
sized_behind o [] d = refl
sized_behind o (x ∷ xs) d = sized_behind (derived_size o x) xs d

aligned_behind : (o : Option ℕ) (xs : List Derived) (d : Derived) → aligned o (xs ++ d ∷ []) ≡ derived_alignment (aligned o xs) d
aligned_behind o [] d = refl
aligned_behind o (x ∷ xs) d = aligned_behind (derived_alignment o x) xs d

pointer_size : (o : Option ℕ) (c : Bool) (rest : List Derived) → sized o (reverse (derived.Pointer c ∷ rest)) ≡ Some 4
pointer_size o c rest = ap (sized o) (reverse-cons (derived.Pointer c) rest) ∙ sized_behind o (reverse rest) (derived.Pointer c)

pointer_alignment : (o : Option ℕ) (c : Bool) (rest : List Derived) → aligned o (reverse (derived.Pointer c ∷ rest)) ≡ Some 4
pointer_alignment o c rest = ap (aligned o) (reverse-cons (derived.Pointer c) rest) ∙ aligned_behind o (reverse rest) (derived.Pointer c)

-- ---- scalar types

-- how many bytes an object has, and its alignment, as typing tells them
abbrev bytes : Option ℕ → ℕ
bytes o = in_word (unwrap_or (capped_size o) 0)

abbrev strictness : Option ℕ → ℕ
strictness o = in_word (unwrap_or o 1)

-- an object of scalar type has the bytes of its width
abbrev Kept : Option Scalar → (size alignment : Option ℕ) → Type 0
Kept None n a = Unit {0}
Kept (Some k) n a = IsSize (bytes n) × IsKeptIn (Some k) (bytes n) (strictness a)

kept_by : (structs : Structs) (b : Base) (c : Bool) (rs : List Derived)
    → Kept (scalar_of_shape (shape_from b c rs)) (sized (base_size structs b) (reverse rs)) (aligned (base_alignment structs b) (reverse rs))
kept_by structs base.Void c [] = tt
kept_by structs base.Bool c [] = ((omega arith, omega arith), (refl, refl))
kept_by structs base.Char c [] = ((omega arith, omega arith), (refl, refl))
kept_by structs base.SignedChar c [] = ((omega arith, omega arith), (refl, refl))
kept_by structs base.UnsignedChar c [] = ((omega arith, omega arith), (refl, refl))
kept_by structs base.Short c [] = ((omega arith, omega arith), (refl, refl))
kept_by structs base.UnsignedShort c [] = ((omega arith, omega arith), (refl, refl))
kept_by structs base.Int c [] = ((omega arith, omega arith), (refl, refl))
kept_by structs base.Unsigned c [] = ((omega arith, omega arith), (refl, refl))
kept_by structs base.Long c [] = ((omega arith, omega arith), (refl, refl))
kept_by structs base.UnsignedLong c [] = ((omega arith, omega arith), (refl, refl))
kept_by structs (base.Enum n) c [] = ((omega arith, omega arith), (refl, refl))
kept_by structs (base.Struct n) c [] = tt
kept_by structs b c (derived.Pointer k ∷ rest) =
    subst (λ n. Kept (Some scalar.Pointer) n (aligned (base_alignment structs b) (reverse (derived.Pointer k ∷ rest)))) (sym (pointer_size (base_size structs b) k rest))
    (subst (λ a. Kept (Some scalar.Pointer) (Some 4) a) (sym (pointer_alignment (base_alignment structs b) k rest)) ((omega arith, omega arith), (refl, refl)))
kept_by structs b c (derived.Array n ∷ rest) = tt
kept_by structs b c (derived.Function' n ps ∷ rest) = tt

kept : (structs : Structs) (t : CType) → Kept (scalar_of t) (whole_size structs t) (alignment_of structs t)
kept structs t =
    subst (λ ds. Kept (scalar_of t) (sized (base_size structs (out-CType t).base) ds) (aligned (base_alignment structs (out-CType t).base) ds))
    (reverse-reverse (out-CType t).derived)
    (kept_by structs (out-CType t).base (out-CType t).constant (reverse (out-CType t).derived))

-- ---- all complete types

-- where a type has a size it has an alignment, one of those that there are
abbrev Aligned : (size alignment : Option ℕ) → Type 0
Aligned None None = Unit {0}
Aligned (Some n) (Some a) = is_alignment a ≡ true
Aligned _ _ = ⊥

first_true : (a b : Bool) → (a && b) ≡ true → a ≡ true
first_true true b h = refl
first_true false b h = h

second_true : (a b : Bool) → (a && b) ≡ true → b ≡ true
second_true true b h = h
second_true false b h = absurd (let e : false ≡ true = h in cc)

layout_aligned : (structs : Structs) (n : ℕ) → are_aligned structs ≡ true → is_aligned (told (slice_get structs n)) ≡ true
layout_aligned [] n h = refl
layout_aligned (o ∷ structs) zero h = first_true (is_aligned o) (list_all is_aligned structs) h
layout_aligned (o ∷ structs) (suc n) h = layout_aligned structs n (second_true (is_aligned o) (list_all is_aligned structs) h)

base_aligned : (structs : Structs) (b : Base) → are_aligned structs ≡ true → Aligned (base_size structs b) (base_alignment structs b)
base_aligned structs base.Void h = tt
base_aligned structs base.Bool h = refl
base_aligned structs base.Char h = refl
base_aligned structs base.SignedChar h = refl
base_aligned structs base.UnsignedChar h = refl
base_aligned structs base.Short h = refl
base_aligned structs base.UnsignedShort h = refl
base_aligned structs base.Int h = refl
base_aligned structs base.Unsigned h = refl
base_aligned structs base.Long h = refl
base_aligned structs base.UnsignedLong h = refl
base_aligned structs (base.Enum n) h = refl
base_aligned structs (base.Struct n) h = by (layout_of structs n) (layout_aligned structs n h)
  where
    by : (o : Option StructLayout) → is_aligned o ≡ true → Aligned (option_map (λ (l : StructLayout). l.size) o) (option_map (λ (l : StructLayout). l.alignment) o)
    by None g = tt
    by (Some l) g = g

derived_aligned : (n a : Option ℕ) (d : Derived) → Aligned n a → Aligned (derived_size n d) (derived_alignment a d)
derived_aligned n a (derived.Pointer c) h = refl
derived_aligned n a (derived.Array None) h = tt
derived_aligned (Some n) (Some a) (derived.Array (Some k)) h = h
derived_aligned None None (derived.Array (Some k)) h = tt
derived_aligned (Some n) None (derived.Array (Some k)) h = absurd h
derived_aligned None (Some a) (derived.Array (Some k)) h = absurd h
derived_aligned n a (derived.Function' m ps) h = tt

all_aligned : (ds : List Derived) (n a : Option ℕ) → Aligned n a → Aligned (sized n ds) (aligned a ds)
all_aligned [] n a h = h
all_aligned (d ∷ ds) n a h = all_aligned ds (derived_size n d) (derived_alignment a d) (derived_aligned n a d h)

-- one of the alignments that there are
one_of_three : (a : ℕ) → is_alignment a ≡ true → (a ≡ 1) ⊎ ((a ≡ 2) ⊎ (a ≡ 4))
one_of_three a h = ⊎_elim (λ e. inl e.1) (λ n. inr (behind_one n.0)) (eqb_tells a 1)
  where
    behind_two : (a == 1) ≡ false → (a == 2) ≡ false → (a ≡ 2) ⊎ (a ≡ 4)
    behind_two n m = ⊎_elim (λ e. inr e.1) (λ o. absurd (let g : false ≡ true = sym (ap (λ z. z || ((a == 2) || (a == 4))) n ∙ ap (λ z. z || (a == 4)) m ∙ o.0) ∙ h in cc)) (eqb_tells a 4)

    behind_one : (a == 1) ≡ false → (a ≡ 2) ⊎ (a ≡ 4)
    behind_one n = ⊎_elim (λ e. inl e.1) (λ m. behind_two n m.0) (eqb_tells a 2)

strict : (a : ℕ) → is_alignment a ≡ true → (in_word a ≡ 1) ⊎ ((in_word a ≡ 2) ⊎ (in_word a ≡ 4))
strict a h = ⊎_elim (λ e. inl (ap in_word e)) (λ o. inr (⊎_elim (λ e. inl (ap in_word e)) (λ e. inr (ap in_word e)) o)) (one_of_three a h)

strict_if : (size alignment : Option ℕ) → Aligned size alignment → (strictness alignment ≡ 1) ⊎ ((strictness alignment ≡ 2) ⊎ (strictness alignment ≡ 4))
strict_if (Some m) (Some a) h = strict a h
strict_if None None h = inl refl
strict_if (Some m) None h = absurd h
strict_if None (Some a) h = absurd h

-- ---- objects

kept_in : (k : Option Scalar) (size alignment : Option ℕ) → Kept k size alignment → Aligned size alignment → IsKeptIn k (bytes size) (strictness alignment)
kept_in (Some k) size alignment h g = h.1
kept_in None size alignment h g = strict_if size alignment g

-- an object of a type of 1 to 2^24 bytes is one that core code takes
pub objects_fit : (structs : Structs) (addressed : Bool) (t : CType) → are_aligned structs ≡ true → IsSize (in_word (unwrap_or (size_of structs t) 0)) → IsObject (object_of structs addressed t)
objects_fit structs addressed t h g = (
  g,
  kept_in (scalar_of t) (whole_size structs t) (alignment_of structs t) (kept structs t)
      (all_aligned (out-CType t).derived (base_size structs (out-CType t).base) (base_alignment structs (out-CType t).base) (base_aligned structs (out-CType t).base h)),
)
