-- Where the qualifier of a type stands,
-- by its outermost derivation.
use Rattle.std.proofs.Common.{◌≡◌, ◌∙◌, ap, sym, ℕ, Bool, List, [], ◌∷◌, ◌++◌, length}
use Rattle.std.specs.Prelude.{reverse, slice_set}
use Rattle.std.proofs.lemmas.List.{reverse-append, set-append_left}
use Rattle.std.proofs.Math.Seq.{set-append_seam}
use Rattle.std.specs.Prelude.{Option}
use Rattle.c_tree.specs.declared.typed.types.Derived.{Derived}
use Rattle.c_tree.specs.declared.typed.types.Derived.TheVariants as derived
use Rattle.c_typing.specs.Types.{qualified_by}
use Rattle.c_type_rules.specs.declared.qualifiers.Place.{Place}
use Rattle.c_type_rules.specs.declared.qualifiers.Place.TheVariants as place
use Rattle.c_type_rules.specs.Qualifiers.{requalified, IsWithin}
use Rattle.c_type_rules.proofs.Derivations.{outermost}

pub qualified-pointer : (ds inner : List Derived) (d : Derived) (old : Bool) → ds ≡ inner ++ d ∷ [] → d ≡ derived.Pointer old → (k c : Bool) →
    qualified_by k c (reverse ds) ≡ (c, reverse (slice_set ds (length inner) (derived.Pointer k)))
qualified-pointer ds inner d old at is k c =
    let e : ds ≡ inner ++ derived.Pointer old ∷ [] = at ∙ ap (λ (x : Derived). inner ++ x ∷ []) is in
    ap (qualified_by k c) (outermost ds inner (derived.Pointer old) e)
    ∙ ap (λ (l : List Derived). (c, l)) (sym (ap (λ (l : List Derived). reverse (slice_set l (length inner) (derived.Pointer k))) e ∙ ap reverse (set-append_seam inner (derived.Pointer old) [] (derived.Pointer k)) ∙ reverse-append inner (derived.Pointer k ∷ [])))

requalified-array : (inner : List Derived) (n : Option ℕ) (k c : Bool) (p : Place) → IsWithin p (length inner) →
    (let q = requalified k c p inner in (q.0, derived.Array n ∷ q.1)) ≡ requalified k c p (inner ++ derived.Array n ∷ [])
requalified-array inner n k c place.Base w = ap (λ (l : List Derived). (k, l)) (sym (reverse-append inner (derived.Array n ∷ [])))
requalified-array inner n k c (place.Pointer at) w =
    ap (λ (l : List Derived). (c, l)) (sym (ap reverse (set-append_left inner (derived.Array n ∷ []) at (derived.Pointer k) w) ∙ reverse-append (slice_set inner at (derived.Pointer k)) (derived.Array n ∷ [])))
requalified-array inner n k c place.Nowhere w = ap (λ (l : List Derived). (c, l)) (sym (reverse-append inner (derived.Array n ∷ [])))

pub qualified-array : (ds inner : List Derived) (d : Derived) (n : Option ℕ) (p : Place) → ds ≡ inner ++ d ∷ [] → d ≡ derived.Array n →
    IsWithin p (length inner) → ((k c : Bool) → qualified_by k c (reverse inner) ≡ requalified k c p inner) → (k c : Bool) →
    qualified_by k c (reverse ds) ≡ requalified k c p ds
qualified-array ds inner d n p at is w h k c =
    let e : ds ≡ inner ++ derived.Array n ∷ [] = at ∙ ap (λ (x : Derived). inner ++ x ∷ []) is in
    ap (qualified_by k c) (outermost ds inner (derived.Array n) e)
    ∙ ap (λ (q : Bool × List Derived). (q.0, derived.Array n ∷ q.1)) (h k c)
    ∙ requalified-array inner n k c p w
    ∙ ap (requalified k c p) (sym e)
