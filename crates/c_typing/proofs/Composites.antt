-- The composite type of two compatible types is compatible with both (C11 6.2.7p3): by induction over their derivations and over
-- the parameters of functions.
use Rattle.std.proofs.Common.{◌≡◌, refl, ℕ, Bool, true, false, ◌&&◌, ◌==◌, List, [], ◌∷◌, Option, Some, None, arith}
use Rattle.c_tree.specs.declared.typed.types.Base.{Base}
use Rattle.c_tree.specs.declared.typed.types.Derived.{Derived, Row_of-CType, end_of-CType, more_of-CType, Row_of-Derived, end_of-Derived, more_of-Derived}
use Rattle.c_tree.specs.declared.typed.types.Derived.TheVariants as derived
use Rattle.c_tree.specs.declared.typed.types.CType.{out-CType}
use Rattle.c_typing.specs.Types.{kind_number, tag_number, is_same_base, is_compatible_base, may_be_equal, same_truth, by_compatibility, same_derived, same_derivations, same_types, all_same, composite_derived, composite_derivations, composite_types, with_each}
use Rattle.c_typing.specs.Laws.{CompositeFits}

both : (a b : Bool) → (a && b) ≡ true → (a ≡ true) × (b ≡ true)
both true b h = (refl, h)
both false b h = absurd cc

and : (a b : Bool) → a ≡ true → b ≡ true → (a && b) ≡ true
and a b h k = cc

same_number : (n : ℕ) → (n == n) ≡ true
same_number n = grind (arith)

same_base : (b : Base) → is_same_base b b ≡ true
same_base b = and _ _ (same_number (kind_number b)) (same_number (tag_number b))

fits_base : (b : Base) → is_compatible_base b b ≡ true
fits_base b = let h = same_base b in cc

fits_truth : (c : Bool) → same_truth c c ≡ true
fits_truth true = refl
fits_truth false = refl

fits_count : (n : Option ℕ) → may_be_equal n n ≡ true
fits_count None = refl
fits_count (Some n) = same_number n

any_count : (n : Option ℕ) → may_be_equal n None ≡ true
any_count None = refl
any_count (Some n) = refl

mutual
  derivation : (d e : Derived) → same_derived by_compatibility d e ≡ true →
      (same_derived by_compatibility (composite_derived d e) d ≡ true) × (same_derived by_compatibility (composite_derived d e) e ≡ true)
  derivation (derived.Pointer c) (derived.Pointer k) h = (fits_truth c, h)
  derivation (derived.Pointer c) (derived.Array n) h = absurd cc
  derivation (derived.Pointer c) (derived.Function' n qs) h = absurd cc
  derivation (derived.Array None) (derived.Array n) h = (any_count n, fits_count n)
  derivation (derived.Array (Some m)) (derived.Array n) h = (same_number m, h)
  derivation (derived.Array m) (derived.Pointer k) h = absurd cc
  derivation (derived.Array m) (derived.Function' n qs) h = absurd cc
  derivation (derived.Function' m ps) (derived.Function' n qs) h = parameters ps qs h
  derivation (derived.Function' m ps) (derived.Pointer k) h = absurd cc
  derivation (derived.Function' m ps) (derived.Array n) h = absurd cc

  derivations : {m n : _} (ds : Row_of-Derived m) (es : Row_of-Derived n) → same_derivations by_compatibility ds es ≡ true →
      (same_derivations by_compatibility (composite_derivations ds es) ds ≡ true) × (same_derivations by_compatibility (composite_derivations ds es) es ≡ true)
  derivations end_of-Derived end_of-Derived h = (refl, refl)
  derivations end_of-Derived (more_of-Derived e es) h = absurd cc
  derivations (more_of-Derived d ds) end_of-Derived h = absurd cc
  derivations (more_of-Derived d ds) (more_of-Derived e es) h =
      let s = both (same_derived by_compatibility d e) (same_derivations by_compatibility ds es) h in
      let one = derivation d e s.0 in let rest = derivations ds es s.1 in
      (and _ _ one.0 rest.0, and _ _ one.1 rest.1)

  parameters : {m n : _} (ts : Row_of-CType m) (us : Row_of-CType n) → same_types by_compatibility ts us ≡ true →
      (same_types by_compatibility (composite_types ts us) ts ≡ true) × (same_types by_compatibility (composite_types ts us) us ≡ true)
  parameters end_of-CType end_of-CType h = (refl, refl)
  parameters end_of-CType (more_of-CType d k n es us) h = absurd cc
  parameters (more_of-CType b c m ds ts) end_of-CType h = absurd cc
  parameters (more_of-CType b c m ds ts) (more_of-CType d k n es us) h =
      let s = both (is_compatible_base b d && same_truth c k) (same_derivations by_compatibility ds es && same_types by_compatibility ts us) h in
      let r = both (same_derivations by_compatibility ds es) (same_types by_compatibility ts us) s.1 in
      let inner = derivations ds es r.0 in let rest = parameters ts us r.1 in
      let own = and _ _ (fits_base b) (fits_truth c) in
      (and _ _ own (and _ _ inner.0 rest.0), and _ _ s.0 (and _ _ inner.1 rest.1))

all : (ds es : List Derived) → all_same by_compatibility ds es ≡ true →
    (all_same by_compatibility (with_each composite_derived ds es) ds ≡ true) × (all_same by_compatibility (with_each composite_derived ds es) es ≡ true)
all [] [] h = (refl, refl)
all [] (e ∷ es) h = absurd cc
all (d ∷ ds) [] h = absurd cc
all (d ∷ ds) (e ∷ es) h =
    let s = both (same_derived by_compatibility d e) (all_same by_compatibility ds es) h in
    let one = derivation d e s.0 in let rest = all ds es s.1 in
    (and _ _ one.0 rest.0, and _ _ one.1 rest.1)

pub composite_fits : CompositeFits
composite_fits t u h =
    let heads = is_compatible_base (out-CType t).base (out-CType u).base && same_truth (out-CType t).constant (out-CType u).constant in
    let s = both heads (all_same by_compatibility (out-CType t).derived (out-CType u).derived) h in
    let parts = all (out-CType t).derived (out-CType u).derived s.1 in
    (and _ _ (and _ _ (fits_base (out-CType t).base) (fits_truth (out-CType t).constant)) parts.0, and _ _ s.0 parts.1)
