-- Types that are compatible but for their own qualifiers,
-- by their shapes.
use Rattle.std.proofs.Common.{◌≡◌, ◌∙◌, refl, ap, sym, ℕ, Bool, true, false, ◌&&◌, List, [], ◌∷◌, ◌++◌, Bor}
use Rattle.std.specs.Prelude.{Option, reverse}
use Rattle.std.proofs.lemmas.List.{reverse-append}
use Rattle.c_tree.specs.declared.typed.types.Base.{Base}
use Rattle.c_tree.specs.declared.typed.types.Derived.{Derived}
use Rattle.c_tree.specs.declared.typed.types.Derived.TheVariants as derived
use Rattle.c_tree.specs.declared.typed.types.CType.{CType, out-CType}
use Rattle.c_typing.specs.Types.{made, Shape, Basic, PointerTo, ArrayOf, FunctionOf, shape, shape_from, bare_by, Comparison, may_be_equal, is_compatible_base, by_compatibility, same_truth, same_derived, all_same, agree, compatible, alike}
use Rattle.c_type_rules.specs.Compatibility.{all_agree}
use Rattle.c_type_rules.specs.declared.shapes.LentType.{LentType}
use Rattle.c_type_rules.specs.declared.shapes.TypeShape.{TypeShape}
use Rattle.c_type_rules.specs.declared.shapes.TypeShape.TheVariants as told
use Rattle.c_type_rules.specs.Shapes.{meant}
use Rattle.c_type_rules.proofs.Rows.{types-row}

-- ---- tests

and_true : (b : Bool) → (b && true) ≡ b
and_true true = refl
and_true false = refl

and_false : (b : Bool) → (b && false) ≡ false
and_false true = refl
and_false false = refl

and_swap : (a b c : Bool) → (a && (b && c)) ≡ (b && (a && c))
and_swap true b c = refl
and_swap false b c = sym (and_false b)

-- ---- the outermost derivations are compared last

none_against : (by : Comparison) (es : List Derived) (e : Derived) → all_same by [] (es ++ e ∷ []) ≡ false
none_against by [] e = refl
none_against by (d ∷ es) e = refl

against_none : (by : Comparison) (ds : List Derived) (d : Derived) → all_same by (ds ++ d ∷ []) [] ≡ false
against_none by [] d = refl
against_none by (e ∷ ds) d = refl

all_same-last : (by : Comparison) (ds es : List Derived) (d e : Derived) →
    all_same by (ds ++ d ∷ []) (es ++ e ∷ []) ≡ (same_derived by d e && all_same by ds es)
all_same-last by [] [] d e = refl
all_same-last by [] (f ∷ es) d e =
    ap (λ (x : Bool). same_derived by d f && x) (none_against by es e) ∙ and_false (same_derived by d f)
    ∙ sym (and_false (same_derived by d e))
all_same-last by (f ∷ ds) [] d e =
    ap (λ (x : Bool). same_derived by f e && x) (against_none by ds d) ∙ and_false (same_derived by f e)
    ∙ sym (and_false (same_derived by d e))
all_same-last by (f ∷ ds) (g ∷ es) d e =
    ap (λ (x : Bool). same_derived by f g && x) (all_same-last by ds es d e)
    ∙ and_swap (same_derived by f g) (same_derived by d e) (all_same by ds es)

reverse-first : (ds : List Derived) (d : Derived) → reverse (d ∷ ds) ≡ reverse ds ++ d ∷ []
reverse-first ds d = reverse-append (d ∷ []) ds

agree-outermost : (by : Comparison) (b d : Base) (p q : Bool) (x y : Derived) (xs ys : List Derived) →
    agree by (made b p (reverse (x ∷ xs))) (made d q (reverse (y ∷ ys)))
    ≡ (same_derived by x y && agree by (made b p (reverse xs)) (made d q (reverse ys)))
agree-outermost by b d p q x y xs ys =
    let heads = by.bases b d && same_truth p q in
    ap (λ (l : List Derived). heads && all_same by l (reverse (y ∷ ys))) (reverse-first xs x)
    ∙ ap (λ (l : List Derived). heads && all_same by (reverse xs ++ x ∷ []) l) (reverse-first ys y)
    ∙ ap (λ (z : Bool). heads && z) (all_same-last by (reverse xs) (reverse ys) x y)
    ∙ and_swap heads (same_derived by x y) (all_same by (reverse xs) (reverse ys))

none-agrees : (by : Comparison) (b d : Base) (p q : Bool) (y : Derived) (ys : List Derived) →
    agree by (made b p []) (made d q (reverse (y ∷ ys))) ≡ false
none-agrees by b d p q y ys =
    let heads = by.bases b d && same_truth p q in
    ap (λ (l : List Derived). heads && all_same by [] l) (reverse-first ys y)
    ∙ ap (λ (z : Bool). heads && z) (none_against by (reverse ys) y)
    ∙ and_false heads

agrees-none : (by : Comparison) (b d : Base) (p q : Bool) (x : Derived) (xs : List Derived) →
    agree by (made b p (reverse (x ∷ xs))) (made d q []) ≡ false
agrees-none by b d p q x xs =
    let heads = by.bases b d && same_truth p q in
    ap (λ (l : List Derived). heads && all_same by l []) (reverse-first xs x)
    ∙ ap (λ (z : Bool). heads && z) (against_none by (reverse xs) x)
    ∙ and_false heads

-- ---- the types but for their qualifiers

abbrev pub alike_by : Shape → Shape → Bool
alike_by (Basic b) (Basic d) = is_compatible_base b d
alike_by (PointerTo c t) (PointerTo k u) = compatible t u
alike_by (ArrayOf m t) (ArrayOf n u) = may_be_equal m n && compatible t u
alike_by (FunctionOf ps t) (FunctionOf qs u) = all_agree by_compatibility ps qs && compatible t u
alike_by _ _ = false

-- a type without its qualifier, by its derivations, outermost first
abbrev bared : Base → Bool → List Derived → CType
bared b c ds = let q = bare_by c ds in made b q.0 (reverse q.1)

alike-derivations : (b d : Base) (c k : Bool) (xs ys : List Derived) →
    agree by_compatibility (bared b c xs) (bared d k ys) ≡ alike_by (shape_from b c xs) (shape_from d k ys)
alike-derivations b d c k [] [] = and_true _ ∙ and_true (is_compatible_base b d)
alike-derivations b d c k [] (derived.Pointer j ∷ ys) = none-agrees by_compatibility b d false k (derived.Pointer false) ys
alike-derivations b d c k [] (derived.Array n ∷ ys) = none-agrees by_compatibility b d false k (derived.Array n) ys
alike-derivations b d c k [] (derived.Function' n r ∷ ys) = none-agrees by_compatibility b d false k (derived.Function' n r) ys
alike-derivations b d c k (derived.Pointer i ∷ xs) [] = agrees-none by_compatibility b d c false (derived.Pointer false) xs
alike-derivations b d c k (derived.Array m ∷ xs) [] = agrees-none by_compatibility b d c false (derived.Array m) xs
alike-derivations b d c k (derived.Function' m r ∷ xs) [] = agrees-none by_compatibility b d c false (derived.Function' m r) xs
alike-derivations b d c k (derived.Pointer i ∷ xs) (derived.Pointer j ∷ ys) =
    agree-outermost by_compatibility b d c k (derived.Pointer false) (derived.Pointer false) xs ys
alike-derivations b d c k (derived.Pointer i ∷ xs) (derived.Array n ∷ ys) =
    agree-outermost by_compatibility b d c k (derived.Pointer false) (derived.Array n) xs ys
alike-derivations b d c k (derived.Pointer i ∷ xs) (derived.Function' n s ∷ ys) =
    agree-outermost by_compatibility b d c k (derived.Pointer false) (derived.Function' n s) xs ys
alike-derivations b d c k (derived.Array m ∷ xs) (derived.Pointer j ∷ ys) =
    agree-outermost by_compatibility b d c k (derived.Array m) (derived.Pointer false) xs ys
alike-derivations b d c k (derived.Array m ∷ xs) (derived.Array n ∷ ys) =
    agree-outermost by_compatibility b d c k (derived.Array m) (derived.Array n) xs ys
alike-derivations b d c k (derived.Array m ∷ xs) (derived.Function' n s ∷ ys) =
    agree-outermost by_compatibility b d c k (derived.Array m) (derived.Function' n s) xs ys
alike-derivations b d c k (derived.Function' m r ∷ xs) (derived.Pointer j ∷ ys) =
    agree-outermost by_compatibility b d c k (derived.Function' m r) (derived.Pointer false) xs ys
alike-derivations b d c k (derived.Function' m r ∷ xs) (derived.Array n ∷ ys) =
    agree-outermost by_compatibility b d c k (derived.Function' m r) (derived.Array n) xs ys
alike-derivations b d c k (derived.Function' m r ∷ xs) (derived.Function' n s ∷ ys) =
    agree-outermost by_compatibility b d c k (derived.Function' m r) (derived.Function' n s) xs ys
    ∙ ap (λ (z : Bool). z && compatible (made b c (reverse xs)) (made d k (reverse ys))) (types-row by_compatibility _ _ r s)

pub alike-shapes : (t u : CType) → alike t u ≡ alike_by (shape t) (shape u)
alike-shapes t u =
    alike-derivations (out-CType t).base (out-CType u).base (out-CType t).constant (out-CType u).constant (reverse (out-CType t).derived) (reverse (out-CType u).derived)

pub alike-as : (t u : CType) (s r : Shape) → s ≡ shape t → r ≡ shape u → alike t u ≡ alike_by s r
alike-as t u s r e f = alike-shapes t u ∙ ap (λ (x : Shape). alike_by x (shape u)) (sym e) ∙ ap (alike_by s) (sym f)

-- ---- shapes of two forms

pub not_basic : (b : Base) (v : TypeShape) → ((d : Base) → v ≡ told.Basic d → ⊥) → false ≡ alike_by (Basic b) (meant v)
not_basic b (told.Basic d) h = absurd (h d refl)
not_basic b (told.PointerTo k u) h = refl
not_basic b (told.ArrayOf n u) h = refl
not_basic b (told.FunctionOf qs u) h = refl

pub not_pointer : (c : Bool) (t : CType) (v : TypeShape) → ((k : Bool) (u : LentType) → v ≡ told.PointerTo k u → ⊥) →
    false ≡ alike_by (PointerTo c t) (meant v)
not_pointer c t (told.Basic d) h = refl
not_pointer c t (told.PointerTo k u) h = absurd (h k u refl)
not_pointer c t (told.ArrayOf n u) h = refl
not_pointer c t (told.FunctionOf qs u) h = refl

pub not_array : (m : Option ℕ) (t : CType) (v : TypeShape) → ((n : Option ℕ) (u : LentType) → v ≡ told.ArrayOf n u → ⊥) →
    false ≡ alike_by (ArrayOf m t) (meant v)
not_array m t (told.Basic d) h = refl
not_array m t (told.PointerTo k u) h = refl
not_array m t (told.ArrayOf n u) h = absurd (h n u refl)
not_array m t (told.FunctionOf qs u) h = refl

pub not_function : (ps : List CType) (t : CType) (v : TypeShape) →
    ((qs : Bor (List CType)) (u : LentType) → v ≡ told.FunctionOf qs u → ⊥) → false ≡ alike_by (FunctionOf ps t) (meant v)
not_function ps t (told.Basic d) h = refl
not_function ps t (told.PointerTo k u) h = refl
not_function ps t (told.ArrayOf n u) h = refl
not_function ps t (told.FunctionOf qs u) h = absurd (h qs u refl)
