-- Comparisons of the rows of types and derivations
-- are those of their lists.
use Rattle.std.proofs.Common.{◌≡◌, ◌≢◌, ◌∙◌, refl, ap, sym, suc, Bool, true, false, ◌&&◌, List, [], ◌∷◌, length}
use Rattle.c_tree.specs.declared.typed.types.Derived.{Derived, Row_of-CType, end_of-CType, more_of-CType, Row_of-Derived, end_of-Derived, more_of-Derived, items-the_row-CType, items-the_row-Derived, items_hidden-the_row-CType-1, items_shown-the_row-Derived-0}
use Rattle.c_tree.specs.declared.typed.types.Derived.TheVariants as derived
use Rattle.c_tree.specs.declared.typed.types.Derived.TheBlock.{hidden-the_row-CType-1, shown-the_row-Derived-0}
use Rattle.c_tree.specs.declared.typed.types.CType.{CType}
use Rattle.c_typing.specs.Types.{Comparison, same_truth, same_derived, same_derivations, same_types, all_same, agree}
use Rattle.c_type_rules.specs.Compatibility.{all_agree}

and_assoc : (a b c : Bool) → (a && (b && c)) ≡ ((a && b) && c)
and_assoc true b c = refl
and_assoc false b c = refl

pub derivations-row : (by : Comparison) (m n : _) (r : Row_of-Derived m) (s : Row_of-Derived n) →
    same_derivations by r s ≡ all_same by (items-the_row-Derived _ r) (items-the_row-Derived _ s)
derivations-row by m n end_of-Derived end_of-Derived = refl
derivations-row by m n end_of-Derived (more_of-Derived e es) = refl
derivations-row by m n (more_of-Derived d ds) end_of-Derived = refl
derivations-row by m n (more_of-Derived d ds) (more_of-Derived e es) = ap (λ (x : Bool). same_derived by d e && x) (derivations-row by _ _ ds es)

pub types-row : (by : Comparison) (m n : _) (r : Row_of-CType m) (s : Row_of-CType n) →
    same_types by r s ≡ all_agree by (items-the_row-CType _ r) (items-the_row-CType _ s)
types-row by m n end_of-CType end_of-CType = refl
types-row by m n end_of-CType (more_of-CType d k i es us) = refl
types-row by m n (more_of-CType b c j ds ts) end_of-CType = refl
types-row by m n (more_of-CType b c j ds ts) (more_of-CType d k i es us) =
    let heads = by.bases b d && same_truth c k in
    let derivations : same_derivations by ds es ≡ all_same by (shown-the_row-Derived-0 j ds) (shown-the_row-Derived-0 i es) =
    derivations-row by _ _ ds es
    ∙ ap (λ (l : List Derived). all_same by l (items-the_row-Derived _ es)) (sym (items_shown-the_row-Derived-0 j ds))
    ∙ ap (all_same by (shown-the_row-Derived-0 j ds)) (sym (items_shown-the_row-Derived-0 i es)) in
    ap (λ (x : Bool). heads && (x && same_types by ts us)) derivations
    ∙ ap (λ (x : Bool). heads && (all_same by (shown-the_row-Derived-0 j ds) (shown-the_row-Derived-0 i es) && x)) (types-row by _ _ ts us)
    ∙ and_assoc heads (all_same by (shown-the_row-Derived-0 j ds) (shown-the_row-Derived-0 i es)) (all_agree by (items-the_row-CType _ ts) (items-the_row-CType _ us))

pub parameters-agree : (by : Comparison) (ps qs : List CType) → same_derived by (derived.Function ps) (derived.Function qs) ≡ all_agree by ps qs
parameters-agree by ps qs =
    types-row by _ _ (hidden-the_row-CType-1 ps) (hidden-the_row-CType-1 qs)
    ∙ ap (λ (l : List CType). all_agree by l (items-the_row-CType _ (hidden-the_row-CType-1 qs))) (items_hidden-the_row-CType-1 ps)
    ∙ ap (all_agree by ps) (items_hidden-the_row-CType-1 qs)

pub and_false : (b : Bool) → false ≡ (b && false)
and_false true = refl
and_false false = refl

-- lists of two lengths
pub all_same-lengths : (by : Comparison) (ds es : List Derived) → length ds ≢ length es → false ≡ all_same by ds es
all_same-lengths by [] [] h = absurd (h refl)
all_same-lengths by [] (e ∷ es) h = refl
all_same-lengths by (d ∷ ds) [] h = refl
all_same-lengths by (d ∷ ds) (e ∷ es) h =
    and_false (same_derived by d e) ∙ ap (λ (x : Bool). same_derived by d e && x) (all_same-lengths by ds es (λ q. h (ap suc q)))

pub all_agree-lengths : (by : Comparison) (ts us : List CType) → length ts ≢ length us → false ≡ all_agree by ts us
all_agree-lengths by [] [] h = absurd (h refl)
all_agree-lengths by [] (u ∷ us) h = refl
all_agree-lengths by (t ∷ ts) [] h = refl
all_agree-lengths by (t ∷ ts) (u ∷ us) h =
    and_false (agree by t u) ∙ ap (λ (x : Bool). agree by t u && x) (all_agree-lengths by ts us (λ q. h (ap suc q)))
