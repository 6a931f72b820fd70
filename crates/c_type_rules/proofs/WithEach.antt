-- The items of a list that is put together with another one, one after another,
-- and composite rows of types and derivations as lists.
use Rattle.std.proofs.Common.{◌≡◌, ◌∙◌, refl, ap, sym, ℕ, zero, suc, ◌+◌, ◌<◌, true, false, Bor, List, [], ◌∷◌, ◌++◌, Option, Some, None, is_some, option_copied, nat_lt, length, take, get_or, arith, add-one}
use Rattle.std.specs.Prelude.{slice_get}
use Rattle.std.specs.Option.{IfSome}
use Rattle.std.proofs.lemmas.Option.{slice_get_read, slice_get_past}
use Rattle.std.proofs.lemmas.List.{take_more}
use Rattle.c_tree.specs.declared.typed.types.Derived.{Derived, roll-Derived, roll-out-Derived, Row_of-CType, end_of-CType, more_of-CType, Row_of-Derived, end_of-Derived, more_of-Derived, items-the_row-CType, items-the_row-Derived, items_hidden-the_row-CType-1, items_shown-the_row-CType-1, items_shown-the_row-Derived-0}
use Rattle.c_tree.specs.declared.typed.types.Derived.TheVariants as derived
use Rattle.c_tree.specs.declared.typed.types.Derived.TheBlock.{hidden-the_row-CType-1, shown-the_row-CType-1, shown-the_row-Derived-0}
use Rattle.c_tree.specs.declared.typed.types.CType.{CType}
use Rattle.c_typing.specs.Types.{made, composite_derived, composite_derivations, composite_types, with_each, composite}
use Rattle.c_type_rules.specs.Composites.{item_with}

-- ---- lists

one_more : {A : Type 0} (f : A → A → A) (xs ys : List A) (i : ℕ) (x : A) → i < length xs → x ≡ get_or xs i x →
    take (suc i) (with_each f xs ys) ≡ take i (with_each f xs ys) ++ item_with f x (slice_get ys i) ∷ []
one_more f [] ys i x below is = absurd (omega (arith, below))
one_more {A} f (z ∷ xs) [] i x below is =
    ap (λ (n : ℕ). take n (z ∷ xs)) (sym (add-one i)) ∙ take_more (z ∷ xs) i x below ∙ ap (λ (y : A). take i (z ∷ xs) ++ y ∷ []) (sym is)
one_more {A} f (z ∷ xs) (y ∷ ys) zero x below is = ap (λ (w : A). f w y ∷ []) (sym is)
one_more {A} f (z ∷ xs) (y ∷ ys) (suc i) x below is = ap (λ (l : List A). f z y ∷ l) (one_more f xs ys i x (omega (arith, below)) is)

pub next : {A : Type 0} (f : A → A → A) (xs ys held now : List A) (i : ℕ) (x made : A) → i < length xs → x ≡ get_or xs i x →
    held ≡ take i (with_each f xs ys) → made ≡ item_with f x (slice_get ys i) → now ≡ held ++ made ∷ [] → now ≡ take (i + 1) (with_each f xs ys)
next {A} f xs ys held now i x made below is h m n =
    n ∙ ap (λ (l : List A). l ++ made ∷ []) h ∙ ap (λ (y : A). take i (with_each f xs ys) ++ y ∷ []) m
    ∙ sym (one_more f xs ys i x below is) ∙ ap (λ (k : ℕ). take k (with_each f xs ys)) (sym (add-one i))

pub same_length : {A : Type 0} (f : A → A → A) (xs ys : List A) → length (with_each f xs ys) ≡ length xs
same_length f [] ys = refl
same_length f (x ∷ xs) [] = refl
same_length f (x ∷ xs) (y ∷ ys) = ap suc (same_length f xs ys)

-- what a borrowed list lends at a place
pub lent_at : {A : Type 0} (o : Option (Bor A)) (xs : List A) (i : ℕ) → is_some o ≡ nat_lt i (length xs) → IfSome o (λ x. x.now ≡ get_or xs i x.now) →
    option_copied o ≡ slice_get xs i
lent_at (Some x) xs i h g = let below : nat_lt i (length xs) ≡ true = sym h in sym (slice_get_read xs (length xs) i x.now refl (grind (arith, below)) g)
lent_at None xs i h g = let past : nat_lt i (length xs) ≡ false = sym h in sym (slice_get_past xs i (grind (arith, past)))

-- ---- rows

derivations-row : {m n : _} (ds : Row_of-Derived m) (es : Row_of-Derived n) →
    items-the_row-Derived _ (composite_derivations ds es) ≡ with_each composite_derived (items-the_row-Derived _ ds) (items-the_row-Derived _ es)
derivations-row end_of-Derived es = refl
derivations-row (more_of-Derived d ds) end_of-Derived = refl
derivations-row (more_of-Derived d ds) (more_of-Derived e es) = ap (λ (l : List Derived). composite_derived d e ∷ l) (derivations-row ds es)

derivations-shown : (m n : _) (ds : Row_of-Derived _) (es : Row_of-Derived _) →
    shown-the_row-Derived-0 m (composite_derivations ds es) ≡ with_each composite_derived (shown-the_row-Derived-0 m ds) (shown-the_row-Derived-0 n es)
derivations-shown m n ds es =
    items_shown-the_row-Derived-0 m (composite_derivations ds es) ∙ derivations-row ds es
    ∙ ap (λ (l : List Derived). with_each composite_derived l (items-the_row-Derived _ es)) (sym (items_shown-the_row-Derived-0 m ds))
    ∙ ap (with_each composite_derived (shown-the_row-Derived-0 m ds)) (sym (items_shown-the_row-Derived-0 n es))

types-row : {m n : _} (ts : Row_of-CType m) (us : Row_of-CType n) →
    items-the_row-CType _ (composite_types ts us) ≡ with_each composite (items-the_row-CType _ ts) (items-the_row-CType _ us)
types-row end_of-CType us = refl
types-row (more_of-CType b c j ds ts) end_of-CType = refl
types-row (more_of-CType b c j ds ts) (more_of-CType d k i es us) =
    ap (λ (l : List Derived). made b c l ∷ items-the_row-CType _ (composite_types ts us)) (derivations-shown j i ds es)
    ∙ ap (λ (l : List CType). made b c (with_each composite_derived (shown-the_row-Derived-0 j ds) (shown-the_row-Derived-0 i es)) ∷ l) (types-row ts us)

-- a function by the list of its parameters
function_of : (n : _) (row : Row_of-CType _) → derived.Function' n row ≡ derived.Function (items-the_row-CType _ row)
function_of n row =
    sym (roll-out-Derived (derived.Function' n row)) ∙ ap roll-Derived (derived.outs-Function' n row)
    ∙ derived.rolls-Function (shown-the_row-CType-1 n row) ∙ ap derived.Function (items_shown-the_row-CType-1 n row)

pub parameters-composite : (ps qs : List CType) →
    composite_derived (derived.Function ps) (derived.Function qs) ≡ derived.Function (with_each composite ps qs)
parameters-composite ps qs =
    let r = hidden-the_row-CType-1 ps in let s = hidden-the_row-CType-1 qs in
    function_of _ (composite_types r s)
    ∙ ap derived.Function (types-row r s
    ∙ ap (λ (l : List CType). with_each composite l (items-the_row-CType _ s)) (items_hidden-the_row-CType-1 ps)
    ∙ ap (with_each composite ps) (items_hidden-the_row-CType-1 qs))
