-- The elements of a literal, one by one and gathered.
use Rattle.std.proofs.Common.{◌≡◌, ℕ, zero, suc, ◌+◌, ◌-◌, ◌<◌, Bool, true, false, ◌&&◌, ◌||◌, List, [], ◌∷◌, ◌++◌, length, drop, Option, Some, None, refl, sym, ap, ◌∙◌, subst, arith, add-zero, append_assoc}
use Rattle.std.proofs.lemmas.List.{append-nil}
use Rattle.c_lexer.specs.declared.literal.Body.{Body}
use Rattle.c_lexer.specs.declared.literal.Body.TheVariants as body
use Rattle.c_lexer.specs.declared.literal.Element.{Element}
use Rattle.c_lexer.specs.declared.literal.Element.TheVariants as element
use Rattle.c_lexer.specs.declared.literal.Opening.{Opening}
use Rattle.c_lexer.specs.Fronts.{Text, is_empty}
use Rattle.c_lexer.specs.Literals.{is_single_quote, element_of, elements_from, first_bad, has_universal, values, reading_of_elements}
use Rattle.c_lexer.specs.Scan.{body_from, body_of, reading_of_body}

-- what is left of an element is skipped
elements_from-skip : (left at : ℕ) (inside : Text) → elements_from left at inside ≡ elements_from 0 (at + left) (drop left inside)
elements_from-skip zero at inside = ap (λ n. elements_from 0 n inside) (sym (add-zero at))
elements_from-skip (suc left) at [] = refl
elements_from-skip (suc left) at (b ∷ inside) =
    let e : (at + 1) + left ≡ at + suc left = omega arith in
    elements_from-skip left (at + 1) inside ∙ ap (λ n. elements_from 0 n (drop left inside)) e

elements_from-rest : (at n b : ℕ) (inside : Text) → 0 < n → elements_from (n - 1) (at + 1) inside ≡ elements_from 0 (at + n) (drop n (b ∷ inside))
elements_from-rest at zero b inside h = absurd (omega arith)
elements_from-rest at (suc n) b inside h =
    let e : suc n - 1 ≡ n = omega arith in
    let s : (at + 1) + n ≡ at + suc n = omega arith in
    ap (λ k. elements_from k (at + 1) inside) e ∙ elements_from-skip n (at + 1) inside ∙ ap (λ k. elements_from 0 k (drop n inside)) s

elements_from-front : (at : ℕ) (inside : Text) → 0 < length inside → 0 < (element_of inside).1
    → elements_from 0 at inside ≡ (at, (element_of inside).0) ∷ elements_from 0 (at + (element_of inside).1) (drop (element_of inside).1 inside)
elements_from-front at [] h k = absurd (omega arith)
elements_from-front at (b ∷ inside) h k =
    ap (λ es. (at, (element_of (b ∷ inside)).0) ∷ es) (elements_from-rest at (element_of (b ∷ inside)).1 b inside k)

-- the element in front, by its result
pub elements_from-step : (at : ℕ) (inside : Text) (found : Element × ℕ) → found ≡ element_of inside → 0 < length inside → 0 < found.1
    → elements_from 0 at inside ≡ (at, found.0) ∷ elements_from 0 (at + found.1) (drop found.1 inside)
elements_from-step at inside found e h k =
    subst (λ (f : Element × ℕ). 0 < f.1 → elements_from 0 at inside ≡ (at, f.0) ∷ elements_from 0 (at + f.1) (drop f.1 inside)) (sym e) (elements_from-front at inside h) k

-- what is gathered, by the first bad element, whether there is a universal one, and the values
abbrev body_by : Option ℕ → Bool → List ℕ → Body
body_by (Some at) universal values = body.Bad at
body_by None true values = body.Universal
body_by None false values = body.Values values

body_by-nil : (universal : Bool) (vs : List ℕ) → body_from universal vs [] ≡ body_by None (universal || false) (vs ++ [])
body_by-nil true vs = refl
body_by-nil false vs = ap body.Values (sym (append-nil vs))

or_true : (a b : Bool) → (true || b) ≡ (a || true)
or_true true b = refl
or_true false b = refl

body_from-is : (universal : Bool) (vs : List ℕ) (elements : List (ℕ × Element))
    → body_from universal vs elements ≡ body_by (first_bad elements) (universal || has_universal elements) (vs ++ values elements)
body_from-is universal vs [] = body_by-nil universal vs
body_from-is universal vs ((at, element.Byte v) ∷ elements) =
    body_from-is universal (vs ++ v ∷ []) elements ∙ ap (body_by (first_bad elements) (universal || has_universal elements)) (append_assoc vs (v ∷ []) (values elements))
body_from-is universal vs ((at, element.Universal) ∷ elements) =
    body_from-is true vs elements ∙ ap (λ u. body_by (first_bad elements) u (vs ++ values elements)) (or_true universal (has_universal elements))
body_from-is universal vs ((at, element.Bad) ∷ elements) = refl

reading_by : (o : Opening) (elements : List (ℕ × Element)) (bad : Option ℕ) (universal : Bool) → (is_single_quote o.quote && is_empty elements) ≡ false → has_universal elements ≡ universal
    → reading_of_body o (body_by bad universal (values elements)) ≡ reading_of_elements o elements bad
reading_by o elements (Some at) universal h e = refl
reading_by o elements None true h e = rw (h, e)
reading_by o elements None false h e = rw (h, e)

-- what is gathered is read as the elements are
pub reading_of_gathered : (o : Opening) (elements : List (ℕ × Element)) → (is_single_quote o.quote && is_empty elements) ≡ false
    → reading_of_body o (body_of elements) ≡ reading_of_elements o elements (first_bad elements)
reading_of_gathered o elements h =
    ap (reading_of_body o) (body_from-is false [] elements) ∙ reading_by o elements (first_bad elements) (has_universal elements) h refl

pub elements_from-nonempty : (at : ℕ) (inside : Text) → 0 < length inside → is_empty (elements_from 0 at inside) ≡ false
elements_from-nonempty at [] h = absurd (omega arith)
elements_from-nonempty at (b ∷ inside) h = refl
