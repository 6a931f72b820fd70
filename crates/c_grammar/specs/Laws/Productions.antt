-- The laws of the five productions.
use Rattle.std.specs.Prelude.{◌≡◌, ℕ, ◌≤◌, ◌<◌, Bool, true, false, nat_le, List, ◌∷◌, Some, refl}
use Rattle.std.proofs.Common.{sym, ◌∙◌, subst, arith, ◌⊎◌, inl, inr}
use Rattle.c_tree.specs.declared.token.Token.{Token}
use Rattle.c_tree.specs.declared.expression.Expr.{Expr}
use Rattle.c_tree.specs.declared.specifier.Specifier.{Specifier}
use Rattle.c_tree.specs.Levels.Names.{Names}
use Rattle.c_tree.specs.Levels.Productions.{conditional, assignment, comma, none}
use Rattle.c_tree.specs.Levels.Facts.{Use}
use Rattle.c_tree.specs.Levels.Trees.{expr_level}
use Rattle.c_grammar.specs.Input.{Tokens, peek}
use Rattle.c_grammar.specs.Read.Depth.{expression, specifiers, declarator}
use Rattle.c_grammar.specs.Ending.Trees.{expr_ending}
use Rattle.c_grammar.specs.Fronts.{OkAtFront, SpellingIsUnique, FrontIsUnique, DeclaresNoTypedefs}
use Rattle.c_grammar.specs.Productions.{expressions, specifier_lists, declarators}
use Rattle.c_grammar.specs.Laws.Behind.{goes_on, expr_form, nat_le-true, nat_le-false, before_end}
use Rattle.c_grammar.specs.Laws.Starts.{peek_first}
use Rattle.c_grammar.specs.Laws.Forms.{specifiers_form, declarator_form}
use Rattle.c_grammar.specs.Laws.TypeNames.{form_told, form_is}
use Rattle.c_grammar.specs.Laws.Front.{Longer, Stops, front_unique, unique, ok_at_front, ok_to, unique_to}
use Rattle.c_grammar.specs.Laws.GrowExpressions.{Grows, grows_conditional, grows_assignment, grows_comma}
use Rattle.c_grammar.specs.Laws.GrowSpecifiers.{specifiers_stop}
use Rattle.c_grammar.specs.Laws.GrowDeclarators.{declarator_stops}
use Rattle.c_grammar.specs.Laws.Typedefs.{expression_plain, specifiers_plain, declarator_plain}
use Rattle.c_grammar.specs.Laws.Depth.{comma_read, assignment_read, conditional_read, specifiers_read, declarator_read}

-- ---- where expressions stop

module _ (within : ℕ) (low : within < none) (tight : Grows within) where
  by_test : (names : Names) (x : Expr) (t : Token) (rest : Tokens) (b : Bool) → (expr_level x names).0 ≤ within → nat_le (goes_on (expr_ending x) (Some t.kind)) within ≡ b
      → (within < goes_on (expr_ending x) (peek (t ∷ rest))) ⊎ Longer (expr_form within) names x t
  by_test names x t rest true g e = inr (tight names x t g (nat_le-true (goes_on (expr_ending x) (Some t.kind)) within e))
  by_test names x t rest false g e = inl (subst (λ o. within < goes_on (expr_ending x) o) (sym (peek_first t rest)) (nat_le-false (goes_on (expr_ending x) (Some t.kind)) within e))

  expression_stops : Stops (expr_form within)
  expression_stops = record {
    next = λ names x behind t a b g h. subst (λ o. within < goes_on (expr_ending x) o) (peek_first t a ∙ sym (peek_first t b)) h;
    end = λ names x behind g. before_end within (expr_ending x) low;
    grows = λ names x t rest g. by_test names x t rest (nat_le (goes_on (expr_ending x) (Some t.kind)) within) g refl;
  }

-- ---- Ok comes exactly at the longest front

abbrev pub CommasAtFront : Type 0
CommasAtFront = (more : ℕ) → OkAtFront (expressions comma) more (expression more comma)

abbrev pub AssignmentsAtFront : Type 0
AssignmentsAtFront = (more : ℕ) → OkAtFront (expressions assignment) more (expression more assignment)

abbrev pub ConditionalsAtFront : Type 0
ConditionalsAtFront = (more : ℕ) → OkAtFront (expressions conditional) more (expression more conditional)

abbrev pub SpecifiersAtFront : Type 0
SpecifiersAtFront = (with_storage : Bool) (more : ℕ) → OkAtFront (specifier_lists with_storage) more (specifiers more with_storage)

abbrev pub DeclaratorsAtFront : Type 0
DeclaratorsAtFront = (purpose : Use) (typed : Bool) (more : ℕ) → OkAtFront (declarators purpose typed) more (declarator more purpose typed)

pub commas_at_front : CommasAtFront
commas_at_front more = ok_at_front (expr_form comma) (expression_stops comma (omega arith) grows_comma) (λ n. expression n comma) comma_read more

pub assignments_at_front : AssignmentsAtFront
assignments_at_front more = ok_at_front (expr_form assignment) (expression_stops assignment (omega arith) grows_assignment) (λ n. expression n assignment) assignment_read more

pub conditionals_at_front : ConditionalsAtFront
conditionals_at_front more = ok_at_front (expr_form conditional) (expression_stops conditional (omega arith) grows_conditional) (λ n. expression n conditional) conditional_read more

pub declarators_at_front : DeclaratorsAtFront
declarators_at_front purpose typed more = ok_at_front (declarator_form purpose typed) (declarator_stops purpose typed) (λ n. declarator n purpose typed) (λ n. declarator_read n purpose typed) more

form_to : (w : Bool) (names : Names) (xs : List Specifier) → (specifiers_form w).good names xs → (specifier_lists w).levelled names xs
form_to w names xs g = form_told w names xs g

form_from : (w : Bool) (names : Names) (xs : List Specifier) → (specifier_lists w).levelled names xs → (specifiers_form w).good names xs
form_from w names xs g = form_is w names xs g.0 g.1

pub specifiers_at_front : SpecifiersAtFront
specifiers_at_front w more =
    ok_to (λ xs names. (specifiers_form w).good names xs) (λ xs names. (specifier_lists w).levelled names xs) (specifiers_form w).spell (specifiers_form w).adds (specifiers_form w).nest (form_to w) (form_from w) more (specifiers more w)
    (ok_at_front (specifiers_form w) (specifiers_stop w) (λ n. specifiers n w) (λ n. specifiers_read n w) more)

-- ---- one spelling, one tree

abbrev pub ExpressionsAreUnique : Type 0
ExpressionsAreUnique = SpellingIsUnique (expressions comma)

abbrev pub SpecifiersAreUnique : Type 0
SpecifiersAreUnique = (with_storage : Bool) → SpellingIsUnique (specifier_lists with_storage)

abbrev pub DeclaratorsAreUnique : Type 0
DeclaratorsAreUnique = (purpose : Use) (typed : Bool) → SpellingIsUnique (declarators purpose typed)

pub expressions_are_unique : ExpressionsAreUnique
expressions_are_unique = unique (expr_form comma) (expression_stops comma (omega arith) grows_comma) (λ n. expression n comma) comma_read

pub declarators_are_unique : DeclaratorsAreUnique
declarators_are_unique purpose typed = unique (declarator_form purpose typed) (declarator_stops purpose typed) (λ n. declarator n purpose typed) (λ n. declarator_read n purpose typed)

pub specifiers_are_unique : SpecifiersAreUnique
specifiers_are_unique w =
    unique_to (λ xs names. (specifiers_form w).good names xs) (λ xs names. (specifier_lists w).levelled names xs) (specifiers_form w).spell (specifiers_form w).adds (specifiers_form w).nest (form_to w) (form_from w)
    (unique (specifiers_form w) (specifiers_stop w) (λ n. specifiers n w) (λ n. specifiers_read n w))

-- ---- one longest front

abbrev pub FrontsAreUnique : Type 0
FrontsAreUnique = ((within : ℕ) → FrontIsUnique (expressions within)) × ((with_storage : Bool) → FrontIsUnique (specifier_lists with_storage)) × ((purpose : Use) (typed : Bool) → FrontIsUnique (declarators purpose typed))

pub fronts_are_unique : FrontsAreUnique
fronts_are_unique = ((λ within. front_unique (expressions within)), (λ w. front_unique (specifier_lists w)), (λ purpose typed. front_unique (declarators purpose typed)))

-- ---- what is declared is no typedef name

abbrev pub NoTypedefsDeclared : Type 0
NoTypedefsDeclared = ((within : ℕ) → DeclaresNoTypedefs (expressions within)) × ((with_storage : Bool) → DeclaresNoTypedefs (specifier_lists with_storage)) × ((purpose : Use) (typed : Bool) → DeclaresNoTypedefs (declarators purpose typed))

pub no_typedefs_declared : NoTypedefsDeclared
no_typedefs_declared = ((λ within. expression_plain), (λ w. specifiers_plain), (λ purpose typed. declarator_plain))
