-- From one depth to the next: where brackets hold what is read exactly, so does each production around them.
use Rattle.std.specs.Prelude.{ℕ, zero, suc, ◌+◌, Bool, false, List, None}
use Rattle.std.proofs.Common.{ap, ◌∙◌, arith}
use Rattle.c_tree.specs.declared.expression.TypeName.{roll-TypeName, roll-out-TypeName}
use Rattle.c_tree.specs.declared.specifier.Specifier.{Specifier}
use Rattle.c_tree.specs.declared.declarator.Declarator.{Declarator}
use Rattle.c_tree.specs.Spelling.Trees.{type_name_spelling-is}
use Rattle.c_tree.specs.Levels.Productions.{conditional, assignment, comma}
use Rattle.c_tree.specs.Levels.Facts.{Use, Abstract}
use Rattle.c_grammar.specs.Laws.Told.{type_name_level-is}
use Rattle.c_tree.specs.Nesting.Trees.{type_name_nesting-is}
use Rattle.c_grammar.specs.Input.{Parser, too_deep}
use Rattle.c_grammar.specs.Read.Nodes.{name_type}
use Rattle.c_grammar.specs.Read.Inner.{Inner, type_name}
use Rattle.c_grammar.specs.Read.Expressions.{expression as read_expression}
use Rattle.c_grammar.specs.Read.Specifiers.{specifiers as read_specifiers}
use Rattle.c_grammar.specs.Read.Declarators.{declarator as read_declarator, parameter, next_parameter}
use Rattle.c_grammar.specs.Read.Depth.{inside, expression, specifiers, declarator}
use Rattle.c_grammar.specs.Laws.Form.{Form, Exact, Node, Image, only, node_exact, same_exact, whole_exact, two, open_seq, open_exact}
use Rattle.c_grammar.specs.Laws.Rows.{deeper}
use Rattle.c_grammar.specs.Laws.Behind.{expr_form}
use Rattle.c_grammar.specs.Laws.Postfix.{InsideExpr}
use Rattle.c_grammar.specs.Laws.Forms.{specifiers_form, declarator_form, type_form}
use Rattle.c_grammar.specs.Laws.TypeNames.{type_of_parts, parts_of_type, type_good, type_parts_good}
use Rattle.c_grammar.specs.Laws.DeclaratorFacts.{nothing_adds, spelt_none}
use Rattle.c_grammar.specs.Laws.Parameters.{first_parameter, next_form, first_exact, next_exact, specifiers_follow}
use Rattle.c_grammar.specs.Laws.Expressions.{expression_comma, expression_assignment, expression_conditional}
use Rattle.c_grammar.specs.Laws.Declarators.{declarator_exact}
use Rattle.c_grammar.specs.Laws.Specifiers.{specifiers_exact}

-- what stands in brackets is read exactly
pub record Inside (more : ℕ) (inner : Inner) : Type 0 where
  pub comma_is : Exact (deeper (expr_form comma)) more (inner.expr comma)
  pub assignment_is : Exact (deeper (expr_form assignment)) more (inner.expr assignment)
  pub conditional_is : Exact (deeper (expr_form conditional)) more (inner.expr conditional)
  pub specifiers_are : (with_storage : Bool) → Exact (deeper (specifiers_form with_storage)) more (inner.specifiers with_storage)
  pub declarators_are : (purpose : Use) (typed : Bool) → Exact (deeper (declarator_form purpose typed)) more (inner.declarator purpose typed)

-- ---- type names

abbrev raised : Form (List Specifier × Declarator)
raised = open_seq (deeper (specifiers_form false)) (λ specifiers. deeper (declarator_form Abstract (name_type specifiers)))

type_node : Node raised type_of_parts (deeper type_form)
type_node = record {
  good = λ names t g. type_good names t g;
  parts = λ names t g. type_parts_good names (type_of_parts t) g;
  nested = λ t. ap (λ n. n + 1) (type_name_nesting-is (type_of_parts t)) ∙ omega arith;
  spelt = λ t. type_name_spelling-is (type_of_parts t);
  seen = λ names t. ap (λ f. (f names).1) (type_name_level-is (type_of_parts t));
  stop = λ names t behind rest g h. h;
  from_stop = λ names t behind rest g h. h;
}

pub type_name_exact : (more : ℕ) (inner : Inner) → Inside more inner → Exact (deeper type_form) more (type_name inner)
unfolding type_name
type_name_exact more inner i =
    whole_exact (Image type_of_parts) (deeper type_form) more _ (λ names t g. (parts_of_type t, roll-out-TypeName t))
    (same_exact (only (Image type_of_parts) (deeper type_form)) more _ (type_name inner)
    (two (inner.specifiers false) (λ specifiers. inner.declarator Abstract (name_type specifiers)) (λ specifiers d. roll-TypeName (record { specifiers = specifiers; declarator = d })))
    (node_exact raised type_of_parts (deeper type_form) more _
    (open_exact (deeper (specifiers_form false)) (λ specifiers. deeper (declarator_form Abstract (name_type specifiers))) more (inner.specifiers false) _ (i.specifiers_are false) (λ specifiers. i.declarators_are Abstract (name_type specifiers))
    (λ names specifiers d g e. nothing_adds d names (spelt_none d e))
    (λ names specifiers d t ts rest g h e. specifiers_follow false Abstract specifiers _ d t ts rest h e)) type_node))

-- ---- the productions around brackets

module _ (more : ℕ) (inner : Inner) (i : Inside more inner) where
  in_expressions : InsideExpr more inner
  in_expressions = record { comma_is = i.comma_is; assignment_is = i.assignment_is }

  firsts : Exact first_parameter more (parameter more inner None)
  firsts = first_exact more inner i.specifiers_are i.declarators_are

  nexts : Exact next_form more (next_parameter more inner)
  nexts = next_exact more inner i.specifiers_are i.declarators_are

  pub comma_around : Exact (expr_form comma) more (read_expression more inner comma)
  comma_around = expression_comma more inner in_expressions (type_name_exact more inner i)

  pub assignment_around : Exact (expr_form assignment) more (read_expression more inner assignment)
  assignment_around = expression_assignment more inner in_expressions (type_name_exact more inner i)

  pub conditional_around : Exact (expr_form conditional) more (read_expression more inner conditional)
  conditional_around = expression_conditional more inner in_expressions (type_name_exact more inner i)

  pub specifiers_around : (with_storage : Bool) → Exact (specifiers_form with_storage) more (read_specifiers more inner with_storage)
  specifiers_around w = specifiers_exact w more inner i.specifiers_are i.declarators_are i.conditional_is

  pub declarator_around : (purpose : Use) (typed : Bool) → Exact (declarator_form purpose typed) more (read_declarator more inner purpose typed)
  declarator_around purpose typed = declarator_exact more inner purpose typed i.conditional_is firsts nexts (i.declarators_are purpose typed)

-- ---- one bracket more

raise : {A : Type 0} (F : Form A) (more : ℕ) (p : Parser A) → Exact F more p → Exact (deeper F) (suc more) p
raise F more p exact = record {
  sound = λ names ts x s h. let g = exact.sound names ts x s h in let n = g.nested in record { good = g.good; nested = omega arith; spelt = g.spelt; seen = g.seen; stops = g.stops };
  complete = λ names x rest g n s. exact.complete names x rest g (omega arith) s;
}

none_deeper : {A : Type 0} (F : Form A) → Exact (deeper F) 0 too_deep
none_deeper F = record { sound = λ names ts x s h. absurd cc; complete = λ names x rest g n s. absurd (omega arith) }

-- at each depth
pub inside_exact : (more : ℕ) → Inside more (inside more)
unfolding inside
inside_exact zero = record {
  comma_is = none_deeper (expr_form comma);
  assignment_is = none_deeper (expr_form assignment);
  conditional_is = none_deeper (expr_form conditional);
  specifiers_are = λ w. none_deeper (specifiers_form w);
  declarators_are = λ purpose typed. none_deeper (declarator_form purpose typed);
}
inside_exact (suc more) = record {
  comma_is = raise (expr_form comma) more _ (comma_around more (inside more) (inside_exact more));
  assignment_is = raise (expr_form assignment) more _ (assignment_around more (inside more) (inside_exact more));
  conditional_is = raise (expr_form conditional) more _ (conditional_around more (inside more) (inside_exact more));
  specifiers_are = λ w. raise (specifiers_form w) more _ (specifiers_around more (inside more) (inside_exact more) w);
  declarators_are = λ purpose typed. raise (declarator_form purpose typed) more _ (declarator_around more (inside more) (inside_exact more) purpose typed);
}

-- ---- the five productions

pub comma_read : (more : ℕ) → Exact (expr_form comma) more (expression more comma)
unfolding expression inside
comma_read more = comma_around more (inside more) (inside_exact more)

pub assignment_read : (more : ℕ) → Exact (expr_form assignment) more (expression more assignment)
unfolding expression inside
assignment_read more = assignment_around more (inside more) (inside_exact more)

pub conditional_read : (more : ℕ) → Exact (expr_form conditional) more (expression more conditional)
unfolding expression inside
conditional_read more = conditional_around more (inside more) (inside_exact more)

pub specifiers_read : (more : ℕ) (with_storage : Bool) → Exact (specifiers_form with_storage) more (specifiers more with_storage)
unfolding specifiers inside
specifiers_read more w = specifiers_around more (inside more) (inside_exact more) w

pub declarator_read : (more : ℕ) (purpose : Use) (typed : Bool) → Exact (declarator_form purpose typed) more (declarator more purpose typed)
unfolding declarator inside
declarator_read more purpose typed = declarator_around more (inside more) (inside_exact more) purpose typed
