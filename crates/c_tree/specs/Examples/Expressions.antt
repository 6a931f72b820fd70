-- Examples of expressions, each computed from the definitions.
use Rattle.std.specs.Prelude.{◌≡◌, true, false, [], ◌∷◌}
use Rattle.c_tree.specs.declared.token.Punct.TheVariants as p
use Rattle.c_tree.specs.declared.expression.Level.TheVariants as level
use Rattle.c_tree.specs.declared.expression.Expr.{Expr}
use Rattle.c_tree.specs.Levels.Productions.{primary, bit_and, conditional, assignment, none}
use Rattle.c_tree.specs.Levels.Trees.{expr_level}
use Rattle.c_tree.specs.Nesting.Trees.{expr_nesting}
use Rattle.c_tree.specs.Examples.Built.{named, named-level, named-nesting, paren, paren-level, paren-nesting, binary, binary-level, binary-nesting, assigned, assigned-level, chosen, chosen-level, chosen-nesting}

ruleset levels = (named-level, paren-level, binary-level, assigned-level, chosen-level)

ruleset nestings = (named-nesting, paren-nesting, binary-nesting, chosen-nesting)

abbrev a : Expr
a = named 97

abbrev b : Expr
b = named 98

abbrev c : Expr
c = named 99

-- `a & b == c` is `a & (b == c)`
pub equality_binds_tighter : expr_level (binary level.BitAnd a p.Ampersand (binary level.Equality b p.Equal c)) [] ≡ (bit_and, [])
equality_binds_tighter = simp levels

-- and not `(a & b) == c`
pub and_is_looser : expr_level (binary level.Equality (binary level.BitAnd a p.Ampersand b) p.Equal c) [] ≡ (none, [])
and_is_looser = simp levels

-- where brackets stand, they are a node
pub and_in_brackets : expr_level (binary level.BitAnd (paren (binary level.Equality a p.Equal b)) p.Ampersand c) [] ≡ (bit_and, [])
and_in_brackets = simp levels

-- operators of one level in a row are one node: `a - (b - c)` is not `a - b - c`, and `(a - b) - c` is no tree of its own
pub no_tree_to_the_right : expr_level (binary level.Sum a p.Minus (binary level.Sum b p.Minus c)) [] ≡ (none, [])
no_tree_to_the_right = simp levels

pub no_tree_to_the_left : expr_level (binary level.Sum (binary level.Sum a p.Minus b) p.Minus c) [] ≡ (none, [])
no_tree_to_the_left = simp levels

-- an operator stands at its own level
pub minus_is_no_product : expr_level (binary level.Product a p.Minus b) [] ≡ (none, [])
minus_is_no_product = simp levels

-- `a = b` and `(a) = b`, and never `a + b = c`
pub name_is_assigned : expr_level (assigned a p.Assign b) [] ≡ (assignment, [])
name_is_assigned = simp levels

pub brackets_are_assigned : expr_level (assigned (paren a) p.PlusAssign b) [] ≡ (assignment, [])
brackets_are_assigned = simp levels

pub sum_is_not_assigned : expr_level (assigned (binary level.Sum a p.Plus b) p.Assign c) [] ≡ (none, [])
sum_is_not_assigned = simp levels

-- `a ? b = c : a` and never `a ? b : c = a` as one conditional
pub conditional_gives_any : expr_level (chosen a (assigned b p.Assign c) a) [] ≡ (conditional, [])
conditional_gives_any = simp levels

pub conditional_ends_before_assignment : expr_level (chosen a b (assigned c p.Assign a)) [] ≡ (none, [])
conditional_ends_before_assignment = simp levels

-- a typedef name is no primary, and is one again where an inner declaration hides it
pub typedef_name_is_no_primary : expr_level a ((97 ∷ [], true) ∷ []) ≡ (none, [])
typedef_name_is_no_primary = simp levels

pub typedef_name_is_hidden : expr_level a ((97 ∷ [], true) ∷ ((97 ∷ [], false) ∷ [])) ≡ (primary, [])
typedef_name_is_hidden = simp levels

pub typedef_name_is_visible_again : expr_level a ((97 ∷ [], false) ∷ ((98 ∷ [], false) ∷ ((97 ∷ [], true) ∷ []))) ≡ (none, [])
typedef_name_is_visible_again = simp levels

-- ---- nesting

-- `((a))` is in two brackets, and a row of brackets no deeper than one
pub two_brackets : expr_nesting (paren (paren a)) ≡ 2
two_brackets = simp nestings

pub brackets_in_a_row : expr_nesting (binary level.Sum (paren a) p.Plus (paren b)) ≡ 1
brackets_in_a_row = simp nestings

-- `?` and its `:` are round what stands between, not round what stands behind
pub between_question_and_colon : expr_nesting (chosen a (paren b) c) ≡ 2
between_question_and_colon = simp nestings

pub behind_the_colon : expr_nesting (chosen a b (paren c)) ≡ 1
behind_the_colon = simp nestings
