-- Each production of expressions is read exactly where what stands in brackets is.
use Rattle.std.specs.Prelude.{ℕ}
use Rattle.c_tree.specs.declared.expression.Level.TheVariants as level
use Rattle.c_tree.specs.Levels.Productions.{or, conditional, assignment, comma}
use Rattle.c_grammar.specs.Read.Inner.{Inner, type_name}
use Rattle.c_grammar.specs.Read.Expressions as reads
use Rattle.c_grammar.specs.Laws.Form.{Exact}
use Rattle.c_grammar.specs.Laws.Rows.{deeper}
use Rattle.c_grammar.specs.Laws.Behind.{expr_form}
use Rattle.c_grammar.specs.Laws.Levels.{binary_exact, commas_exact}
use Rattle.c_grammar.specs.Laws.Postfix.{InsideExpr}
use Rattle.c_grammar.specs.Laws.Forms.{type_form}
use Rattle.c_grammar.specs.Laws.Unary.{cast_exact}
use Rattle.c_grammar.specs.Laws.Conditional.{conditional_exact}
use Rattle.c_grammar.specs.Laws.Assignment.{assigned_exact}

module _ (more : ℕ) (inner : Inner) (inside : InsideExpr more inner) (types : Exact (deeper type_form) more (type_name inner)) where
  pub or_exact : Exact (expr_form or) more (reads.or more inner)
  unfolding reads.or reads.and reads.bit_or reads.bit_xor reads.bit_and reads.equality reads.relation reads.shift reads.sum reads.product
  or_exact =
      binary_exact level.Or more (reads.and more inner)
      (binary_exact level.And more (reads.bit_or more inner)
      (binary_exact level.BitOr more (reads.bit_xor more inner)
      (binary_exact level.BitXor more (reads.bit_and more inner)
      (binary_exact level.BitAnd more (reads.equality more inner)
      (binary_exact level.Equality more (reads.relation more inner)
      (binary_exact level.Relation more (reads.shift more inner)
      (binary_exact level.Shift more (reads.sum more inner)
      (binary_exact level.Sum more (reads.product more inner)
      (binary_exact level.Product more (reads.cast more inner) (cast_exact more inner inside types))))))))))

  pub conditional_is : Exact (expr_form conditional) more (reads.conditional more inner)
  conditional_is = conditional_exact more inner inside.comma_is or_exact

  pub assignment_is : Exact (expr_form assignment) more (reads.assignment more inner)
  unfolding reads.assignment
  assignment_is = assigned_exact more (reads.conditional more inner) conditional_is

  pub comma_is : Exact (expr_form comma) more (reads.comma more inner)
  unfolding reads.comma
  comma_is = commas_exact more (reads.assignment more inner) assignment_is

  -- the production that brackets hold, by its number
  pub expression_comma : Exact (expr_form comma) more (reads.expression more inner comma)
  unfolding reads.expression
  expression_comma = comma_is

  pub expression_assignment : Exact (expr_form assignment) more (reads.expression more inner assignment)
  unfolding reads.expression
  expression_assignment = assignment_is

  pub expression_conditional : Exact (expr_form conditional) more (reads.expression more inner conditional)
  unfolding reads.expression
  expression_conditional = conditional_is
