-- The trees of the five productions that a caller may read.
use Rattle.std.specs.Prelude.{ℕ, Bool, not, ◌||◌, IsTrue, List, map}
use Rattle.c_tree.specs.declared.expression.Expr.{Expr}
use Rattle.c_tree.specs.declared.specifier.Specifier.{Specifier}
use Rattle.c_tree.specs.declared.declarator.Declarator.{Declarator}
use Rattle.c_tree.specs.Spelling.Tokens.{joined}
use Rattle.c_tree.specs.Spelling.Trees.{expr_spelling, specifier_spelling, declarator_spelling}
use Rattle.c_tree.specs.Levels.Facts.{Use}
use Rattle.c_tree.specs.Levels.Trees.{expr_level, declarator_level}
use Rattle.c_tree.specs.Levels.Declarations.{specifiers_level}
use Rattle.c_tree.specs.Levelled.{IsExpression, IsSpecifiers, IsDeclarator}
use Rattle.c_tree.specs.Nesting.OfTrees.{deepest}
use Rattle.c_tree.specs.Nesting.Trees.{expr_nesting, specifier_nesting, declarator_nesting}
use Rattle.c_grammar.specs.Fronts.{Trees}

-- the expressions of a production: comma, assignment or conditional
abbrev pub expressions : ℕ → Trees Expr
expressions within = record { spelling = expr_spelling; levelled = IsExpression within; declares = λ names tree. (expr_level tree names).1; nesting = expr_nesting }

-- specifiers, one or more, with storage words or without
abbrev pub specifier_lists : Bool → Trees (List Specifier)
specifier_lists with_storage = record {
  spelling = λ all. joined (map specifier_spelling all);
  levelled = λ names all. IsSpecifiers names all × IsTrue (with_storage || not (specifiers_level all names).0.has_storage);
  declares = λ names all. (specifiers_level all names).1;
  nesting = λ all. deepest (map specifier_nesting all);
}

-- declarators for this use, behind specifiers that name a type or do not
abbrev pub declarators : Use → Bool → Trees Declarator
declarators purpose typed = record { spelling = declarator_spelling; levelled = IsDeclarator purpose typed; declares = λ names tree. (declarator_level tree names).1; nesting = declarator_nesting }
