-- The productions with a limit on brackets: the recursion is on how many more may be opened.
use Rattle.std.specs.Prelude.{ℕ, zero, suc, Bool, List}
use Rattle.c_tree.specs.declared.expression.Expr.{Expr}
use Rattle.c_tree.specs.declared.specifier.Specifier.{Specifier}
use Rattle.c_tree.specs.declared.declarator.Declarator.{Declarator}
use Rattle.c_tree.specs.Levels.Facts.{Use}
use Rattle.c_grammar.specs.Input.{Parser, too_deep}
use Rattle.c_grammar.specs.Read.Inner.{Inner}
use Rattle.c_grammar.specs.Read.Expressions.{expression as read_expression}
use Rattle.c_grammar.specs.Read.Specifiers.{specifiers as read_specifiers}
use Rattle.c_grammar.specs.Read.Declarators.{declarator as read_declarator}

-- what stands inside brackets, where no more may be opened
abbrev pub nowhere : Inner
nowhere = record { expr = λ _. too_deep; specifiers = λ _. too_deep; declarator = λ _ _. too_deep }

-- each production, where so many brackets may be opened
abbrev pub around : ℕ → Inner → Inner
around more inner = record {
  expr = read_expression more inner;
  specifiers = read_specifiers more inner;
  declarator = read_declarator more inner;
}

-- What stands inside brackets, where so many could be opened with the one around it.
unfoldable pub inside : ℕ → Inner
inside zero = nowhere
inside (suc more) = around more (inside more)

-- ---- the productions, where so many brackets may be opened

-- an expression: `within` is comma, assignment or conditional
unfoldable pub expression : ℕ → ℕ → Parser Expr
expression more within = (inside (suc more)).expr within

unfoldable pub specifiers : ℕ → Bool → Parser (List Specifier)
specifiers more with_storage = (inside (suc more)).specifiers with_storage

unfoldable pub declarator : ℕ → Use → Bool → Parser Declarator
declarator more purpose typed = (inside (suc more)).declarator purpose typed
