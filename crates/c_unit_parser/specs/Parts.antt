-- Parts of the productions: the lists that a function of the parser reads whole.
-- The first item is read with the others, or is given.
use Rattle.std.specs.Prelude.{ℕ, Bool, true, List}
use Rattle.c_tree.specs.declared.token.Punct.TheVariants as p
use Rattle.c_tree.specs.declared.specifier.Specifier.{Specifier}
use Rattle.c_tree.specs.declared.declaration.InitialiserItem.{InitialiserItem}
use Rattle.c_tree.specs.declared.declaration.InitDeclarator.{InitDeclarator}
use Rattle.c_tree.specs.declared.statement.Else.{Else}
use Rattle.c_tree.specs.declared.statement.BlockItem.{BlockItem}
use Rattle.c_tree.specs.declared.unit.External.{External}
use Rattle.c_grammar.specs.Input.{Parser, ◌>>=◌, sees, many, many_by}
use Rattle.c_expr_parser.specs.Parts.{more_items}
use Rattle.c_unit_grammar.specs.Read.Initialisers as initialiser
use Rattle.c_unit_grammar.specs.Read.Declarations as declaration
use Rattle.c_unit_grammar.specs.Read.Statements as statement
use Rattle.c_unit_grammar.specs.Read.Units as unit

module _ (more : ℕ) where
  unfoldable pub initialisers : Parser (List InitialiserItem)
  initialisers = initialiser.first_initialiser more (initialiser.inside_initialiser more) >>= more_items initialiser.goes_initialiser (initialiser.next_initialiser more (initialiser.inside_initialiser more))

  -- the declarators behind the first, which is there already
  unfoldable pub more_declarators : List Specifier → InitDeclarator → Parser (List InitDeclarator)
  more_declarators specifiers first = more_items (sees p.Comma) (declaration.next_declarator more specifiers) first

  unfoldable pub items : Bool → Parser (List BlockItem)
  items labels = many statement.goes_item ((statement.within more).item labels)

  -- each `else` that an `if` can take
  unfoldable pub others : Parser (List Else)
  others = many_by statement.goes_else (λ _. statement.one_else more (statement.within more)) statement.goes_further true

  -- declarations and definitions to the end of the tokens, at least one
  unfoldable pub externals : Parser (List External)
  externals = unit.one_external more >>= more_items unit.goes_external (unit.one_external more)
