-- Declarations, by recursive descent (C11 6.7).
use Rattle.std.specs.Prelude.{ℕ, zero, suc, true, List, [], ◌∷◌, ◌++◌, Option, Some, None, Ok}
use Rattle.c_tree.specs.declared.token.Punct.TheVariants as p
use Rattle.c_tree.specs.declared.specifier.Specifier.{Specifier}
use Rattle.c_tree.specs.declared.declarator.Declarator.{Declarator}
use Rattle.c_tree.specs.declared.declaration.Start.{Start}
use Rattle.c_tree.specs.declared.declaration.InitDeclarator.{InitDeclarator}
use Rattle.c_tree.specs.declared.declaration.Declaration.{Declaration}
use Rattle.c_tree.specs.Levels.Facts.{Beside, Declaring, names_of}
use Rattle.c_tree.specs.Levels.Trees.{declarator_level}
use Rattle.c_grammar.specs.Input.{Parser, and_then, ◌>>=◌, pure, choose, too_deep, sees, expect, many}
use Rattle.c_grammar.specs.Read.Nodes.{name_type, have_typedef}
use Rattle.c_grammar.specs.Read.Depth as depth
use Rattle.c_unit_grammar.specs.Read.Initialisers.{initialiser}

module _ (more : ℕ) where
  -- A declarator with a name, which is visible from its end, and what stands beside the name.
  unfoldable pub named : List Specifier → Parser (Declarator × Beside)
  named specifiers = λ i. and_then (depth.declarator more Declaring (name_type specifiers) i)
      (λ d j. Ok ((d, (declarator_level d i.0).0.beside), (j.0 ++ names_of (have_typedef specifiers) (declarator_level d i.0).0.name, j.1)))

  abbrev pub some_start : Parser (Option Start)
  some_start = do
    equals ← expect p.Assign
    value ← initialiser more
    pure (Some (record { equals = equals; value = value }))

  -- `=` and an initialiser, where they stand
  unfoldable pub start : Parser (Option Start)
  start = choose (sees p.Assign) some_start (pure None)

  unfoldable pub first_declarator : List Specifier → Parser InitDeclarator
  first_declarator specifiers = do
    d ← named specifiers
    s ← start
    pure (record { comma = None; declarator = d.0; start = s })

  unfoldable pub next_declarator : List Specifier → Parser InitDeclarator
  next_declarator specifiers = do
    comma ← expect p.Comma
    d ← named specifiers
    s ← start
    pure (record { comma = Some comma; declarator = d.0; start = s })

  abbrev pub some_declarators : List Specifier → Parser (List InitDeclarator)
  some_declarators specifiers = do
    first ← first_declarator specifiers
    rest ← many (sees p.Comma) (next_declarator specifiers)
    pure (first ∷ rest)

  -- declarators with their initialisers, where a declaration has them
  unfoldable pub declarators : List Specifier → Parser (List InitDeclarator)
  declarators specifiers = choose (sees p.Semicolon) (pure []) (some_declarators specifiers)

  unfoldable pub declaration : Parser Declaration
  declaration = do
    specifiers ← depth.specifiers more true
    all ← declarators specifiers
    semicolon ← expect p.Semicolon
    pure (record { specifiers = specifiers; declarators = all; semicolon = semicolon })

-- a declaration, where so many brackets could be opened with the one around it
unfoldable pub inside_declaration : ℕ → Parser Declaration
inside_declaration zero = too_deep
inside_declaration (suc more) = declaration more
