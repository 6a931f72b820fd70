-- The spelling of a declaration (C11 6.7).
use Rattle.std.specs.Prelude.{List, [], ◌∷◌, ◌++◌, Option, Some, None, map}
use Rattle.c_tree.specs.declared.token.Punct.TheVariants as p
use Rattle.c_tree.specs.declared.declaration.Start.{Start}
use Rattle.c_tree.specs.declared.declaration.InitDeclarator.{InitDeclarator}
use Rattle.c_tree.specs.declared.declaration.Declaration.{Declaration}
use Rattle.c_tree.specs.declared.specifier.Specifier.{Specifier}
use Rattle.c_tree.specs.Spelling.Tokens.{Spelling, punct, joined, comma_at}
use Rattle.c_tree.specs.Spelling.Trees.{specifier_spelling, declarator_spelling}
use Rattle.c_tree.specs.Spelling.Initialisers.{initialiser_spelling}

-- specifiers (C11 6.7)
abbrev pub specifiers_spelling : List Specifier → Spelling
specifiers_spelling all = joined (map specifier_spelling all)

-- `=` and an initialiser, where they stand
abbrev pub start_spelling : Option Start → Spelling
start_spelling None = []
start_spelling (Some s) = punct p.Assign s.equals ∷ initialiser_spelling s.value

-- a declarator with its initialiser (C11 6.7)
abbrev pub init_declarator_spelling : InitDeclarator → Spelling
init_declarator_spelling d = comma_at d.comma ++ (declarator_spelling d.declarator ++ start_spelling d.start)

-- a declaration (C11 6.7)
abbrev pub declaration_spelling : Declaration → Spelling
declaration_spelling d = specifiers_spelling d.specifiers ++ (joined (map init_declarator_spelling d.declarators) ++ punct p.Semicolon d.semicolon ∷ [])
