-- How deep a declaration nests.
use Rattle.std.specs.Prelude.{ℕ, max, List, Option, Some, None, map}
use Rattle.c_tree.specs.declared.specifier.Specifier.{Specifier}
use Rattle.c_tree.specs.declared.declaration.Start.{Start}
use Rattle.c_tree.specs.declared.declaration.InitDeclarator.{InitDeclarator}
use Rattle.c_tree.specs.declared.declaration.Declaration.{Declaration}
use Rattle.c_tree.specs.Nesting.OfTrees.{deepest}
use Rattle.c_tree.specs.Nesting.Trees.{specifier_nesting, declarator_nesting}
use Rattle.c_tree.specs.Nesting.Initialisers.{initialiser_nesting}

-- how deep specifiers nest
abbrev pub specifiers_nesting : List Specifier → ℕ
specifiers_nesting all = deepest (map specifier_nesting all)

-- how deep `=` and an initialiser nest, where they stand
abbrev pub start_nesting : Option Start → ℕ
start_nesting None = 0
start_nesting (Some s) = initialiser_nesting s.value

-- how deep a declarator with its initialiser nests
abbrev pub init_declarator_nesting : InitDeclarator → ℕ
init_declarator_nesting d = max (declarator_nesting d.declarator) (start_nesting d.start)

-- how deep a declaration nests
abbrev pub declaration_nesting : Declaration → ℕ
declaration_nesting d = max (specifiers_nesting d.specifiers) (deepest (map init_declarator_nesting d.declarators))
