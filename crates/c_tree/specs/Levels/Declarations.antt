-- Whether a declaration is as the grammar has it (C11 6.7). A declaration is visible from the end of its
-- declarator (C11 6.2.1p7), and declares a typedef name where `typedef` is among its specifiers.
use Rattle.std.specs.Prelude.{Bool, true, ◌&&◌, List, Option, Some, None, is_some, map}
use Rattle.c_tree.specs.declared.specifier.Specifier.{Specifier}
use Rattle.c_tree.specs.declared.declaration.Start.{Start}
use Rattle.c_tree.specs.declared.declaration.InitDeclarator.{InitDeclarator}
use Rattle.c_tree.specs.declared.declaration.Declaration.{Declaration}
use Rattle.c_tree.specs.Levels.Names.{With, told, by, ◌then◌, leads_to, in_row, declaring}
use Rattle.c_tree.specs.Levels.Facts.{ListedFacts, listed, SpecifiersFacts, facts_of_specifiers, Declaring, declares, declared}
use Rattle.c_tree.specs.Levels.Trees.{specifier_level, declarator_level}
use Rattle.c_tree.specs.Levels.Initialisers.{initialiser_level}

-- what is told of specifiers in a row
abbrev pub specifiers_level : List Specifier → With SpecifiersFacts
specifiers_level all = by facts_of_specifiers (in_row (map specifier_level all))

-- whether an initialiser is as the grammar has it, where one stands
abbrev pub start_level : Option Start → With Bool
start_level None = told true
start_level (Some s) = initialiser_level s.value

-- a declarator with its initialiser behind these specifiers; what it declares is visible in the initialiser already
abbrev pub init_declarator_level : SpecifiersFacts → InitDeclarator → With ListedFacts
init_declarator_level s d = by (λ r. record { comma = is_some d.comma; good = declares Declaring s.names_type r.0 && r.1 }) (declaring (declared s.has_typedef) (declarator_level d.declarator) then start_level d.start)

-- whether a declaration is as the grammar has it; it may have no declarator
abbrev pub declaration_level : Declaration → With Bool
declaration_level d = leads_to (specifiers_level d.specifiers) (λ s. by (λ all. s.good && listed all) (in_row (map (init_declarator_level s) d.declarators)))
