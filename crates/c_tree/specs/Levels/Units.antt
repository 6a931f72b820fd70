-- Whether a unit is as the grammar has it (C11 6.9).
use Rattle.std.specs.Prelude.{Bool, true, false, not, ◌&&◌, [], ◌++◌, map}
use Rattle.c_tree.specs.declared.unit.Definition.{Definition}
use Rattle.c_tree.specs.declared.unit.External.{External}
use Rattle.c_tree.specs.declared.unit.External.TheVariants as external
use Rattle.c_tree.specs.declared.unit.Unit as tree
use Rattle.c_tree.specs.Levels.Names.{Names, With, by, leads_to, in_row, scoped, declaring}
use Rattle.c_tree.specs.Levels.Facts.{filled, all_good, Beside, Listing, DeclaratorFacts, Declaring, declares, declared}
use Rattle.c_tree.specs.Levels.StatementFacts.{BlockFacts}
use Rattle.c_tree.specs.Levels.Trees.{declarator_level}
use Rattle.c_tree.specs.Levels.Declarations.{specifiers_level, declaration_level}
use Rattle.c_tree.specs.Levels.Statements.{block_level}

-- a parameter list stands beside the name
abbrev pub is_listing : Beside → Bool
is_listing (Listing names) = true
is_listing _ = false

-- what the parameter list beside the name declares
abbrev pub parameters_of : Beside → Names
parameters_of (Listing names) = names
parameters_of _ = []

-- the body, which sees what the parameter list beside the name declares (C11 6.9.1p9)
abbrev pub body_level : DeclaratorFacts → With BlockFacts → With BlockFacts
body_level d body = scoped (λ names. body (names ++ parameters_of d.beside))

-- the part beside the name is a parameter list, and no label stands in the block
abbrev pub definition_level : Definition → With Bool
definition_level d = leads_to (specifiers_level d.specifiers) (λ s.
    leads_to (declaring (declared s.has_typedef) (declarator_level d.declarator)) (λ f.
    by (λ body. s.good && (declares Declaring s.names_type f && (is_listing f.beside && (body.good && not body.has_label)))) (body_level f (block_level d.body))))

-- whether an external declaration is as the grammar has it
abbrev pub external_level : External → With Bool
external_level (external.Declaration declaration) = declaration_level declaration
external_level (external.Definition definition) = definition_level definition

-- at least one declaration or definition, each as the grammar has it
abbrev pub unit_level : tree.Unit → With Bool
unit_level unit = by (λ all. filled all && all_good all) (in_row (map external_level unit.items))
