-- The spelling of a unit (C11 6.9). Its end place is the place of no token.
use Rattle.std.specs.Prelude.{◌++◌, map}
use Rattle.c_tree.specs.declared.unit.Definition.{Definition}
use Rattle.c_tree.specs.declared.unit.External.{External}
use Rattle.c_tree.specs.declared.unit.External.TheVariants as external
use Rattle.c_tree.specs.declared.unit.Unit as tree
use Rattle.c_tree.specs.Spelling.Tokens.{Spelling, joined}
use Rattle.c_tree.specs.Spelling.Trees.{declarator_spelling}
use Rattle.c_tree.specs.Spelling.Declarations.{specifiers_spelling, declaration_spelling}
use Rattle.c_tree.specs.Spelling.Statements.{block_spelling}

-- a function definition (C11 6.9.1)
abbrev pub definition_spelling : Definition → Spelling
definition_spelling d = specifiers_spelling d.specifiers ++ (declarator_spelling d.declarator ++ block_spelling d.body)

-- an external declaration (C11 6.9)
abbrev pub external_spelling : External → Spelling
external_spelling (external.Declaration declaration) = declaration_spelling declaration
external_spelling (external.Definition definition) = definition_spelling definition

-- a translation unit (C11 6.9)
abbrev pub unit_spelling : tree.Unit → Spelling
unit_spelling unit = joined (map external_spelling unit.items)
