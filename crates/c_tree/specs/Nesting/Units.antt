-- How deep a unit nests.
use Rattle.std.specs.Prelude.{ℕ, max, map}
use Rattle.c_tree.specs.declared.unit.Definition.{Definition}
use Rattle.c_tree.specs.declared.unit.External.{External}
use Rattle.c_tree.specs.declared.unit.External.TheVariants as external
use Rattle.c_tree.specs.declared.unit.Unit as tree
use Rattle.c_tree.specs.Nesting.OfTrees.{deepest}
use Rattle.c_tree.specs.Nesting.Trees.{declarator_nesting}
use Rattle.c_tree.specs.Nesting.Declarations.{specifiers_nesting, declaration_nesting}
use Rattle.c_tree.specs.Nesting.Statements.{block_nesting}

-- how deep a function definition nests
abbrev pub definition_nesting : Definition → ℕ
definition_nesting d = max (specifiers_nesting d.specifiers) (max (declarator_nesting d.declarator) (block_nesting d.body))

-- how deep an external declaration nests
abbrev pub external_nesting : External → ℕ
external_nesting (external.Declaration declaration) = declaration_nesting declaration
external_nesting (external.Definition definition) = definition_nesting definition

-- how deep a translation unit nests
abbrev pub unit_nesting : tree.Unit → ℕ
unit_nesting unit = deepest (map external_nesting unit.items)
