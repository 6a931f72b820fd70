-- What stands next to the name of a declarator, as the grammar tells it.
-- A definition takes the parameters of the list that stands there.
use Rattle.std.specs.Prelude.{◌≡◌, List, map}
use Rattle.c_tree.specs.declared.declarator.Parameter.{Parameter}
use Rattle.c_tree.specs.Levels.Names.{Names, in_row}
use Rattle.c_tree.specs.Levels.Facts as facts
use Rattle.c_tree.specs.Levels.Trees.{parameter_level}
use Rattle.c_unit_parser.specs.declared.nodes.Beside.{Beside}
use Rattle.c_unit_parser.specs.declared.nodes.Beside.TheVariants as beside

-- what the parameters declare, where these names are visible
abbrev pub listed : List Parameter → Names → Names
listed all names = (in_row (map parameter_level all) names).1

-- The grammar tells the same; of a parameter list the names that it declares.
abbrev pub Tells : Beside → facts.Beside → Type 0
Tells beside.Alone told = told ≡ facts.Alone
Tells beside.Other told = told ≡ facts.Other
Tells (beside.Listing all) told = (names : Names) × (told ≡ facts.Listing (listed all.now names))
