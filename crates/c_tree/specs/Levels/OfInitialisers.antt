-- Whether one node of an initialiser is as the grammar has it (C11 6.7.9).
use Rattle.std.specs.Prelude.{Bool, ◌&&◌, nat_le, is_some}
use Rattle.c_tree.specs.declared.declaration.Initialiser.TheOpen.{Initialiser-F}
use Rattle.c_tree.specs.Levels.Layers.{InitialiserParts, InitialiserItemParts}
use Rattle.c_tree.specs.Levels.Names.{With, by, in_row}
use Rattle.c_tree.specs.Levels.Productions.{assignment}
use Rattle.c_tree.specs.Levels.Facts.{filled, ListedFacts, listed}
use Rattle.c_tree.specs.Levels.Trees.{expr_level}

-- whether an initialiser is as the grammar has it: an assignment expression, or a list of them in braces (C11 6.7.9)
abbrev pub level_of_initialiser : InitialiserParts → With Bool
level_of_initialiser (Initialiser-F.Expression value) = by (λ n. nat_le n assignment) (expr_level value)
level_of_initialiser (Initialiser-F.List from items last to) = by (λ all. filled all && listed all) (in_row items)

-- an initialiser in braces and whether a comma stands before it (C11 6.7.9)
abbrev pub level_of_initialiser_item : InitialiserItemParts → With ListedFacts
level_of_initialiser_item item = by (λ good. record { comma = is_some item.comma; good = good }) item.value
