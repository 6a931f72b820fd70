-- Written by tools/tree_equations.py.
-- The fold whose steps stand in Levels.OfInitialisers, and one equation for each kind of node.
use Rattle.std.specs.Prelude.{◌≡◌, Bool, List, Option, map}
use Rattle.std.proofs.Common.{ap, sym, ◌∙◌}
use Rattle.c_tree.specs.declared.expression.Expr.{Expr}
use Rattle.c_tree.specs.declared.token.Pos.{Pos}
use Rattle.c_tree.specs.declared.declaration.Initialiser.{Initialiser, roll-Initialiser}
use Rattle.c_tree.specs.declared.declaration.Initialiser.TheVariants as initialiser
use Rattle.c_tree.specs.declared.declaration.InitialiserItem.{InitialiserItem, out-InitialiserItem, roll-InitialiserItem, roll-out-InitialiserItem}
use Rattle.c_tree.specs.declared.declaration.Initialiser.TheOpen.{Initialiser-F}
use Rattle.c_tree.specs.Layers.{InitialiserLayer, InitialiserItemLayer}
use Rattle.c_tree.specs.declared.declaration.Initialiser.TheFolds.{fold-Initialiser, fold-roll-Initialiser, map-Initialiser, fold-InitialiserItem, fold-roll-InitialiserItem, map-InitialiserItem}
use Rattle.c_tree.specs.Levels.OfInitialisers.{level_of_initialiser, level_of_initialiser_item}
use Rattle.c_tree.specs.Levels.Names.{Names, With}
use Rattle.c_tree.specs.Levels.Facts.{ListedFacts}

unfoldable pub initialiser_level : Initialiser → (With Bool)
initialiser_level = fold-Initialiser (With Bool) (With ListedFacts) level_of_initialiser level_of_initialiser_item

unfoldable pub initialiser_item_level : InitialiserItem → (With ListedFacts)
initialiser_item_level = fold-InitialiserItem (With Bool) (With ListedFacts) level_of_initialiser level_of_initialiser_item

-- ---- what a fold tells of one node

pub initialiser_level-roll : (node : InitialiserLayer) → initialiser_level (roll-Initialiser node) ≡ level_of_initialiser (map-Initialiser Initialiser InitialiserItem (With Bool) (With ListedFacts) initialiser_level initialiser_item_level node)
unfolding initialiser_level initialiser_item_level
initialiser_level-roll = fold-roll-Initialiser (With Bool) (With ListedFacts) level_of_initialiser level_of_initialiser_item

pub initialiser_item_level-roll : (node : InitialiserItemLayer) → initialiser_item_level (roll-InitialiserItem node) ≡ level_of_initialiser_item (map-InitialiserItem Initialiser InitialiserItem (With Bool) (With ListedFacts) initialiser_level initialiser_item_level node)
unfolding initialiser_level initialiser_item_level
initialiser_item_level-roll = fold-roll-InitialiserItem (With Bool) (With ListedFacts) level_of_initialiser level_of_initialiser_item

-- ---- one equation for each kind of node

pub initialiser_level-Expression : (value : Expr) (names : Names) → initialiser_level (initialiser.Expression value) names ≡ level_of_initialiser (Initialiser-F.Expression value) names
initialiser_level-Expression value names = ap (λ f. f names) (ap initialiser_level (sym (initialiser.rolls-Expression value)) ∙ initialiser_level-roll (Initialiser-F.Expression value))

pub initialiser_level-List : (from : Pos) (items : List InitialiserItem) (comma : Option Pos) (to : Pos) (names : Names) → initialiser_level (initialiser.List from items comma to) names ≡ level_of_initialiser (Initialiser-F.List from (map initialiser_item_level items) comma to) names
initialiser_level-List from items comma to names = ap (λ f. f names) (ap initialiser_level (sym (initialiser.rolls-List from items comma to)) ∙ initialiser_level-roll (Initialiser-F.List from items comma to))

pub initialiser_item_level-is : (node : InitialiserItem) (names : Names) → initialiser_item_level node names ≡ level_of_initialiser_item (record { comma = (out-InitialiserItem node).comma; value = initialiser_level (out-InitialiserItem node).value }) names
initialiser_item_level-is node names = ap (λ f. f names) (ap initialiser_item_level (sym (roll-out-InitialiserItem node)) ∙ initialiser_item_level-roll (out-InitialiserItem node))
