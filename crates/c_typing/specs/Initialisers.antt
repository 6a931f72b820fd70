-- Written by tools/tree_equations.py.
-- The fold whose steps stand in OfInitialisers, and one equation for each kind of node.
use Rattle.std.specs.Prelude.{◌≡◌, List, Option, map}
use Rattle.std.proofs.Common.{ap, sym, ◌∙◌}
use Rattle.c_tree.specs.declared.expression.Expr.{Expr}
use Rattle.c_tree.specs.declared.token.Pos.{Pos}
use Rattle.c_tree.specs.declared.declaration.Initialiser.{Initialiser, roll-Initialiser}
use Rattle.c_tree.specs.declared.declaration.Initialiser.TheVariants as initialiser
use Rattle.c_tree.specs.declared.declaration.InitialiserItem.{InitialiserItem, out-InitialiserItem, roll-InitialiserItem, roll-out-InitialiserItem}
use Rattle.c_tree.specs.declared.declaration.Initialiser.TheOpen.{Initialiser-F}
use Rattle.c_tree.specs.Layers.{InitialiserLayer, InitialiserItemLayer}
use Rattle.c_tree.specs.declared.declaration.Initialiser.TheFolds.{fold-Initialiser, fold-roll-Initialiser, map-Initialiser, fold-InitialiserItem, fold-roll-InitialiserItem, map-InitialiserItem}
use Rattle.c_typing.specs.OfInitialisers.{typed_initialiser, typed_initialiser_item}
use Rattle.c_typing.specs.OfInitialisers.{Initialising}

unfoldable pub initialiser_typing : Initialiser → Initialising
initialiser_typing = fold-Initialiser Initialising Initialising typed_initialiser typed_initialiser_item

unfoldable pub initialiser_item_typing : InitialiserItem → Initialising
initialiser_item_typing = fold-InitialiserItem Initialising Initialising typed_initialiser typed_initialiser_item

-- ---- what a fold tells of one node

pub initialiser_typing-roll : (node : InitialiserLayer) → initialiser_typing (roll-Initialiser node) ≡ typed_initialiser (map-Initialiser Initialiser InitialiserItem Initialising Initialising initialiser_typing initialiser_item_typing node)
unfolding initialiser_typing initialiser_item_typing
initialiser_typing-roll = fold-roll-Initialiser Initialising Initialising typed_initialiser typed_initialiser_item

pub initialiser_item_typing-roll : (node : InitialiserItemLayer) → initialiser_item_typing (roll-InitialiserItem node) ≡ typed_initialiser_item (map-InitialiserItem Initialiser InitialiserItem Initialising Initialising initialiser_typing initialiser_item_typing node)
unfolding initialiser_typing initialiser_item_typing
initialiser_item_typing-roll = fold-roll-InitialiserItem Initialising Initialising typed_initialiser typed_initialiser_item

-- ---- one equation for each kind of node

pub initialiser_typing-Expression : (value : Expr) → initialiser_typing (initialiser.Expression value) ≡ typed_initialiser (Initialiser-F.Expression value)
initialiser_typing-Expression value = ap initialiser_typing (sym (initialiser.rolls-Expression value)) ∙ initialiser_typing-roll (Initialiser-F.Expression value)

pub initialiser_typing-List : (from : Pos) (items : List InitialiserItem) (comma : Option Pos) (to : Pos) → initialiser_typing (initialiser.List from items comma to) ≡ typed_initialiser (Initialiser-F.List from (map initialiser_item_typing items) comma to)
initialiser_typing-List from items comma to = ap initialiser_typing (sym (initialiser.rolls-List from items comma to)) ∙ initialiser_typing-roll (Initialiser-F.List from items comma to)

pub initialiser_item_typing-is : (node : InitialiserItem) → initialiser_item_typing node ≡ typed_initialiser_item (record { comma = (out-InitialiserItem node).comma; value = initialiser_typing (out-InitialiserItem node).value })
initialiser_item_typing-is node = ap initialiser_item_typing (sym (roll-out-InitialiserItem node)) ∙ initialiser_item_typing-roll (out-InitialiserItem node)
