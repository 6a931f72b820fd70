-- Written by tools/tree_equations.py.
-- The fold whose steps stand in Nesting.OfInitialisers, and one equation for each kind of node.
use Rattle.std.specs.Prelude.{◌≡◌, ℕ, List, Option, map}
use Rattle.std.proofs.Common.{ap, sym, ◌∙◌}
use Rattle.c_tree.specs.declared.expression.Expr.{Expr}
use Rattle.c_tree.specs.declared.token.Pos.{Pos}
use Rattle.c_tree.specs.declared.declaration.Initialiser.{Initialiser, roll-Initialiser}
use Rattle.c_tree.specs.declared.declaration.Initialiser.TheVariants as initialiser
use Rattle.c_tree.specs.declared.declaration.InitialiserItem.{InitialiserItem, out-InitialiserItem, roll-InitialiserItem, roll-out-InitialiserItem}
use Rattle.c_tree.specs.declared.declaration.Initialiser.TheOpen.{Initialiser-F}
use Rattle.c_tree.specs.Layers.{InitialiserLayer, InitialiserItemLayer}
use Rattle.c_tree.specs.declared.declaration.Initialiser.TheFolds.{fold-Initialiser, fold-roll-Initialiser, map-Initialiser, fold-InitialiserItem, fold-roll-InitialiserItem, map-InitialiserItem}
use Rattle.c_tree.specs.Nesting.OfInitialisers.{nested_initialiser, nested_initialiser_item}

unfoldable pub initialiser_nesting : Initialiser → ℕ
initialiser_nesting = fold-Initialiser ℕ ℕ nested_initialiser nested_initialiser_item

unfoldable pub initialiser_item_nesting : InitialiserItem → ℕ
initialiser_item_nesting = fold-InitialiserItem ℕ ℕ nested_initialiser nested_initialiser_item

-- ---- what a fold tells of one node

pub initialiser_nesting-roll : (node : InitialiserLayer) → initialiser_nesting (roll-Initialiser node) ≡ nested_initialiser (map-Initialiser Initialiser InitialiserItem ℕ ℕ initialiser_nesting initialiser_item_nesting node)
unfolding initialiser_nesting initialiser_item_nesting
initialiser_nesting-roll = fold-roll-Initialiser ℕ ℕ nested_initialiser nested_initialiser_item

pub initialiser_item_nesting-roll : (node : InitialiserItemLayer) → initialiser_item_nesting (roll-InitialiserItem node) ≡ nested_initialiser_item (map-InitialiserItem Initialiser InitialiserItem ℕ ℕ initialiser_nesting initialiser_item_nesting node)
unfolding initialiser_nesting initialiser_item_nesting
initialiser_item_nesting-roll = fold-roll-InitialiserItem ℕ ℕ nested_initialiser nested_initialiser_item

-- ---- one equation for each kind of node

pub initialiser_nesting-Expression : (value : Expr) → initialiser_nesting (initialiser.Expression value) ≡ nested_initialiser (Initialiser-F.Expression value)
initialiser_nesting-Expression value = ap initialiser_nesting (sym (initialiser.rolls-Expression value)) ∙ initialiser_nesting-roll (Initialiser-F.Expression value)

pub initialiser_nesting-List : (from : Pos) (items : List InitialiserItem) (comma : Option Pos) (to : Pos) → initialiser_nesting (initialiser.List from items comma to) ≡ nested_initialiser (Initialiser-F.List from (map initialiser_item_nesting items) comma to)
initialiser_nesting-List from items comma to = ap initialiser_nesting (sym (initialiser.rolls-List from items comma to)) ∙ initialiser_nesting-roll (Initialiser-F.List from items comma to)

pub initialiser_item_nesting-is : (node : InitialiserItem) → initialiser_item_nesting node ≡ nested_initialiser_item (record { comma = (out-InitialiserItem node).comma; value = initialiser_nesting (out-InitialiserItem node).value })
initialiser_item_nesting-is node = ap initialiser_item_nesting (sym (roll-out-InitialiserItem node)) ∙ initialiser_item_nesting-roll (out-InitialiserItem node)
