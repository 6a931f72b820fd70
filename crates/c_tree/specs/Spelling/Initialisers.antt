-- Written by tools/tree_equations.py.
-- The fold whose steps stand in Spelling.OfInitialisers, and one equation for each kind of node.
use Rattle.std.specs.Prelude.{◌≡◌, List, Option, map}
use Rattle.std.proofs.Common.{ap, sym, ◌∙◌}
use Rattle.c_tree.specs.declared.expression.Expr.{Expr}
use Rattle.c_tree.specs.declared.token.Pos.{Pos}
use Rattle.c_tree.specs.declared.declaration.Initialiser.{Initialiser, roll-Initialiser}
use Rattle.c_tree.specs.declared.declaration.Initialiser.TheVariants as initialiser
use Rattle.c_tree.specs.declared.declaration.InitialiserItem.{InitialiserItem, out-InitialiserItem, roll-InitialiserItem, roll-out-InitialiserItem}
use Rattle.c_tree.specs.declared.declaration.Initialiser.TheOpen.{Initialiser-F}
use Rattle.c_tree.specs.Layers.{InitialiserLayer, InitialiserItemLayer}
use Rattle.c_tree.specs.declared.declaration.Initialiser.TheFolds.{fold-Initialiser, fold-roll-Initialiser, map-Initialiser, fold-InitialiserItem, fold-roll-InitialiserItem, map-InitialiserItem}
use Rattle.c_tree.specs.Spelling.OfInitialisers.{spelled_initialiser, spelled_initialiser_item}
use Rattle.c_tree.specs.Spelling.Tokens.{Spelling}

unfoldable pub initialiser_spelling : Initialiser → Spelling
initialiser_spelling = fold-Initialiser Spelling Spelling spelled_initialiser spelled_initialiser_item

unfoldable pub initialiser_item_spelling : InitialiserItem → Spelling
initialiser_item_spelling = fold-InitialiserItem Spelling Spelling spelled_initialiser spelled_initialiser_item

-- ---- what a fold tells of one node

pub initialiser_spelling-roll : (node : InitialiserLayer) → initialiser_spelling (roll-Initialiser node) ≡ spelled_initialiser (map-Initialiser Initialiser InitialiserItem Spelling Spelling initialiser_spelling initialiser_item_spelling node)
unfolding initialiser_spelling initialiser_item_spelling
initialiser_spelling-roll = fold-roll-Initialiser Spelling Spelling spelled_initialiser spelled_initialiser_item

pub initialiser_item_spelling-roll : (node : InitialiserItemLayer) → initialiser_item_spelling (roll-InitialiserItem node) ≡ spelled_initialiser_item (map-InitialiserItem Initialiser InitialiserItem Spelling Spelling initialiser_spelling initialiser_item_spelling node)
unfolding initialiser_spelling initialiser_item_spelling
initialiser_item_spelling-roll = fold-roll-InitialiserItem Spelling Spelling spelled_initialiser spelled_initialiser_item

-- ---- one equation for each kind of node

pub initialiser_spelling-Expression : (value : Expr) → initialiser_spelling (initialiser.Expression value) ≡ spelled_initialiser (Initialiser-F.Expression value)
initialiser_spelling-Expression value = ap initialiser_spelling (sym (initialiser.rolls-Expression value)) ∙ initialiser_spelling-roll (Initialiser-F.Expression value)

pub initialiser_spelling-List : (from : Pos) (items : List InitialiserItem) (comma : Option Pos) (to : Pos) → initialiser_spelling (initialiser.List from items comma to) ≡ spelled_initialiser (Initialiser-F.List from (map initialiser_item_spelling items) comma to)
initialiser_spelling-List from items comma to = ap initialiser_spelling (sym (initialiser.rolls-List from items comma to)) ∙ initialiser_spelling-roll (Initialiser-F.List from items comma to)

pub initialiser_item_spelling-is : (node : InitialiserItem) → initialiser_item_spelling node ≡ spelled_initialiser_item (record { comma = (out-InitialiserItem node).comma; value = initialiser_spelling (out-InitialiserItem node).value })
initialiser_item_spelling-is node = ap initialiser_item_spelling (sym (roll-out-InitialiserItem node)) ∙ initialiser_item_spelling-roll (out-InitialiserItem node)
