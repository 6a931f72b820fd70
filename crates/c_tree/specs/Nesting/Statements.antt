-- Written by tools/tree_equations.py.
-- The fold whose steps stand in Nesting.OfStatements, and one equation for each kind of node.
use Rattle.std.specs.Prelude.{◌≡◌, ℕ, List, Option, map}
use Rattle.std.proofs.Common.{ap, sym, ◌∙◌}
use Rattle.c_tree.specs.declared.statement.Condition.{Condition}
use Rattle.c_tree.specs.declared.declaration.Declaration.{Declaration}
use Rattle.c_tree.specs.declared.expression.Expr.{Expr}
use Rattle.c_tree.specs.declared.statement.ForControl.{ForControl}
use Rattle.c_tree.specs.declared.token.Pos.{Pos}
use Rattle.c_tree.specs.declared.statement.BlockItem.{BlockItem, roll-BlockItem}
use Rattle.c_tree.specs.declared.statement.BlockItem.TheVariants as block_item
use Rattle.c_tree.specs.declared.statement.Stmt.{Stmt, roll-Stmt}
use Rattle.c_tree.specs.declared.statement.Stmt.TheVariants as stmt
use Rattle.c_tree.specs.declared.statement.Block.{Block, out-Block, roll-Block, roll-out-Block}
use Rattle.c_tree.specs.declared.statement.Else.{Else, out-Else, roll-Else, roll-out-Else}
use Rattle.c_tree.specs.declared.statement.BlockItem.TheOpen.{BlockItem-F, Stmt-F}
use Rattle.c_tree.specs.Layers.{BlockItemLayer, StmtLayer, BlockLayer, ElseLayer}
use Rattle.c_tree.specs.declared.statement.BlockItem.TheFolds.{fold-BlockItem, fold-roll-BlockItem, map-BlockItem, fold-Stmt, fold-roll-Stmt, map-Stmt, fold-Block, fold-roll-Block, map-Block, fold-Else, fold-roll-Else, map-Else}
use Rattle.c_tree.specs.Nesting.OfStatements.{nested_block_item, nested_stmt, nested_block, nested_else}
use Rattle.c_tree.specs.Nesting.OfStatements.{Depth}

unfoldable pub block_item_nesting : BlockItem → ℕ
block_item_nesting = fold-BlockItem ℕ Depth ℕ ℕ nested_block_item nested_stmt nested_block nested_else

unfoldable pub stmt_nesting : Stmt → Depth
stmt_nesting = fold-Stmt ℕ Depth ℕ ℕ nested_block_item nested_stmt nested_block nested_else

unfoldable pub block_nesting : Block → ℕ
block_nesting = fold-Block ℕ Depth ℕ ℕ nested_block_item nested_stmt nested_block nested_else

unfoldable pub else_nesting : Else → ℕ
else_nesting = fold-Else ℕ Depth ℕ ℕ nested_block_item nested_stmt nested_block nested_else

-- ---- what a fold tells of one node

pub block_item_nesting-roll : (node : BlockItemLayer) → block_item_nesting (roll-BlockItem node) ≡ nested_block_item (map-BlockItem BlockItem Stmt Block Else ℕ Depth ℕ ℕ block_item_nesting stmt_nesting block_nesting else_nesting node)
unfolding block_item_nesting stmt_nesting block_nesting else_nesting
block_item_nesting-roll = fold-roll-BlockItem ℕ Depth ℕ ℕ nested_block_item nested_stmt nested_block nested_else

pub stmt_nesting-roll : (node : StmtLayer) → stmt_nesting (roll-Stmt node) ≡ nested_stmt (map-Stmt BlockItem Stmt Block Else ℕ Depth ℕ ℕ block_item_nesting stmt_nesting block_nesting else_nesting node)
unfolding block_item_nesting stmt_nesting block_nesting else_nesting
stmt_nesting-roll = fold-roll-Stmt ℕ Depth ℕ ℕ nested_block_item nested_stmt nested_block nested_else

pub block_nesting-roll : (node : BlockLayer) → block_nesting (roll-Block node) ≡ nested_block (map-Block BlockItem Stmt Block Else ℕ Depth ℕ ℕ block_item_nesting stmt_nesting block_nesting else_nesting node)
unfolding block_item_nesting stmt_nesting block_nesting else_nesting
block_nesting-roll = fold-roll-Block ℕ Depth ℕ ℕ nested_block_item nested_stmt nested_block nested_else

pub else_nesting-roll : (node : ElseLayer) → else_nesting (roll-Else node) ≡ nested_else (map-Else BlockItem Stmt Block Else ℕ Depth ℕ ℕ block_item_nesting stmt_nesting block_nesting else_nesting node)
unfolding block_item_nesting stmt_nesting block_nesting else_nesting
else_nesting-roll = fold-roll-Else ℕ Depth ℕ ℕ nested_block_item nested_stmt nested_block nested_else

-- ---- one equation for each kind of node

pub block_item_nesting-Declaration : (declaration : Declaration) → block_item_nesting (block_item.Declaration declaration) ≡ nested_block_item (BlockItem-F.Declaration declaration)
block_item_nesting-Declaration declaration = ap block_item_nesting (sym (block_item.rolls-Declaration declaration)) ∙ block_item_nesting-roll (BlockItem-F.Declaration declaration)

pub block_item_nesting-Statement : (statement : Stmt) → block_item_nesting (block_item.Statement statement) ≡ nested_block_item (BlockItem-F.Statement (stmt_nesting statement))
block_item_nesting-Statement statement = ap block_item_nesting (sym (block_item.rolls-Statement statement)) ∙ block_item_nesting-roll (BlockItem-F.Statement statement)

pub block_item_nesting-Case : (at : Pos) (value : Expr) (colon : Pos) → block_item_nesting (block_item.Case at value colon) ≡ nested_block_item (BlockItem-F.Case at value colon)
block_item_nesting-Case at value colon = ap block_item_nesting (sym (block_item.rolls-Case at value colon)) ∙ block_item_nesting-roll (BlockItem-F.Case at value colon)

pub block_item_nesting-Default : (at : Pos) (colon : Pos) → block_item_nesting (block_item.Default at colon) ≡ nested_block_item (BlockItem-F.Default at colon)
block_item_nesting-Default at colon = ap block_item_nesting (sym (block_item.rolls-Default at colon)) ∙ block_item_nesting-roll (BlockItem-F.Default at colon)

pub stmt_nesting-Block : (block : Block) → stmt_nesting (stmt.Block block) ≡ nested_stmt (Stmt-F.Block (block_nesting block))
stmt_nesting-Block block = ap stmt_nesting (sym (stmt.rolls-Block block)) ∙ stmt_nesting-roll (Stmt-F.Block block)

pub stmt_nesting-Expression : (value : Option Expr) (semicolon : Pos) → stmt_nesting (stmt.Expression value semicolon) ≡ nested_stmt (Stmt-F.Expression value semicolon)
stmt_nesting-Expression value semicolon = ap stmt_nesting (sym (stmt.rolls-Expression value semicolon)) ∙ stmt_nesting-roll (Stmt-F.Expression value semicolon)

pub stmt_nesting-If : (at : Pos) (condition : Condition) (body : Stmt) (others : List Else) → stmt_nesting (stmt.If at condition body others) ≡ nested_stmt (Stmt-F.If at condition (stmt_nesting body) (map else_nesting others))
stmt_nesting-If at condition body others = ap stmt_nesting (sym (stmt.rolls-If at condition body others)) ∙ stmt_nesting-roll (Stmt-F.If at condition body others)

pub stmt_nesting-While : (at : Pos) (condition : Condition) (body : Stmt) → stmt_nesting (stmt.While at condition body) ≡ nested_stmt (Stmt-F.While at condition (stmt_nesting body))
stmt_nesting-While at condition body = ap stmt_nesting (sym (stmt.rolls-While at condition body)) ∙ stmt_nesting-roll (Stmt-F.While at condition body)

pub stmt_nesting-Do : (at : Pos) (body : Stmt) (while_at : Pos) (condition : Condition) (semicolon : Pos) → stmt_nesting (stmt.Do at body while_at condition semicolon) ≡ nested_stmt (Stmt-F.Do at (stmt_nesting body) while_at condition semicolon)
stmt_nesting-Do at body while_at condition semicolon = ap stmt_nesting (sym (stmt.rolls-Do at body while_at condition semicolon)) ∙ stmt_nesting-roll (Stmt-F.Do at body while_at condition semicolon)

pub stmt_nesting-For : (at : Pos) (control : ForControl) (body : Stmt) → stmt_nesting (stmt.For at control body) ≡ nested_stmt (Stmt-F.For at control (stmt_nesting body))
stmt_nesting-For at control body = ap stmt_nesting (sym (stmt.rolls-For at control body)) ∙ stmt_nesting-roll (Stmt-F.For at control body)

pub stmt_nesting-Switch : (at : Pos) (condition : Condition) (body : Block) → stmt_nesting (stmt.Switch at condition body) ≡ nested_stmt (Stmt-F.Switch at condition (block_nesting body))
stmt_nesting-Switch at condition body = ap stmt_nesting (sym (stmt.rolls-Switch at condition body)) ∙ stmt_nesting-roll (Stmt-F.Switch at condition body)

pub stmt_nesting-Break : (at : Pos) (semicolon : Pos) → stmt_nesting (stmt.Break at semicolon) ≡ nested_stmt (Stmt-F.Break at semicolon)
stmt_nesting-Break at semicolon = ap stmt_nesting (sym (stmt.rolls-Break at semicolon)) ∙ stmt_nesting-roll (Stmt-F.Break at semicolon)

pub stmt_nesting-Continue : (at : Pos) (semicolon : Pos) → stmt_nesting (stmt.Continue at semicolon) ≡ nested_stmt (Stmt-F.Continue at semicolon)
stmt_nesting-Continue at semicolon = ap stmt_nesting (sym (stmt.rolls-Continue at semicolon)) ∙ stmt_nesting-roll (Stmt-F.Continue at semicolon)

pub stmt_nesting-Return : (at : Pos) (value : Option Expr) (semicolon : Pos) → stmt_nesting (stmt.Return at value semicolon) ≡ nested_stmt (Stmt-F.Return at value semicolon)
stmt_nesting-Return at value semicolon = ap stmt_nesting (sym (stmt.rolls-Return at value semicolon)) ∙ stmt_nesting-roll (Stmt-F.Return at value semicolon)

pub block_nesting-is : (node : Block) → block_nesting node ≡ nested_block (record { opening = (out-Block node).opening; items = map block_item_nesting (out-Block node).items; closing = (out-Block node).closing })
block_nesting-is node = ap block_nesting (sym (roll-out-Block node)) ∙ block_nesting-roll (out-Block node)

pub else_nesting-is : (node : Else) → else_nesting node ≡ nested_else (record { word = (out-Else node).word; head = (out-Else node).head; body = stmt_nesting (out-Else node).body })
else_nesting-is node = ap else_nesting (sym (roll-out-Else node)) ∙ else_nesting-roll (out-Else node)
