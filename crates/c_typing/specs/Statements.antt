-- Written by tools/tree_equations.py.
-- The fold whose steps stand in OfStatements, and one equation for each kind of node.
use Rattle.std.specs.Prelude.{◌≡◌, List, Option, map}
use Rattle.std.proofs.Common.{ap, sym, ◌∙◌}
use Rattle.c_tree.specs.declared.statement.Condition.{Condition}
use Rattle.c_tree.specs.declared.declaration.Declaration.{Declaration}
use Rattle.c_tree.specs.declared.expression.Expr.{Expr}
use Rattle.c_tree.specs.declared.statement.ForControl.{ForControl}
use Rattle.c_tree.specs.declared.token.Pos.{Pos}
use Rattle.c_tree.specs.declared.statement.BlockItem.{BlockItem, roll-BlockItem}
use Rattle.c_tree.specs.declared.statement.BlockItem.TheVariants as block_item
use Rattle.c_tree.specs.declared.statement.Stmt.{Stmt, roll-Stmt}
use Rattle.c_tree.specs.declared.statement.Stmt.TheVariants as stmt
use Rattle.c_tree.specs.declared.statement.Block.{Block, out-Block, roll-Block, roll-out-Block}
use Rattle.c_tree.specs.declared.statement.Else.{Else, out-Else, roll-Else, roll-out-Else}
use Rattle.c_tree.specs.declared.statement.BlockItem.TheOpen.{BlockItem-F, Stmt-F}
use Rattle.c_tree.specs.Layers.{BlockItemLayer, StmtLayer, BlockLayer, ElseLayer}
use Rattle.c_tree.specs.declared.statement.BlockItem.TheFolds.{fold-BlockItem, fold-roll-BlockItem, map-BlockItem, fold-Stmt, fold-roll-Stmt, map-Stmt, fold-Block, fold-roll-Block, map-Block, fold-Else, fold-roll-Else, map-Else}
use Rattle.c_typing.specs.OfStatements.{typed_block_item, typed_stmt, typed_block, typed_else}
use Rattle.c_typing.specs.OfStatements.{Itemised, Stated, Blocked, Elsed}

unfoldable pub block_item_typing : BlockItem → Itemised
block_item_typing = fold-BlockItem Itemised Stated Blocked Elsed typed_block_item typed_stmt typed_block typed_else

unfoldable pub stmt_typing : Stmt → Stated
stmt_typing = fold-Stmt Itemised Stated Blocked Elsed typed_block_item typed_stmt typed_block typed_else

unfoldable pub block_typing : Block → Blocked
block_typing = fold-Block Itemised Stated Blocked Elsed typed_block_item typed_stmt typed_block typed_else

unfoldable pub else_typing : Else → Elsed
else_typing = fold-Else Itemised Stated Blocked Elsed typed_block_item typed_stmt typed_block typed_else

-- ---- what a fold tells of one node

pub block_item_typing-roll : (node : BlockItemLayer) → block_item_typing (roll-BlockItem node) ≡ typed_block_item (map-BlockItem BlockItem Stmt Block Else Itemised Stated Blocked Elsed block_item_typing stmt_typing block_typing else_typing node)
unfolding block_item_typing stmt_typing block_typing else_typing
block_item_typing-roll = fold-roll-BlockItem Itemised Stated Blocked Elsed typed_block_item typed_stmt typed_block typed_else

pub stmt_typing-roll : (node : StmtLayer) → stmt_typing (roll-Stmt node) ≡ typed_stmt (map-Stmt BlockItem Stmt Block Else Itemised Stated Blocked Elsed block_item_typing stmt_typing block_typing else_typing node)
unfolding block_item_typing stmt_typing block_typing else_typing
stmt_typing-roll = fold-roll-Stmt Itemised Stated Blocked Elsed typed_block_item typed_stmt typed_block typed_else

pub block_typing-roll : (node : BlockLayer) → block_typing (roll-Block node) ≡ typed_block (map-Block BlockItem Stmt Block Else Itemised Stated Blocked Elsed block_item_typing stmt_typing block_typing else_typing node)
unfolding block_item_typing stmt_typing block_typing else_typing
block_typing-roll = fold-roll-Block Itemised Stated Blocked Elsed typed_block_item typed_stmt typed_block typed_else

pub else_typing-roll : (node : ElseLayer) → else_typing (roll-Else node) ≡ typed_else (map-Else BlockItem Stmt Block Else Itemised Stated Blocked Elsed block_item_typing stmt_typing block_typing else_typing node)
unfolding block_item_typing stmt_typing block_typing else_typing
else_typing-roll = fold-roll-Else Itemised Stated Blocked Elsed typed_block_item typed_stmt typed_block typed_else

-- ---- one equation for each kind of node

pub block_item_typing-Declaration : (declaration : Declaration) → block_item_typing (block_item.Declaration declaration) ≡ typed_block_item (BlockItem-F.Declaration declaration)
block_item_typing-Declaration declaration = ap block_item_typing (sym (block_item.rolls-Declaration declaration)) ∙ block_item_typing-roll (BlockItem-F.Declaration declaration)

pub block_item_typing-Statement : (statement : Stmt) → block_item_typing (block_item.Statement statement) ≡ typed_block_item (BlockItem-F.Statement (stmt_typing statement))
block_item_typing-Statement statement = ap block_item_typing (sym (block_item.rolls-Statement statement)) ∙ block_item_typing-roll (BlockItem-F.Statement statement)

pub block_item_typing-Case : (at : Pos) (value : Expr) (colon : Pos) → block_item_typing (block_item.Case at value colon) ≡ typed_block_item (BlockItem-F.Case at value colon)
block_item_typing-Case at value colon = ap block_item_typing (sym (block_item.rolls-Case at value colon)) ∙ block_item_typing-roll (BlockItem-F.Case at value colon)

pub block_item_typing-Default : (at : Pos) (colon : Pos) → block_item_typing (block_item.Default at colon) ≡ typed_block_item (BlockItem-F.Default at colon)
block_item_typing-Default at colon = ap block_item_typing (sym (block_item.rolls-Default at colon)) ∙ block_item_typing-roll (BlockItem-F.Default at colon)

pub stmt_typing-Block : (block : Block) → stmt_typing (stmt.Block block) ≡ typed_stmt (Stmt-F.Block (block_typing block))
stmt_typing-Block block = ap stmt_typing (sym (stmt.rolls-Block block)) ∙ stmt_typing-roll (Stmt-F.Block block)

pub stmt_typing-Expression : (value : Option Expr) (semicolon : Pos) → stmt_typing (stmt.Expression value semicolon) ≡ typed_stmt (Stmt-F.Expression value semicolon)
stmt_typing-Expression value semicolon = ap stmt_typing (sym (stmt.rolls-Expression value semicolon)) ∙ stmt_typing-roll (Stmt-F.Expression value semicolon)

pub stmt_typing-If : (at : Pos) (condition : Condition) (body : Stmt) (others : List Else) → stmt_typing (stmt.If at condition body others) ≡ typed_stmt (Stmt-F.If at condition (stmt_typing body) (map else_typing others))
stmt_typing-If at condition body others = ap stmt_typing (sym (stmt.rolls-If at condition body others)) ∙ stmt_typing-roll (Stmt-F.If at condition body others)

pub stmt_typing-While : (at : Pos) (condition : Condition) (body : Stmt) → stmt_typing (stmt.While at condition body) ≡ typed_stmt (Stmt-F.While at condition (stmt_typing body))
stmt_typing-While at condition body = ap stmt_typing (sym (stmt.rolls-While at condition body)) ∙ stmt_typing-roll (Stmt-F.While at condition body)

pub stmt_typing-Do : (at : Pos) (body : Stmt) (while_at : Pos) (condition : Condition) (semicolon : Pos) → stmt_typing (stmt.Do at body while_at condition semicolon) ≡ typed_stmt (Stmt-F.Do at (stmt_typing body) while_at condition semicolon)
stmt_typing-Do at body while_at condition semicolon = ap stmt_typing (sym (stmt.rolls-Do at body while_at condition semicolon)) ∙ stmt_typing-roll (Stmt-F.Do at body while_at condition semicolon)

pub stmt_typing-For : (at : Pos) (control : ForControl) (body : Stmt) → stmt_typing (stmt.For at control body) ≡ typed_stmt (Stmt-F.For at control (stmt_typing body))
stmt_typing-For at control body = ap stmt_typing (sym (stmt.rolls-For at control body)) ∙ stmt_typing-roll (Stmt-F.For at control body)

pub stmt_typing-Switch : (at : Pos) (condition : Condition) (body : Block) → stmt_typing (stmt.Switch at condition body) ≡ typed_stmt (Stmt-F.Switch at condition (block_typing body))
stmt_typing-Switch at condition body = ap stmt_typing (sym (stmt.rolls-Switch at condition body)) ∙ stmt_typing-roll (Stmt-F.Switch at condition body)

pub stmt_typing-Break : (at : Pos) (semicolon : Pos) → stmt_typing (stmt.Break at semicolon) ≡ typed_stmt (Stmt-F.Break at semicolon)
stmt_typing-Break at semicolon = ap stmt_typing (sym (stmt.rolls-Break at semicolon)) ∙ stmt_typing-roll (Stmt-F.Break at semicolon)

pub stmt_typing-Continue : (at : Pos) (semicolon : Pos) → stmt_typing (stmt.Continue at semicolon) ≡ typed_stmt (Stmt-F.Continue at semicolon)
stmt_typing-Continue at semicolon = ap stmt_typing (sym (stmt.rolls-Continue at semicolon)) ∙ stmt_typing-roll (Stmt-F.Continue at semicolon)

pub stmt_typing-Return : (at : Pos) (value : Option Expr) (semicolon : Pos) → stmt_typing (stmt.Return at value semicolon) ≡ typed_stmt (Stmt-F.Return at value semicolon)
stmt_typing-Return at value semicolon = ap stmt_typing (sym (stmt.rolls-Return at value semicolon)) ∙ stmt_typing-roll (Stmt-F.Return at value semicolon)

pub block_typing-is : (node : Block) → block_typing node ≡ typed_block (record { opening = (out-Block node).opening; items = map block_item_typing (out-Block node).items; closing = (out-Block node).closing })
block_typing-is node = ap block_typing (sym (roll-out-Block node)) ∙ block_typing-roll (out-Block node)

pub else_typing-is : (node : Else) → else_typing node ≡ typed_else (record { word = (out-Else node).word; head = (out-Else node).head; body = stmt_typing (out-Else node).body })
else_typing-is node = ap else_typing (sym (roll-out-Else node)) ∙ else_typing-roll (out-Else node)
