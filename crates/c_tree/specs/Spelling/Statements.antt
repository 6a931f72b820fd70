-- Written by tools/tree_equations.py.
-- The fold whose steps stand in Spelling.OfStatements, and one equation for each kind of node.
use Rattle.std.specs.Prelude.{◌≡◌, List, Option, map}
use Rattle.std.proofs.Common.{ap, sym, ◌∙◌}
use Rattle.c_tree.specs.declared.statement.Condition.{Condition}
use Rattle.c_tree.specs.declared.declaration.Declaration.{Declaration}
use Rattle.c_tree.specs.declared.expression.Expr.{Expr}
use Rattle.c_tree.specs.declared.statement.ForControl.{ForControl}
use Rattle.c_tree.specs.declared.token.Pos.{Pos}
use Rattle.c_tree.specs.declared.statement.BlockItem.{BlockItem, roll-BlockItem}
use Rattle.c_tree.specs.declared.statement.BlockItem.TheVariants as block_item
use Rattle.c_tree.specs.declared.statement.Stmt.{Stmt, roll-Stmt}
use Rattle.c_tree.specs.declared.statement.Stmt.TheVariants as stmt
use Rattle.c_tree.specs.declared.statement.Block.{Block, out-Block, roll-Block, roll-out-Block}
use Rattle.c_tree.specs.declared.statement.Else.{Else, out-Else, roll-Else, roll-out-Else}
use Rattle.c_tree.specs.declared.statement.BlockItem.TheOpen.{BlockItem-F, Stmt-F}
use Rattle.c_tree.specs.Layers.{BlockItemLayer, StmtLayer, BlockLayer, ElseLayer}
use Rattle.c_tree.specs.declared.statement.BlockItem.TheFolds.{fold-BlockItem, fold-roll-BlockItem, map-BlockItem, fold-Stmt, fold-roll-Stmt, map-Stmt, fold-Block, fold-roll-Block, map-Block, fold-Else, fold-roll-Else, map-Else}
use Rattle.c_tree.specs.Spelling.OfStatements.{spelled_block_item, spelled_stmt, spelled_block, spelled_else}
use Rattle.c_tree.specs.Spelling.Tokens.{Spelling}

unfoldable pub block_item_spelling : BlockItem → Spelling
block_item_spelling = fold-BlockItem Spelling Spelling Spelling Spelling spelled_block_item spelled_stmt spelled_block spelled_else

unfoldable pub stmt_spelling : Stmt → Spelling
stmt_spelling = fold-Stmt Spelling Spelling Spelling Spelling spelled_block_item spelled_stmt spelled_block spelled_else

unfoldable pub block_spelling : Block → Spelling
block_spelling = fold-Block Spelling Spelling Spelling Spelling spelled_block_item spelled_stmt spelled_block spelled_else

unfoldable pub else_spelling : Else → Spelling
else_spelling = fold-Else Spelling Spelling Spelling Spelling spelled_block_item spelled_stmt spelled_block spelled_else

-- ---- what a fold tells of one node

pub block_item_spelling-roll : (node : BlockItemLayer) → block_item_spelling (roll-BlockItem node) ≡ spelled_block_item (map-BlockItem BlockItem Stmt Block Else Spelling Spelling Spelling Spelling block_item_spelling stmt_spelling block_spelling else_spelling node)
unfolding block_item_spelling stmt_spelling block_spelling else_spelling
block_item_spelling-roll = fold-roll-BlockItem Spelling Spelling Spelling Spelling spelled_block_item spelled_stmt spelled_block spelled_else

pub stmt_spelling-roll : (node : StmtLayer) → stmt_spelling (roll-Stmt node) ≡ spelled_stmt (map-Stmt BlockItem Stmt Block Else Spelling Spelling Spelling Spelling block_item_spelling stmt_spelling block_spelling else_spelling node)
unfolding block_item_spelling stmt_spelling block_spelling else_spelling
stmt_spelling-roll = fold-roll-Stmt Spelling Spelling Spelling Spelling spelled_block_item spelled_stmt spelled_block spelled_else

pub block_spelling-roll : (node : BlockLayer) → block_spelling (roll-Block node) ≡ spelled_block (map-Block BlockItem Stmt Block Else Spelling Spelling Spelling Spelling block_item_spelling stmt_spelling block_spelling else_spelling node)
unfolding block_item_spelling stmt_spelling block_spelling else_spelling
block_spelling-roll = fold-roll-Block Spelling Spelling Spelling Spelling spelled_block_item spelled_stmt spelled_block spelled_else

pub else_spelling-roll : (node : ElseLayer) → else_spelling (roll-Else node) ≡ spelled_else (map-Else BlockItem Stmt Block Else Spelling Spelling Spelling Spelling block_item_spelling stmt_spelling block_spelling else_spelling node)
unfolding block_item_spelling stmt_spelling block_spelling else_spelling
else_spelling-roll = fold-roll-Else Spelling Spelling Spelling Spelling spelled_block_item spelled_stmt spelled_block spelled_else

-- ---- one equation for each kind of node

pub block_item_spelling-Declaration : (declaration : Declaration) → block_item_spelling (block_item.Declaration declaration) ≡ spelled_block_item (BlockItem-F.Declaration declaration)
block_item_spelling-Declaration declaration = ap block_item_spelling (sym (block_item.rolls-Declaration declaration)) ∙ block_item_spelling-roll (BlockItem-F.Declaration declaration)

pub block_item_spelling-Statement : (statement : Stmt) → block_item_spelling (block_item.Statement statement) ≡ spelled_block_item (BlockItem-F.Statement (stmt_spelling statement))
block_item_spelling-Statement statement = ap block_item_spelling (sym (block_item.rolls-Statement statement)) ∙ block_item_spelling-roll (BlockItem-F.Statement statement)

pub block_item_spelling-Case : (at : Pos) (value : Expr) (colon : Pos) → block_item_spelling (block_item.Case at value colon) ≡ spelled_block_item (BlockItem-F.Case at value colon)
block_item_spelling-Case at value colon = ap block_item_spelling (sym (block_item.rolls-Case at value colon)) ∙ block_item_spelling-roll (BlockItem-F.Case at value colon)

pub block_item_spelling-Default : (at : Pos) (colon : Pos) → block_item_spelling (block_item.Default at colon) ≡ spelled_block_item (BlockItem-F.Default at colon)
block_item_spelling-Default at colon = ap block_item_spelling (sym (block_item.rolls-Default at colon)) ∙ block_item_spelling-roll (BlockItem-F.Default at colon)

pub stmt_spelling-Block : (block : Block) → stmt_spelling (stmt.Block block) ≡ spelled_stmt (Stmt-F.Block (block_spelling block))
stmt_spelling-Block block = ap stmt_spelling (sym (stmt.rolls-Block block)) ∙ stmt_spelling-roll (Stmt-F.Block block)

pub stmt_spelling-Expression : (value : Option Expr) (semicolon : Pos) → stmt_spelling (stmt.Expression value semicolon) ≡ spelled_stmt (Stmt-F.Expression value semicolon)
stmt_spelling-Expression value semicolon = ap stmt_spelling (sym (stmt.rolls-Expression value semicolon)) ∙ stmt_spelling-roll (Stmt-F.Expression value semicolon)

pub stmt_spelling-If : (at : Pos) (condition : Condition) (body : Stmt) (others : List Else) → stmt_spelling (stmt.If at condition body others) ≡ spelled_stmt (Stmt-F.If at condition (stmt_spelling body) (map else_spelling others))
stmt_spelling-If at condition body others = ap stmt_spelling (sym (stmt.rolls-If at condition body others)) ∙ stmt_spelling-roll (Stmt-F.If at condition body others)

pub stmt_spelling-While : (at : Pos) (condition : Condition) (body : Stmt) → stmt_spelling (stmt.While at condition body) ≡ spelled_stmt (Stmt-F.While at condition (stmt_spelling body))
stmt_spelling-While at condition body = ap stmt_spelling (sym (stmt.rolls-While at condition body)) ∙ stmt_spelling-roll (Stmt-F.While at condition body)

pub stmt_spelling-Do : (at : Pos) (body : Stmt) (while_at : Pos) (condition : Condition) (semicolon : Pos) → stmt_spelling (stmt.Do at body while_at condition semicolon) ≡ spelled_stmt (Stmt-F.Do at (stmt_spelling body) while_at condition semicolon)
stmt_spelling-Do at body while_at condition semicolon = ap stmt_spelling (sym (stmt.rolls-Do at body while_at condition semicolon)) ∙ stmt_spelling-roll (Stmt-F.Do at body while_at condition semicolon)

pub stmt_spelling-For : (at : Pos) (control : ForControl) (body : Stmt) → stmt_spelling (stmt.For at control body) ≡ spelled_stmt (Stmt-F.For at control (stmt_spelling body))
stmt_spelling-For at control body = ap stmt_spelling (sym (stmt.rolls-For at control body)) ∙ stmt_spelling-roll (Stmt-F.For at control body)

pub stmt_spelling-Switch : (at : Pos) (condition : Condition) (body : Block) → stmt_spelling (stmt.Switch at condition body) ≡ spelled_stmt (Stmt-F.Switch at condition (block_spelling body))
stmt_spelling-Switch at condition body = ap stmt_spelling (sym (stmt.rolls-Switch at condition body)) ∙ stmt_spelling-roll (Stmt-F.Switch at condition body)

pub stmt_spelling-Break : (at : Pos) (semicolon : Pos) → stmt_spelling (stmt.Break at semicolon) ≡ spelled_stmt (Stmt-F.Break at semicolon)
stmt_spelling-Break at semicolon = ap stmt_spelling (sym (stmt.rolls-Break at semicolon)) ∙ stmt_spelling-roll (Stmt-F.Break at semicolon)

pub stmt_spelling-Continue : (at : Pos) (semicolon : Pos) → stmt_spelling (stmt.Continue at semicolon) ≡ spelled_stmt (Stmt-F.Continue at semicolon)
stmt_spelling-Continue at semicolon = ap stmt_spelling (sym (stmt.rolls-Continue at semicolon)) ∙ stmt_spelling-roll (Stmt-F.Continue at semicolon)

pub stmt_spelling-Return : (at : Pos) (value : Option Expr) (semicolon : Pos) → stmt_spelling (stmt.Return at value semicolon) ≡ spelled_stmt (Stmt-F.Return at value semicolon)
stmt_spelling-Return at value semicolon = ap stmt_spelling (sym (stmt.rolls-Return at value semicolon)) ∙ stmt_spelling-roll (Stmt-F.Return at value semicolon)

pub block_spelling-is : (node : Block) → block_spelling node ≡ spelled_block (record { opening = (out-Block node).opening; items = map block_item_spelling (out-Block node).items; closing = (out-Block node).closing })
block_spelling-is node = ap block_spelling (sym (roll-out-Block node)) ∙ block_spelling-roll (out-Block node)

pub else_spelling-is : (node : Else) → else_spelling node ≡ spelled_else (record { word = (out-Else node).word; head = (out-Else node).head; body = stmt_spelling (out-Else node).body })
else_spelling-is node = ap else_spelling (sym (roll-out-Else node)) ∙ else_spelling-roll (out-Else node)
