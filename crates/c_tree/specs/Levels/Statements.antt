-- Written by tools/tree_equations.py.
-- The fold whose steps stand in Levels.OfStatements, and one equation for each kind of node.
use Rattle.std.specs.Prelude.{◌≡◌, List, Option, map}
use Rattle.std.proofs.Common.{ap, sym, ◌∙◌}
use Rattle.c_tree.specs.declared.statement.Condition.{Condition}
use Rattle.c_tree.specs.declared.declaration.Declaration.{Declaration}
use Rattle.c_tree.specs.declared.expression.Expr.{Expr}
use Rattle.c_tree.specs.declared.statement.ForControl.{ForControl}
use Rattle.c_tree.specs.declared.token.Pos.{Pos}
use Rattle.c_tree.specs.declared.statement.BlockItem.{BlockItem, roll-BlockItem}
use Rattle.c_tree.specs.declared.statement.BlockItem.TheVariants as block_item
use Rattle.c_tree.specs.declared.statement.Stmt.{Stmt, roll-Stmt}
use Rattle.c_tree.specs.declared.statement.Stmt.TheVariants as stmt
use Rattle.c_tree.specs.declared.statement.Block.{Block, out-Block, roll-Block, roll-out-Block}
use Rattle.c_tree.specs.declared.statement.Else.{Else, out-Else, roll-Else, roll-out-Else}
use Rattle.c_tree.specs.declared.statement.BlockItem.TheOpen.{BlockItem-F, Stmt-F}
use Rattle.c_tree.specs.Layers.{BlockItemLayer, StmtLayer, BlockLayer, ElseLayer}
use Rattle.c_tree.specs.declared.statement.BlockItem.TheFolds.{fold-BlockItem, fold-roll-BlockItem, map-BlockItem, fold-Stmt, fold-roll-Stmt, map-Stmt, fold-Block, fold-roll-Block, map-Block, fold-Else, fold-roll-Else, map-Else}
use Rattle.c_tree.specs.Levels.OfStatements.{level_of_block_item, level_of_stmt, level_of_block, level_of_else}
use Rattle.c_tree.specs.Levels.Names.{Names, With}
use Rattle.c_tree.specs.Levels.StatementFacts.{BlockFacts}
use Rattle.c_tree.specs.Levels.StatementFacts.{ElseFacts}
use Rattle.c_tree.specs.Levels.StatementFacts.{ItemFacts}
use Rattle.c_tree.specs.Levels.StatementFacts.{StatementFacts}

unfoldable pub block_item_level : BlockItem → (With ItemFacts)
block_item_level = fold-BlockItem (With ItemFacts) (With StatementFacts) (With BlockFacts) (With ElseFacts) level_of_block_item level_of_stmt level_of_block level_of_else

unfoldable pub stmt_level : Stmt → (With StatementFacts)
stmt_level = fold-Stmt (With ItemFacts) (With StatementFacts) (With BlockFacts) (With ElseFacts) level_of_block_item level_of_stmt level_of_block level_of_else

unfoldable pub block_level : Block → (With BlockFacts)
block_level = fold-Block (With ItemFacts) (With StatementFacts) (With BlockFacts) (With ElseFacts) level_of_block_item level_of_stmt level_of_block level_of_else

unfoldable pub else_level : Else → (With ElseFacts)
else_level = fold-Else (With ItemFacts) (With StatementFacts) (With BlockFacts) (With ElseFacts) level_of_block_item level_of_stmt level_of_block level_of_else

-- ---- what a fold tells of one node

pub block_item_level-roll : (node : BlockItemLayer) → block_item_level (roll-BlockItem node) ≡ level_of_block_item (map-BlockItem BlockItem Stmt Block Else (With ItemFacts) (With StatementFacts) (With BlockFacts) (With ElseFacts) block_item_level stmt_level block_level else_level node)
unfolding block_item_level stmt_level block_level else_level
block_item_level-roll = fold-roll-BlockItem (With ItemFacts) (With StatementFacts) (With BlockFacts) (With ElseFacts) level_of_block_item level_of_stmt level_of_block level_of_else

pub stmt_level-roll : (node : StmtLayer) → stmt_level (roll-Stmt node) ≡ level_of_stmt (map-Stmt BlockItem Stmt Block Else (With ItemFacts) (With StatementFacts) (With BlockFacts) (With ElseFacts) block_item_level stmt_level block_level else_level node)
unfolding block_item_level stmt_level block_level else_level
stmt_level-roll = fold-roll-Stmt (With ItemFacts) (With StatementFacts) (With BlockFacts) (With ElseFacts) level_of_block_item level_of_stmt level_of_block level_of_else

pub block_level-roll : (node : BlockLayer) → block_level (roll-Block node) ≡ level_of_block (map-Block BlockItem Stmt Block Else (With ItemFacts) (With StatementFacts) (With BlockFacts) (With ElseFacts) block_item_level stmt_level block_level else_level node)
unfolding block_item_level stmt_level block_level else_level
block_level-roll = fold-roll-Block (With ItemFacts) (With StatementFacts) (With BlockFacts) (With ElseFacts) level_of_block_item level_of_stmt level_of_block level_of_else

pub else_level-roll : (node : ElseLayer) → else_level (roll-Else node) ≡ level_of_else (map-Else BlockItem Stmt Block Else (With ItemFacts) (With StatementFacts) (With BlockFacts) (With ElseFacts) block_item_level stmt_level block_level else_level node)
unfolding block_item_level stmt_level block_level else_level
else_level-roll = fold-roll-Else (With ItemFacts) (With StatementFacts) (With BlockFacts) (With ElseFacts) level_of_block_item level_of_stmt level_of_block level_of_else

-- ---- one equation for each kind of node

pub block_item_level-Declaration : (declaration : Declaration) (names : Names) → block_item_level (block_item.Declaration declaration) names ≡ level_of_block_item (BlockItem-F.Declaration declaration) names
block_item_level-Declaration declaration names = ap (λ f. f names) (ap block_item_level (sym (block_item.rolls-Declaration declaration)) ∙ block_item_level-roll (BlockItem-F.Declaration declaration))

pub block_item_level-Statement : (statement : Stmt) (names : Names) → block_item_level (block_item.Statement statement) names ≡ level_of_block_item (BlockItem-F.Statement (stmt_level statement)) names
block_item_level-Statement statement names = ap (λ f. f names) (ap block_item_level (sym (block_item.rolls-Statement statement)) ∙ block_item_level-roll (BlockItem-F.Statement statement))

pub block_item_level-Case : (at : Pos) (value : Expr) (colon : Pos) (names : Names) → block_item_level (block_item.Case at value colon) names ≡ level_of_block_item (BlockItem-F.Case at value colon) names
block_item_level-Case at value colon names = ap (λ f. f names) (ap block_item_level (sym (block_item.rolls-Case at value colon)) ∙ block_item_level-roll (BlockItem-F.Case at value colon))

pub block_item_level-Default : (at : Pos) (colon : Pos) (names : Names) → block_item_level (block_item.Default at colon) names ≡ level_of_block_item (BlockItem-F.Default at colon) names
block_item_level-Default at colon names = ap (λ f. f names) (ap block_item_level (sym (block_item.rolls-Default at colon)) ∙ block_item_level-roll (BlockItem-F.Default at colon))

pub stmt_level-Block : (block : Block) (names : Names) → stmt_level (stmt.Block block) names ≡ level_of_stmt (Stmt-F.Block (block_level block)) names
stmt_level-Block block names = ap (λ f. f names) (ap stmt_level (sym (stmt.rolls-Block block)) ∙ stmt_level-roll (Stmt-F.Block block))

pub stmt_level-Expression : (value : Option Expr) (semicolon : Pos) (names : Names) → stmt_level (stmt.Expression value semicolon) names ≡ level_of_stmt (Stmt-F.Expression value semicolon) names
stmt_level-Expression value semicolon names = ap (λ f. f names) (ap stmt_level (sym (stmt.rolls-Expression value semicolon)) ∙ stmt_level-roll (Stmt-F.Expression value semicolon))

pub stmt_level-If : (at : Pos) (condition : Condition) (body : Stmt) (others : List Else) (names : Names) → stmt_level (stmt.If at condition body others) names ≡ level_of_stmt (Stmt-F.If at condition (stmt_level body) (map else_level others)) names
stmt_level-If at condition body others names = ap (λ f. f names) (ap stmt_level (sym (stmt.rolls-If at condition body others)) ∙ stmt_level-roll (Stmt-F.If at condition body others))

pub stmt_level-While : (at : Pos) (condition : Condition) (body : Stmt) (names : Names) → stmt_level (stmt.While at condition body) names ≡ level_of_stmt (Stmt-F.While at condition (stmt_level body)) names
stmt_level-While at condition body names = ap (λ f. f names) (ap stmt_level (sym (stmt.rolls-While at condition body)) ∙ stmt_level-roll (Stmt-F.While at condition body))

pub stmt_level-Do : (at : Pos) (body : Stmt) (while_at : Pos) (condition : Condition) (semicolon : Pos) (names : Names) → stmt_level (stmt.Do at body while_at condition semicolon) names ≡ level_of_stmt (Stmt-F.Do at (stmt_level body) while_at condition semicolon) names
stmt_level-Do at body while_at condition semicolon names = ap (λ f. f names) (ap stmt_level (sym (stmt.rolls-Do at body while_at condition semicolon)) ∙ stmt_level-roll (Stmt-F.Do at body while_at condition semicolon))

pub stmt_level-For : (at : Pos) (control : ForControl) (body : Stmt) (names : Names) → stmt_level (stmt.For at control body) names ≡ level_of_stmt (Stmt-F.For at control (stmt_level body)) names
stmt_level-For at control body names = ap (λ f. f names) (ap stmt_level (sym (stmt.rolls-For at control body)) ∙ stmt_level-roll (Stmt-F.For at control body))

pub stmt_level-Switch : (at : Pos) (condition : Condition) (body : Block) (names : Names) → stmt_level (stmt.Switch at condition body) names ≡ level_of_stmt (Stmt-F.Switch at condition (block_level body)) names
stmt_level-Switch at condition body names = ap (λ f. f names) (ap stmt_level (sym (stmt.rolls-Switch at condition body)) ∙ stmt_level-roll (Stmt-F.Switch at condition body))

pub stmt_level-Break : (at : Pos) (semicolon : Pos) (names : Names) → stmt_level (stmt.Break at semicolon) names ≡ level_of_stmt (Stmt-F.Break at semicolon) names
stmt_level-Break at semicolon names = ap (λ f. f names) (ap stmt_level (sym (stmt.rolls-Break at semicolon)) ∙ stmt_level-roll (Stmt-F.Break at semicolon))

pub stmt_level-Continue : (at : Pos) (semicolon : Pos) (names : Names) → stmt_level (stmt.Continue at semicolon) names ≡ level_of_stmt (Stmt-F.Continue at semicolon) names
stmt_level-Continue at semicolon names = ap (λ f. f names) (ap stmt_level (sym (stmt.rolls-Continue at semicolon)) ∙ stmt_level-roll (Stmt-F.Continue at semicolon))

pub stmt_level-Return : (at : Pos) (value : Option Expr) (semicolon : Pos) (names : Names) → stmt_level (stmt.Return at value semicolon) names ≡ level_of_stmt (Stmt-F.Return at value semicolon) names
stmt_level-Return at value semicolon names = ap (λ f. f names) (ap stmt_level (sym (stmt.rolls-Return at value semicolon)) ∙ stmt_level-roll (Stmt-F.Return at value semicolon))

pub block_level-is : (node : Block) (names : Names) → block_level node names ≡ level_of_block (record { opening = (out-Block node).opening; items = map block_item_level (out-Block node).items; closing = (out-Block node).closing }) names
block_level-is node names = ap (λ f. f names) (ap block_level (sym (roll-out-Block node)) ∙ block_level-roll (out-Block node))

pub else_level-is : (node : Else) (names : Names) → else_level node names ≡ level_of_else (record { word = (out-Else node).word; head = (out-Else node).head; body = stmt_level (out-Else node).body }) names
else_level-is node names = ap (λ f. f names) (ap else_level (sym (roll-out-Else node)) ∙ else_level-roll (out-Else node))
