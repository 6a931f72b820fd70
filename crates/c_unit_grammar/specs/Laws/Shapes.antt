-- A tree is one of its kinds of node.
use Rattle.std.specs.Prelude.{◌≡◌, List, Option}
use Rattle.std.proofs.Common.{sym, ◌∙◌, subst}
use Rattle.c_tree.specs.declared.token.Pos.{Pos}
use Rattle.c_tree.specs.declared.expression.Expr.{Expr}
use Rattle.c_tree.specs.declared.declaration.Initialiser.{Initialiser, out-Initialiser, roll-Initialiser, roll-out-Initialiser}
use Rattle.c_tree.specs.declared.declaration.Initialiser.TheVariants as init
use Rattle.c_tree.specs.declared.declaration.InitialiserItem.{InitialiserItem}
use Rattle.c_tree.specs.declared.declaration.Initialiser.TheOpen.{Initialiser-F}
use Rattle.c_tree.specs.declared.declaration.Declaration.{Declaration}
use Rattle.c_tree.specs.declared.statement.Condition.{Condition}
use Rattle.c_tree.specs.declared.statement.ForControl.{ForControl}
use Rattle.c_tree.specs.declared.statement.Stmt.{Stmt, out-Stmt, roll-Stmt, roll-out-Stmt}
use Rattle.c_tree.specs.declared.statement.Stmt.TheVariants as stmt
use Rattle.c_tree.specs.declared.statement.Block.{Block}
use Rattle.c_tree.specs.declared.statement.Else.{Else}
use Rattle.c_tree.specs.declared.statement.BlockItem.{BlockItem, out-BlockItem, roll-BlockItem, roll-out-BlockItem}
use Rattle.c_tree.specs.declared.statement.BlockItem.TheVariants as block_item
use Rattle.c_tree.specs.declared.statement.BlockItem.TheOpen.{BlockItem-F, Stmt-F}
use Rattle.c_tree.specs.Layers.{InitialiserLayer, StmtLayer, BlockItemLayer}

-- ---- initialisers

pub data InitialiserShape : Initialiser → Type 0 where
  a_expression : (value : Expr) → InitialiserShape (init.Expression value)
  a_list : (from : Pos) (items : List InitialiserItem) (comma : Option Pos) (to : Pos) → InitialiserShape (init.List from items comma to)

by_initialiser : (x : Initialiser) (node : InitialiserLayer) → roll-Initialiser node ≡ x → InitialiserShape x
by_initialiser x (Initialiser-F.Expression value) r = subst InitialiserShape (sym (init.rolls-Expression value) ∙ r) (InitialiserShape.a_expression value)
by_initialiser x (Initialiser-F.List from items comma to) r = subst InitialiserShape (sym (init.rolls-List from items comma to) ∙ r) (InitialiserShape.a_list from items comma to)

pub initialiser_shape : (x : Initialiser) → InitialiserShape x
initialiser_shape x = by_initialiser x (out-Initialiser x) (roll-out-Initialiser x)

-- ---- statements

pub data StmtShape : Stmt → Type 0 where
  a_block : (block : Block) → StmtShape (stmt.Block block)
  a_expression : (value : Option Expr) (semicolon : Pos) → StmtShape (stmt.Expression value semicolon)
  a_if : (at : Pos) (condition : Condition) (body : Stmt) (others : List Else) → StmtShape (stmt.If at condition body others)
  a_while : (at : Pos) (condition : Condition) (body : Stmt) → StmtShape (stmt.While at condition body)
  a_do : (at : Pos) (body : Stmt) (while_at : Pos) (condition : Condition) (semicolon : Pos) → StmtShape (stmt.Do at body while_at condition semicolon)
  a_for : (at : Pos) (control : ForControl) (body : Stmt) → StmtShape (stmt.For at control body)
  a_switch : (at : Pos) (condition : Condition) (body : Block) → StmtShape (stmt.Switch at condition body)
  a_break : (at semicolon : Pos) → StmtShape (stmt.Break at semicolon)
  a_continue : (at semicolon : Pos) → StmtShape (stmt.Continue at semicolon)
  a_return : (at : Pos) (value : Option Expr) (semicolon : Pos) → StmtShape (stmt.Return at value semicolon)

by_stmt : (x : Stmt) (node : StmtLayer) → roll-Stmt node ≡ x → StmtShape x
by_stmt x (Stmt-F.Block block) r = subst StmtShape (sym (stmt.rolls-Block block) ∙ r) (StmtShape.a_block block)
by_stmt x (Stmt-F.Expression value semicolon) r = subst StmtShape (sym (stmt.rolls-Expression value semicolon) ∙ r) (StmtShape.a_expression value semicolon)
by_stmt x (Stmt-F.If at condition body others) r = subst StmtShape (sym (stmt.rolls-If at condition body others) ∙ r) (StmtShape.a_if at condition body others)
by_stmt x (Stmt-F.While at condition body) r = subst StmtShape (sym (stmt.rolls-While at condition body) ∙ r) (StmtShape.a_while at condition body)
by_stmt x (Stmt-F.Do at body while_at condition semicolon) r = subst StmtShape (sym (stmt.rolls-Do at body while_at condition semicolon) ∙ r) (StmtShape.a_do at body while_at condition semicolon)
by_stmt x (Stmt-F.For at control body) r = subst StmtShape (sym (stmt.rolls-For at control body) ∙ r) (StmtShape.a_for at control body)
by_stmt x (Stmt-F.Switch at condition body) r = subst StmtShape (sym (stmt.rolls-Switch at condition body) ∙ r) (StmtShape.a_switch at condition body)
by_stmt x (Stmt-F.Break at semicolon) r = subst StmtShape (sym (stmt.rolls-Break at semicolon) ∙ r) (StmtShape.a_break at semicolon)
by_stmt x (Stmt-F.Continue at semicolon) r = subst StmtShape (sym (stmt.rolls-Continue at semicolon) ∙ r) (StmtShape.a_continue at semicolon)
by_stmt x (Stmt-F.Return at value semicolon) r = subst StmtShape (sym (stmt.rolls-Return at value semicolon) ∙ r) (StmtShape.a_return at value semicolon)

pub stmt_shape : (x : Stmt) → StmtShape x
stmt_shape x = by_stmt x (out-Stmt x) (roll-out-Stmt x)

-- ---- items of a block

pub data ItemShape : BlockItem → Type 0 where
  a_declaration : (declaration : Declaration) → ItemShape (block_item.Declaration declaration)
  a_statement : (statement : Stmt) → ItemShape (block_item.Statement statement)
  a_case : (at : Pos) (value : Expr) (colon : Pos) → ItemShape (block_item.Case at value colon)
  a_default : (at colon : Pos) → ItemShape (block_item.Default at colon)

by_item : (x : BlockItem) (node : BlockItemLayer) → roll-BlockItem node ≡ x → ItemShape x
by_item x (BlockItem-F.Declaration declaration) r = subst ItemShape (sym (block_item.rolls-Declaration declaration) ∙ r) (ItemShape.a_declaration declaration)
by_item x (BlockItem-F.Statement statement) r = subst ItemShape (sym (block_item.rolls-Statement statement) ∙ r) (ItemShape.a_statement statement)
by_item x (BlockItem-F.Case at value colon) r = subst ItemShape (sym (block_item.rolls-Case at value colon) ∙ r) (ItemShape.a_case at value colon)
by_item x (BlockItem-F.Default at colon) r = subst ItemShape (sym (block_item.rolls-Default at colon) ∙ r) (ItemShape.a_default at colon)

pub item_shape : (x : BlockItem) → ItemShape x
item_shape x = by_item x (out-BlockItem x) (roll-out-BlockItem x)
