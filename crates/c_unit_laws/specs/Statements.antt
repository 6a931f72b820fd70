-- In what typing makes of every statement, jumps have what they leave, and the labels of each switch differ.
use Rattle.std.specs.Prelude.{◌≡◌, List, [], ◌∷◌, Some, None, map}
use Rattle.std.proofs.Common.{sym, subst}
use Rattle.std.specs.List.{AllByRecursion}
use Rattle.std.specs.Option.{option_map}
use Rattle.c_tree.specs.declared.statement.BlockItem.{BlockItem, roll-BlockItem}
use Rattle.c_tree.specs.declared.statement.Stmt.{Stmt, roll-Stmt}
use Rattle.c_tree.specs.declared.statement.Block.{Block, roll-Block}
use Rattle.c_tree.specs.declared.statement.Else.{Else, roll-Else}
use Rattle.c_tree.specs.declared.statement.BlockItem.TheOpen.{BlockItem-F, Stmt-F, Block-F, Else-F}
use Rattle.c_tree.specs.declared.statement.BlockItem.TheFolds.{map-BlockItem, map-Stmt, map-Block, ind-Block, map-Else}
use Rattle.c_tree.specs.Layers.{BlockItemLayer, StmtLayer, BlockLayer, ElseLayer}
use Rattle.c_typing.specs.Trees.{expr_typing}
use Rattle.c_typing.specs.Declarations.{declared_of}
use Rattle.c_typing.specs.OfStatements.{controlling_of}
use Rattle.c_typing.specs.Statements.{block_item_typing, block_item_typing-roll, stmt_typing, stmt_typing-roll, block_typing, block_typing-roll, else_typing, else_typing-roll}
use Rattle.c_unit_laws.specs.Declarations.{declaration_row}
use Rattle.c_unit_laws.specs.OfStatements.{Stands, DoesItem, DoesElse, block_row, empty, evaluate_row, if_row, while_row, do_row, for_row, switch_row, break_row, continue_row, return_row}

abbrev Itemised : BlockItem → Type 0
Itemised x = DoesItem (block_item_typing x)

abbrev Stated : Stmt → Type 0
Stated x = Stands (stmt_typing x)

abbrev Blocked : Block → Type 0
Blocked x = AllByRecursion DoesItem (block_typing x)

abbrev Elsed : Else → Type 0
Elsed x = DoesElse (else_typing x)

abbrev KnownItem : Type 0
KnownItem = (x : BlockItem) × Itemised x

abbrev KnownStmt : Type 0
KnownStmt = (x : Stmt) × Stated x

abbrev KnownBlock : Type 0
KnownBlock = (x : Block) × Blocked x

abbrev KnownElse : Type 0
KnownElse = (x : Else) × Elsed x

abbrev bare_item : BlockItem-F KnownItem KnownStmt KnownBlock KnownElse → BlockItemLayer
bare_item = map-BlockItem KnownItem KnownStmt KnownBlock KnownElse BlockItem Stmt Block Else (λ e. e.0) (λ e. e.0) (λ e. e.0) (λ e. e.0)

abbrev bare_stmt : Stmt-F KnownItem KnownStmt KnownBlock KnownElse → StmtLayer
bare_stmt = map-Stmt KnownItem KnownStmt KnownBlock KnownElse BlockItem Stmt Block Else (λ e. e.0) (λ e. e.0) (λ e. e.0) (λ e. e.0)

abbrev bare_block : Block-F KnownItem KnownStmt KnownBlock KnownElse → BlockLayer
bare_block = map-Block KnownItem KnownStmt KnownBlock KnownElse BlockItem Stmt Block Else (λ e. e.0) (λ e. e.0) (λ e. e.0) (λ e. e.0)

abbrev bare_else : Else-F KnownItem KnownStmt KnownBlock KnownElse → ElseLayer
bare_else = map-Else KnownItem KnownStmt KnownBlock KnownElse BlockItem Stmt Block Else (λ e. e.0) (λ e. e.0) (λ e. e.0) (λ e. e.0)

-- what is shown of a node holds of its tree
met : {A : Type 0} (P : A → Type 0) {typed made : A} → typed ≡ made → P made → P typed
met P f p = subst P (sym f) p

items_of : (items : List KnownItem) → AllByRecursion DoesItem (map block_item_typing (map (λ e. e.0) items))
items_of [] = tt
items_of (e ∷ items) = (e.1, items_of items)

others_of : (es : List KnownElse) → AllByRecursion DoesElse (map else_typing (map (λ e. e.0) es))
others_of [] = tt
others_of (e ∷ es) = (e.1, others_of es)

of_stmt : (y : Stmt-F KnownItem KnownStmt KnownBlock KnownElse) → Stated (roll-Stmt (bare_stmt y))
of_stmt (Stmt-F.Block block) = met Stands (stmt_typing-roll (Stmt-F.Block block.0)) (block_row (block_typing block.0) block.1)
of_stmt (Stmt-F.Expression None semicolon) = met Stands (stmt_typing-roll (Stmt-F.Expression None semicolon)) (λ b k. empty b k [] tt)
of_stmt (Stmt-F.Expression (Some e) semicolon) =
    met Stands (stmt_typing-roll (Stmt-F.Expression (Some e) semicolon)) (evaluate_row (expr_typing e))
of_stmt (Stmt-F.If at condition body others) =
    met Stands (stmt_typing-roll (Stmt-F.If at condition body.0 (map (λ e. e.0) others)))
    (if_row at (expr_typing condition.value) (stmt_typing body.0) (map else_typing (map (λ e. e.0) others)) body.1 (others_of others))
of_stmt (Stmt-F.While at condition body) =
    met Stands (stmt_typing-roll (Stmt-F.While at condition body.0)) (while_row at (expr_typing condition.value) (stmt_typing body.0) body.1)
of_stmt (Stmt-F.Do at body while_at condition semicolon) =
    met Stands (stmt_typing-roll (Stmt-F.Do at body.0 while_at condition semicolon)) (do_row at (stmt_typing body.0) (expr_typing condition.value) body.1)
of_stmt (Stmt-F.For at control body) =
    met Stands (stmt_typing-roll (Stmt-F.For at control body.0)) (for_row at (controlling_of control) (stmt_typing body.0) body.1)
of_stmt (Stmt-F.Switch at condition body) =
    met Stands (stmt_typing-roll (Stmt-F.Switch at condition body.0)) (switch_row at (expr_typing condition.value) (block_typing body.0) body.1)
of_stmt (Stmt-F.Break at semicolon) = met Stands (stmt_typing-roll (Stmt-F.Break at semicolon)) (break_row at)
of_stmt (Stmt-F.Continue at semicolon) = met Stands (stmt_typing-roll (Stmt-F.Continue at semicolon)) (continue_row at)
of_stmt (Stmt-F.Return at e semicolon) =
    met Stands (stmt_typing-roll (Stmt-F.Return at e semicolon)) (return_row at (option_map expr_typing e))

of_else : (y : Else-F KnownItem KnownStmt KnownBlock KnownElse) → Elsed (roll-Else (bare_else y))
of_else y = met DoesElse (else_typing-roll (bare_else y)) y.body.1

of_block : (y : Block-F KnownItem KnownStmt KnownBlock KnownElse) → Blocked (roll-Block (bare_block y))
of_block y = met (AllByRecursion DoesItem) (block_typing-roll (bare_block y)) (items_of y.items)

of_item : (y : BlockItem-F KnownItem KnownStmt KnownBlock KnownElse) → Itemised (roll-BlockItem (bare_item y))
of_item (BlockItem-F.Declaration d) = met DoesItem (block_item_typing-roll (BlockItem-F.Declaration d)) (declaration_row (declared_of d))
of_item (BlockItem-F.Statement s) = met DoesItem (block_item_typing-roll (BlockItem-F.Statement s.0)) s.1
of_item (BlockItem-F.Case at e colon) = met DoesItem (block_item_typing-roll (BlockItem-F.Case at e colon)) tt
of_item (BlockItem-F.Default at colon) = met DoesItem (block_item_typing-roll (BlockItem-F.Default at colon)) tt

pub block : (x : Block) → Blocked x
block = ind-Block Itemised Stated Blocked Elsed
    (λ x y is. subst (λ z. Itemised (roll-BlockItem z)) is (of_item y))
    (λ x y is. subst (λ z. Stated (roll-Stmt z)) is (of_stmt y))
    (λ x y is. subst (λ z. Blocked (roll-Block z)) is (of_block y))
    (λ x y is. subst (λ z. Elsed (roll-Else z)) is (of_else y))
