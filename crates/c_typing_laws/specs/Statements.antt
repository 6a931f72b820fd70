-- Every declaration and statement of the grammar gives a typed tree where typing tells no fault of it.
use Rattle.std.specs.Prelude.{◌≡◌, Bool, true, ◌&&◌, not, List, [], ◌∷◌, ◌++◌, Option, Some, None, map, is_some}
use Rattle.std.proofs.Common.{subst}
use Rattle.std.specs.Option.{option_map}
use Rattle.std.specs.List.{AllByRecursion}
use Rattle.c_tree.specs.declared.expression.Expr.{Expr}
use Rattle.c_tree.specs.declared.declaration.Start.{Start}
use Rattle.c_tree.specs.declared.declaration.InitDeclarator.{InitDeclarator}
use Rattle.c_tree.specs.declared.declaration.Declaration.{Declaration}
use Rattle.c_tree.specs.declared.statement.IfHead.{IfHead}
use Rattle.c_tree.specs.declared.statement.ForHead.{ForHead}
use Rattle.c_tree.specs.declared.statement.ForHead.TheVariants as head
use Rattle.c_tree.specs.declared.statement.ForControl.{ForControl}
use Rattle.c_tree.specs.declared.statement.BlockItem.{BlockItem, roll-BlockItem}
use Rattle.c_tree.specs.declared.statement.Stmt.{Stmt, roll-Stmt}
use Rattle.c_tree.specs.declared.statement.Block.{Block, roll-Block}
use Rattle.c_tree.specs.declared.statement.Else.{Else, roll-Else}
use Rattle.c_tree.specs.declared.statement.BlockItem.TheOpen.{BlockItem-F, Stmt-F, Block-F, Else-F}
use Rattle.c_tree.specs.declared.statement.BlockItem.TheFolds.{map-BlockItem, map-Stmt, map-Block, map-Else, ind-Block}
use Rattle.c_tree.specs.Layers.{BlockItemLayer, StmtLayer, BlockLayer, ElseLayer}
use Rattle.c_tree.specs.Levels.Names.{Names, in_row}
use Rattle.c_tree.specs.Levels.Facts.{SpecifiersFacts}
use Rattle.c_tree.specs.Levels.Trees.{declarator_level}
use Rattle.c_tree.specs.Levels.Declarations.{specifiers_level, start_level, init_declarator_level, declaration_level}
use Rattle.c_tree.specs.Levels.StatementFacts.{facts_of_block, chained}
use Rattle.c_tree.specs.Levels.OfStatements.{condition_level, for_head_level, for_control_level, if_head_level}
use Rattle.c_tree.specs.Levels.Statements.{block_item_level, block_item_level-roll, stmt_level, stmt_level-roll, block_level, block_level-roll, else_level, else_level-roll}
use Rattle.c_typing.specs.Trees.{expr_typing}
use Rattle.c_typing.specs.Initialisers.{initialiser_typing}
use Rattle.c_typing.specs.Declarations.{beginning_of, declared_of}
use Rattle.c_typing.specs.OfStatements.{heading_of, controlling_of, else_condition}
use Rattle.c_typing.specs.Statements.{block_item_typing, block_item_typing-roll, stmt_typing, stmt_typing-roll, block_typing, block_typing-roll, else_typing, else_typing-roll}
use Rattle.c_typing_laws.specs.Scopes.{Answers, Any}
use Rattle.c_typing_laws.specs.Trees.{expression, declarator_of, specifiers}
use Rattle.c_typing_laws.specs.Initialisers.{initialiser}
use Rattle.c_typing_laws.specs.Declarations.{IfInitialises, Begins, Declares, declaration_row}
use Rattle.c_typing_laws.specs.OfStatements.{DoesItem, DoesElse, IfDone, IfSays, Heads, Controls, block_row, empty, evaluate_row, condition_row, if_row, while_row, do_row, for_row, switch_row, break_row, continue_row, return_row}
use Rattle.c_typing_laws.specs.Levels.{left, right, met, listed_all, named}

abbrev Itemised : BlockItem → Type 0
Itemised x = (names : Names) → (block_item_level x names).0.good ≡ true → DoesItem (block_item_typing x)

abbrev Stated : Stmt → Type 0
Stated x = (names : Names) → (stmt_level x names).0.good ≡ true → Answers Any (stmt_typing x)

abbrev Blocked : Block → Type 0
Blocked x = (names : Names) → (block_level x names).0.good ≡ true → AllByRecursion DoesItem (block_typing x)

abbrev Elsed : Else → Type 0
Elsed x = (names : Names) → (else_level x names).0.good ≡ true → DoesElse (else_typing x)

abbrev KnownItem : Type 0
KnownItem = (x : BlockItem) × Itemised x

abbrev KnownStmt : Type 0
KnownStmt = (x : Stmt) × Stated x

abbrev KnownBlock : Type 0
KnownBlock = (x : Block) × Blocked x

abbrev KnownElse : Type 0
KnownElse = (x : Else) × Elsed x

abbrev bare_item : BlockItem-F KnownItem KnownStmt KnownBlock KnownElse → BlockItemLayer
bare_item = map-BlockItem KnownItem KnownStmt KnownBlock KnownElse BlockItem Stmt Block Else (λ e. e.0) (λ e. e.0) (λ e. e.0) (λ e. e.0)

abbrev bare_stmt : Stmt-F KnownItem KnownStmt KnownBlock KnownElse → StmtLayer
bare_stmt = map-Stmt KnownItem KnownStmt KnownBlock KnownElse BlockItem Stmt Block Else (λ e. e.0) (λ e. e.0) (λ e. e.0) (λ e. e.0)

abbrev bare_block : Block-F KnownItem KnownStmt KnownBlock KnownElse → BlockLayer
bare_block = map-Block KnownItem KnownStmt KnownBlock KnownElse BlockItem Stmt Block Else (λ e. e.0) (λ e. e.0) (λ e. e.0) (λ e. e.0)

abbrev bare_else : Else-F KnownItem KnownStmt KnownBlock KnownElse → ElseLayer
bare_else = map-Else KnownItem KnownStmt KnownBlock KnownElse BlockItem Stmt Block Else (λ e. e.0) (λ e. e.0) (λ e. e.0) (λ e. e.0)

-- ---- rows of items

items_of : (items : List KnownItem) (names : Names) → (facts_of_block (in_row (map block_item_level (map (λ e. e.0) items)) names).0).good ≡ true
    → AllByRecursion DoesItem (map block_item_typing (map (λ e. e.0) items))
items_of [] names h = tt
items_of (e ∷ items) names h =
    (e.1 names (left (block_item_level e.0 names).0.good _ h), items_of items (names ++ (block_item_level e.0 names).1) (right (block_item_level e.0 names).0.good _ h))

others_of : (taking : Bool) (es : List KnownElse) (names : Names) → chained taking (in_row (map else_level (map (λ e. e.0) es)) names).0 ≡ true
    → AllByRecursion DoesElse (map else_typing (map (λ e. e.0) es))
others_of taking [] names h = tt
others_of taking (e ∷ []) names h = (e.1 names (left (else_level e.0 names).0.good _ (right (not taking) _ h)), tt)
others_of taking (e ∷ f ∷ es) names h =
    let here = (else_level e.0 names).0 in
    let rest = right here.good _ (right (not taking) _ h) in
    (e.1 names (left here.good _ (right (not taking) _ h)), others_of here.body.takes_else (f ∷ es) (names ++ (else_level e.0 names).1) (right (not here.is_last) _ rest))

-- ---- declarations

start_of : (start : Option Start) (names : Names) → (start_level start names).0 ≡ true → IfInitialises (option_map (λ s. initialiser_typing s.value) start)
start_of None names h = tt
start_of (Some s) names h = initialiser s.value names h

beginning : (s : SpecifiersFacts) (d : InitDeclarator) (names : Names) → (init_declarator_level s d names).0.good ≡ true → Begins (beginning_of d)
beginning s d names h =
    let f = (declarator_level d.declarator names).0 in
    let declares = left (f.good && (is_some f.name && _)) _ h in
    record {
      derives = declarator_of d.declarator;
      named = named d.declarator names (left (is_some f.name) _ (right f.good _ declares));
      start = start_of d.start _ (right (f.good && (is_some f.name && _)) _ h);
    }

pub declaration : (d : Declaration) (names : Names) → (declaration_level d names).0 ≡ true → Declares (declared_of d)
declaration d names h =
    let s = specifiers_level d.specifiers names in
    record {
      specifiers = specifiers d.specifiers;
      declarators = listed_all (init_declarator_level s.0) beginning_of Begins (beginning s.0) d.declarators (names ++ s.1) (right s.0.good _ h);
    }

-- ---- statements

says_any : (o : Option Expr) → IfSays (option_map expr_typing o)
says_any (Some e) = expression e
says_any None = tt

condition_of : (o : Option IfHead) → IfDone (else_condition o)
condition_of None = tt
condition_of (Some h) = condition_row h.word (expr_typing h.condition.value) (expression h.condition.value)

head_of : (h : ForHead) (names : Names) → (for_head_level h names).0 ≡ true → Heads (heading_of h)
head_of (head.Expression e semicolon) names g = says_any e
head_of (head.Declaration d) names g = declaration d names g

control_of : (k : ForControl) (names : Names) → (for_control_level k names).0 ≡ true → Controls (controlling_of k)
control_of k names h = record {
  head = head_of k.head names (left (for_head_level k.head names).0 _ h);
  condition = says_any k.condition;
  step = says_any k.step;
}

of_stmt : (y : Stmt-F KnownItem KnownStmt KnownBlock KnownElse) → Stated (roll-Stmt (bare_stmt y))
of_stmt (Stmt-F.Block block) =
    met (Answers Any) (λ f. f.good) (stmt_level-roll (Stmt-F.Block block.0)) (stmt_typing-roll (Stmt-F.Block block.0))
    (λ names h. block_row (block_typing block.0) (block.1 names (left (block_level block.0 names).0.good _ h)))
of_stmt (Stmt-F.Expression None semicolon) =
    met (Answers Any) (λ f. f.good) (stmt_level-roll (Stmt-F.Expression None semicolon)) (stmt_typing-roll (Stmt-F.Expression None semicolon)) (λ names h. empty [])
of_stmt (Stmt-F.Expression (Some e) semicolon) =
    met (Answers Any) (λ f. f.good) (stmt_level-roll (Stmt-F.Expression (Some e) semicolon)) (stmt_typing-roll (Stmt-F.Expression (Some e) semicolon))
    (λ names h. evaluate_row (expr_typing e) (expression e))
of_stmt (Stmt-F.If at condition body others) =
    met (Answers Any) (λ f. f.good) (stmt_level-roll (Stmt-F.If at condition body.0 (map (λ e. e.0) others))) (stmt_typing-roll (Stmt-F.If at condition body.0 (map (λ e. e.0) others)))
    (λ names h.
    let c = condition_level condition names in
    let b = (stmt_level body.0 (names ++ c.1)).0 in
    let g = right c.0 _ h in
    if_row at (expr_typing condition.value) (stmt_typing body.0) (map else_typing (map (λ e. e.0) others)) (expression condition.value)
    (body.1 (names ++ c.1) (left b.good _ g)) (others_of b.takes_else others ((names ++ c.1) ++ []) (right b.good _ g)))
of_stmt (Stmt-F.While at condition body) =
    met (Answers Any) (λ f. f.good) (stmt_level-roll (Stmt-F.While at condition body.0)) (stmt_typing-roll (Stmt-F.While at condition body.0))
    (λ names h. let c = condition_level condition names in
    while_row at (expr_typing condition.value) (stmt_typing body.0) (expression condition.value) (body.1 (names ++ c.1) (right c.0 _ h)))
of_stmt (Stmt-F.Do at body while_at condition semicolon) =
    met (Answers Any) (λ f. f.good) (stmt_level-roll (Stmt-F.Do at body.0 while_at condition semicolon)) (stmt_typing-roll (Stmt-F.Do at body.0 while_at condition semicolon))
    (λ names h. do_row at (stmt_typing body.0) (expr_typing condition.value) (body.1 names (left (stmt_level body.0 names).0.good _ h)) (expression condition.value))
of_stmt (Stmt-F.For at control body) =
    met (Answers Any) (λ f. f.good) (stmt_level-roll (Stmt-F.For at control body.0)) (stmt_typing-roll (Stmt-F.For at control body.0))
    (λ names h. let c = for_control_level control names in
    for_row at (controlling_of control) (stmt_typing body.0) (control_of control names (left c.0 _ h)) (body.1 (names ++ c.1) (right c.0 _ h)))
of_stmt (Stmt-F.Switch at condition body) =
    met (Answers Any) (λ f. f.good) (stmt_level-roll (Stmt-F.Switch at condition body.0)) (stmt_typing-roll (Stmt-F.Switch at condition body.0))
    (λ names h. let c = condition_level condition names in
    switch_row at (expr_typing condition.value) (block_typing body.0) (expression condition.value) (body.1 (names ++ c.1) (right c.0 _ h)))
of_stmt (Stmt-F.Break at semicolon) =
    met (Answers Any) (λ f. f.good) (stmt_level-roll (Stmt-F.Break at semicolon)) (stmt_typing-roll (Stmt-F.Break at semicolon)) (λ names h. break_row at)
of_stmt (Stmt-F.Continue at semicolon) =
    met (Answers Any) (λ f. f.good) (stmt_level-roll (Stmt-F.Continue at semicolon)) (stmt_typing-roll (Stmt-F.Continue at semicolon)) (λ names h. continue_row at)
of_stmt (Stmt-F.Return at e semicolon) =
    met (Answers Any) (λ f. f.good) (stmt_level-roll (Stmt-F.Return at e semicolon)) (stmt_typing-roll (Stmt-F.Return at e semicolon))
    (λ names h. return_row at (option_map expr_typing e) (says_any e))

of_else : (y : Else-F KnownItem KnownStmt KnownBlock KnownElse) → Elsed (roll-Else (bare_else y))
of_else y =
    met DoesElse (λ f. f.good) (else_level-roll (bare_else y)) (else_typing-roll (bare_else y))
    (λ names h. let c = if_head_level y.head names in
    record { condition = condition_of y.head; body = y.body.1 (names ++ c.1) (right c.0 _ h) })

of_block : (y : Block-F KnownItem KnownStmt KnownBlock KnownElse) → Blocked (roll-Block (bare_block y))
of_block y =
    met (AllByRecursion DoesItem) (λ f. f.good) (block_level-roll (bare_block y)) (block_typing-roll (bare_block y)) (λ names h. items_of y.items names h)

of_item : (y : BlockItem-F KnownItem KnownStmt KnownBlock KnownElse) → Itemised (roll-BlockItem (bare_item y))
of_item (BlockItem-F.Declaration d) =
    met DoesItem (λ f. f.good) (block_item_level-roll (BlockItem-F.Declaration d)) (block_item_typing-roll (BlockItem-F.Declaration d))
    (λ names h. declaration_row (declared_of d) (declaration d names h))
of_item (BlockItem-F.Statement s) =
    met DoesItem (λ f. f.good) (block_item_level-roll (BlockItem-F.Statement s.0)) (block_item_typing-roll (BlockItem-F.Statement s.0)) (λ names h. s.1 names h)
of_item (BlockItem-F.Case at e colon) =
    met DoesItem (λ f. f.good) (block_item_level-roll (BlockItem-F.Case at e colon)) (block_item_typing-roll (BlockItem-F.Case at e colon)) (λ names h. expression e)
of_item (BlockItem-F.Default at colon) =
    met DoesItem (λ f. f.good) (block_item_level-roll (BlockItem-F.Default at colon)) (block_item_typing-roll (BlockItem-F.Default at colon)) (λ names h. tt)

pub block : (x : Block) → Blocked x
block = ind-Block Itemised Stated Blocked Elsed
    (λ x y is. subst (λ z. Itemised (roll-BlockItem z)) is (of_item y))
    (λ x y is. subst (λ z. Stated (roll-Stmt z)) is (of_stmt y))
    (λ x y is. subst (λ z. Blocked (roll-Block z)) is (of_block y))
    (λ x y is. subst (λ z. Elsed (roll-Else z)) is (of_else y))
