-- Statements and items of blocks are read exactly, at every depth (C11 6.8).
use Rattle.std.specs.Prelude.{◌≡◌, ℕ, zero, suc, Bool, true, false, not, ◌||◌, ◌∷◌, ◌++◌, Option, Ok, refl}
use Rattle.std.proofs.Common.{ap, sym, ◌∙◌, subst, cond, arith}
use denote.Hole.Carrier.{out}
use Rattle.c_tree.specs.declared.token.Pos.{Pos}
use Rattle.c_tree.specs.declared.token.Punct.TheVariants as p
use Rattle.c_tree.specs.declared.token.Keyword.TheVariants as word
use Rattle.c_tree.specs.declared.token.TokenKind.{TokenKind}
use Rattle.c_tree.specs.declared.expression.Expr.{Expr}
use Rattle.c_tree.specs.declared.declaration.Declaration.{Declaration}
use Rattle.c_tree.specs.declared.statement.Stmt.{Stmt, out-Stmt}
use Rattle.c_tree.specs.declared.statement.Stmt.TheVariants as stmt
use Rattle.c_tree.specs.declared.statement.BlockItem.{BlockItem, out-BlockItem}
use Rattle.c_tree.specs.declared.statement.BlockItem.TheVariants as block_item
use Rattle.c_tree.specs.declared.statement.BlockItem.TheOpen.{BlockItem-F}
use Rattle.c_tree.specs.Layers.{BlockItemLayer}
use Rattle.c_tree.specs.Spelling.Tokens.{keyword}
use Rattle.c_tree.specs.Spelling.Declarations.{declaration_spelling}
use Rattle.c_tree.specs.Spelling.Statements.{block_item_spelling, block_item_spelling-Declaration, block_item_spelling-Statement, block_item_spelling-Case, block_item_spelling-Default}
use Rattle.c_tree.specs.Levels.Names.{Names}
use Rattle.c_tree.specs.Levels.Productions.{conditional}
use Rattle.c_tree.specs.Levels.Trees.{expr_level}
use Rattle.c_tree.specs.Levels.Statements.{block_item_level, block_item_level-Declaration, block_item_level-Statement, block_item_level-Case, block_item_level-Default}
use Rattle.c_tree.specs.Nesting.Statements.{block_item_nesting-Declaration, block_item_nesting-Statement, block_item_nesting-Case, block_item_nesting-Default}
use Rattle.c_grammar.specs.Input.{Tokens, State, Parser, refuse, too_deep, peek, expect}
use Rattle.c_grammar.specs.Read.Inner.{begins_specifier}
use Rattle.c_grammar.specs.Read.Depth.{expression}
use Rattle.c_grammar.specs.Ending.Trees.{expr_ending}
use Rattle.c_grammar.specs.Laws.Form.{Form, Exact, Guarded, Node, Image, only, node_exact, same_exact, two, three}
use Rattle.c_grammar.specs.Laws.Single.{mark_form, expect_exact}
use Rattle.c_grammar.specs.Laws.Rows.{pre, pre_exact, closed, closed_exact}
use Rattle.c_grammar.specs.Laws.Behind.{expr_form, nat_le-true, nat_le-is, before_mark}
use Rattle.c_grammar.specs.Laws.SpecifierStarts.{starts_seen}
use Rattle.c_grammar.specs.Laws.Depth.{conditional_read}
use Rattle.c_unit_grammar.specs.Read.Words.{expect_word, StatementKind, Braced, Ifs, Whiles, Does, Fors, Switches, Breaks, Continues, Returns, Expressed, statement_kind, begins_statement, ItemKind, Declares, Cases, Defaults, States, label_kind, item_kind}
use Rattle.c_unit_grammar.specs.Read.Declarations.{declaration}
use Rattle.c_unit_grammar.specs.Read.Statements.{Within, of_kind, statement, declaration_item, case_item, default_item, statement_item, item_of_kind, item, nowhere, within}
use Rattle.c_unit_grammar.specs.Laws.Common.{word_form, expect_word_exact, peek_word, dispatch_exact, known_exact, raise, none_deeper}
use Rattle.c_unit_grammar.specs.Laws.Shapes.{StmtShape, stmt_shape, ItemShape, item_shape}
use Rattle.c_unit_grammar.specs.Laws.Declarations.{declaration_form, declaration_exact}
use Rattle.c_unit_grammar.specs.Laws.StatementFacts.{stmt_kind, takes, kind_seen, item_seen}
use Rattle.c_unit_grammar.specs.Laws.Conditions.{declaration_starts}
use Rattle.c_unit_grammar.specs.Laws.Bodies.{no_else, stmt_form, item_stop, item_form, Inside, block_statement_exact}
use Rattle.c_unit_grammar.specs.Laws.Loops.{while_of, while_exact, do_of, do_exact, for_of, for_exact, switch_of, switch_exact, break_of, break_exact, continue_of, continue_exact, expression_of, expression_exact, return_of, return_exact}
use Rattle.c_unit_grammar.specs.Laws.Elses.{if_of, if_exact}

-- ---- statements

-- what a statement of a kind is made of
abbrev Made : StatementKind → Stmt → Type 0
Made Braced s = Image stmt.Block s
Made Ifs s = Image if_of s
Made Whiles s = Image while_of s
Made Does s = Image do_of s
Made Fors s = Image for_of s
Made Switches s = Image switch_of s
Made Breaks s = Image break_of s
Made Continues s = Image continue_of s
Made Returns s = Image return_of s
Made Expressed s = Image expression_of s

made_shape : {s : Stmt} → StmtShape s → Made (stmt_kind s) s
unfolding stmt_kind out-Stmt out
made_shape (StmtShape.a_block b) = (b, refl)
made_shape (StmtShape.a_expression v e) = ((v, e), refl)
made_shape (StmtShape.a_if at c x os) = ((((at, c), x), os), refl)
made_shape (StmtShape.a_while at c x) = (((at, c), x), refl)
made_shape (StmtShape.a_do at x w c e) = (((((at, x), w), c), e), refl)
made_shape (StmtShape.a_for at c x) = (((at, c), x), refl)
made_shape (StmtShape.a_switch at c x) = (((at, c), x), refl)
made_shape (StmtShape.a_break at e) = ((at, e), refl)
made_shape (StmtShape.a_continue at e) = ((at, e), refl)
made_shape (StmtShape.a_return at v e) = ((at, (v, e)), refl)

made : (s : Stmt) (kind : StatementKind) → stmt_kind s ≡ kind → Made kind s
made s kind e = subst (λ kind. Made kind s) e (made_shape (stmt_shape s))

kind_made : (kind : StatementKind) (s : Stmt) → Made kind s → stmt_kind s ≡ kind
unfolding stmt_kind out-Stmt out
kind_made Braced s i = subst (λ s. stmt_kind s ≡ Braced) i.1 refl
kind_made Ifs s i = subst (λ s. stmt_kind s ≡ Ifs) i.1 refl
kind_made Whiles s i = subst (λ s. stmt_kind s ≡ Whiles) i.1 refl
kind_made Does s i = subst (λ s. stmt_kind s ≡ Does) i.1 refl
kind_made Fors s i = subst (λ s. stmt_kind s ≡ Fors) i.1 refl
kind_made Switches s i = subst (λ s. stmt_kind s ≡ Switches) i.1 refl
kind_made Breaks s i = subst (λ s. stmt_kind s ≡ Breaks) i.1 refl
kind_made Continues s i = subst (λ s. stmt_kind s ≡ Continues) i.1 refl
kind_made Returns s i = subst (λ s. stmt_kind s ≡ Returns) i.1 refl
kind_made Expressed s i = subst (λ s. stmt_kind s ≡ Expressed) i.1 refl

-- the same trees, told in another way
pub only_same : {A : Type 0} (w v : A → Type 0) (H : Form A) (more : ℕ) (p : Parser A) → ((x : A) → w x → v x) → ((x : A) → v x → w x) → Exact (only w H) more p → Exact (only v H) more p
only_same w v H more p to from exact = record {
  sound = λ names ts x s h. let g = exact.sound names ts x s h in record { good = (to x g.good.0, g.good.1); nested = g.nested; spelt = g.spelt; seen = g.seen; stops = g.stops };
  complete = λ names x rest g n s. exact.complete names x rest (from x g.0, g.1) n s;
}

module _ (more : ℕ) (inner : Within) (inside : Inside more inner) where
  made_exact : (kind : StatementKind) → Exact (only (Made kind) stmt_form) more (of_kind more inner kind)
  made_exact Braced = block_statement_exact more inner inside
  made_exact Ifs = if_exact more inner inside
  made_exact Whiles = while_exact more inner inside
  made_exact Does = do_exact more inner inside
  made_exact Fors = for_exact more inner inside
  made_exact Switches = switch_exact more inner inside
  made_exact Breaks = break_exact more
  made_exact Continues = continue_exact more
  made_exact Returns = return_exact more
  made_exact Expressed = expression_exact more

  pub statement_exact : Exact stmt_form more (statement more inner)
  unfolding statement
  statement_exact =
      dispatch_exact stmt_form (λ i. statement_kind (peek i.1)) stmt_kind more (of_kind more inner)
      (λ kind. known_exact (λ i. statement_kind (peek i.1) ≡ kind) (only (λ s. stmt_kind s ≡ kind) stmt_form) more (of_kind more inner kind)
      (only_same (Made kind) (λ s. stmt_kind s ≡ kind) stmt_form more (of_kind more inner kind) (λ s m. kind_made kind s m) (λ s e. made s kind e) (made_exact kind)))
      (λ names s rest g st. kind_seen s names rest g)

-- ---- items of a block

abbrev kind_of_layer : BlockItemLayer → ItemKind
kind_of_layer (BlockItem-F.Declaration d) = Declares
kind_of_layer (BlockItem-F.Statement s) = States
kind_of_layer (BlockItem-F.Case at value colon) = Cases
kind_of_layer (BlockItem-F.Default at colon) = Defaults

unfoldable tree_kind : BlockItem → ItemKind
tree_kind x = kind_of_layer (out-BlockItem x)

abbrev case_of : (Pos × Expr) × Pos → BlockItem
case_of t = block_item.Case t.0.0 t.0.1 t.1

abbrev default_of : Pos × Pos → BlockItem
default_of t = block_item.Default t.0 t.1

abbrev Item : ItemKind → BlockItem → Type 0
Item Declares x = Image block_item.Declaration x
Item Cases x = Image case_of x
Item Defaults x = Image default_of x
Item States x = Image block_item.Statement x

item_made_shape : {x : BlockItem} → ItemShape x → Item (tree_kind x) x
unfolding tree_kind out-BlockItem out
item_made_shape (ItemShape.a_declaration d) = (d, refl)
item_made_shape (ItemShape.a_statement s) = (s, refl)
item_made_shape (ItemShape.a_case at value colon) = (((at, value), colon), refl)
item_made_shape (ItemShape.a_default at colon) = ((at, colon), refl)

item_made : (x : BlockItem) (kind : ItemKind) → tree_kind x ≡ kind → Item kind x
item_made x kind e = subst (λ kind. Item kind x) e (item_made_shape (item_shape x))

made_item : (kind : ItemKind) (x : BlockItem) → Item kind x → tree_kind x ≡ kind
unfolding tree_kind out-BlockItem out
made_item Declares x i = subst (λ x. tree_kind x ≡ Declares) i.1 refl
made_item Cases x i = subst (λ x. tree_kind x ≡ Cases) i.1 refl
made_item Defaults x i = subst (λ x. tree_kind x ≡ Defaults) i.1 refl
made_item States x i = subst (λ x. tree_kind x ≡ States) i.1 refl

stop_declaration : (d : Declaration) (rest : Tokens) → item_stop (out-BlockItem (block_item.Declaration d)) rest
unfolding out-BlockItem out
stop_declaration d rest = tt

stop_case : (t : (Pos × Expr) × Pos) (rest : Tokens) → item_stop (out-BlockItem (case_of t)) rest
unfolding out-BlockItem out
stop_case t rest = tt

stop_default : (t : Pos × Pos) (rest : Tokens) → item_stop (out-BlockItem (default_of t)) rest
unfolding out-BlockItem out
stop_default t rest = tt

stop_statement : (s : Stmt) (rest : Tokens) → no_else (takes s) rest → item_stop (out-BlockItem (block_item.Statement s)) rest
unfolding out-BlockItem out
stop_statement s rest h = h

statement_stop : (s : Stmt) (rest : Tokens) → item_stop (out-BlockItem (block_item.Statement s)) rest → no_else (takes s) rest
unfolding out-BlockItem out
statement_stop s rest h = h

no_label : (labels : Bool) → (labels || not false) ≡ true
no_label true = refl
no_label false = refl

declaration_node : (labels : Bool) → Node declaration_form block_item.Declaration (item_form labels)
declaration_node labels = record {
  good = λ names d g. (ap (λ r. r.0.good) (block_item_level-Declaration d names) ∙ g, ap (λ r. labels || not r.0.is_label) (block_item_level-Declaration d names) ∙ no_label labels);
  parts = λ names d h. sym (ap (λ r. r.0.good) (block_item_level-Declaration d names)) ∙ h.0;
  nested = λ d. block_item_nesting-Declaration d;
  spelt = λ d. block_item_spelling-Declaration d;
  seen = λ names d. ap (λ r. r.1) (block_item_level-Declaration d names);
  stop = λ names d behind rest g h. stop_declaration d rest;
  from_stop = λ names d behind rest g h. tt;
}

statement_node : (labels : Bool) → Node stmt_form block_item.Statement (item_form labels)
statement_node labels = record {
  good = λ names s g. (ap (λ r. r.0.good) (block_item_level-Statement s names) ∙ g, ap (λ r. labels || not r.0.is_label) (block_item_level-Statement s names) ∙ no_label labels);
  parts = λ names s h. sym (ap (λ r. r.0.good) (block_item_level-Statement s names)) ∙ h.0;
  nested = λ s. block_item_nesting-Statement s;
  spelt = λ s. block_item_spelling-Statement s;
  seen = λ names s. ap (λ r. r.1) (block_item_level-Statement s names);
  stop = λ names s behind rest g h. stop_statement s rest h;
  from_stop = λ names s behind rest g h. statement_stop s rest h;
}

abbrev case_form : Form ((Pos × Expr) × Pos)
case_form = closed (pre (word_form word.Case) (λ _. expr_form conditional)) p.Colon

case_node : Node case_form case_of (item_form true)
case_node = record {
  good = λ names t g. (ap (λ r. r.0.good) (block_item_level-Case t.0.0 t.0.1 t.1 names) ∙ nat_le-is (expr_level t.0.1 names).0 conditional g.0.1, refl);
  parts = λ names t h. ((tt, nat_le-true (expr_level t.0.1 names).0 conditional (sym (ap (λ r. r.0.good) (block_item_level-Case t.0.0 t.0.1 t.1 names)) ∙ h.0)), tt);
  nested = λ t. block_item_nesting-Case t.0.0 t.0.1 t.1 ∙ omega arith;
  spelt = λ t. block_item_spelling-Case t.0.0 t.0.1 t.1;
  seen = λ names t. ap (λ r. r.1) (block_item_level-Case t.0.0 t.0.1 t.1 names);
  stop = λ names t behind rest g h. stop_case t rest;
  from_stop = λ names t behind rest g h. tt;
}

default_node : Node (pre (word_form word.Default) (λ _. mark_form p.Colon)) default_of (item_form true)
default_node = record {
  good = λ names t g. (ap (λ r. r.0.good) (block_item_level-Default t.0 t.1 names), refl);
  parts = λ names t h. (tt, tt);
  nested = λ t. block_item_nesting-Default t.0 t.1;
  spelt = λ t. block_item_spelling-Default t.0 t.1;
  seen = λ names t. ap (λ r. r.1) (block_item_level-Default t.0 t.1 names);
  stop = λ names t behind rest g h. stop_default t rest;
  from_stop = λ names t behind rest g h. tt;
}

-- where no label may stand no token begins one
no_case : (b : Bool) (o : Option TokenKind) → cond b Declares (label_kind false o) ≡ Cases → ⊥
no_case true o e = cc
no_case false o e = cc

no_default : (b : Bool) (o : Option TokenKind) → cond b Declares (label_kind false o) ≡ Defaults → ⊥
no_default true o e = cc
no_default false o e = cc

-- and no tree is one
case_label : (names : Names) (x : BlockItem) → Image case_of x → (false || not (block_item_level x names).0.is_label) ≡ true → ⊥
case_label names x i = subst (λ x. not (block_item_level x names).0.is_label ≡ true → ⊥) i.1 (λ h. let z : false ≡ true = sym (ap (λ r. not r.0.is_label) (block_item_level-Case i.0.0.0 i.0.0.1 i.0.1 names)) ∙ h in cc)

default_label : (names : Names) (x : BlockItem) → Image default_of x → (false || not (block_item_level x names).0.is_label) ≡ true → ⊥
default_label names x i = subst (λ x. not (block_item_level x names).0.is_label ≡ true → ⊥) i.1 (λ h. let z : false ≡ true = sym (ap (λ r. not r.0.is_label) (block_item_level-Default i.0.0 i.0.1 names)) ∙ h in cc)

abbrev next_kind : Bool → State → ItemKind
next_kind labels i = item_kind labels i.0 (peek i.1)

module _ (more : ℕ) (inner : Within) (inside : Inside more inner) where
  case_exact : Exact (only (Image case_of) (item_form true)) more (case_item more inner)
  case_exact =
      same_exact (only (Image case_of) (item_form true)) more _ _ (three (expect_word word.Case) (λ at. expression more conditional) (λ at value. expect p.Colon) (λ at value colon. block_item.Case at value colon))
      (node_exact case_form case_of (item_form true) more _
      (closed_exact (pre (word_form word.Case) (λ _. expr_form conditional)) p.Colon more _
      (pre_exact (word_form word.Case) (λ _. expr_form conditional) more (expect_word word.Case) (λ at. expression more conditional) (λ names a. refl) (expect_word_exact word.Case more) (λ _. conditional_read more) (λ names a b rest g h s. tt))
      (λ names t at rest g. before_mark conditional (expr_ending t.1) p.Colon at rest (omega arith))) case_node)

  default_exact : Exact (only (Image default_of) (item_form true)) more (default_item more inner)
  default_exact =
      same_exact (only (Image default_of) (item_form true)) more _ _ (two (expect_word word.Default) (λ at. expect p.Colon) (λ at colon. block_item.Default at colon))
      (node_exact (pre (word_form word.Default) (λ _. mark_form p.Colon)) default_of (item_form true) more _
      (pre_exact (word_form word.Default) (λ _. mark_form p.Colon) more (expect_word word.Default) (λ at. expect p.Colon) (λ names a. refl) (expect_word_exact word.Default more) (λ _. expect_exact p.Colon more) (λ names a b rest g h s. tt)) default_node)

  kind_exact : (labels : Bool) (kind : ItemKind) → Guarded (λ i. next_kind labels i ≡ kind) (only (Item kind) (item_form labels)) more (item_of_kind more inner kind)
  kind_exact labels Declares = known_exact (λ i. next_kind labels i ≡ Declares) (only (Image block_item.Declaration) (item_form labels)) more (declaration_item more inner) (node_exact declaration_form block_item.Declaration (item_form labels) more (declaration more) (declaration_exact more) (declaration_node labels))
  kind_exact labels States = known_exact (λ i. next_kind labels i ≡ States) (only (Image block_item.Statement) (item_form labels)) more (statement_item more inner) (node_exact stmt_form block_item.Statement (item_form labels) more (statement more inner) (statement_exact more inner inside) (statement_node labels))
  kind_exact true Cases = known_exact (λ i. next_kind true i ≡ Cases) (only (Image case_of) (item_form true)) more (case_item more inner) case_exact
  kind_exact true Defaults = known_exact (λ i. next_kind true i ≡ Defaults) (only (Image default_of) (item_form true)) more (default_item more inner) default_exact
  kind_exact false Cases = record {
    sound = λ names ts x s known h. absurd (no_case (begins_specifier true false names (peek ts)) (peek ts) known);
    complete = λ names x rest g n s. absurd (case_label names x g.0 g.1.1);
  }
  kind_exact false Defaults = record {
    sound = λ names ts x s known h. absurd (no_default (begins_specifier true false names (peek ts)) (peek ts) known);
    complete = λ names x rest g n s. absurd (default_label names x g.0 g.1.1);
  }

only_known : {A : Type 0} (known : State → Type 0) (w v : A → Type 0) (H : Form A) (more : ℕ) (p : Parser A) → ((x : A) → w x → v x) → ((x : A) → v x → w x) → Guarded known (only w H) more p → Guarded known (only v H) more p
only_known known w v H more p to from exact = record {
  sound = λ names ts x s know h. let g = exact.sound names ts x s know h in record { good = (to x g.good.0, g.good.1); nested = g.nested; spelt = g.spelt; seen = g.seen; stops = g.stops };
  complete = λ names x rest g n s. exact.complete names x rest (from x g.0, g.1) n s;
}

case_first : (names : Names) (at : Pos) (rest : Tokens) → item_kind true names (peek (keyword word.Case at ∷ rest)) ≡ Cases
case_first names at rest = ap (item_kind true names) (peek_word word.Case at rest)

default_first : (names : Names) (at : Pos) (rest : Tokens) → item_kind true names (peek (keyword word.Default at ∷ rest)) ≡ Defaults
default_first names at rest = ap (item_kind true names) (peek_word word.Default at rest)

-- the next token tells which item comes
item_next : (labels : Bool) {x : BlockItem} → ItemShape x → (names : Names) (rest : Tokens) → (item_form labels).good names x → item_kind labels names (peek (block_item_spelling x ++ rest)) ≡ tree_kind x
unfolding tree_kind out-BlockItem out
item_next labels (ItemShape.a_declaration d) names rest g =
    ap (λ l. item_kind labels names (peek (l ++ rest))) (block_item_spelling-Declaration d)
    ∙ ap (λ b. cond b Declares (label_kind labels (peek (declaration_spelling d ++ rest)))) (starts_seen true false names (declaration_spelling d) rest (declaration_starts d names (sym (ap (λ r. r.0.good) (block_item_level-Declaration d names)) ∙ g.0)))
item_next labels (ItemShape.a_statement s) names rest g =
    ap (λ l. item_kind labels names (peek (l ++ rest))) (block_item_spelling-Statement s) ∙ item_seen s labels names rest (sym (ap (λ r. r.0.good) (block_item_level-Statement s names)) ∙ g.0)
item_next true (ItemShape.a_case at value colon) names rest g = ap (λ l. item_kind true names (peek (l ++ rest))) (block_item_spelling-Case at value colon) ∙ case_first names at _
item_next true (ItemShape.a_default at colon) names rest g = ap (λ l. item_kind true names (peek (l ++ rest))) (block_item_spelling-Default at colon) ∙ default_first names at _
item_next false (ItemShape.a_case at value colon) names rest g = absurd (case_label names (block_item.Case at value colon) (((at, value), colon), refl) g.1)
item_next false (ItemShape.a_default at colon) names rest g = absurd (default_label names (block_item.Default at colon) ((at, colon), refl) g.1)

pub item_exact : (more : ℕ) (inner : Within) → Inside more inner → (labels : Bool) → Exact (item_form labels) more (item more inner labels)
unfolding item
item_exact more inner inside labels =
    dispatch_exact (item_form labels) (next_kind labels) tree_kind more (item_of_kind more inner)
    (λ kind. only_known (λ i. next_kind labels i ≡ kind) (Item kind) (λ x. tree_kind x ≡ kind) (item_form labels) more (item_of_kind more inner kind) (λ x m. made_item kind x m) (λ x e. item_made x kind e) (kind_exact more inner inside labels kind))
    (λ names x rest g st. item_next labels (item_shape x) names rest g)

-- ---- at every depth

nowhere_body : (i : State) (y : Stmt × State) → nowhere.body i ≡ Ok y → ⊥
nowhere_body i y h = by (begins_statement i.0 (peek i.1)) h where
  by : (b : Bool) → cond b (too_deep i) (refuse i) ≡ Ok y → ⊥
  by true e = cc
  by false e = cc

pub within_exact : (more : ℕ) → Inside more (within more)
unfolding within
within_exact zero = record { items_are = λ labels. none_deeper (item_form labels) too_deep (λ i y h. cc); body_is = none_deeper stmt_form nowhere.body nowhere_body }
within_exact (suc more) = record {
  items_are = λ labels. raise (item_form labels) more _ (item_exact more (within more) (within_exact more) labels);
  body_is = raise stmt_form more _ (statement_exact more (within more) (within_exact more));
}
