-- Blocks and bodies are read exactly, where what is nested by one more is (C11 6.8.2, 6.8.4, 6.8.5).
use Rattle.std.specs.Prelude.{◌≡◌, ℕ, ◌+◌, ◌<◌, Bool, true, false, not, ◌&&◌, ◌||◌, List, [], ◌∷◌, ◌++◌, length, map, Option, Some, None, refl}
use Rattle.std.proofs.Common.{ap, sym, ◌∙◌, subst, cond, arith, ◌⊎◌, inl, inr}
use denote.Hole.Carrier.{out}
use Rattle.c_tree.specs.declared.token.Pos.{Pos}
use Rattle.c_tree.specs.declared.token.Punct.{Punct}
use Rattle.c_tree.specs.declared.token.Punct.TheVariants as p
use Rattle.c_tree.specs.declared.token.Keyword.{Keyword}
use Rattle.c_tree.specs.declared.token.Keyword.TheVariants as word
use Rattle.c_tree.specs.declared.token.TokenKind.{TokenKind}
use Rattle.c_tree.specs.declared.token.TokenKind.TheVariants as k
use Rattle.c_tree.specs.declared.token.Token.{Token}
use Rattle.c_tree.specs.declared.statement.Condition.{Condition}
use Rattle.c_tree.specs.declared.statement.Stmt.{Stmt, out-Stmt}
use Rattle.c_tree.specs.declared.statement.Stmt.TheVariants as stmt
use Rattle.c_tree.specs.declared.statement.Block.{Block, out-Block, roll-Block, roll-out-Block}
use Rattle.c_tree.specs.declared.statement.BlockItem.{BlockItem, out-BlockItem}
use Rattle.c_tree.specs.declared.statement.BlockItem.TheOpen.{BlockItem-F}
use Rattle.c_tree.specs.Layers.{BlockItemLayer}
use Rattle.c_tree.specs.Spelling.Tokens.{punct, keyword}
use Rattle.c_tree.specs.Spelling.Statements.{stmt_spelling, block_spelling, block_item_spelling, stmt_spelling-Block, block_spelling-is, block_item_spelling-Declaration, block_item_spelling-Statement, block_item_spelling-Case, block_item_spelling-Default}
use Rattle.c_tree.specs.Levels.Names.{Names, in_row}
use Rattle.c_tree.specs.Levels.StatementFacts.{BlockFacts, facts_of_block}
use Rattle.c_tree.specs.Levels.Statements.{stmt_level, block_level, block_item_level, stmt_level-Block, block_level-is, block_item_level-Declaration, block_item_level-Statement}
use Rattle.c_tree.specs.Nesting.OfStatements.{as_body}
use Rattle.c_tree.specs.Nesting.Statements.{stmt_nesting, block_nesting, block_item_nesting, stmt_nesting-Block, stmt_nesting-Expression, stmt_nesting-If, stmt_nesting-While, stmt_nesting-Do, stmt_nesting-For, stmt_nesting-Switch, stmt_nesting-Break, stmt_nesting-Continue, stmt_nesting-Return, block_nesting-is}
use Rattle.c_grammar.specs.Punctuators.{same_mark}
use Rattle.c_grammar.specs.Input.{Tokens, Parser, peek, is_mark, sees, expect, opening, many, choose, enclosed}
use Rattle.c_grammar.specs.Read.Inner.{word_begins, begins_specifier}
use Rattle.c_grammar.specs.Laws.Tests.{and_false}
use Rattle.c_grammar.specs.Laws.Form.{Form, Exact, Guarded, Node, Image, only, both, node_exact, same_exact, whole_exact, three, choose_guarded, guarded_exact, quieted}
use Rattle.c_grammar.specs.Laws.Lists.{Items, Kept, all_good, all_stop, list, list_exact, last_of, stop_made, added_in_row}
use Rattle.c_grammar.specs.Laws.Rows.{pre, pre_exact, post, post_exact, deeper, bracketed, bracketed_exact}
use Rattle.c_grammar.specs.Laws.Behind.{both_true, both_are}
use Rattle.c_grammar.specs.Laws.Starts.{peek_first}
use Rattle.c_grammar.specs.Laws.Postfix.{deep_list}
use Rattle.c_unit_grammar.specs.Keywords.{same_word}
use Rattle.c_unit_grammar.specs.Read.Words.{is_word, sees_word, expect_word, StatementKind, Braced, statement_kind}
use Rattle.c_unit_grammar.specs.Read.Statements.{Within, condition, is_in_block, goes_item, block, block_statement, body}
use Rattle.c_unit_grammar.specs.Laws.Common.{word_form, expect_word_exact, enclosed_exact, known_exact}
use Rattle.c_unit_grammar.specs.Laws.Shapes.{StmtShape, stmt_shape, ItemShape, item_shape}
use Rattle.c_unit_grammar.specs.Laws.StatementFacts.{is_ifs, stmt_kind, takes, stmt_starts, kind_seen}
use Rattle.c_unit_grammar.specs.Laws.Conditions.{condition_form, condition_exact, declaration_starts}

-- ---- the forms

-- no `else` stands behind what would take it
abbrev pub no_else : Bool → Tokens → Type 0
no_else taking rest = (taking && is_word word.Else (peek rest)) ≡ false

abbrev pub stmt_form : Form Stmt
stmt_form = record {
  spell = stmt_spelling;
  good = λ names s. (stmt_level s names).0.good ≡ true;
  adds = λ names s. (stmt_level s names).1;
  nest = λ s. (stmt_nesting s).alone;
  stop = λ s names rest. no_else (takes s) rest;
}

-- as a body, which is a scope
abbrev pub body_form : Form Stmt
body_form = record {
  spell = stmt_spelling;
  good = λ names s. (stmt_level s names).0.good ≡ true;
  adds = λ names s. [];
  nest = λ s. as_body (stmt_nesting s);
  stop = λ s names rest. no_else (takes s) rest;
}

abbrev pub item_stop : BlockItemLayer → Tokens → Type 0
item_stop (BlockItem-F.Statement s) rest = no_else (takes s) rest
item_stop _ rest = Unit {0}

-- an item of a block, where labels may stand or not
abbrev pub item_form : Bool → Form BlockItem
item_form labels = record {
  spell = block_item_spelling;
  good = λ names x. ((block_item_level x names).0.good ≡ true) × ((labels || not (block_item_level x names).0.is_label) ≡ true);
  adds = λ names x. (block_item_level x names).1;
  nest = block_item_nesting;
  stop = λ x names rest. item_stop (out-BlockItem x) rest;
}

abbrev pub block_form : Bool → Form Block
block_form labels = record {
  spell = block_spelling;
  good = λ names b. ((block_level b names).0.good ≡ true) × ((labels || not (block_level b names).0.has_label) ≡ true);
  adds = λ names b. (block_level b names).1;
  nest = block_nesting;
  stop = λ b names rest. Unit {0};
}

-- what is nested by one more is read exactly
pub record Inside (more : ℕ) (inner : Within) : Type 0 where
  pub items_are : (labels : Bool) → Exact (deeper (item_form labels)) more (inner.item labels)
  pub body_is : Exact (deeper stmt_form) more inner.body

-- ---- the first token of an item

pub record StartsItem (ts : Tokens) : Type 0 where
  pub first : Token
  pub others : Tokens
  pub spelt : ts ≡ first ∷ others
  pub no_else : is_word word.Else (Some first.kind) ≡ false
  pub no_brace : is_mark p.RightBrace (Some first.kind) ≡ false

no_else_word : (key : Keyword) → word_begins true key ≡ true → same_word key word.Else ≡ false
no_else_word word.Else h = absurd cc
no_else_word _ h = refl

specifier_kind : (names : Names) (kind : TokenKind) → begins_specifier true false names (Some kind) ≡ true → (is_word word.Else (Some kind) ≡ false) × (is_mark p.RightBrace (Some kind) ≡ false)
specifier_kind names (k.Keyword key) h = (no_else_word key h, refl)
specifier_kind names (k.Name text) h = (refl, refl)
specifier_kind names (k.Punct op) h = absurd cc
specifier_kind names (k.Number value kind) h = absurd cc
specifier_kind names (k.Char value) h = absurd cc
specifier_kind names (k.Bytes bytes) h = absurd cc

shape_item : {x : BlockItem} → ItemShape x → (names : Names) → (block_item_level x names).0.good ≡ true → StartsItem (block_item_spelling x)
shape_item (ItemShape.a_declaration d) names g =
    let s = declaration_starts d names (sym (ap (λ t. t.0.good) (block_item_level-Declaration d names)) ∙ g) in
    let w = specifier_kind names s.first.kind s.good in
    record { first = s.first; others = s.others; spelt = block_item_spelling-Declaration d ∙ s.spelt; no_else = w.0; no_brace = w.1 }
shape_item (ItemShape.a_statement s) names g =
    let w = stmt_starts s names (sym (ap (λ t. t.0.good) (block_item_level-Statement s names)) ∙ g) in
    record { first = w.first; others = w.others; spelt = block_item_spelling-Statement s ∙ w.spelt; no_else = w.no_else; no_brace = w.no_brace }
shape_item (ItemShape.a_case at value colon) names g = record { first = keyword word.Case at; others = _; spelt = block_item_spelling-Case at value colon; no_else = refl; no_brace = refl }
shape_item (ItemShape.a_default at colon) names g = record { first = keyword word.Default at; others = _; spelt = block_item_spelling-Default at colon; no_else = refl; no_brace = refl }

pub item_starts : (x : BlockItem) (names : Names) → (block_item_level x names).0.good ≡ true → StartsItem (block_item_spelling x)
item_starts x names g = shape_item (item_shape x) names g

-- ---- items in a row

abbrev pub items : Bool → Items (Unit {0}) BlockItem
items labels = record {
  spell = block_item_spelling;
  good = λ s. (item_form labels).good;
  adds = λ names x. (block_item_level x names).1;
  nest = λ x. block_item_nesting x + 1;
  stop = λ x names rest. item_stop (out-BlockItem x) rest;
  goes = λ s. goes_item;
  step = λ s x. tt;
}

-- a token that is no `else` behind an item
item_before : (l : BlockItemLayer) (t : Token) (ts : Tokens) → is_word word.Else (Some t.kind) ≡ false → item_stop l (t ∷ ts)
item_before (BlockItem-F.Statement s) t ts e = ap (λ o. takes s && is_word word.Else o) (peek_first t ts) ∙ ap (λ b. takes s && b) e ∙ and_false (takes s)
item_before (BlockItem-F.Declaration d) t ts e = tt
item_before (BlockItem-F.Case at value colon) t ts e = tt
item_before (BlockItem-F.Default at colon) t ts e = tt

goes_token : (names : Names) (t : Token) (ts : Tokens) (b : Bool) → is_mark p.RightBrace (Some t.kind) ≡ b → goes_item (names, t ∷ ts) ≡ not b
goes_token names t ts b e = ap is_in_block (peek_first t ts) ∙ ap not e

no_item : (names : Names) → goes_item (names, []) ≡ false
unfolding peek
no_item names = refl

items_kept : (labels : Bool) (more : ℕ) (reads : Parser BlockItem) → Exact (deeper (item_form labels)) more reads → Kept (items labels) more (λ s. reads)
items_kept labels more reads exact = record {
  sound = λ s names ts x end go h. exact.sound names ts x end h;
  complete = λ s names x rest g n st. exact.complete names x rest g n st;
  starts = λ s names x rest g st. let w = item_starts x names g.0 in ap (λ l. goes_item (names, l ++ rest)) w.spelt ∙ goes_token names w.first (w.others ++ rest) false w.no_brace;
  ends = λ s names. no_item names;
  follows = λ s names x y rest g h st. let w = item_starts y _ h.0 in subst (λ l. item_stop (out-BlockItem x) (l ++ rest)) (sym w.spelt) (item_before (out-BlockItem x) w.first (w.others ++ rest) w.no_else);
  some = λ s names x g. let w = item_starts x names g.0 in subst (λ l. 0 < length l) (sym w.spelt) (omega arith);
}

-- ---- what the levels tell of items

no_labels : (l a b : Bool) → (l || not a) ≡ true → (l || not b) ≡ true → (l || not (a || b)) ≡ true
no_labels true a b h g = refl
no_labels false true b h g = absurd cc
no_labels false false b h g = g

first_label : (l a b : Bool) → (l || not (a || b)) ≡ true → (l || not a) ≡ true
first_label true a b h = refl
first_label false true b h = h
first_label false false b h = refl

other_labels : (l a b : Bool) → (l || not (a || b)) ≡ true → (l || not b) ≡ true
other_labels true a b h = refl
other_labels false true b h = absurd cc
other_labels false false b h = h

no_label : (l : Bool) → (l || not false) ≡ true
no_label true = refl
no_label false = refl

abbrev facts : Names → List BlockItem → BlockFacts
facts names xs = facts_of_block (in_row (map block_item_level xs) names).0

items_told : (labels : Bool) (names : Names) (xs : List BlockItem) → all_good (items labels) tt names xs → ((facts names xs).good ≡ true) × ((labels || not (facts names xs).has_label) ≡ true)
items_told labels names [] g = (refl, no_label labels)
items_told labels names (x ∷ xs) g =
    let r = items_told labels (names ++ (block_item_level x names).1) xs g.1 in
    (both_are _ _ g.0.0 r.0, no_labels labels (block_item_level x names).0.is_label (facts (names ++ (block_item_level x names).1) xs).has_label g.0.1 r.1)

items_are : (labels : Bool) (names : Names) (xs : List BlockItem) → (facts names xs).good ≡ true → (labels || not (facts names xs).has_label) ≡ true → all_good (items labels) tt names xs
items_are labels names [] g h = tt
items_are labels names (x ∷ xs) g h =
    let b = both_true (block_item_level x names).0.good _ g in
    let a : Bool = (block_item_level x names).0.is_label in
    let c : Bool = (facts (names ++ (block_item_level x names).1) xs).has_label in
    ((b.0, first_label labels a c h), items_are labels (names ++ (block_item_level x names).1) xs b.1 (other_labels labels a c h))

-- ---- blocks

abbrev block_of : (Pos × List BlockItem) × Pos → Block
block_of t = roll-Block (record { opening = t.0.0; items = t.0.1; closing = t.1 })

abbrev braced : Bool → Form ((Pos × List BlockItem) × Pos)
braced labels = bracketed p.LeftBrace (list (items labels) tt) p.RightBrace

block_node : (labels : Bool) → Node (braced labels) block_of (block_form labels)
block_node labels = record {
  good = λ names t g.
      let r = items_told labels names t.0.1 g.0.1 in
      (ap (λ t. t.0.good) (block_level-is (block_of t) names) ∙ r.0, ap (λ t. labels || not t.0.has_label) (block_level-is (block_of t) names) ∙ r.1);
  parts = λ names t h.
      ((tt, items_are labels names t.0.1 (sym (ap (λ t. t.0.good) (block_level-is (block_of t) names)) ∙ h.0) (sym (ap (λ t. labels || not t.0.has_label) (block_level-is (block_of t) names)) ∙ h.1)), tt);
  nested = λ t. block_nesting-is (block_of t) ∙ (let e = deep_list block_item_nesting 0 t.0.1 in omega arith);
  spelt = λ t. block_spelling-is (block_of t);
  seen = λ names t. ap (λ t. t.1) (block_level-is (block_of t) names) ∙ sym (added_in_row (items labels) block_item_level (λ names x. refl) names t.0.1);
  stop = λ names t behind rest g h. tt;
  from_stop = λ names t behind rest g h. tt;
}

items_close : (labels : Bool) (xs : List BlockItem) (names : Names) (at : Pos) (rest : Tokens) → all_stop (items labels) tt xs names (punct p.RightBrace at ∷ rest)
items_close labels [] names at rest = goes_token names (punct p.RightBrace at) rest true refl
items_close labels (x ∷ xs) names at rest =
    stop_made (items labels) tt x xs names (punct p.RightBrace at ∷ rest) (item_before (out-BlockItem (last_of (items labels) x xs)) (punct p.RightBrace at) rest refl) (goes_token names (punct p.RightBrace at) rest true refl)

module _ (more : ℕ) (inner : Within) (inside : Inside more inner) where
  pub block_exact : (labels : Bool) → Exact (block_form labels) more (block more inner labels)
  unfolding block
  block_exact labels =
      whole_exact (Image block_of) (block_form labels) more _ (λ names b g. ((((out-Block b).opening, (out-Block b).items), (out-Block b).closing), roll-out-Block b))
      (same_exact (only (Image block_of) (block_form labels)) more _ _ (three (opening more p.LeftBrace) (λ from. many goes_item (inner.item labels)) (λ from items. expect p.RightBrace) (λ from items to. roll-Block (record { opening = from; items = items; closing = to })))
      (node_exact (braced labels) block_of (block_form labels) more _
      (bracketed_exact p.LeftBrace (list (items labels) tt) p.RightBrace more (many goes_item (inner.item labels)) (list_exact (items labels) more (λ s. inner.item labels) (items_kept labels more (inner.item labels) (inside.items_are labels)) tt)
      (λ names xs at rest g. items_close labels xs _ at rest)) (block_node labels)))

  pub scope_exact : (labels : Bool) → Exact (quieted (block_form labels)) more (enclosed (block more inner labels))
  scope_exact labels = enclosed_exact (block_form labels) more (block more inner labels) (block_exact labels) (λ names b rest g h. tt) (λ names b rest g h. tt)

-- ---- a block as a statement

block_good : (names : Names) (b : Block) → (block_form false).good names b → (stmt_level (stmt.Block b) names).0.good ≡ true
block_good names b g = ap (λ t. t.0.good) (stmt_level-Block b names) ∙ both_are _ _ g.0 g.1

good_block : (names : Names) (b : Block) → (stmt_level (stmt.Block b) names).0.good ≡ true → (block_form false).good names b
good_block names b h = both_true (block_level b names).0.good _ (sym (ap (λ t. t.0.good) (stmt_level-Block b names)) ∙ h)

block_takes : (b : Block) → takes (stmt.Block b) ≡ false
unfolding takes
block_takes b = ap (λ t. t.0.takes_else) (stmt_level-Block b [])

block_stop : (b : Block) (rest : Tokens) → no_else (takes (stmt.Block b)) rest
block_stop b rest = ap (λ c. c && is_word word.Else (peek rest)) (block_takes b)

as_statement : Node (quieted (block_form false)) stmt.Block stmt_form
as_statement = record {
  good = block_good;
  parts = good_block;
  nested = λ b. ap (λ d. d.alone) (stmt_nesting-Block b);
  spelt = λ b. stmt_spelling-Block b;
  seen = λ names b. ap (λ t. t.1) (stmt_level-Block b names);
  stop = λ names b behind rest g h. block_stop b rest;
  from_stop = λ names b behind rest g h. tt;
}

as_block : Node (quieted (block_form false)) stmt.Block body_form
as_block = record {
  good = block_good;
  parts = good_block;
  nested = λ b. ap as_body (stmt_nesting-Block b);
  spelt = λ b. stmt_spelling-Block b;
  seen = λ names b. refl;
  stop = λ names b behind rest g h. block_stop b rest;
  from_stop = λ names b behind rest g h. tt;
}

-- ---- which statement the next token begins

abbrev pub is_braced : StatementKind → Bool
is_braced Braced = true
is_braced _ = false

brace_mark : (op : Punct) → same_mark op p.LeftBrace ≡ is_braced (statement_kind (Some (k.Punct op)))
brace_mark p.LeftBrace = refl
brace_mark _ = refl

brace_word : (key : Keyword) → false ≡ is_braced (statement_kind (Some (k.Keyword key)))
brace_word word.If = refl
brace_word word.While = refl
brace_word word.Do = refl
brace_word word.For = refl
brace_word word.Switch = refl
brace_word word.Break = refl
brace_word word.Continue = refl
brace_word word.Return = refl
brace_word _ = refl

pub brace_is : (o : Option TokenKind) → is_mark p.LeftBrace o ≡ is_braced (statement_kind o)
brace_is None = refl
brace_is (Some (k.Punct op)) = brace_mark op
brace_is (Some (k.Keyword key)) = brace_word key
brace_is (Some (k.Name text)) = refl
brace_is (Some (k.Number value kind)) = refl
brace_is (Some (k.Char value)) = refl
brace_is (Some (k.Bytes bytes)) = refl

if_mark : (op : Punct) → false ≡ is_ifs (statement_kind (Some (k.Punct op)))
if_mark p.LeftBrace = refl
if_mark _ = refl

if_word : (key : Keyword) → same_word key word.If ≡ is_ifs (statement_kind (Some (k.Keyword key)))
if_word word.If = refl
if_word word.While = refl
if_word word.Do = refl
if_word word.For = refl
if_word word.Switch = refl
if_word word.Break = refl
if_word word.Continue = refl
if_word word.Return = refl
if_word _ = refl

pub if_is : (o : Option TokenKind) → is_word word.If o ≡ is_ifs (statement_kind o)
if_is None = refl
if_is (Some (k.Punct op)) = if_mark op
if_is (Some (k.Keyword key)) = if_word key
if_is (Some (k.Name text)) = refl
if_is (Some (k.Number value kind)) = refl
if_is (Some (k.Char value)) = refl
if_is (Some (k.Bytes bytes)) = refl

pub brace_seen : (s : Stmt) (names : Names) (rest : Tokens) → (stmt_level s names).0.good ≡ true → sees p.LeftBrace (names, stmt_spelling s ++ rest) ≡ is_braced (stmt_kind s)
brace_seen s names rest g = brace_is (peek (stmt_spelling s ++ rest)) ∙ ap is_braced (kind_seen s names rest g)

pub if_seen : (s : Stmt) (names : Names) (rest : Tokens) → (stmt_level s names).0.good ≡ true → sees_word word.If (names, stmt_spelling s ++ rest) ≡ is_ifs (stmt_kind s)
if_seen s names rest g = if_is (peek (stmt_spelling s ++ rest)) ∙ ap is_ifs (kind_seen s names rest g)

-- ---- bodies

depth_shape : {s : Stmt} → StmtShape s → (stmt_nesting s).is_block ≡ is_braced (stmt_kind s)
unfolding stmt_kind out-Stmt out
depth_shape (StmtShape.a_block b) = ap (λ d. d.is_block) (stmt_nesting-Block b)
depth_shape (StmtShape.a_expression v e) = ap (λ d. d.is_block) (stmt_nesting-Expression v e)
depth_shape (StmtShape.a_if at c x os) = ap (λ d. d.is_block) (stmt_nesting-If at c x os)
depth_shape (StmtShape.a_while at c x) = ap (λ d. d.is_block) (stmt_nesting-While at c x)
depth_shape (StmtShape.a_do at x w c e) = ap (λ d. d.is_block) (stmt_nesting-Do at x w c e)
depth_shape (StmtShape.a_for at c x) = ap (λ d. d.is_block) (stmt_nesting-For at c x)
depth_shape (StmtShape.a_switch at c x) = ap (λ d. d.is_block) (stmt_nesting-Switch at c x)
depth_shape (StmtShape.a_break at e) = ap (λ d. d.is_block) (stmt_nesting-Break at e)
depth_shape (StmtShape.a_continue at e) = ap (λ d. d.is_block) (stmt_nesting-Continue at e)
depth_shape (StmtShape.a_return at v e) = ap (λ d. d.is_block) (stmt_nesting-Return at v e)

abbrev Unbraced : Stmt → Type 0
Unbraced s = is_braced (stmt_kind s) ≡ false

body_deep : (s : Stmt) → Unbraced s → as_body (stmt_nesting s) ≡ (stmt_nesting s).alone + 1
body_deep s e = ap (λ b. cond b (stmt_nesting s).alone ((stmt_nesting s).alone + 1)) (depth_shape (stmt_shape s) ∙ e)

body_shape : {s : Stmt} → StmtShape s → Image stmt.Block s ⊎ Unbraced s
unfolding stmt_kind out-Stmt out
body_shape (StmtShape.a_block b) = inl (b, refl)
body_shape (StmtShape.a_expression v e) = inr refl
body_shape (StmtShape.a_if at c x os) = inr refl
body_shape (StmtShape.a_while at c x) = inr refl
body_shape (StmtShape.a_do at x w c e) = inr refl
body_shape (StmtShape.a_for at c x) = inr refl
body_shape (StmtShape.a_switch at c x) = inr refl
body_shape (StmtShape.a_break at e) = inr refl
body_shape (StmtShape.a_continue at e) = inr refl
body_shape (StmtShape.a_return at v e) = inr refl

-- the form of a body before its scope is closed
abbrev open_form : Form Stmt
open_form = record { spell = stmt_spelling; good = stmt_form.good; adds = stmt_form.adds; nest = λ s. as_body (stmt_nesting s); stop = stmt_form.stop }

open_block : Node (quieted (block_form false)) stmt.Block open_form
open_block = record {
  good = block_good;
  parts = good_block;
  nested = λ b. ap as_body (stmt_nesting-Block b);
  spelt = λ b. stmt_spelling-Block b;
  seen = λ names b. ap (λ t. t.1) (stmt_level-Block b names);
  stop = λ names b behind rest g h. block_stop b rest;
  from_stop = λ names b behind rest g h. tt;
}

braced_kind : (b : Block) → is_braced (stmt_kind (stmt.Block b)) ≡ true
unfolding stmt_kind out-Stmt out
braced_kind b = refl

module _ (more : ℕ) (inner : Within) (inside : Inside more inner) where
  pub block_statement_exact : Exact (only (Image stmt.Block) stmt_form) more (block_statement more inner)
  unfolding block_statement
  block_statement_exact = node_exact (quieted (block_form false)) stmt.Block stmt_form more _ (scope_exact more inner inside false) as_statement

  open_block_exact : Exact (only (Image stmt.Block) open_form) more (block_statement more inner)
  unfolding block_statement
  open_block_exact = node_exact (quieted (block_form false)) stmt.Block open_form more _ (scope_exact more inner inside false) open_block

  unbraced_exact : Guarded (λ i. Unit {0} × (sees p.LeftBrace i ≡ false)) (only Unbraced open_form) more inner.body
  unbraced_exact = record {
    sound = λ names ts x s known h.
        let g = inside.body_is.sound names ts x s h in
        let e : Unbraced x = sym (brace_seen x names s.1 g.good) ∙ subst (λ l. sees p.LeftBrace (names, l) ≡ false) g.spelt known.1 in
        let n = g.nested in
        let d = body_deep x e in
        record { good = (e, g.good); nested = omega arith; spelt = g.spelt; seen = g.seen; stops = g.stops };
    complete = λ names x rest g n s. inside.body_is.complete names x rest g.1 (let d = body_deep x g.0 in omega arith) s;
  }

  block_seen : (names : Names) (x : Stmt) (rest : Tokens) → Image stmt.Block x → stmt_form.good names x → sees p.LeftBrace (names, stmt_spelling x ++ rest) ≡ true
  block_seen names x rest i g = brace_seen x names rest g ∙ subst (λ x. is_braced (stmt_kind x) ≡ true) i.1 (braced_kind i.0)

  opened_exact : Exact open_form more (choose (sees p.LeftBrace) (block_statement more inner) inner.body)
  opened_exact =
      whole_exact (λ x. Image stmt.Block x ⊎ Unbraced x) open_form more _ (λ names x g. body_shape (stmt_shape x))
      (guarded_exact (only (λ x. Image stmt.Block x ⊎ Unbraced x) open_form) more _
      (choose_guarded (λ i. Unit {0}) (Image stmt.Block) Unbraced open_form more (sees p.LeftBrace) (block_statement more inner) inner.body
      (known_exact (λ i. Unit {0} × (sees p.LeftBrace i ≡ true)) (only (Image stmt.Block) open_form) more (block_statement more inner) open_block_exact) unbraced_exact
      (λ names x rest i g s. block_seen names x rest i g)
      (λ names x rest e g s. brace_seen x names rest g ∙ e)))

  pub body_exact : Exact body_form more (body more inner)
  unfolding body
  body_exact = enclosed_exact open_form more _ opened_exact (λ names x rest g h. h) (λ names x rest g h. h)

-- ---- a word, a condition and a body

abbrev pub governed : Keyword → Form ((Pos × Condition) × Stmt)
governed key = post (pre (word_form key) (λ _. condition_form)) (λ _. body_form)

pub governed_exact : (key : Keyword) (more : ℕ) (inner : Within) → Inside more inner → Exact (governed key) more (both (both (expect_word key) (λ at. condition more)) (λ t. body more inner))
governed_exact key more inner inside =
    post_exact (pre (word_form key) (λ _. condition_form)) (λ _. body_form) more _ (λ t. body more inner) (λ t names s. refl)
    (pre_exact (word_form key) (λ _. condition_form) more (expect_word key) (λ at. condition more) (λ names a. refl) (expect_word_exact key more) (λ _. condition_exact more) (λ names a b rest g h s. tt))
    (λ _. body_exact more inner inside) (λ names a b rest g h s. tt)
