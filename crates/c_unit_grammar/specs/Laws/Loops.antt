-- Statements without `else` are read exactly, where what is nested by one more is (C11 6.8.3 to 6.8.6).
use Rattle.std.specs.Prelude.{◌≡◌, ℕ, Bool, true, false, ◌&&◌, [], ◌∷◌, ◌++◌, Option, Some, None, Ok, refl}
use Rattle.std.proofs.Common.{ap, sym, ◌∙◌, subst, arith, append_assoc, append-nil}
use Rattle.c_tree.specs.declared.token.Pos.{Pos}
use Rattle.c_tree.specs.declared.token.Punct.TheVariants as p
use Rattle.c_tree.specs.declared.token.Keyword.TheVariants as word
use Rattle.c_tree.specs.declared.token.Token.{Token}
use Rattle.c_tree.specs.declared.expression.Expr.{Expr}
use Rattle.c_tree.specs.declared.statement.Condition.{Condition}
use Rattle.c_tree.specs.declared.statement.ForControl.{ForControl}
use Rattle.c_tree.specs.declared.statement.Stmt.{Stmt}
use Rattle.c_tree.specs.declared.statement.Stmt.TheVariants as stmt
use Rattle.c_tree.specs.declared.statement.Block.{Block}
use Rattle.c_tree.specs.Spelling.Tokens.{punct, keyword}
use Rattle.c_tree.specs.Spelling.OfStatements.{condition_spelling}
use Rattle.c_tree.specs.Spelling.Statements.{stmt_spelling, stmt_spelling-Expression, stmt_spelling-While, stmt_spelling-Do, stmt_spelling-For, stmt_spelling-Switch, stmt_spelling-Break, stmt_spelling-Continue, stmt_spelling-Return}
use Rattle.c_tree.specs.Levels.Names.{Names}
use Rattle.c_tree.specs.Levels.Productions.{comma}
use Rattle.c_tree.specs.Levels.OfStatements.{condition_level, for_control_level}
use Rattle.c_tree.specs.Levels.Statements.{stmt_level, stmt_level-Expression, stmt_level-While, stmt_level-Do, stmt_level-For, stmt_level-Switch, stmt_level-Break, stmt_level-Continue, stmt_level-Return}
use Rattle.c_tree.specs.Nesting.OfStatements.{value_nesting}
use Rattle.c_tree.specs.Nesting.Statements.{stmt_nesting-Expression, stmt_nesting-While, stmt_nesting-Do, stmt_nesting-For, stmt_nesting-Switch, stmt_nesting-Break, stmt_nesting-Continue, stmt_nesting-Return}
use Rattle.c_grammar.specs.Input.{Tokens, State, Parser, and_then, peek, expect, enclosed}
use Rattle.c_grammar.specs.Read.Depth.{expression}
use Rattle.c_grammar.specs.Laws.Tests.{and_false}
use Rattle.c_grammar.specs.Laws.Form.{Form, Exact, Node, Image, only, map_to, node_exact, same_exact, two, three, five, quieted, enclosed_map}
use Rattle.c_grammar.specs.Laws.Single.{mark_form, expect_exact}
use Rattle.c_grammar.specs.Laws.Rows.{pre, pre_exact, post, post_exact, closed, closed_exact}
use Rattle.c_grammar.specs.Laws.Behind.{both_true, both_are}
use Rattle.c_grammar.specs.Laws.Starts.{peek_first}
use Rattle.c_grammar.specs.Laws.Depth.{comma_read}
use Rattle.c_unit_grammar.specs.Read.Words.{is_word, expect_word}
use Rattle.c_unit_grammar.specs.Read.Statements.{Within, value_until, condition, for_control, expression_statement, break_statement, continue_statement, return_statement, block, body, while_statement, do_statement, for_statement, switch_statement}
use Rattle.c_unit_grammar.specs.Laws.Common.{word_form, expect_word_exact, enclosed_exact, lift_value, value_form, value_exact, semicolon_ends}
use Rattle.c_unit_grammar.specs.Laws.StatementFacts.{takes, takes_told}
use Rattle.c_unit_grammar.specs.Laws.Conditions.{condition_form, condition_exact, control_form, control_exact}
use Rattle.c_unit_grammar.specs.Laws.Bodies.{no_else, stmt_form, body_form, block_form, Inside, scope_exact, body_exact, governed, governed_exact}

-- ---- what is read in a scope

enclosed_same : {A : Type 0} (p q : Parser A) → ((i : State) → p i ≡ q i) → (i : State) → enclosed p i ≡ enclosed q i
enclosed_same p q same i = ap (λ o. and_then o (λ a j. Ok (a, (i.0, j.1)))) (same i)

-- a statement that is a scope, from its parts
pub in_scope : {T : Type 0} (F : Form T) (f : T → Stmt) (more : ℕ) (p : Parser T) (whole : Parser Stmt) → ((i : State) → whole i ≡ map_to p f i) → Exact F more p
    → ((names : Names) (t : T) (rest : Tokens) → F.good names t → F.stop t (names ++ F.adds names t) rest → F.stop t names rest)
    → ((names : Names) (t : T) (rest : Tokens) → F.good names t → F.stop t names rest → F.stop t (names ++ F.adds names t) rest)
    → Node (quieted F) f stmt_form → Exact (only (Image f) stmt_form) more (enclosed whole)
in_scope F f more p whole same exact to from node =
    same_exact (only (Image f) stmt_form) more _ _ (λ i. enclosed_same whole (map_to p f) same i ∙ enclosed_map p f i)
    (node_exact (quieted F) f stmt_form more (enclosed p) (enclosed_exact F more p exact to from) node)

-- a token that is no `else` behind a statement
pub body_before : (s : Stmt) (t : Token) (ts : Tokens) → is_word word.Else (Some t.kind) ≡ false → no_else (takes s) (t ∷ ts)
body_before s t ts e = ap (λ o. takes s && is_word word.Else o) (peek_first t ts) ∙ ap (λ b. takes s && b) e ∙ and_false (takes s)

-- behind a statement that takes no `else` anything may stand
pub free : (s : Stmt) (rest : Tokens) → takes s ≡ false → no_else (takes s) rest
free s rest e = ap (λ b. b && is_word word.Else (peek rest)) e

pub as_taking : (a b : Bool) (rest : Tokens) → a ≡ b → no_else b rest → no_else a rest
as_taking a b rest e h = subst (λ c. no_else c rest) (sym e) h

-- ---- `while` (C11 6.8.5.1)

abbrev pub while_of : (Pos × Condition) × Stmt → Stmt
while_of t = stmt.While t.0.0 t.0.1 t.1

while_takes : (t : (Pos × Condition) × Stmt) → takes (while_of t) ≡ takes t.1
while_takes t = sym (takes_told (while_of t) []) ∙ ap (λ r. r.0.takes_else) (stmt_level-While t.0.0 t.0.1 t.1 []) ∙ takes_told t.1 _

while_node : Node (quieted (governed word.While)) while_of stmt_form
while_node = record {
  good = λ names t g. ap (λ r. r.0.good) (stmt_level-While t.0.0 t.0.1 t.1 names) ∙ both_are _ _ g.0.1 g.1;
  parts = λ names t h. let b = both_true (condition_level t.0.1 names).0 _ (sym (ap (λ r. r.0.good) (stmt_level-While t.0.0 t.0.1 t.1 names)) ∙ h) in ((tt, b.0), b.1);
  nested = λ t. ap (λ d. d.alone) (stmt_nesting-While t.0.0 t.0.1 t.1) ∙ omega arith;
  spelt = λ t. stmt_spelling-While t.0.0 t.0.1 t.1;
  seen = λ names t. ap (λ r. r.1) (stmt_level-While t.0.0 t.0.1 t.1 names);
  stop = λ names t behind rest g h. as_taking _ _ rest (while_takes t) h;
  from_stop = λ names t behind rest g h. as_taking _ _ rest (sym (while_takes t)) h;
}

pub while_exact : (more : ℕ) (inner : Within) → Inside more inner → Exact (only (Image while_of) stmt_form) more (while_statement more inner)
unfolding while_statement
while_exact more inner inside =
    in_scope (governed word.While) while_of more _ _ (three (expect_word word.While) (λ at. condition more) (λ at c. body more inner) (λ at c b. stmt.While at c b)) (governed_exact word.While more inner inside)
    (λ names t rest g h. h) (λ names t rest g h. h) while_node

-- ---- `do` (C11 6.8.5.2)

abbrev do_form : Form ((((Pos × Stmt) × Pos) × Condition) × Pos)
do_form = closed (pre (post (pre (word_form word.Do) (λ _. body_form)) (λ _. word_form word.While)) (λ _. condition_form)) p.Semicolon

abbrev pub do_of : (((Pos × Stmt) × Pos) × Condition) × Pos → Stmt
do_of t = stmt.Do t.0.0.0.0 t.0.0.0.1 t.0.0.1 t.0.1 t.1

do_takes : (t : (((Pos × Stmt) × Pos) × Condition) × Pos) → takes (do_of t) ≡ false
do_takes t = sym (takes_told (do_of t) []) ∙ ap (λ r. r.0.takes_else) (stmt_level-Do t.0.0.0.0 t.0.0.0.1 t.0.0.1 t.0.1 t.1 [])

do_spelt : (b w c e : Tokens) → b ++ (w ++ (c ++ e)) ≡ ((b ++ w) ++ c) ++ e
do_spelt b w c e = sym (append_assoc b w (c ++ e)) ∙ sym (append_assoc (b ++ w) c e)

do_node : Node (quieted do_form) do_of stmt_form
do_node = record {
  good = λ names t g.
      ap (λ r. r.0.good) (stmt_level-Do t.0.0.0.0 t.0.0.0.1 t.0.0.1 t.0.1 t.1 names)
      ∙ both_are _ _ g.0.0.0.1 (subst (λ n. (condition_level t.0.1 n).0 ≡ true) (sym (append-nil names)) g.0.1);
  parts = λ names t h.
      let b = both_true (stmt_level t.0.0.0.1 names).0.good _ (sym (ap (λ r. r.0.good) (stmt_level-Do t.0.0.0.0 t.0.0.0.1 t.0.0.1 t.0.1 t.1 names)) ∙ h) in
      ((((tt, b.0), tt), subst (λ n. (condition_level t.0.1 n).0 ≡ true) (append-nil names) b.1), tt);
  nested = λ t. ap (λ d. d.alone) (stmt_nesting-Do t.0.0.0.0 t.0.0.0.1 t.0.0.1 t.0.1 t.1) ∙ omega arith;
  spelt = λ t.
      stmt_spelling-Do t.0.0.0.0 t.0.0.0.1 t.0.0.1 t.0.1 t.1
      ∙ ap (λ l. keyword word.Do t.0.0.0.0 ∷ l) (do_spelt (stmt_spelling t.0.0.0.1) (keyword word.While t.0.0.1 ∷ []) (condition_spelling t.0.1) (punct p.Semicolon t.1 ∷ []));
  seen = λ names t. ap (λ r. r.1) (stmt_level-Do t.0.0.0.0 t.0.0.0.1 t.0.0.1 t.0.1 t.1 names);
  stop = λ names t behind rest g h. free (do_of t) rest (do_takes t);
  from_stop = λ names t behind rest g h. tt;
}

pub do_exact : (more : ℕ) (inner : Within) → Inside more inner → Exact (only (Image do_of) stmt_form) more (do_statement more inner)
unfolding do_statement
do_exact more inner inside =
    in_scope do_form do_of more _ _
    (five (expect_word word.Do) (λ at. body more inner) (λ at b. expect_word word.While) (λ at b w. condition more) (λ at b w c. expect p.Semicolon) (λ at b w c e. stmt.Do at b w c e))
    (closed_exact (pre (post (pre (word_form word.Do) (λ _. body_form)) (λ _. word_form word.While)) (λ _. condition_form)) p.Semicolon more _
    (pre_exact (post (pre (word_form word.Do) (λ _. body_form)) (λ _. word_form word.While)) (λ _. condition_form) more _ (λ _. condition more) (λ names a. refl)
    (post_exact (pre (word_form word.Do) (λ _. body_form)) (λ _. word_form word.While) more _ (λ _. expect_word word.While) (λ t names at. refl)
    (pre_exact (word_form word.Do) (λ _. body_form) more (expect_word word.Do) (λ at. body more inner) (λ names a. refl) (expect_word_exact word.Do more) (λ _. body_exact more inner inside) (λ names a b rest g h s. tt))
    (λ _. expect_word_exact word.While more) (λ names t at rest g h s. body_before t.1 (keyword word.While at) rest refl))
    (λ _. condition_exact more) (λ names a b rest g h s. tt)) (λ names t at rest g. tt))
    (λ names t rest g h. h) (λ names t rest g h. h) do_node

-- ---- `for` (C11 6.8.5.3)

abbrev for_form : Form ((Pos × ForControl) × Stmt)
for_form = post (pre (word_form word.For) (λ _. control_form)) (λ _. body_form)

abbrev pub for_of : (Pos × ForControl) × Stmt → Stmt
for_of t = stmt.For t.0.0 t.0.1 t.1

for_takes : (t : (Pos × ForControl) × Stmt) → takes (for_of t) ≡ takes t.1
for_takes t = sym (takes_told (for_of t) []) ∙ ap (λ r. r.0.takes_else) (stmt_level-For t.0.0 t.0.1 t.1 []) ∙ takes_told t.1 _

for_node : Node (quieted for_form) for_of stmt_form
for_node = record {
  good = λ names t g. ap (λ r. r.0.good) (stmt_level-For t.0.0 t.0.1 t.1 names) ∙ both_are _ _ g.0.1 g.1;
  parts = λ names t h. let b = both_true (for_control_level t.0.1 names).0 _ (sym (ap (λ r. r.0.good) (stmt_level-For t.0.0 t.0.1 t.1 names)) ∙ h) in ((tt, b.0), b.1);
  nested = λ t. ap (λ d. d.alone) (stmt_nesting-For t.0.0 t.0.1 t.1) ∙ omega arith;
  spelt = λ t. stmt_spelling-For t.0.0 t.0.1 t.1;
  seen = λ names t. ap (λ r. r.1) (stmt_level-For t.0.0 t.0.1 t.1 names);
  stop = λ names t behind rest g h. as_taking _ _ rest (for_takes t) h;
  from_stop = λ names t behind rest g h. as_taking _ _ rest (sym (for_takes t)) h;
}

pub for_exact : (more : ℕ) (inner : Within) → Inside more inner → Exact (only (Image for_of) stmt_form) more (for_statement more inner)
unfolding for_statement
for_exact more inner inside =
    in_scope for_form for_of more _ _ (three (expect_word word.For) (λ at. for_control more) (λ at c. body more inner) (λ at c b. stmt.For at c b))
    (post_exact (pre (word_form word.For) (λ _. control_form)) (λ _. body_form) more _ (λ t. body more inner) (λ t names s. refl)
    (pre_exact (word_form word.For) (λ _. control_form) more (expect_word word.For) (λ at. for_control more) (λ names a. refl) (expect_word_exact word.For more) (λ _. control_exact more) (λ names a b rest g h s. tt))
    (λ _. body_exact more inner inside) (λ names a b rest g h s. tt))
    (λ names t rest g h. h) (λ names t rest g h. h) for_node

-- ---- `switch` (C11 6.8.4.2)

abbrev switch_form : Form ((Pos × Condition) × Block)
switch_form = post (pre (word_form word.Switch) (λ _. condition_form)) (λ _. quieted (block_form true))

abbrev pub switch_of : (Pos × Condition) × Block → Stmt
switch_of t = stmt.Switch t.0.0 t.0.1 t.1

switch_takes : (t : (Pos × Condition) × Block) → takes (switch_of t) ≡ false
switch_takes t = sym (takes_told (switch_of t) []) ∙ ap (λ r. r.0.takes_else) (stmt_level-Switch t.0.0 t.0.1 t.1 [])

switch_node : Node (quieted switch_form) switch_of stmt_form
switch_node = record {
  good = λ names t g. ap (λ r. r.0.good) (stmt_level-Switch t.0.0 t.0.1 t.1 names) ∙ both_are _ _ g.0.1 g.1.0;
  parts = λ names t h. let b = both_true (condition_level t.0.1 names).0 _ (sym (ap (λ r. r.0.good) (stmt_level-Switch t.0.0 t.0.1 t.1 names)) ∙ h) in ((tt, b.0), (b.1, refl));
  nested = λ t. ap (λ d. d.alone) (stmt_nesting-Switch t.0.0 t.0.1 t.1) ∙ omega arith;
  spelt = λ t. stmt_spelling-Switch t.0.0 t.0.1 t.1;
  seen = λ names t. ap (λ r. r.1) (stmt_level-Switch t.0.0 t.0.1 t.1 names);
  stop = λ names t behind rest g h. free (switch_of t) rest (switch_takes t);
  from_stop = λ names t behind rest g h. tt;
}

pub switch_exact : (more : ℕ) (inner : Within) → Inside more inner → Exact (only (Image switch_of) stmt_form) more (switch_statement more inner)
unfolding switch_statement
switch_exact more inner inside =
    in_scope switch_form switch_of more _ _ (three (expect_word word.Switch) (λ at. condition more) (λ at c. enclosed (block more inner true)) (λ at c b. stmt.Switch at c b))
    (post_exact (pre (word_form word.Switch) (λ _. condition_form)) (λ _. quieted (block_form true)) more _ (λ t. enclosed (block more inner true)) (λ t names s. refl)
    (pre_exact (word_form word.Switch) (λ _. condition_form) more (expect_word word.Switch) (λ at. condition more) (λ names a. refl) (expect_word_exact word.Switch more) (λ _. condition_exact more) (λ names a b rest g h s. tt))
    (λ _. scope_exact more inner inside true) (λ names a b rest g h s. tt))
    (λ names t rest g h. h) (λ names t rest g h. h) switch_node

-- ---- simple statements

abbrev pub break_of : Pos × Pos → Stmt
break_of t = stmt.Break t.0 t.1

abbrev pub continue_of : Pos × Pos → Stmt
continue_of t = stmt.Continue t.0 t.1

break_takes : (t : Pos × Pos) → takes (break_of t) ≡ false
break_takes t = sym (takes_told (break_of t) []) ∙ ap (λ r. r.0.takes_else) (stmt_level-Break t.0 t.1 [])

continue_takes : (t : Pos × Pos) → takes (continue_of t) ≡ false
continue_takes t = sym (takes_told (continue_of t) []) ∙ ap (λ r. r.0.takes_else) (stmt_level-Continue t.0 t.1 [])

break_node : Node (pre (word_form word.Break) (λ _. mark_form p.Semicolon)) break_of stmt_form
break_node = record {
  good = λ names t g. ap (λ r. r.0.good) (stmt_level-Break t.0 t.1 names);
  parts = λ names t h. (tt, tt);
  nested = λ t. ap (λ d. d.alone) (stmt_nesting-Break t.0 t.1);
  spelt = λ t. stmt_spelling-Break t.0 t.1;
  seen = λ names t. ap (λ r. r.1) (stmt_level-Break t.0 t.1 names);
  stop = λ names t behind rest g h. free (break_of t) rest (break_takes t);
  from_stop = λ names t behind rest g h. tt;
}

continue_node : Node (pre (word_form word.Continue) (λ _. mark_form p.Semicolon)) continue_of stmt_form
continue_node = record {
  good = λ names t g. ap (λ r. r.0.good) (stmt_level-Continue t.0 t.1 names);
  parts = λ names t h. (tt, tt);
  nested = λ t. ap (λ d. d.alone) (stmt_nesting-Continue t.0 t.1);
  spelt = λ t. stmt_spelling-Continue t.0 t.1;
  seen = λ names t. ap (λ r. r.1) (stmt_level-Continue t.0 t.1 names);
  stop = λ names t behind rest g h. free (continue_of t) rest (continue_takes t);
  from_stop = λ names t behind rest g h. tt;
}

pub break_exact : (more : ℕ) → Exact (only (Image break_of) stmt_form) more (break_statement more)
unfolding break_statement
break_exact more =
    same_exact (only (Image break_of) stmt_form) more _ _ (two (expect_word word.Break) (λ at. expect p.Semicolon) (λ at e. stmt.Break at e))
    (node_exact (pre (word_form word.Break) (λ _. mark_form p.Semicolon)) break_of stmt_form more _
    (pre_exact (word_form word.Break) (λ _. mark_form p.Semicolon) more (expect_word word.Break) (λ at. expect p.Semicolon) (λ names a. refl) (expect_word_exact word.Break more) (λ _. expect_exact p.Semicolon more) (λ names a b rest g h s. tt)) break_node)

pub continue_exact : (more : ℕ) → Exact (only (Image continue_of) stmt_form) more (continue_statement more)
unfolding continue_statement
continue_exact more =
    same_exact (only (Image continue_of) stmt_form) more _ _ (two (expect_word word.Continue) (λ at. expect p.Semicolon) (λ at e. stmt.Continue at e))
    (node_exact (pre (word_form word.Continue) (λ _. mark_form p.Semicolon)) continue_of stmt_form more _
    (pre_exact (word_form word.Continue) (λ _. mark_form p.Semicolon) more (expect_word word.Continue) (λ at. expect p.Semicolon) (λ names a. refl) (expect_word_exact word.Continue more) (λ _. expect_exact p.Semicolon more) (λ names a b rest g h s. tt)) continue_node)

abbrev flat : ℕ → ℕ
flat n = n

flat_value : (v : Option Expr) → value_nesting v ≡ lift_value flat v
flat_value None = refl
flat_value (Some x) = refl

plain_value : (more : ℕ) → Exact (value_form flat p.Semicolon) more (value_until p.Semicolon (expression more comma))
plain_value more = value_exact flat p.Semicolon semicolon_ends more (expression more comma) (comma_read more)

abbrev pub expression_of : Option Expr × Pos → Stmt
expression_of v = stmt.Expression v.0 v.1

expression_takes : (v : Option Expr × Pos) → takes (expression_of v) ≡ false
expression_takes v = sym (takes_told (expression_of v) []) ∙ ap (λ r. r.0.takes_else) (stmt_level-Expression v.0 v.1 [])

expression_node : Node (value_form flat p.Semicolon) expression_of stmt_form
expression_node = record {
  good = λ names v g. ap (λ r. r.0.good) (stmt_level-Expression v.0 v.1 names) ∙ g;
  parts = λ names v h. sym (ap (λ r. r.0.good) (stmt_level-Expression v.0 v.1 names)) ∙ h;
  nested = λ v. ap (λ d. d.alone) (stmt_nesting-Expression v.0 v.1) ∙ flat_value v.0;
  spelt = λ v. stmt_spelling-Expression v.0 v.1;
  seen = λ names v. ap (λ r. r.1) (stmt_level-Expression v.0 v.1 names);
  stop = λ names v behind rest g h. free (expression_of v) rest (expression_takes v);
  from_stop = λ names v behind rest g h. tt;
}

pub expression_exact : (more : ℕ) → Exact (only (Image expression_of) stmt_form) more (expression_statement more)
unfolding expression_statement
expression_exact more = node_exact (value_form flat p.Semicolon) expression_of stmt_form more _ (plain_value more) expression_node

abbrev pub return_of : Pos × (Option Expr × Pos) → Stmt
return_of t = stmt.Return t.0 t.1.0 t.1.1

return_takes : (t : Pos × (Option Expr × Pos)) → takes (return_of t) ≡ false
return_takes t = sym (takes_told (return_of t) []) ∙ ap (λ r. r.0.takes_else) (stmt_level-Return t.0 t.1.0 t.1.1 [])

return_node : Node (pre (word_form word.Return) (λ _. value_form flat p.Semicolon)) return_of stmt_form
return_node = record {
  good = λ names t g. ap (λ r. r.0.good) (stmt_level-Return t.0 t.1.0 t.1.1 names) ∙ g.1;
  parts = λ names t h. (tt, sym (ap (λ r. r.0.good) (stmt_level-Return t.0 t.1.0 t.1.1 names)) ∙ h);
  nested = λ t. ap (λ d. d.alone) (stmt_nesting-Return t.0 t.1.0 t.1.1) ∙ flat_value t.1.0 ∙ omega arith;
  spelt = λ t. stmt_spelling-Return t.0 t.1.0 t.1.1;
  seen = λ names t. ap (λ r. r.1) (stmt_level-Return t.0 t.1.0 t.1.1 names);
  stop = λ names t behind rest g h. free (return_of t) rest (return_takes t);
  from_stop = λ names t behind rest g h. tt;
}

pub return_exact : (more : ℕ) → Exact (only (Image return_of) stmt_form) more (return_statement more)
unfolding return_statement
return_exact more =
    same_exact (only (Image return_of) stmt_form) more _ _ (two (expect_word word.Return) (λ at. value_until p.Semicolon (expression more comma)) (λ at v. stmt.Return at v.0 v.1))
    (node_exact (pre (word_form word.Return) (λ _. value_form flat p.Semicolon)) return_of stmt_form more _
    (pre_exact (word_form word.Return) (λ _. value_form flat p.Semicolon) more (expect_word word.Return) (λ at. value_until p.Semicolon (expression more comma)) (λ names a. refl) (expect_word_exact word.Return more) (λ _. plain_value more) (λ names a b rest g h s. tt)) return_node)
