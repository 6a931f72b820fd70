-- What is told of a statement: its kind, its first token, and whether an `else` behind it would belong to it.
use Rattle.std.specs.Prelude.{◌≡◌, ℕ, zero, suc, ◌≤◌, ◌<◌, Bool, true, false, not, ◌&&◌, ◌||◌, List, [], ◌∷◌, ◌++◌, length, map, Option, Some, None, is_none, refl}
use Rattle.std.proofs.Common.{ap, sym, ◌∙◌, subst, cond, arith, length-append}
use denote.Hole.Carrier.{out}
use Rattle.c_tree.specs.declared.token.Pos.{Pos}
use Rattle.c_tree.specs.declared.token.Punct.{Punct}
use Rattle.c_tree.specs.declared.token.Punct.TheVariants as p
use Rattle.c_tree.specs.declared.token.Keyword.{Keyword}
use Rattle.c_tree.specs.declared.token.Keyword.TheVariants as word
use Rattle.c_tree.specs.declared.token.IntKind.{IntKind}
use Rattle.c_tree.specs.declared.token.TokenKind.{TokenKind}
use Rattle.c_tree.specs.declared.token.TokenKind.TheVariants as k
use Rattle.c_tree.specs.declared.token.Token.{Token}
use Rattle.c_tree.specs.declared.expression.Expr.{Expr}
use Rattle.c_tree.specs.declared.statement.IfHead.{IfHead}
use Rattle.c_tree.specs.declared.statement.Stmt.{Stmt, out-Stmt}
use Rattle.c_tree.specs.declared.statement.Block.{out-Block}
use Rattle.c_tree.specs.declared.statement.Else.{Else, out-Else}
use Rattle.c_tree.specs.declared.statement.BlockItem.TheOpen.{Stmt-F}
use Rattle.c_tree.specs.Layers.{StmtLayer}
use Rattle.c_tree.specs.Spelling.Tokens.{punct, keyword, joined}
use Rattle.c_tree.specs.Spelling.OfStatements.{condition_spelling, for_control_spelling, if_head_spelling, value_spelling}
use Rattle.c_tree.specs.Spelling.Statements.{stmt_spelling, else_spelling, stmt_spelling-Block, stmt_spelling-Expression, stmt_spelling-If, stmt_spelling-While, stmt_spelling-Do, stmt_spelling-For, stmt_spelling-Switch, stmt_spelling-Break, stmt_spelling-Continue, stmt_spelling-Return, block_spelling-is, else_spelling-is}
use Rattle.c_tree.specs.Levels.Names.{Names, is_typedef_name, in_row}
use Rattle.c_tree.specs.Levels.Productions.{comma}
use Rattle.c_tree.specs.Levels.StatementFacts.{takes_more}
use Rattle.c_tree.specs.Levels.OfStatements.{condition_level, for_control_level, if_head_level, value_level}
use Rattle.c_tree.specs.Levels.Trees.{expr_level}
use Rattle.c_tree.specs.Levels.Statements.{stmt_level, else_level, stmt_level-Block, stmt_level-Expression, stmt_level-If, stmt_level-While, stmt_level-Do, stmt_level-For, stmt_level-Switch, stmt_level-Break, stmt_level-Continue, stmt_level-Return, else_level-is}
use Rattle.c_grammar.specs.Punctuators.{same_mark}
use Rattle.c_grammar.specs.Input.{Tokens, peek, is_mark}
use Rattle.c_grammar.specs.Laws.Behind.{nat_le-true}
use Rattle.c_grammar.specs.Laws.Starts.{peek_first, begins_by, begins_expression, starts}
use Rattle.c_unit_grammar.specs.Read.Words.{is_word, StatementKind, Braced, Ifs, Whiles, Does, Fors, Switches, Breaks, Continues, Returns, Expressed, statement_kind, Declares, States, label_kind, item_kind}
use Rattle.c_unit_grammar.specs.Laws.Shapes.{StmtShape, stmt_shape}

-- ---- kinds

abbrev pub kind_layer : StmtLayer → StatementKind
kind_layer (Stmt-F.Block block) = Braced
kind_layer (Stmt-F.Expression value semicolon) = Expressed
kind_layer (Stmt-F.If at condition body others) = Ifs
kind_layer (Stmt-F.While at condition body) = Whiles
kind_layer (Stmt-F.Do at body while_at condition semicolon) = Does
kind_layer (Stmt-F.For at control body) = Fors
kind_layer (Stmt-F.Switch at condition body) = Switches
kind_layer (Stmt-F.Break at semicolon) = Breaks
kind_layer (Stmt-F.Continue at semicolon) = Continues
kind_layer (Stmt-F.Return at value semicolon) = Returns

unfoldable pub stmt_kind : Stmt → StatementKind
stmt_kind s = kind_layer (out-Stmt s)

abbrev pub is_ifs : StatementKind → Bool
is_ifs Ifs = true
is_ifs _ = false

shape_if : {s : Stmt} → StmtShape s → (names : Names) → (stmt_level s names).0.is_if ≡ is_ifs (stmt_kind s)
unfolding stmt_kind out-Stmt out
shape_if (StmtShape.a_block b) names = ap (λ t. t.0.is_if) (stmt_level-Block b names)
shape_if (StmtShape.a_expression v e) names = ap (λ t. t.0.is_if) (stmt_level-Expression v e names)
shape_if (StmtShape.a_if at c b os) names = ap (λ t. t.0.is_if) (stmt_level-If at c b os names)
shape_if (StmtShape.a_while at c b) names = ap (λ t. t.0.is_if) (stmt_level-While at c b names)
shape_if (StmtShape.a_do at b w c e) names = ap (λ t. t.0.is_if) (stmt_level-Do at b w c e names)
shape_if (StmtShape.a_for at c b) names = ap (λ t. t.0.is_if) (stmt_level-For at c b names)
shape_if (StmtShape.a_switch at c b) names = ap (λ t. t.0.is_if) (stmt_level-Switch at c b names)
shape_if (StmtShape.a_break at e) names = ap (λ t. t.0.is_if) (stmt_level-Break at e names)
shape_if (StmtShape.a_continue at e) names = ap (λ t. t.0.is_if) (stmt_level-Continue at e names)
shape_if (StmtShape.a_return at v e) names = ap (λ t. t.0.is_if) (stmt_level-Return at v e names)

pub if_told : (s : Stmt) (names : Names) → (stmt_level s names).0.is_if ≡ is_ifs (stmt_kind s)
if_told s names = shape_if (stmt_shape s) names

-- ---- whether an `else` would belong to a statement does not depend on the names

-- what is told of it is the same, whatever the names
abbrev Same : Stmt → Type 0
Same s = (a b : Names) → (stmt_level s a).0.takes_else ≡ (stmt_level s b).0.takes_else

abbrev Bodies : ℕ → Type 0
Bodies n = (s : Stmt) → length (stmt_spelling s) ≤ n → Same s

else_same : (n : ℕ) → Bodies n → (es : List Else) → length (joined (map else_spelling es)) ≤ suc n → (a b : Names) → takes_more (in_row (map else_level es) a).0 ≡ takes_more (in_row (map else_level es) b).0
else_same n ih [] short a b = refl
else_same n ih (e ∷ []) short a b =
    let head : Option IfHead = (out-Else e).head in
    let body : Stmt = (out-Else e).body in
    let l : length (stmt_spelling body) ≤ n = omega (arith, short, ap length (else_spelling-is e), length-append (else_spelling e) [], length-append (if_head_spelling head) (stmt_spelling body)) in
    ap (λ t. not t.0.is_last || t.0.body.takes_else) (else_level-is e a)
    ∙ ap (λ t. not (is_none head) || t) (ih body l (a ++ (if_head_level head a).1) (b ++ (if_head_level head b).1))
    ∙ sym (ap (λ t. not t.0.is_last || t.0.body.takes_else) (else_level-is e b))
else_same n ih (e ∷ f ∷ more) short a b =
    else_same n ih (f ∷ more) (omega (arith, short, length-append (else_spelling e) (joined (map else_spelling (f ∷ more))))) (a ++ (else_level e a).1) (b ++ (else_level e b).1)

same_by : (n : ℕ) → Bodies n → {s : Stmt} → StmtShape s → length (stmt_spelling s) ≤ suc n → Same s
same_by n ih (StmtShape.a_block x) short a b = ap (λ t. t.0.takes_else) (stmt_level-Block x a) ∙ sym (ap (λ t. t.0.takes_else) (stmt_level-Block x b))
same_by n ih (StmtShape.a_expression v e) short a b = ap (λ t. t.0.takes_else) (stmt_level-Expression v e a) ∙ sym (ap (λ t. t.0.takes_else) (stmt_level-Expression v e b))
same_by n ih (StmtShape.a_if at c x os) short a b =
    let l : length (joined (map else_spelling os)) ≤ suc n = omega (arith, short, ap length (stmt_spelling-If at c x os), length-append (condition_spelling c) (stmt_spelling x ++ joined (map else_spelling os)), length-append (stmt_spelling x) (joined (map else_spelling os))) in
    ap (λ t. t.0.takes_else) (stmt_level-If at c x os a)
    ∙ else_same n ih os l ((a ++ (condition_level c a).1) ++ []) ((b ++ (condition_level c b).1) ++ [])
    ∙ sym (ap (λ t. t.0.takes_else) (stmt_level-If at c x os b))
same_by n ih (StmtShape.a_while at c x) short a b =
    let l : length (stmt_spelling x) ≤ n = omega (arith, short, ap length (stmt_spelling-While at c x), length-append (condition_spelling c) (stmt_spelling x)) in
    ap (λ t. t.0.takes_else) (stmt_level-While at c x a) ∙ ih x l (a ++ (condition_level c a).1) (b ++ (condition_level c b).1) ∙ sym (ap (λ t. t.0.takes_else) (stmt_level-While at c x b))
same_by n ih (StmtShape.a_do at x w c e) short a b = ap (λ t. t.0.takes_else) (stmt_level-Do at x w c e a) ∙ sym (ap (λ t. t.0.takes_else) (stmt_level-Do at x w c e b))
same_by n ih (StmtShape.a_for at c x) short a b =
    let l : length (stmt_spelling x) ≤ n = omega (arith, short, ap length (stmt_spelling-For at c x), length-append (for_control_spelling c) (stmt_spelling x)) in
    ap (λ t. t.0.takes_else) (stmt_level-For at c x a) ∙ ih x l (a ++ (for_control_level c a).1) (b ++ (for_control_level c b).1) ∙ sym (ap (λ t. t.0.takes_else) (stmt_level-For at c x b))
same_by n ih (StmtShape.a_switch at c x) short a b = ap (λ t. t.0.takes_else) (stmt_level-Switch at c x a) ∙ sym (ap (λ t. t.0.takes_else) (stmt_level-Switch at c x b))
same_by n ih (StmtShape.a_break at e) short a b = ap (λ t. t.0.takes_else) (stmt_level-Break at e a) ∙ sym (ap (λ t. t.0.takes_else) (stmt_level-Break at e b))
same_by n ih (StmtShape.a_continue at e) short a b = ap (λ t. t.0.takes_else) (stmt_level-Continue at e a) ∙ sym (ap (λ t. t.0.takes_else) (stmt_level-Continue at e b))
same_by n ih (StmtShape.a_return at v e) short a b = ap (λ t. t.0.takes_else) (stmt_level-Return at v e a) ∙ sym (ap (λ t. t.0.takes_else) (stmt_level-Return at v e b))

-- a statement has tokens, whether it is as the grammar has it or not
some_tokens : {s : Stmt} → StmtShape s → 0 < length (stmt_spelling s)
some_tokens (StmtShape.a_block x) = omega (arith, ap length (stmt_spelling-Block x), ap length (block_spelling-is x))
some_tokens (StmtShape.a_expression v e) = omega (arith, ap length (stmt_spelling-Expression v e), length-append (value_spelling v) (punct p.Semicolon e ∷ []))
some_tokens (StmtShape.a_if at c x os) = omega (arith, ap length (stmt_spelling-If at c x os))
some_tokens (StmtShape.a_while at c x) = omega (arith, ap length (stmt_spelling-While at c x))
some_tokens (StmtShape.a_do at x w c e) = omega (arith, ap length (stmt_spelling-Do at x w c e))
some_tokens (StmtShape.a_for at c x) = omega (arith, ap length (stmt_spelling-For at c x))
some_tokens (StmtShape.a_switch at c x) = omega (arith, ap length (stmt_spelling-Switch at c x))
some_tokens (StmtShape.a_break at e) = omega (arith, ap length (stmt_spelling-Break at e))
some_tokens (StmtShape.a_continue at e) = omega (arith, ap length (stmt_spelling-Continue at e))
some_tokens (StmtShape.a_return at v e) = omega (arith, ap length (stmt_spelling-Return at v e))

same_to : (n : ℕ) → Bodies n
same_to zero s short = absurd (let a = some_tokens (stmt_shape s) in omega arith)
same_to (suc n) s short = same_by n (same_to n) (stmt_shape s) short

-- an `else` right behind the statement would belong to an `if` in it
unfoldable pub takes : Stmt → Bool
takes s = (stmt_level s []).0.takes_else

pub takes_told : (s : Stmt) (names : Names) → (stmt_level s names).0.takes_else ≡ takes s
unfolding takes
takes_told s names = same_to (length (stmt_spelling s)) s (omega arith) names []

-- ---- the first token of a statement

pub record StartsStatement (names : Names) (kind : StatementKind) (ts : Tokens) : Type 0 where
  pub first : Token
  pub others : Tokens
  pub spelt : ts ≡ first ∷ others
  pub kind_is : statement_kind (Some first.kind) ≡ kind
  pub no_else : is_word word.Else (Some first.kind) ≡ false
  pub no_brace : is_mark p.RightBrace (Some first.kind) ≡ false
  pub is_item : (labels : Bool) → item_kind labels names (Some first.kind) ≡ States

expressed_mark : (op : Punct) → begins_by op ≡ true → (statement_kind (Some (k.Punct op)) ≡ Expressed) × (same_mark op p.RightBrace ≡ false)
expressed_mark p.LeftBrace h = absurd cc
expressed_mark p.RightBrace h = absurd cc
expressed_mark _ h = (refl, refl)

expressed_word : (names : Names) (key : Keyword) → begins_expression names (k.Keyword key) ≡ true → word.Sizeof ≡ key
expressed_word names word.Sizeof h = refl
expressed_word names _ h = absurd cc

label_none : (labels : Bool) (op : Punct) → label_kind labels (Some (k.Punct op)) ≡ States
label_none true op = refl
label_none false op = refl

abbrev Plain : Names → TokenKind → Type 0
Plain names kind = (statement_kind (Some kind) ≡ Expressed) × (is_word word.Else (Some kind) ≡ false) × (is_mark p.RightBrace (Some kind) ≡ false) × ((labels : Bool) → item_kind labels names (Some kind) ≡ States)

not_is : (b : Bool) → not b ≡ true → b ≡ false
not_is true h = absurd cc
not_is false h = refl

item_name : (labels b : Bool) (text : List ℕ) → b ≡ false → cond (true && b) Declares (label_kind labels (Some (k.Name text))) ≡ States
item_name true b text e = ap (λ b. cond (true && b) Declares States) e
item_name false b text e = ap (λ b. cond (true && b) Declares States) e

label_name : (labels : Bool) (names : Names) (text : List ℕ) → is_typedef_name names text ≡ false → item_kind labels names (Some (k.Name text)) ≡ States
label_name labels names text e = item_name labels (is_typedef_name names text) text e

size_item : (labels : Bool) (names : Names) → item_kind labels names (Some (k.Keyword word.Sizeof)) ≡ States
size_item true names = refl
size_item false names = refl

number_item : (labels : Bool) (names : Names) (value : ℕ) (kind : IntKind) → item_kind labels names (Some (k.Number value kind)) ≡ States
number_item true names value kind = refl
number_item false names value kind = refl

char_item : (labels : Bool) (names : Names) (value : ℕ) → item_kind labels names (Some (k.Char value)) ≡ States
char_item true names value = refl
char_item false names value = refl

bytes_item : (labels : Bool) (names : Names) (bytes : List ℕ) → item_kind labels names (Some (k.Bytes bytes)) ≡ States
bytes_item true names bytes = refl
bytes_item false names bytes = refl

plain_kind : (names : Names) (kind : TokenKind) → begins_expression names kind ≡ true → Plain names kind
plain_kind names (k.Punct op) h = let m = expressed_mark op h in (m.0, refl, m.1, λ labels. label_none labels op)
plain_kind names (k.Keyword key) h = subst (λ key. Plain names (k.Keyword key)) (expressed_word names key h) (refl, refl, refl, λ labels. size_item labels names)
plain_kind names (k.Name text) h = (refl, refl, refl, λ labels. label_name labels names text (not_is (is_typedef_name names text) h))
plain_kind names (k.Number value kind) h = (refl, refl, refl, λ labels. number_item labels names value kind)
plain_kind names (k.Char value) h = (refl, refl, refl, λ labels. char_item labels names value)
plain_kind names (k.Bytes bytes) h = (refl, refl, refl, λ labels. bytes_item labels names bytes)

if_item : (labels : Bool) (names : Names) → item_kind labels names (Some (k.Keyword word.If)) ≡ States
if_item true names = refl
if_item false names = refl

while_item : (labels : Bool) (names : Names) → item_kind labels names (Some (k.Keyword word.While)) ≡ States
while_item true names = refl
while_item false names = refl

do_item : (labels : Bool) (names : Names) → item_kind labels names (Some (k.Keyword word.Do)) ≡ States
do_item true names = refl
do_item false names = refl

for_item : (labels : Bool) (names : Names) → item_kind labels names (Some (k.Keyword word.For)) ≡ States
for_item true names = refl
for_item false names = refl

switch_item : (labels : Bool) (names : Names) → item_kind labels names (Some (k.Keyword word.Switch)) ≡ States
switch_item true names = refl
switch_item false names = refl

break_item : (labels : Bool) (names : Names) → item_kind labels names (Some (k.Keyword word.Break)) ≡ States
break_item true names = refl
break_item false names = refl

continue_item : (labels : Bool) (names : Names) → item_kind labels names (Some (k.Keyword word.Continue)) ≡ States
continue_item true names = refl
continue_item false names = refl

return_item : (labels : Bool) (names : Names) → item_kind labels names (Some (k.Keyword word.Return)) ≡ States
return_item true names = refl
return_item false names = refl

brace_item : (labels : Bool) (names : Names) → item_kind labels names (Some (k.Punct p.LeftBrace)) ≡ States
brace_item true names = refl
brace_item false names = refl

value_starts : (names : Names) (v : Option Expr) (semicolon : Pos) (ts : Tokens) → ts ≡ value_spelling v ++ punct p.Semicolon semicolon ∷ [] → (value_level v names).0 ≡ true → StartsStatement names Expressed ts
value_starts names None semicolon ts e g = record { first = punct p.Semicolon semicolon; others = []; spelt = e; kind_is = refl; no_else = refl; no_brace = refl; is_item = λ labels. label_none labels p.Semicolon }
value_starts names (Some x) semicolon ts e g =
    let s = starts names x (omega (arith, nat_le-true (expr_level x names).0 comma g)) in
    let w = plain_kind names s.first.kind s.good in
    record { first = s.first; others = s.others ++ punct p.Semicolon semicolon ∷ []; spelt = e ∙ ap (λ l. l ++ punct p.Semicolon semicolon ∷ []) s.spelt; kind_is = w.0; no_else = w.1; no_brace = w.2; is_item = w.3 }

shape_starts : {s : Stmt} → StmtShape s → (names : Names) → (stmt_level s names).0.good ≡ true → StartsStatement names (stmt_kind s) (stmt_spelling s)
unfolding stmt_kind out-Stmt out
shape_starts (StmtShape.a_block x) names g = record { first = punct p.LeftBrace (out-Block x).opening; others = _; spelt = stmt_spelling-Block x ∙ block_spelling-is x; kind_is = refl; no_else = refl; no_brace = refl; is_item = λ labels. brace_item labels names }
shape_starts (StmtShape.a_expression v e) names g = value_starts names v e _ (stmt_spelling-Expression v e) (sym (ap (λ t. t.0.good) (stmt_level-Expression v e names)) ∙ g)
shape_starts (StmtShape.a_if at c x os) names g = record { first = keyword word.If at; others = _; spelt = stmt_spelling-If at c x os; kind_is = refl; no_else = refl; no_brace = refl; is_item = λ labels. if_item labels names }
shape_starts (StmtShape.a_while at c x) names g = record { first = keyword word.While at; others = _; spelt = stmt_spelling-While at c x; kind_is = refl; no_else = refl; no_brace = refl; is_item = λ labels. while_item labels names }
shape_starts (StmtShape.a_do at x w c e) names g = record { first = keyword word.Do at; others = _; spelt = stmt_spelling-Do at x w c e; kind_is = refl; no_else = refl; no_brace = refl; is_item = λ labels. do_item labels names }
shape_starts (StmtShape.a_for at c x) names g = record { first = keyword word.For at; others = _; spelt = stmt_spelling-For at c x; kind_is = refl; no_else = refl; no_brace = refl; is_item = λ labels. for_item labels names }
shape_starts (StmtShape.a_switch at c x) names g = record { first = keyword word.Switch at; others = _; spelt = stmt_spelling-Switch at c x; kind_is = refl; no_else = refl; no_brace = refl; is_item = λ labels. switch_item labels names }
shape_starts (StmtShape.a_break at e) names g = record { first = keyword word.Break at; others = _; spelt = stmt_spelling-Break at e; kind_is = refl; no_else = refl; no_brace = refl; is_item = λ labels. break_item labels names }
shape_starts (StmtShape.a_continue at e) names g = record { first = keyword word.Continue at; others = _; spelt = stmt_spelling-Continue at e; kind_is = refl; no_else = refl; no_brace = refl; is_item = λ labels. continue_item labels names }
shape_starts (StmtShape.a_return at v e) names g = record { first = keyword word.Return at; others = _; spelt = stmt_spelling-Return at v e; kind_is = refl; no_else = refl; no_brace = refl; is_item = λ labels. return_item labels names }

pub stmt_starts : (s : Stmt) (names : Names) → (stmt_level s names).0.good ≡ true → StartsStatement names (stmt_kind s) (stmt_spelling s)
stmt_starts s names g = shape_starts (stmt_shape s) names g

pub kind_seen : (s : Stmt) (names : Names) (rest : Tokens) → (stmt_level s names).0.good ≡ true → statement_kind (peek (stmt_spelling s ++ rest)) ≡ stmt_kind s
kind_seen s names rest g = let w = stmt_starts s names g in ap (λ l. statement_kind (peek (l ++ rest))) w.spelt ∙ ap statement_kind (peek_first w.first (w.others ++ rest)) ∙ w.kind_is

pub else_unseen : (s : Stmt) (names : Names) (rest : Tokens) → (stmt_level s names).0.good ≡ true → is_word word.Else (peek (stmt_spelling s ++ rest)) ≡ false
else_unseen s names rest g = let w = stmt_starts s names g in ap (λ l. is_word word.Else (peek (l ++ rest))) w.spelt ∙ ap (is_word word.Else) (peek_first w.first (w.others ++ rest)) ∙ w.no_else

pub item_seen : (s : Stmt) (labels : Bool) (names : Names) (rest : Tokens) → (stmt_level s names).0.good ≡ true → item_kind labels names (peek (stmt_spelling s ++ rest)) ≡ States
item_seen s labels names rest g = let w = stmt_starts s names g in ap (λ l. item_kind labels names (peek (l ++ rest))) w.spelt ∙ ap (item_kind labels names) (peek_first w.first (w.others ++ rest)) ∙ w.is_item labels
