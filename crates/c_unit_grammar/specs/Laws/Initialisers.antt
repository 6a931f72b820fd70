-- Initialisers are read exactly (C11 6.7.9).
use Rattle.std.specs.Prelude.{◌≡◌, ℕ, zero, suc, ◌+◌, ◌<◌, Bool, true, false, not, ◌&&◌, List, [], ◌∷◌, ◌++◌, length, map, Option, Some, None, is_some, refl}
use Rattle.std.proofs.Common.{ap, sym, ◌∙◌, subst, arith, append_assoc, ◌⊎◌, inl, inr}
use Rattle.c_tree.specs.declared.token.Pos.{Pos}
use Rattle.c_tree.specs.declared.token.Punct.{Punct}
use Rattle.c_tree.specs.declared.token.Punct.TheVariants as p
use Rattle.c_tree.specs.declared.token.TokenKind.{TokenKind}
use Rattle.c_tree.specs.declared.token.TokenKind.TheVariants as k
use Rattle.c_tree.specs.declared.token.Token.{Token}
use Rattle.c_tree.specs.declared.expression.Expr.{Expr}
use Rattle.c_tree.specs.declared.declaration.Initialiser.{Initialiser, out-Initialiser, out-roll-Initialiser}
use Rattle.c_tree.specs.declared.declaration.Initialiser.TheVariants as init
use Rattle.c_tree.specs.declared.declaration.Initialiser.TheOpen.{Initialiser-F}
use Rattle.c_tree.specs.declared.declaration.InitialiserItem.{InitialiserItem, out-InitialiserItem, roll-InitialiserItem, roll-out-InitialiserItem}
use Rattle.c_tree.specs.Layers.{InitialiserLayer}
use Rattle.c_tree.specs.Spelling.Tokens.{punct, comma_at, joined}
use Rattle.c_tree.specs.Spelling.Initialisers.{initialiser_spelling, initialiser_item_spelling, initialiser_spelling-Expression, initialiser_spelling-List, initialiser_item_spelling-is}
use Rattle.c_tree.specs.Levels.Names.{Names, in_row}
use Rattle.c_tree.specs.Levels.Productions.{assignment, none, joins}
use Rattle.c_tree.specs.Levels.Facts.{ListedFacts, rest_listed}
use Rattle.c_tree.specs.Levels.Trees.{expr_level}
use Rattle.c_tree.specs.Levels.Initialisers.{initialiser_level, initialiser_item_level, initialiser_level-Expression, initialiser_level-List, initialiser_item_level-is}
use Rattle.c_tree.specs.Nesting.Initialisers.{initialiser_nesting, initialiser_item_nesting, initialiser_nesting-Expression, initialiser_nesting-List, initialiser_item_nesting-is}
use Rattle.c_grammar.specs.Punctuators.{same_mark}
use Rattle.c_grammar.specs.Input.{Tokens, Parser, peek, behind, is_mark, sees, expect, opening, many, too_deep}
use Rattle.c_grammar.specs.Read.Specifiers.{optional_comma}
use Rattle.c_grammar.specs.Read.Depth.{expression}
use Rattle.c_grammar.specs.Ending.Trees.{expr_ending}
use Rattle.c_grammar.specs.Laws.Form.{Form, Exact, Node, Image, only, both, node_exact, same_exact, whole_exact, choose_exact, two, five_pair}
use Rattle.c_grammar.specs.Laws.Lists.{Items, Kept, all_good, chain, chain_exact, last_of, stop_made, added_in_row}
use Rattle.c_grammar.specs.Laws.Single.{mark_form, expect_exact, opening_form, opening_exact, sees_mark}
use Rattle.c_grammar.specs.Laws.Rows.{pre, pre_exact, post, post_exact, deeper, closed, closed_exact}
use Rattle.c_grammar.specs.Laws.Behind.{goes_on, expr_form, both_true, both_are, nat_le-true, nat_le-is, before_mark}
use Rattle.c_grammar.specs.Laws.Starts.{peek_first, begins_by, begins_expression, starts, first_is_not}
use Rattle.c_grammar.specs.Laws.Postfix.{deep_list}
use Rattle.c_grammar.specs.Laws.TypeNames.{unlike}
use Rattle.c_grammar.specs.Laws.Depth.{assignment_read}
use Rattle.c_unit_grammar.specs.Read.Initialisers.{goes_initialiser, assigned, first_initialiser, next_initialiser, in_braces, one_initialiser, inside_initialiser, initialiser}
use Rattle.c_unit_grammar.specs.Laws.Common.{raise, none_deeper, comma_stop, comma_form, optional_exact}
use Rattle.c_unit_grammar.specs.Laws.Shapes.{InitialiserShape, initialiser_shape}

-- ---- the form

abbrev pub layer_stop : InitialiserLayer → Tokens → Type 0
layer_stop (Initialiser-F.Expression value) rest = assignment < goes_on (expr_ending value) (peek rest)
layer_stop (Initialiser-F.List from items comma to) rest = Unit {0}

abbrev pub initialiser_form : Form Initialiser
initialiser_form = record {
  spell = initialiser_spelling;
  good = λ names x. (initialiser_level x names).0 ≡ true;
  adds = λ names x. (initialiser_level x names).1;
  nest = initialiser_nesting;
  stop = λ x names rest. layer_stop (out-Initialiser x) rest;
}

out_expression : (value : Expr) → out-Initialiser (init.Expression value) ≡ Initialiser-F.Expression value
out_expression value = ap out-Initialiser (sym (init.rolls-Expression value)) ∙ out-roll-Initialiser (Initialiser-F.Expression value)

out_list : (from : Pos) (items : List InitialiserItem) (comma : Option Pos) (to : Pos) → out-Initialiser (init.List from items comma to) ≡ Initialiser-F.List from items comma to
out_list from items comma to = ap out-Initialiser (sym (init.rolls-List from items comma to)) ∙ out-roll-Initialiser (Initialiser-F.List from items comma to)

-- a mark that ends an initialiser
pub initialiser_before : (op : Punct) (x : Initialiser) (at : Pos) (rest : Tokens) → assignment < joins op → layer_stop (out-Initialiser x) (punct op at ∷ rest)
initialiser_before op x at rest e = by (out-Initialiser x) where
  by : (l : InitialiserLayer) → layer_stop l (punct op at ∷ rest)
  by (Initialiser-F.Expression value) = before_mark assignment (expr_ending value) op at rest e
  by (Initialiser-F.List from items comma to) = tt

-- ---- an assignment

expression_node : Node (expr_form assignment) init.Expression initialiser_form
expression_node = record {
  good = λ names x g. ap (λ t. t.0) (initialiser_level-Expression x names) ∙ nat_le-is (expr_level x names).0 assignment g;
  parts = λ names x g. nat_le-true (expr_level x names).0 assignment (sym (ap (λ t. t.0) (initialiser_level-Expression x names)) ∙ g);
  nested = λ x. initialiser_nesting-Expression x;
  spelt = λ x. initialiser_spelling-Expression x;
  seen = λ names x. ap (λ t. t.1) (initialiser_level-Expression x names);
  stop = λ names x behind rest g h. subst (λ l. layer_stop l rest) (sym (out_expression x)) h;
  from_stop = λ names x behind rest g h. subst (λ l. layer_stop l rest) (out_expression x) h;
}

assigned_exact : (more : ℕ) (inner : Parser Initialiser) → Exact (only (Image init.Expression) initialiser_form) more (assigned more inner)
unfolding assigned
assigned_exact more inner = node_exact (expr_form assignment) init.Expression initialiser_form more (expression more assignment) (assignment_read more) expression_node

-- ---- the first token of an initialiser

pub record StartsInitialiser (names : Names) (ts : Tokens) : Type 0 where
  pub first : Token
  pub others : Tokens
  pub spelt : ts ≡ first ∷ others
  pub no_brace : is_mark p.RightBrace (Some first.kind) ≡ false

no_brace_mark : (op : Punct) → begins_by op ≡ true → same_mark op p.RightBrace ≡ false
no_brace_mark p.RightBrace h = absurd cc
no_brace_mark _ h = refl

pub no_brace : (names : Names) (kind : TokenKind) → begins_expression names kind ≡ true → is_mark p.RightBrace (Some kind) ≡ false
no_brace names (k.Punct op) h = no_brace_mark op h
no_brace names (k.Keyword key) h = refl
no_brace names (k.Name text) h = refl
no_brace names (k.Number value kind) h = refl
no_brace names (k.Char value) h = refl
no_brace names (k.Bytes bytes) h = refl

shape_starts : {x : Initialiser} → InitialiserShape x → (names : Names) → (initialiser_level x names).0 ≡ true → StartsInitialiser names (initialiser_spelling x)
shape_starts (InitialiserShape.a_expression value) names g =
    let e : (expr_level value names).0 < none = omega (arith, nat_le-true (expr_level value names).0 assignment (sym (ap (λ t. t.0) (initialiser_level-Expression value names)) ∙ g)) in
    let s = starts names value e in
    record { first = s.first; others = s.others; spelt = initialiser_spelling-Expression value ∙ s.spelt; no_brace = no_brace names s.first.kind s.good }
shape_starts (InitialiserShape.a_list from items comma to) names g = record { first = punct p.LeftBrace from; others = _; spelt = initialiser_spelling-List from items comma to; no_brace = refl }

pub initialiser_starts : (x : Initialiser) (names : Names) → (initialiser_level x names).0 ≡ true → StartsInitialiser names (initialiser_spelling x)
initialiser_starts x names g = shape_starts (initialiser_shape x) names g

-- ---- an initialiser in braces

abbrev value_in : InitialiserItem → Initialiser
value_in x = (out-InitialiserItem x).value

abbrev IsNone : Option Pos → Type 0
IsNone c = c ≡ None

abbrev IsComma : Option Pos → Type 0
IsComma c = is_some c ≡ true

abbrev item_form : (Option Pos → Type 0) → Form InitialiserItem
item_form comma = record {
  spell = initialiser_item_spelling;
  good = λ names x. comma (out-InitialiserItem x).comma × ((initialiser_level (value_in x) names).0 ≡ true);
  adds = λ names x. (initialiser_item_level x names).1;
  nest = λ x. initialiser_item_nesting x + 1;
  stop = λ x names rest. layer_stop (out-Initialiser (value_in x)) rest;
}

abbrev first_of : Initialiser → InitialiserItem
first_of x = roll-InitialiserItem (record { comma = None; value = x })

abbrev next_of : Pos × Initialiser → InitialiserItem
next_of t = roll-InitialiserItem (record { comma = Some t.0; value = t.1 })

first_node : Node (deeper initialiser_form) first_of (item_form IsNone)
first_node = record {
  good = λ names x g. (refl, g);
  parts = λ names x g. g.1;
  nested = λ x. ap (λ n. n + 1) (initialiser_item_nesting-is (first_of x));
  spelt = λ x. initialiser_item_spelling-is (first_of x);
  seen = λ names x. ap (λ t. t.1) (initialiser_item_level-is (first_of x) names);
  stop = λ names x behind rest g h. h;
  from_stop = λ names x behind rest g h. h;
}

next_node : Node (pre (mark_form p.Comma) (λ _. deeper initialiser_form)) next_of (item_form IsComma)
next_node = record {
  good = λ names t g. (refl, g.1);
  parts = λ names t g. (tt, g.1);
  nested = λ t. ap (λ n. n + 1) (initialiser_item_nesting-is (next_of t)) ∙ omega arith;
  spelt = λ t. initialiser_item_spelling-is (next_of t);
  seen = λ names t. ap (λ t. t.1) (initialiser_item_level-is (next_of t) names);
  stop = λ names t behind rest g h. h;
  from_stop = λ names t behind rest g h. h;
}

first_is : (x : InitialiserItem) → (out-InitialiserItem x).comma ≡ None → Image first_of x
first_is x e = (value_in x, ap (λ c. roll-InitialiserItem (record { comma = c; value = value_in x })) (sym e) ∙ roll-out-InitialiserItem x)

next_is : (x : InitialiserItem) (c : Option Pos) → (out-InitialiserItem x).comma ≡ c → is_some c ≡ true → Image next_of x
next_is x None e h = absurd cc
next_is x (Some at) e h = ((at, value_in x), ap (λ c. roll-InitialiserItem (record { comma = c; value = value_in x })) (sym e) ∙ roll-out-InitialiserItem x)

module _ (more : ℕ) (inner : Parser Initialiser) (exact : Exact (deeper initialiser_form) more inner) where
  first_exact : Exact (item_form IsNone) more (first_initialiser more inner)
  unfolding first_initialiser
  first_exact = whole_exact (Image first_of) (item_form IsNone) more _ (λ names x g. first_is x g.0) (node_exact (deeper initialiser_form) first_of (item_form IsNone) more inner exact first_node)

  next_exact : Exact (item_form IsComma) more (next_initialiser more inner)
  unfolding next_initialiser
  next_exact =
      whole_exact (Image next_of) (item_form IsComma) more _ (λ names x g. next_is x (out-InitialiserItem x).comma refl g.0)
      (same_exact (only (Image next_of) (item_form IsComma)) more _ _ (two (expect p.Comma) (λ c. inner) (λ c x. roll-InitialiserItem (record { comma = Some c; value = x })))
      (node_exact (pre (mark_form p.Comma) (λ _. deeper initialiser_form)) next_of (item_form IsComma) more _
      (pre_exact (mark_form p.Comma) (λ _. deeper initialiser_form) more (expect p.Comma) (λ c. inner) (λ names a. refl) (expect_exact p.Comma more) (λ _. exact) (λ names a b rest g h s. tt)) next_node))

-- ---- initialisers with commas between

abbrev items : Items (Unit {0}) InitialiserItem
items = record {
  spell = initialiser_item_spelling;
  good = λ s. (item_form IsComma).good;
  adds = λ names x. (initialiser_item_level x names).1;
  nest = λ x. initialiser_item_nesting x + 1;
  stop = λ x names rest. layer_stop (out-Initialiser (value_in x)) rest;
  goes = λ s. goes_initialiser;
  step = λ s x. tt;
}

record Comma (names : Names) (ts : Tokens) : Type 0 where
  at : Pos
  first : Token
  others : Tokens
  spelt : ts ≡ punct p.Comma at ∷ (first ∷ others)
  no_brace : is_mark p.RightBrace (Some first.kind) ≡ false

comma_begins : (x : InitialiserItem) (names : Names) → (item_form IsComma).good names x → Comma names (initialiser_item_spelling x)
comma_begins x names g =
    let i = next_is x (out-InitialiserItem x).comma refl g.0 in
    let s = initialiser_starts (value_in x) names g.1 in
    record { at = i.0.0; first = s.first; others = s.others; no_brace = s.no_brace; spelt = initialiser_item_spelling-is x ∙ (by (out-InitialiserItem x).comma i.0.0 (sym (ap (λ y. (out-InitialiserItem y).comma) (sym i.1))) s.spelt) }
  where
    by : (c : Option Pos) (at : Pos) → Some at ≡ c → {a b : Tokens} → a ≡ b → comma_at c ++ a ≡ punct p.Comma at ∷ b
    by c at e {a} {b} f = ap (λ c. comma_at c ++ a) (sym e) ∙ ap (λ l. punct p.Comma at ∷ l) f

behind_first : (t : Token) (ts : Tokens) → behind (t ∷ ts) ≡ ts
unfolding behind
behind_first t ts = refl

comma_goes : (names : Names) (at : Pos) (first : Token) (others : Tokens) (b : Bool) → is_mark p.RightBrace (Some first.kind) ≡ b → goes_initialiser (names, punct p.Comma at ∷ (first ∷ others)) ≡ not b
comma_goes names at first others b e =
    ap (λ c. c && not (is_mark p.RightBrace (peek (behind (punct p.Comma at ∷ (first ∷ others)))))) (sees_mark p.Comma names at (first ∷ others))
    ∙ ap (λ l. not (is_mark p.RightBrace (peek l))) (behind_first (punct p.Comma at) (first ∷ others))
    ∙ ap (λ o. not (is_mark p.RightBrace o)) (peek_first first others) ∙ ap not e

no_item : (names : Names) → goes_initialiser (names, []) ≡ false
unfolding peek
no_item names = refl

item_then : (x y : InitialiserItem) (names : Names) (rest : Tokens) → (item_form IsComma).good names y → layer_stop (out-Initialiser (value_in x)) (initialiser_item_spelling y ++ rest)
item_then x y names rest g =
    let w = comma_begins y names g in
    subst (λ l. layer_stop (out-Initialiser (value_in x)) (l ++ rest)) (sym w.spelt) (initialiser_before p.Comma (value_in x) w.at (w.first ∷ (w.others ++ rest)) (omega arith))

items_kept : (more : ℕ) (inner : Parser Initialiser) → Exact (deeper initialiser_form) more inner → Kept items more (λ s. next_initialiser more inner)
items_kept more inner exact = record {
  sound = λ s names ts x end go h. (next_exact more inner exact).sound names ts x end h;
  complete = λ s names x rest g n st. (next_exact more inner exact).complete names x rest g n st;
  starts = λ s names x rest g st. let w = comma_begins x names g in ap (λ l. goes_initialiser (names, l ++ rest)) w.spelt ∙ comma_goes names w.at w.first (w.others ++ rest) false w.no_brace;
  ends = λ s names. no_item names;
  follows = λ s names x y rest g h st. item_then x y _ rest h;
  some = λ s names x g. let w = comma_begins x names g in subst (λ l. 0 < length l) (sym w.spelt) (omega arith);
}

-- ---- braces

abbrev listing : Form ((Pos × InitialiserItem) × List InitialiserItem)
listing = chain (pre (opening_form p.LeftBrace) (λ _. item_form IsNone)) items (λ t. tt)

abbrev braced : Form (((Pos × InitialiserItem) × List InitialiserItem) × (Option Pos × Pos))
braced = post listing (λ _. closed comma_form p.RightBrace)

abbrev list_of : ((Pos × InitialiserItem) × List InitialiserItem) × (Option Pos × Pos) → Initialiser
list_of t = init.List t.0.0.0 (t.0.0.1 ∷ t.0.1) t.1.0 t.1.1

-- a mark behind a list, where no initialiser follows
listing_before : (a : Pos × InitialiserItem) (xs : List InitialiserItem) (names : Names) (op : Punct) (at : Pos) (rest : Tokens) → assignment < joins op → goes_initialiser (names, punct op at ∷ rest) ≡ false → listing.stop (a, xs) names (punct op at ∷ rest)
listing_before a [] names op at rest e h = (initialiser_before op (value_in a.1) at rest e, h)
listing_before a (x ∷ xs) names op at rest e h = stop_made items tt x xs names (punct op at ∷ rest) (initialiser_before op (value_in (last_of items x xs)) at rest e) h

listing_closes : (t : (Pos × InitialiserItem) × List InitialiserItem) (c : Option Pos) (to : Pos) (names : Names) (rest : Tokens) → listing.stop t names ((comma_at c ++ punct p.RightBrace to ∷ []) ++ rest)
listing_closes t None to names rest =
    listing_before t.0 t.1 names p.RightBrace to rest (omega arith) (ap (λ b. b && not (is_mark p.RightBrace (peek (behind (punct p.RightBrace to ∷ rest))))) (unlike p.RightBrace p.Comma to rest refl))
listing_closes t (Some at) to names rest =
    listing_before t.0 t.1 names p.Comma at (punct p.RightBrace to ∷ rest) (omega arith) (comma_goes names at (punct p.RightBrace to) rest true refl)

comma_closes : (c : Option Pos) (names : Names) (at : Pos) (rest : Tokens) → comma_stop c names (punct p.RightBrace at ∷ rest)
comma_closes None names at rest = unlike p.RightBrace p.Comma at rest refl
comma_closes (Some c) names at rest = tt

braced_exact : (more : ℕ) (inner : Parser Initialiser) → Exact (deeper initialiser_form) more inner
    → Exact braced more (both (both (both (opening more p.LeftBrace) (λ from. first_initialiser more inner)) (λ t. many goes_initialiser (next_initialiser more inner))) (λ t. both optional_comma (λ c. expect p.RightBrace)))
braced_exact more inner exact =
    post_exact listing (λ _. closed comma_form p.RightBrace) more _ (λ t. both optional_comma (λ c. expect p.RightBrace)) (λ t names c. refl)
    (chain_exact (pre (opening_form p.LeftBrace) (λ _. item_form IsNone)) items (λ t. tt) more _ (λ s. next_initialiser more inner)
    (pre_exact (opening_form p.LeftBrace) (λ _. item_form IsNone) more (opening more p.LeftBrace) (λ from. first_initialiser more inner) (λ names a. refl) (opening_exact p.LeftBrace more) (λ _. first_exact more inner exact) (λ names a b rest g h s. tt))
    (items_kept more inner exact)
    (λ names a y rest g h st. item_then a.1 y _ rest h))
    (λ t. closed_exact comma_form p.RightBrace more optional_comma (optional_exact more) (λ names c at rest g. comma_closes c _ at rest))
    (λ names t c rest g h s. listing_closes t c.0 c.1 _ rest)

-- ---- what the levels, the spelling and the nesting tell

item_told : (names : Names) (x : InitialiserItem) → (initialiser_item_level x names).0 ≡ record { comma = is_some (out-InitialiserItem x).comma; good = (initialiser_level (value_in x) names).0 }
item_told names x = ap (λ t. t.0) (initialiser_item_level-is x names)

rest_told : (names : Names) (xs : List InitialiserItem) → all_good items tt names xs → rest_listed (in_row (map initialiser_item_level xs) names).0 ≡ true
rest_told names [] g = refl
rest_told names (x ∷ xs) g =
    both_are _ _ (ap (λ (f : ListedFacts). f.comma) (item_told names x) ∙ g.0.0) (both_are _ _ (ap (λ (f : ListedFacts). f.good) (item_told names x) ∙ g.0.1) (rest_told (names ++ (initialiser_item_level x names).1) xs g.1))

rest_are : (names : Names) (xs : List InitialiserItem) → rest_listed (in_row (map initialiser_item_level xs) names).0 ≡ true → all_good items tt names xs
rest_are names [] h = tt
rest_are names (x ∷ xs) h =
    let b = both_true (initialiser_item_level x names).0.comma _ h in
    let c = both_true (initialiser_item_level x names).0.good _ b.1 in
    ((sym (ap (λ (f : ListedFacts). f.comma) (item_told names x)) ∙ b.0, sym (ap (λ (f : ListedFacts). f.good) (item_told names x)) ∙ c.0), rest_are (names ++ (initialiser_item_level x names).1) xs c.1)

no_first_comma : (c : Option Pos) → not (is_some c) ≡ true → c ≡ None
no_first_comma None h = refl
no_first_comma (Some at) h = absurd cc

list_good : (names : Names) (t : ((Pos × InitialiserItem) × List InitialiserItem) × (Option Pos × Pos)) → braced.good names t → (initialiser_level (list_of t) names).0 ≡ true
list_good names t g =
    let x : InitialiserItem = t.0.0.1 in
    ap (λ t. t.0) (initialiser_level-List t.0.0.0 (x ∷ t.0.1) t.1.0 t.1.1 names)
    ∙ both_are _ _ (ap (λ (f : ListedFacts). not f.comma) (item_told names x) ∙ ap (λ c. not (is_some c)) g.0.0.1.0)
    (both_are _ _ (ap (λ (f : ListedFacts). f.good) (item_told names x) ∙ g.0.0.1.1) (rest_told (names ++ (initialiser_item_level x names).1) t.0.1 g.0.1))

good_list : (names : Names) (t : ((Pos × InitialiserItem) × List InitialiserItem) × (Option Pos × Pos)) → (initialiser_level (list_of t) names).0 ≡ true → braced.good names t
good_list names t h =
    let x : InitialiserItem = t.0.0.1 in
    let a = both_true (not (initialiser_item_level x names).0.comma) _ (sym (ap (λ t. t.0) (initialiser_level-List t.0.0.0 (x ∷ t.0.1) t.1.0 t.1.1 names)) ∙ h) in
    let b = both_true (initialiser_item_level x names).0.good _ a.1 in (
      (
        (tt, (no_first_comma (out-InitialiserItem x).comma (sym (ap (λ (f : ListedFacts). not f.comma) (item_told names x)) ∙ a.0), sym (ap (λ (f : ListedFacts). f.good) (item_told names x)) ∙ b.0)),
        rest_are (names ++ (initialiser_item_level x names).1) t.0.1 b.1,
      ),
      (tt, tt),
    )

list_seen : (names : Names) (t : ((Pos × InitialiserItem) × List InitialiserItem) × (Option Pos × Pos)) → (initialiser_level (list_of t) names).1 ≡ braced.adds names t
list_seen names t =
    ap (λ t. t.1) (initialiser_level-List t.0.0.0 (t.0.0.1 ∷ t.0.1) t.1.0 t.1.1 names)
    ∙ ap (λ l. (initialiser_item_level t.0.0.1 names).1 ++ l) (sym (added_in_row items initialiser_item_level (λ names x. refl) (names ++ (initialiser_item_level t.0.0.1 names).1) t.0.1))

list_nested : (t : ((Pos × InitialiserItem) × List InitialiserItem) × (Option Pos × Pos)) → initialiser_nesting (list_of t) ≡ braced.nest t
list_nested t =
    initialiser_nesting-List t.0.0.0 (t.0.0.1 ∷ t.0.1) t.1.0 t.1.1 ∙ (let e = deep_list initialiser_item_nesting (initialiser_item_nesting t.0.0.1) t.0.1 in omega arith)

list_spelt : (t : ((Pos × InitialiserItem) × List InitialiserItem) × (Option Pos × Pos)) → initialiser_spelling (list_of t) ≡ braced.spell t
list_spelt t =
    let a : Tokens = initialiser_item_spelling t.0.0.1 in
    let b : Tokens = joined (map initialiser_item_spelling t.0.1) in
    let c : Tokens = comma_at t.1.0 in
    let e : Tokens = punct p.RightBrace t.1.1 ∷ [] in
    initialiser_spelling-List t.0.0.0 (t.0.0.1 ∷ t.0.1) t.1.0 t.1.1
    ∙ ap (λ l. punct p.LeftBrace t.0.0.0 ∷ l) (append_assoc (a ++ b) c e)

list_node : Node braced list_of initialiser_form
list_node = record {
  good = list_good;
  parts = good_list;
  nested = list_nested;
  spelt = list_spelt;
  seen = list_seen;
  stop = λ names t behind rest g h. subst (λ l. layer_stop l rest) (sym (out_list t.0.0.0 (t.0.0.1 ∷ t.0.1) t.1.0 t.1.1)) tt;
  from_stop = λ names t behind rest g h. tt;
}

in_braces_exact : (more : ℕ) (inner : Parser Initialiser) → Exact (deeper initialiser_form) more inner → Exact (only (Image list_of) initialiser_form) more (in_braces more inner)
unfolding in_braces
in_braces_exact more inner exact =
    same_exact (only (Image list_of) initialiser_form) more _ _
    (five_pair (opening more p.LeftBrace) (λ from. first_initialiser more inner) (λ from first. many goes_initialiser (next_initialiser more inner)) optional_comma (expect p.RightBrace) (λ from first rest last to. init.List from (first ∷ rest) last to))
    (node_exact braced list_of initialiser_form more _ (braced_exact more inner exact) list_node)

-- ---- initialisers

list_image : (from : Pos) (xs : List InitialiserItem) (comma : Option Pos) (to : Pos) (names : Names) → (initialiser_level (init.List from xs comma to) names).0 ≡ true → Image list_of (init.List from xs comma to)
list_image from [] comma to names g = absurd (let z : false ≡ true = sym (ap (λ t. t.0) (initialiser_level-List from [] comma to names)) ∙ g in cc)
list_image from (x ∷ xs) comma to names g = ((((from, x), xs), (comma, to)), refl)

side : {x : Initialiser} → InitialiserShape x → (names : Names) → (initialiser_level x names).0 ≡ true → Image list_of x ⊎ Image init.Expression x
side (InitialiserShape.a_expression value) names g = inr (value, refl)
side (InitialiserShape.a_list from items comma to) names g = inl (list_image from items comma to names g)

brace_seen : (names : Names) (x : Initialiser) (rest : Tokens) → Image list_of x → sees p.LeftBrace (names, initialiser_spelling x ++ rest) ≡ true
brace_seen names x rest i =
    subst (λ x. sees p.LeftBrace (names, initialiser_spelling x ++ rest) ≡ true) i.1
    (ap (λ l. sees p.LeftBrace (names, l ++ rest)) (list_spelt i.0) ∙ sees_mark p.LeftBrace names i.0.0.0.0 _)

no_open_mark : (op : Punct) → begins_by op ≡ true → same_mark op p.LeftBrace ≡ false
no_open_mark p.LeftBrace h = absurd cc
no_open_mark _ h = refl

pub no_open : (names : Names) (kind : TokenKind) → begins_expression names kind ≡ true → is_mark p.LeftBrace (Some kind) ≡ false
no_open names (k.Punct op) h = no_open_mark op h
no_open names (k.Keyword key) h = refl
no_open names (k.Name text) h = refl
no_open names (k.Number value kind) h = refl
no_open names (k.Char value) h = refl
no_open names (k.Bytes bytes) h = refl

no_brace_seen : (names : Names) (x : Initialiser) (rest : Tokens) → Image init.Expression x → (initialiser_level x names).0 ≡ true → sees p.LeftBrace (names, initialiser_spelling x ++ rest) ≡ false
no_brace_seen names x rest i =
    subst (λ x. (initialiser_level x names).0 ≡ true → sees p.LeftBrace (names, initialiser_spelling x ++ rest) ≡ false) i.1
    (λ g.
    ap (λ l. sees p.LeftBrace (names, l ++ rest)) (initialiser_spelling-Expression i.0)
    ∙ first_is_not names (is_mark p.LeftBrace) (no_open names) i.0 rest (omega (arith, nat_le-true (expr_level i.0 names).0 assignment (sym (ap (λ t. t.0) (initialiser_level-Expression i.0 names)) ∙ g))))

one_exact : (more : ℕ) (inner : Parser Initialiser) → Exact (deeper initialiser_form) more inner → Exact initialiser_form more (one_initialiser more inner)
unfolding one_initialiser
one_exact more inner exact =
    whole_exact (λ x. Image list_of x ⊎ Image init.Expression x) initialiser_form more _ (λ names x g. side (initialiser_shape x) names g)
    (choose_exact (Image list_of) (Image init.Expression) initialiser_form more (sees p.LeftBrace) (in_braces more inner) (assigned more inner) (in_braces_exact more inner exact) (assigned_exact more inner)
    (λ names x rest i g s. brace_seen names x rest i) (λ names x rest i g s. no_brace_seen names x rest i g))

pub inside_initialiser_exact : (more : ℕ) → Exact (deeper initialiser_form) more (inside_initialiser more)
unfolding inside_initialiser
inside_initialiser_exact zero = none_deeper initialiser_form too_deep (λ i y h. cc)
inside_initialiser_exact (suc more) = raise initialiser_form more _ (one_exact more (inside_initialiser more) (inside_initialiser_exact more))

pub initialiser_exact : (more : ℕ) → Exact initialiser_form more (initialiser more)
unfolding initialiser inside_initialiser
initialiser_exact more = one_exact more (inside_initialiser more) (inside_initialiser_exact more)
