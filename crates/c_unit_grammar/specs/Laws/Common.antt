-- What several productions share: keywords, a choice by the kind of the next token, scopes, one bracket more, and a comma or
-- a value where one stands.
use Rattle.std.specs.Prelude.{◌≡◌, ℕ, zero, suc, ◌<◌, Bool, true, false, [], ◌∷◌, ◌++◌, Option, Some, None, Ok, refl}
use Rattle.std.proofs.Common.{ap, sym, ◌∙◌, subst, cond, arith, append_assoc, append-nil, ◌⊎◌, inl, inr}
use Rattle.c_tree.specs.declared.token.Pos.{Pos}
use Rattle.c_tree.specs.declared.token.Punct.{Punct}
use Rattle.c_tree.specs.declared.token.Punct.TheVariants as p
use Rattle.c_tree.specs.declared.token.Keyword.{Keyword}
use Rattle.c_tree.specs.declared.token.TokenKind.{TokenKind}
use Rattle.c_tree.specs.declared.token.TokenKind.TheVariants as k
use Rattle.c_tree.specs.declared.expression.Expr.{Expr}
use Rattle.c_tree.specs.Spelling.Tokens.{token, punct, keyword, comma_at}
use Rattle.c_tree.specs.Spelling.Trees.{expr_spelling}
use Rattle.c_tree.specs.Spelling.OfStatements.{value_spelling}
use Rattle.c_tree.specs.Levels.Names.{Names}
use Rattle.c_tree.specs.Levels.Productions.{comma, joins}
use Rattle.c_tree.specs.Levels.OfStatements.{value_level}
use Rattle.c_tree.specs.Levels.Trees.{expr_level}
use Rattle.c_tree.specs.Nesting.Trees.{expr_nesting}
use Rattle.c_grammar.specs.Punctuators.{same_mark, same_mark-true}
use Rattle.c_grammar.specs.Input.{Tokens, State, Outcome, Parser, and_then, pure, too_deep, peek, is_mark, sees, expect, enclosed}
use Rattle.c_grammar.specs.Read.Specifiers.{optional_comma}
use Rattle.c_grammar.specs.Ending.Trees.{expr_ending}
use Rattle.c_grammar.specs.Laws.Form.{Form, Got, Exact, Guarded, Node, Image, only, bind_ok, ok_pair, subst2, both, node_exact, same_exact, whole_exact, two, choose_same, choose_map, either, either_exact, either_guarded, quieted, without, without_guarded}
use Rattle.c_grammar.specs.Laws.Single.{single, always, Picks, one_exact, mark_form, expect_exact, sees_mark}
use Rattle.c_grammar.specs.Laws.Rows.{deeper, closed, closed_exact}
use Rattle.c_grammar.specs.Laws.Behind.{expr_form, nat_le-true, nat_le-is, before_mark}
use Rattle.c_grammar.specs.Laws.Starts.{peek_first, begins_by, begins_expression, first_is_not}
use Rattle.c_unit_grammar.specs.Keywords.{same_word, same_word-true, same_word-itself}
use Rattle.c_unit_grammar.specs.Read.Words.{is_word, sees_word, keyword_at, expect_word, dispatch}
use Rattle.c_unit_grammar.specs.Read.Statements.{no_value, some_value, value_until}

-- ---- a keyword

abbrev pub word_form : Keyword → Form Pos
word_form key = single (keyword key) always

word_by : (key other : Keyword) (place a : Pos) (b : Bool) → same_word other key ≡ b → cond b (Some place) None ≡ Some a → (keyword key a ≡ token (k.Keyword other) place) × Unit {0}
word_by key other place a true e h =
    let o : other ≡ key = same_word-true other key e in
    let p : place ≡ a = cc in
    (ap (λ (q : Pos). keyword key q) (sym p) ∙ ap (λ (q : Keyword). keyword q place) (sym o), tt)
word_by key other place a false e h = absurd cc

word_picks : (key : Keyword) → Picks (keyword key) always (keyword_at key)
word_picks key names (k.Keyword other) place a h = word_by key other place a (same_word other key) refl h
word_picks key names (k.Punct op) place a h = absurd cc
word_picks key names (k.Name text) place a h = absurd cc
word_picks key names (k.Number value kind) place a h = absurd cc
word_picks key names (k.Char value) place a h = absurd cc
word_picks key names (k.Bytes bytes) place a h = absurd cc

pub expect_word_exact : (key : Keyword) (more : ℕ) → Exact (word_form key) more (expect_word key)
expect_word_exact key more = one_exact (keyword key) always (keyword_at key) (word_picks key) (λ names a g. ap (λ b. cond b (Some a) None) (same_word-itself key)) more

pub peek_word : (key : Keyword) (at : Pos) (rest : Tokens) → peek (keyword key at ∷ rest) ≡ Some (k.Keyword key)
peek_word key at rest = peek_first (keyword key at) rest

pub sees_keyword : (key : Keyword) (names : Names) (at : Pos) (rest : Tokens) → sees_word key (names, keyword key at ∷ rest) ≡ true
sees_keyword key names at rest = ap (is_word key) (peek_word key at rest) ∙ same_word-itself key

-- ---- one of several parsers, as the next token is

module _ {A K : Type 0} (H : Form A) (kind : State → K) (of : A → K) (more : ℕ) (reads : K → Parser A)
    (each : (key : K) → Guarded (λ i. kind i ≡ key) (only (λ x. of x ≡ key) H) more (reads key))
    (seen : (names : Names) (x : A) (rest : Tokens) → H.good names x → H.stop x (names ++ H.adds names x) rest → kind (names, H.spell x ++ rest) ≡ of x) where
  pub dispatch_exact : Exact H more (dispatch kind reads)
  dispatch_exact = record {
    sound = λ names ts x s h. let g = (each (kind (names, ts))).sound names ts x s refl h in record { good = g.good.1; nested = g.nested; spelt = g.spelt; seen = g.seen; stops = g.stops };
    complete = λ names x rest g n s. ap (λ key. reads key (names, H.spell x ++ rest)) (seen names x rest g s) ∙ (each (of x)).complete names x rest (refl, g) n s;
  }

-- what is read exactly is so where something is known
pub known_exact : {A : Type 0} (known : State → Type 0) (F : Form A) (more : ℕ) (p : Parser A) → Exact F more p → Guarded known F more p
known_exact known F more p exact = record { sound = λ names ts x s k h. exact.sound names ts x s h; complete = exact.complete }

-- ---- a scope

pub enclosed_exact : {A : Type 0} (F : Form A) (more : ℕ) (p : Parser A) → Exact F more p
    → ((names : Names) (a : A) (rest : Tokens) → F.good names a → F.stop a (names ++ F.adds names a) rest → F.stop a names rest)
    → ((names : Names) (a : A) (rest : Tokens) → F.good names a → F.stop a names rest → F.stop a (names ++ F.adds names a) rest)
    → Exact (quieted F) more (enclosed p)
enclosed_exact {A} F more p exact to from = record {
  sound = λ names ts x s h.
      let b = bind_ok (p (names, ts)) _ _ h in
      let a : A = b.0.0 in
      let mid : State = b.0.1 in
      let g = exact.sound names ts a mid b.1 in
      let w = ok_pair {A = A} a x (names, mid.1) s b.2 in
      subst2 (λ (x : A) (s : State). Got (quieted F) more names ts x s) w.0 w.1 (record {
        good = g.good;
        nested = g.nested;
        spelt = g.spelt;
        seen = sym (append-nil names);
        stops = to names a mid.1 g.good (subst (λ n. F.stop a n mid.1) g.seen g.stops);
      });
  complete = λ names x rest g n s.
      let end : Names → Outcome A = λ m. Ok (x, (m, rest)) in
      ap (λ o. and_then o (λ a j. Ok (a, (names, j.1)))) (exact.complete names x rest g n (from names x rest g (subst (λ m. F.stop x m rest) (append-nil names) s))) ∙ ap end (sym (append-nil names));
}

-- ---- one bracket more

-- what stands in brackets
abbrev pub under : {A : Type 0} → (ℕ → Parser A) → ℕ → Parser A
under reads zero = too_deep
under reads (suc more) = reads more

pub raise : {A : Type 0} (F : Form A) (more : ℕ) (p : Parser A) → Exact F more p → Exact (deeper F) (suc more) p
raise F more p exact = record {
  sound = λ names ts x s h. let g = exact.sound names ts x s h in let n = g.nested in record { good = g.good; nested = omega arith; spelt = g.spelt; seen = g.seen; stops = g.stops };
  complete = λ names x rest g n s. exact.complete names x rest g (omega arith) s;
}

pub none_deeper : {A : Type 0} (F : Form A) (p : Parser A) → ((i : State) (y : A × State) → p i ≡ Ok y → ⊥) → Exact (deeper F) 0 p
none_deeper F p never = record { sound = λ names ts x s h. absurd (never (names, ts) (x, s) h); complete = λ names x rest g n s. absurd (omega arith) }

-- ---- a comma, where one stands

abbrev pub comma_stop : Option Pos → Names → Tokens → Type 0
comma_stop None names rest = sees p.Comma (names, rest) ≡ false
comma_stop (Some at) names rest = Unit {0}

abbrev pub comma_form : Form (Option Pos)
comma_form = record { spell = comma_at; good = λ names c. Unit {0}; adds = λ names c. []; nest = λ c. 0; stop = comma_stop }

abbrev comma_by_side : Pos ⊎ Unit {0} → Option Pos
comma_by_side (inl at) = Some at
comma_by_side (inr u) = None

abbrev comma_sides : Form (Pos ⊎ Unit {0})
comma_sides = either (mark_form p.Comma) (without (sees p.Comma))

side_good : (names : Names) (t : Pos ⊎ Unit {0}) → comma_sides.good names t
side_good names (inl at) = tt
side_good names (inr u) = tt

side_nested : (t : Pos ⊎ Unit {0}) → 0 ≡ comma_sides.nest t
side_nested (inl at) = refl
side_nested (inr u) = refl

side_spelt : (t : Pos ⊎ Unit {0}) → comma_at (comma_by_side t) ≡ comma_sides.spell t
side_spelt (inl at) = refl
side_spelt (inr u) = refl

side_seen : (names : Names) (t : Pos ⊎ Unit {0}) → [] ≡ comma_sides.adds names t
side_seen names (inl at) = refl
side_seen names (inr u) = refl

side_stop : (t : Pos ⊎ Unit {0}) (behind : Names) (rest : Tokens) → comma_sides.stop t behind rest → comma_stop (comma_by_side t) behind rest
side_stop (inl at) behind rest h = tt
side_stop (inr u) behind rest h = h

stop_side : (t : Pos ⊎ Unit {0}) (behind : Names) (rest : Tokens) → comma_stop (comma_by_side t) behind rest → comma_sides.stop t behind rest
stop_side (inl at) behind rest h = tt
stop_side (inr u) behind rest h = h

comma_node : Node comma_sides comma_by_side comma_form
comma_node = record { good = λ names t g. tt; parts = λ names t g. side_good names t; nested = side_nested; spelt = side_spelt; seen = side_seen; stop = λ names t behind rest g h. side_stop t behind rest h; from_stop = λ names t behind rest g h. stop_side t behind rest h }

comma_is : (c : Option Pos) → Image comma_by_side c
comma_is None = (inr tt, refl)
comma_is (Some at) = (inl at, refl)

pub optional_exact : (more : ℕ) → Exact comma_form more optional_comma
optional_exact more =
    whole_exact (Image comma_by_side) comma_form more _ (λ names c g. comma_is c)
    (same_exact (only (Image comma_by_side) comma_form) more _ optional_comma (choose_map (sees p.Comma) (expect p.Comma) (pure tt) comma_by_side)
    (node_exact comma_sides comma_by_side comma_form more _
    (either_guarded (mark_form p.Comma) (without (sees p.Comma)) more (sees p.Comma) (expect p.Comma) (pure tt) (expect_exact p.Comma more) (without_guarded (sees p.Comma) more)
    (λ names at rest g s. sees_mark p.Comma names at rest)
    (λ names u rest g s. subst (λ n. sees p.Comma (n, rest) ≡ false) (append-nil names) s)) comma_node))

-- ---- an expression or nothing, and the mark behind it

-- expressions, nested as `lift` tells
abbrev pub lifted : (ℕ → ℕ) → Form Expr
lifted lift = record { spell = expr_spelling; good = (expr_form comma).good; adds = (expr_form comma).adds; nest = λ x. lift (expr_nesting x); stop = (expr_form comma).stop }

abbrev pub lift_value : (ℕ → ℕ) → Option Expr → ℕ
lift_value lift None = 0
lift_value lift (Some x) = lift (expr_nesting x)

abbrev pub value_form : (ℕ → ℕ) → Punct → Form (Option Expr × Pos)
value_form lift op = record {
  spell = λ v. value_spelling v.0 ++ punct op v.1 ∷ [];
  good = λ names v. (value_level v.0 names).0 ≡ true;
  adds = λ names v. (value_level v.0 names).1;
  nest = λ v. lift_value lift v.0;
  stop = λ v names rest. Unit {0};
}

abbrev value_sides : (ℕ → ℕ) → Punct → Form (Pos ⊎ (Expr × Pos))
value_sides lift op = either (mark_form op) (closed (lifted lift) op)

abbrev value_by_side : Pos ⊎ (Expr × Pos) → Option Expr × Pos
value_by_side (inl at) = (None, at)
value_by_side (inr t) = (Some t.0, t.1)

-- what ends a value
pub record Ends (op : Punct) : Type 0 where
  pub loose : comma < joins op
  pub begins : begins_by op ≡ false

pub semicolon_ends : Ends p.Semicolon
semicolon_ends = record { loose = omega arith; begins = refl }

pub paren_ends : Ends p.RightParen
paren_ends = record { loose = omega arith; begins = refl }

module _ (lift : ℕ → ℕ) (op : Punct) where
  value_good : (names : Names) (t : Pos ⊎ (Expr × Pos)) → (value_sides lift op).good names t → (value_form lift op).good names (value_by_side t)
  value_good names (inl at) g = refl
  value_good names (inr t) g = nat_le-is (expr_level t.0 names).0 comma g.0

  good_value : (names : Names) (t : Pos ⊎ (Expr × Pos)) → (value_form lift op).good names (value_by_side t) → (value_sides lift op).good names t
  good_value names (inl at) g = tt
  good_value names (inr t) g = (nat_le-true (expr_level t.0 names).0 comma g, tt)

  value_nested : (t : Pos ⊎ (Expr × Pos)) → (value_form lift op).nest (value_by_side t) ≡ (value_sides lift op).nest t
  value_nested (inl at) = refl
  value_nested (inr t) = omega arith

  value_spelt : (t : Pos ⊎ (Expr × Pos)) → (value_form lift op).spell (value_by_side t) ≡ (value_sides lift op).spell t
  value_spelt (inl at) = refl
  value_spelt (inr t) = refl

  value_seen : (names : Names) (t : Pos ⊎ (Expr × Pos)) → (value_form lift op).adds names (value_by_side t) ≡ (value_sides lift op).adds names t
  value_seen names (inl at) = refl
  value_seen names (inr t) = refl

  stop_value : (t : Pos ⊎ (Expr × Pos)) (behind : Names) (rest : Tokens) → (value_sides lift op).stop t behind rest
  stop_value (inl at) behind rest = tt
  stop_value (inr t) behind rest = tt

  value_node : Node (value_sides lift op) value_by_side (value_form lift op)
  value_node = record { good = value_good; parts = good_value; nested = value_nested; spelt = value_spelt; seen = value_seen; stop = λ names t behind rest g h. tt; from_stop = λ names t behind rest g h. stop_value t behind rest }

  value_is : (v : Option Expr) (at : Pos) → Image value_by_side (v, at)
  value_is None at = (inl at, refl)
  value_is (Some x) at = (inr (x, at), refl)

  no_mark : Ends op → (names : Names) (kind : TokenKind) → begins_expression names kind ≡ true → is_mark op (Some kind) ≡ false
  no_mark e names (k.Punct other) h = by (same_mark other op) refl where
    by : (b : Bool) → same_mark other op ≡ b → b ≡ false
    by false e = refl
    by true q = absurd (let same : other ≡ op = same_mark-true other op q in let z : true ≡ false = sym h ∙ ap begins_by same ∙ e.begins in cc)
  no_mark e names (k.Keyword key) h = refl
  no_mark e names (k.Name text) h = refl
  no_mark e names (k.Number value kind) h = refl
  no_mark e names (k.Char value) h = refl
  no_mark e names (k.Bytes bytes) h = refl

  pub value_exact : Ends op → (more : ℕ) (reads : Parser Expr) → Exact (lifted lift) more reads → Exact (value_form lift op) more (value_until op reads)
  unfolding value_until
  value_exact e more reads exact =
      whole_exact (Image value_by_side) (value_form lift op) more _ (λ names v g. value_is v.0 v.1)
      (same_exact (only (Image value_by_side) (value_form lift op)) more _ (value_until op reads)
      (λ i. choose_same (sees op) (no_value op) (some_value op reads) _ _ (λ j. refl) (λ j. two reads (λ x. expect op) (λ x at. (Some x, at)) j) i
      ∙ choose_map (sees op) (expect op) (both reads (λ x. expect op)) value_by_side i)
      (node_exact (value_sides lift op) value_by_side (value_form lift op) more _
      (either_exact (mark_form op) (closed (lifted lift) op) more (sees op) (expect op) (both reads (λ x. expect op)) (expect_exact op more)
      (closed_exact (lifted lift) op more reads exact (λ names x at rest g. before_mark comma (expr_ending x) op at rest e.loose))
      (λ names at rest g s. sees_mark op names at rest)
      (λ names t rest g s. ap (λ l. sees op (names, l)) (append_assoc (expr_spelling t.0) (punct op t.1 ∷ []) rest) ∙ first_is_not names (is_mark op) (no_mark e names) t.0 (punct op t.1 ∷ rest) (omega (arith, g.0)))) value_node))
