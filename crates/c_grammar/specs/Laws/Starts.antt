-- The first token of an expression.
use Rattle.std.specs.Prelude.{◌≡◌, ℕ, zero, suc, ◌≤◌, ◌<◌, Bool, true, false, not, ◌&&◌, ◌||◌, nat_le, List, [], ◌∷◌, ◌++◌, map, Option, Some, refl}
use Rattle.std.proofs.Common.{ap, ◌∙◌, subst, arith, append_assoc}
use Rattle.c_tree.specs.declared.token.Pos.{Pos}
use Rattle.c_tree.specs.declared.token.Punct.{Punct}
use Rattle.c_tree.specs.declared.token.Punct.TheVariants as p
use Rattle.c_tree.specs.declared.token.Keyword.{Keyword}
use Rattle.c_tree.specs.declared.token.Keyword.TheVariants as word
use Rattle.c_tree.specs.declared.token.TokenKind.{TokenKind}
use Rattle.c_tree.specs.declared.token.TokenKind.TheVariants as k
use Rattle.c_tree.specs.declared.token.Token.{Token}
use Rattle.c_tree.specs.declared.expression.Literal.{Literal}
use Rattle.c_tree.specs.declared.expression.Expr.{Expr}
use Rattle.c_tree.specs.declared.expression.Expr.TheVariants as expr
use Rattle.c_tree.specs.declared.expression.Prefix.{Prefix}
use Rattle.c_tree.specs.Spelling.Tokens.{token, punct, mark, joined}
use Rattle.c_tree.specs.Spelling.Trees.{expr_spelling, prefix_spelling, expr_spelling-Name, expr_spelling-Number, expr_spelling-Char, expr_spelling-Strings, expr_spelling-Paren, expr_spelling-Postfix, expr_spelling-SizeofType, expr_spelling-Prefixed, expr_spelling-Binary, expr_spelling-Conditional, expr_spelling-Assign, expr_spelling-Comma, prefix_spelling-Operator, prefix_spelling-Sizeof, prefix_spelling-Cast}
use Rattle.c_tree.specs.Levels.Names.{Names, is_typedef_name, in_row}
use Rattle.c_tree.specs.Levels.Productions.{primary, postfix, prefixed, unary, or, conditional, assignment, comma, none, of_level, below}
use Rattle.c_tree.specs.Levels.Facts.{filled, PrefixKind, kind_of_mark, runs_on, Operand, targets}
use Rattle.c_tree.specs.Levels.Trees.{expr_level, prefix_level, next_level}
use Rattle.c_grammar.specs.Laws.Told.{expr_level-Name, expr_level-Strings, expr_level-Postfix, expr_level-Prefixed, expr_level-Binary, expr_level-Conditional, expr_level-Assign, expr_level-Comma, prefix_level-Operator}
use Rattle.c_grammar.specs.Input.{Tokens, peek, is_mark, sees}
use Rattle.c_grammar.specs.Punctuators.{same_mark}
use Rattle.c_grammar.specs.Read.Inner.{begins_type}
use Rattle.c_grammar.specs.Read.Expressions.{is_prefix_mark}
use Rattle.c_grammar.specs.Laws.Form.{Image}
use Rattle.c_grammar.specs.Laws.Cases.{ExprShape, expr_shape, PrefixShape, prefix_shape}
use Rattle.c_grammar.specs.Laws.Behind.{both_true, nat_le-true, good_of}
use Rattle.c_grammar.specs.Laws.Numbers.{below_level}

-- ---- tokens that begin with a mark

pub record Begins (op : Punct) (ts : Tokens) : Type 0 where
  pub at : Pos
  pub others : Tokens
  pub spelt : ts ≡ punct op at ∷ others

pub peek_first : (t : Token) (ts : Tokens) → peek (t ∷ ts) ≡ Some t.kind
unfolding peek
peek_first t ts = refl

pub begins_seen : (q op : Punct) (names : Names) (ts rest : Tokens) (b : Bool) → Begins op ts → same_mark op q ≡ b → sees q (names, ts ++ rest) ≡ b
begins_seen q op names ts rest b g e = ap (λ l. sees q (names, l ++ rest)) g.spelt ∙ ap (is_mark q) (peek_first (punct op g.at) (g.others ++ rest)) ∙ e

pub image_begins : {T A : Type 0} (f : T → A) (sp : A → Tokens) (op : Punct) → ((t : T) → Begins op (sp (f t))) → (x : A) → Image f x → Begins op (sp x)
image_begins f sp op each x i = subst (λ x. Begins op (sp x)) i.1 (each i.0)

-- ---- what begins an expression

abbrev pub begins_by : Punct → Bool
begins_by op = same_mark op p.LeftParen || is_prefix_mark (kind_of_mark op)

abbrev pub begins_expression : Names → TokenKind → Bool
begins_expression names (k.Name text) = not (is_typedef_name names text)
begins_expression names (k.Keyword word.Sizeof) = true
begins_expression names (k.Keyword _) = false
begins_expression names (k.Punct op) = begins_by op
begins_expression names _ = true

pub record Starts (names : Names) (ts : Tokens) : Type 0 where
  pub first : Token
  pub others : Tokens
  pub spelt : ts ≡ first ∷ others
  pub good : begins_expression names first.kind ≡ true

further : (names : Names) (front back ts : Tokens) → ts ≡ front ++ back → Starts names front → Starts names ts
further names front back ts e s = record { first = s.first; others = s.others ++ back; spelt = e ∙ ap (λ l. l ++ back) s.spelt; good = s.good }

mark_begins : (op : Punct) (more : List PrefixKind) → runs_on false (kind_of_mark op ∷ more) ≡ true → begins_by op ≡ true
mark_begins p.Ampersand more h = refl
mark_begins p.Star more h = refl
mark_begins p.Plus more h = refl
mark_begins p.Minus more h = refl
mark_begins p.Tilde more h = refl
mark_begins p.Not more h = refl
mark_begins p.Increment more h = refl
mark_begins p.Decrement more h = refl
mark_begins _ more h = absurd cc

prefix_starts : {x : Prefix} → PrefixShape x → (names : Names) (more : List PrefixKind) → runs_on false ((prefix_level x names).0 ∷ more) ≡ true → Starts names (prefix_spelling x)
prefix_starts (PrefixShape.a_operator m) names more h = record { first = mark m; others = []; spelt = prefix_spelling-Operator m; good = mark_begins m.punct more (rw (prefix_level-Operator m) at h) }
prefix_starts (PrefixShape.a_sizeof at) names more h = record { first = token (k.Keyword word.Sizeof) at; others = []; spelt = prefix_spelling-Sizeof at; good = refl }
prefix_starts (PrefixShape.a_cast from type to) names more h = record { first = punct p.LeftParen from; others = _; spelt = prefix_spelling-Cast from type to; good = refl }

run_starts : (run : List Prefix) (operand : Expr) (names : Names) → (filled (in_row (map prefix_level run) names).0 && (runs_on false (in_row (map prefix_level run) names).0 && nat_le (expr_level operand (names ++ (in_row (map prefix_level run) names).1)).0 prefixed)) ≡ true
    → Starts names (expr_spelling (expr.Prefixed run operand))
run_starts [] operand names h = absurd cc
run_starts (x ∷ xs) operand names h =
    let b = both_true (runs_on false (in_row (map prefix_level (x ∷ xs)) names).0) _ h in
    further names (prefix_spelling x) (joined (map prefix_spelling xs) ++ expr_spelling operand) _
    (expr_spelling-Prefixed (x ∷ xs) operand ∙ append_assoc (prefix_spelling x) (joined (map prefix_spelling xs)) (expr_spelling operand)) (prefix_starts (prefix_shape x) names _ b.0)

strings_start : (all : List Literal) (names : Names) → filled all ≡ true → Starts names (expr_spelling (expr.Strings all))
strings_start [] names h = absurd cc
strings_start (l ∷ ls) names h = record { first = _; others = _; spelt = expr_spelling-Strings (l ∷ ls); good = refl }

first_target : (a : ℕ) (rest : List Operand) → filled rest ≡ true → targets a rest ≡ true → a ≤ unary
first_target a [] h g = absurd cc
first_target a (n ∷ ns) h g = nat_le-true a unary (both_true (nat_le a unary) _ g).0

module _ (names : Names) (n : ℕ) (low : n < none) (ih : (a : Expr) → (expr_level a names).0 < n → Starts names (expr_spelling a)) where
  by_shape : {x : Expr} → ExprShape x → (expr_level x names).0 ≤ n → Starts names (expr_spelling x)
  by_shape (ExprShape.a_name id) h = record { first = _; others = []; spelt = expr_spelling-Name id; good = (good_of (not (is_typedef_name names id.text)) primary n (rw (expr_level-Name id) at h) low).0 }
  by_shape (ExprShape.a_number value kind at) h = record { first = _; others = []; spelt = expr_spelling-Number value kind at; good = refl }
  by_shape (ExprShape.a_char value at) h = record { first = _; others = []; spelt = expr_spelling-Char value at; good = refl }
  by_shape (ExprShape.a_strings all) h = strings_start all names (good_of (filled all) primary n (rw (expr_level-Strings all) at h) low).0
  by_shape (ExprShape.a_paren from inner to) h = record { first = _; others = _; spelt = expr_spelling-Paren from inner to; good = refl }
  by_shape (ExprShape.a_postfix a ss) h =
      let g = good_of _ postfix n (rw (expr_level-Postfix a ss) at h) low in
      let b = nat_le-true (expr_level a names).0 primary (both_true (nat_le (expr_level a names).0 primary) _ g.0).0 in
      further names (expr_spelling a) _ _ (expr_spelling-Postfix a ss) (ih a (let q = g.1 in omega arith))
  by_shape (ExprShape.a_sizeof_type at from type to) h = record { first = _; others = _; spelt = expr_spelling-SizeofType at from type to; good = refl }
  by_shape (ExprShape.a_prefixed run a) h = run_starts run a names (good_of _ _ n (rw (expr_level-Prefixed run a) at h) low).0
  by_shape (ExprShape.a_binary lv a ns) h =
      let g = good_of _ (of_level lv) n (rw (expr_level-Binary lv a ns) at h) low in
      let b = nat_le-true (expr_level a names).0 (below lv) (both_true (nat_le (expr_level a names).0 (below lv)) _ g.0).0 in
      further names (expr_spelling a) _ _ (expr_spelling-Binary lv a ns) (ih a (let d = below_level lv in let q = g.1 in omega arith))
  by_shape (ExprShape.a_conditional a bs) h =
      let g = good_of _ conditional n (rw (expr_level-Conditional a bs) at h) low in
      let b = nat_le-true (expr_level a names).0 or (both_true (nat_le (expr_level a names).0 or) _ g.0).0 in
      further names (expr_spelling a) _ _ (expr_spelling-Conditional a bs) (ih a (let q = g.1 in omega arith))
  by_shape (ExprShape.a_assign a ns) h =
      let g = good_of _ assignment n (rw (expr_level-Assign a ns) at h) low in
      let c = both_true (filled (in_row (map next_level ns) (names ++ (expr_level a names).1)).0) _ g.0 in
      let b = first_target (expr_level a names).0 _ c.0 c.1 in
      further names (expr_spelling a) _ _ (expr_spelling-Assign a ns) (ih a (let q = g.1 in omega arith))
  by_shape (ExprShape.a_comma a ns) h =
      let g = good_of _ comma n (rw (expr_level-Comma a ns) at h) low in
      let b = nat_le-true (expr_level a names).0 assignment (both_true (nat_le (expr_level a names).0 assignment) _ g.0).0 in
      further names (expr_spelling a) _ _ (expr_spelling-Comma a ns) (ih a (let q = g.1 in omega arith))

starts_below : (names : Names) (n : ℕ) → n ≤ none → (x : Expr) → (expr_level x names).0 < n → Starts names (expr_spelling x)
starts_below names zero h x g = absurd (omega arith)
starts_below names (suc n) h x g = by_shape names n (omega arith) (starts_below names n (omega arith)) (expr_shape x) (omega arith)

-- an expression begins with a token that begins no type name and is no closing bracket
pub starts : (names : Names) (x : Expr) → (expr_level x names).0 < none → Starts names (expr_spelling x)
starts names x g = starts_below names none (omega arith) x g

no_close_mark : (op : Punct) → begins_by op ≡ true → same_mark op p.RightParen ≡ false
no_close_mark p.RightParen h = absurd cc
no_close_mark _ h = refl

no_close : (names : Names) (kind : TokenKind) → begins_expression names kind ≡ true → is_mark p.RightParen (Some kind) ≡ false
no_close names (k.Punct op) h = no_close_mark op h
no_close names (k.Keyword key) h = refl
no_close names (k.Name text) h = refl
no_close names (k.Number value kind) h = refl
no_close names (k.Char value) h = refl
no_close names (k.Bytes bytes) h = refl

no_bracket_mark : (op : Punct) → begins_by op ≡ true → same_mark op p.RightBracket ≡ false
no_bracket_mark p.RightBracket h = absurd cc
no_bracket_mark _ h = refl

no_bracket : (names : Names) (kind : TokenKind) → begins_expression names kind ≡ true → is_mark p.RightBracket (Some kind) ≡ false
no_bracket names (k.Punct op) h = no_bracket_mark op h
no_bracket names (k.Keyword key) h = refl
no_bracket names (k.Name text) h = refl
no_bracket names (k.Number value kind) h = refl
no_bracket names (k.Char value) h = refl
no_bracket names (k.Bytes bytes) h = refl

not_true : (b : Bool) → not b ≡ true → b ≡ false
not_true true h = absurd cc
not_true false h = refl

no_type_word : (names : Names) (key : Keyword) → begins_expression names (k.Keyword key) ≡ true → begins_type names (Some (k.Keyword key)) ≡ false
no_type_word names word.Sizeof h = refl
no_type_word names _ h = absurd cc

pub no_type : (names : Names) (kind : TokenKind) → begins_expression names kind ≡ true → begins_type names (Some kind) ≡ false
no_type names (k.Name text) h = not_true (is_typedef_name names text) h
no_type names (k.Keyword key) h = no_type_word names key h
no_type names (k.Punct op) h = refl
no_type names (k.Number value kind) h = refl
no_type names (k.Char value) h = refl
no_type names (k.Bytes bytes) h = refl

-- what begins so is not what this test asks for
pub first_is_not : (names : Names) (test : Option TokenKind → Bool) → ((kind : TokenKind) → begins_expression names kind ≡ true → test (Some kind) ≡ false) → (x : Expr) (rest : Tokens) → (expr_level x names).0 < none → test (peek (expr_spelling x ++ rest)) ≡ false
first_is_not names test never x rest g =
    let s = starts names x g in
    ap (λ l. test (peek (l ++ rest))) s.spelt ∙ ap test (peek_first s.first (s.others ++ rest)) ∙ never s.first.kind s.good

pub opens : (names : Names) (x : Expr) (rest : Tokens) → (expr_level x names).0 < none → sees p.RightParen (names, expr_spelling x ++ rest) ≡ false
opens names x rest g = first_is_not names (is_mark p.RightParen) (no_close names) x rest g

pub sized_opens : (names : Names) (x : Expr) (rest : Tokens) → (expr_level x names).0 < none → sees p.RightBracket (names, expr_spelling x ++ rest) ≡ false
sized_opens names x rest g = first_is_not names (is_mark p.RightBracket) (no_bracket names) x rest g
