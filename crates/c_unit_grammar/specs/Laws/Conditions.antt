-- Conditions and the brackets of `for` are read exactly (C11 6.8.4, 6.8.5).
use Rattle.std.specs.Prelude.{◌≡◌, ℕ, ◌+◌, max, Bool, true, false, not, [], ◌∷◌, ◌++◌, map, Option, Some, None, refl}
use Rattle.std.proofs.Common.{ap, sym, ◌∙◌, subst, arith, append_assoc, ◌⊎◌, inl, inr}
use Rattle.c_tree.specs.declared.token.Pos.{Pos}
use Rattle.c_tree.specs.declared.token.Punct.{Punct}
use Rattle.c_tree.specs.declared.token.Punct.TheVariants as p
use Rattle.c_tree.specs.declared.token.Keyword.{Keyword}
use Rattle.c_tree.specs.declared.token.Keyword.TheVariants as word
use Rattle.c_tree.specs.declared.token.TokenKind.{TokenKind}
use Rattle.c_tree.specs.declared.token.TokenKind.TheVariants as k
use Rattle.c_tree.specs.declared.expression.Expr.{Expr}
use Rattle.c_tree.specs.declared.declaration.Declaration.{Declaration}
use Rattle.c_tree.specs.declared.statement.Condition.{Condition}
use Rattle.c_tree.specs.declared.statement.ForHead.{ForHead}
use Rattle.c_tree.specs.declared.statement.ForHead.TheVariants as head
use Rattle.c_tree.specs.declared.statement.ForControl.{ForControl}
use Rattle.c_tree.specs.Spelling.Tokens.{punct, joined}
use Rattle.c_tree.specs.Spelling.Trees.{expr_spelling}
use Rattle.c_tree.specs.Spelling.Declarations.{init_declarator_spelling, declaration_spelling}
use Rattle.c_tree.specs.Spelling.OfStatements.{value_spelling, condition_spelling, for_head_spelling, for_control_spelling}
use Rattle.c_tree.specs.Levels.Names.{Names, is_typedef_name, in_row}
use Rattle.c_tree.specs.Levels.Productions.{comma}
use Rattle.c_tree.specs.Levels.Facts.{facts_of_specifiers}
use Rattle.c_tree.specs.Levels.Trees.{expr_level, specifier_level}
use Rattle.c_tree.specs.Levels.Declarations.{declaration_level}
use Rattle.c_tree.specs.Levels.OfStatements.{value_level, condition_level, for_head_level, for_control_level}
use Rattle.c_tree.specs.Nesting.Declarations.{declaration_nesting}
use Rattle.c_tree.specs.Nesting.OfStatements.{value_nesting, condition_nesting, for_head_nesting, for_control_nesting}
use Rattle.c_grammar.specs.Input.{Tokens, peek, expect, opening}
use Rattle.c_grammar.specs.Read.Inner.{begins_specifier}
use Rattle.c_grammar.specs.Read.Depth.{inside}
use Rattle.c_grammar.specs.Ending.Trees.{expr_ending}
use Rattle.c_grammar.specs.Laws.Form.{Form, Exact, Node, Image, only, node_exact, same_exact, whole_exact, three, four, choose_exact, seq, seq_exact}
use Rattle.c_grammar.specs.Laws.Single.{opening_form, opening_exact}
use Rattle.c_grammar.specs.Laws.Rows.{pre, pre_exact, deeper, bracketed, bracketed_exact}
use Rattle.c_grammar.specs.Laws.Behind.{expr_form, both_true, both_are, nat_le-true, nat_le-is, before_mark}
use Rattle.c_grammar.specs.Laws.Starts.{peek_first, begins_expression, first_is_not}
use Rattle.c_grammar.specs.Laws.SpecifierStarts.{StartsSpecifier, specifiers_start, starts_seen}
use Rattle.c_grammar.specs.Laws.TypeNames.{form_is}
use Rattle.c_grammar.specs.Laws.Depth.{inside_exact}
use Rattle.c_unit_grammar.specs.Read.Declarations.{inside_declaration}
use Rattle.c_unit_grammar.specs.Read.Statements.{value_until, condition, declaring_head, valued_head, for_head, for_control}
use Rattle.c_unit_grammar.specs.Laws.Common.{lifted, lift_value, value_form, value_exact, semicolon_ends, paren_ends}
use Rattle.c_unit_grammar.specs.Laws.Declarations.{declaration_form, inside_declaration_exact}

abbrev pub up : ℕ → ℕ
up n = n + 1

pub inner_value : (more : ℕ) → Exact (lifted up) more ((inside more).expr comma)
inner_value more = (inside_exact more).comma_is

-- ---- `(` expression `)`

abbrev pub condition_form : Form Condition
condition_form = record {
  spell = condition_spelling;
  good = λ names c. (condition_level c names).0 ≡ true;
  adds = λ names c. (condition_level c names).1;
  nest = condition_nesting;
  stop = λ c names rest. Unit {0};
}

abbrev condition_of : (Pos × Expr) × Pos → Condition
condition_of t = record { opening = t.0.0; value = t.0.1; closing = t.1 }

condition_node : Node (bracketed p.LeftParen (deeper (expr_form comma)) p.RightParen) condition_of condition_form
condition_node = record {
  good = λ names t g. nat_le-is (expr_level t.0.1 names).0 comma g.0.1;
  parts = λ names t g. ((tt, nat_le-true (expr_level t.0.1 names).0 comma g), tt);
  nested = λ t. omega arith;
  spelt = λ t. refl;
  seen = λ names t. refl;
  stop = λ names t behind rest g h. tt;
  from_stop = λ names t behind rest g h. tt;
}

pub condition_exact : (more : ℕ) → Exact condition_form more (condition more)
unfolding condition
condition_exact more =
    whole_exact (Image condition_of) condition_form more _ (λ names c g. (((c.opening, c.value), c.closing), refl))
    (same_exact (only (Image condition_of) condition_form) more _ _ (three (opening more p.LeftParen) (λ from. (inside more).expr comma) (λ from x. expect p.RightParen) (λ from x to. record { opening = from; value = x; closing = to }))
    (node_exact (bracketed p.LeftParen (deeper (expr_form comma)) p.RightParen) condition_of condition_form more _
    (bracketed_exact p.LeftParen (deeper (expr_form comma)) p.RightParen more ((inside more).expr comma) ((inside_exact more).comma_is) (λ names x at rest g. before_mark comma (expr_ending x) p.RightParen at rest (omega arith))) condition_node))

-- ---- the first token of a declaration

pub declaration_starts : (d : Declaration) (names : Names) → (declaration_level d names).0 ≡ true → StartsSpecifier true false names (declaration_spelling d)
declaration_starts d names h =
    let b = both_true (facts_of_specifiers (in_row (map specifier_level d.specifiers) names).0).good _ h in
    let s = specifiers_start true names d.specifiers (form_is true names d.specifiers b.0 refl) in
    let tail : Tokens = joined (map init_declarator_spelling d.declarators) ++ punct p.Semicolon d.semicolon ∷ [] in
    record { first = s.first; others = s.others ++ tail; spelt = ap (λ l. l ++ tail) s.spelt; good = s.good }

no_specifier_word : (names : Names) (key : Keyword) → begins_expression names (k.Keyword key) ≡ true → begins_specifier true false names (Some (k.Keyword key)) ≡ false
no_specifier_word names word.Sizeof h = refl
no_specifier_word names _ h = absurd cc

not_true : (b : Bool) → not b ≡ true → b ≡ false
not_true true h = absurd cc
not_true false h = refl

-- an expression begins with no specifier
pub no_specifier : (names : Names) (kind : TokenKind) → begins_expression names kind ≡ true → begins_specifier true false names (Some kind) ≡ false
no_specifier names (k.Name text) h = not_true (is_typedef_name names text) h
no_specifier names (k.Keyword key) h = no_specifier_word names key h
no_specifier names (k.Punct op) h = refl
no_specifier names (k.Number value kind) h = refl
no_specifier names (k.Char value) h = refl
no_specifier names (k.Bytes bytes) h = refl

pub value_no_specifier : (names : Names) (v : Option Expr) (op : Punct) (at : Pos) (rest : Tokens) → (value_level v names).0 ≡ true → begins_specifier true false names (peek ((value_spelling v ++ punct op at ∷ []) ++ rest)) ≡ false
value_no_specifier names None op at rest g = ap (begins_specifier true false names) (peek_first (punct op at) rest)
value_no_specifier names (Some x) op at rest g =
    ap (λ l. begins_specifier true false names (peek l)) (append_assoc (expr_spelling x) (punct op at ∷ []) rest)
    ∙ first_is_not names (begins_specifier true false names) (no_specifier names) x (punct op at ∷ rest) (omega (arith, nat_le-true (expr_level x names).0 comma g))

-- ---- what stands first in the brackets of `for`

abbrev head_nest : ForHead → ℕ
head_nest (head.Expression value semicolon) = lift_value up value
head_nest (head.Declaration declaration) = declaration_nesting declaration + 1

abbrev head_form : Form ForHead
head_form = record {
  spell = for_head_spelling;
  good = λ names h. (for_head_level h names).0 ≡ true;
  adds = λ names h. (for_head_level h names).1;
  nest = head_nest;
  stop = λ h names rest. Unit {0};
}

abbrev valued_of : Option Expr × Pos → ForHead
valued_of v = head.Expression v.0 v.1

declared_node : Node (deeper declaration_form) head.Declaration head_form
declared_node = record { good = λ names d g. g; parts = λ names d g. g; nested = λ d. refl; spelt = λ d. refl; seen = λ names d. refl; stop = λ names d behind rest g h. tt; from_stop = λ names d behind rest g h. tt }

valued_node : Node (value_form up p.Semicolon) valued_of head_form
valued_node = record { good = λ names v g. g; parts = λ names v g. g; nested = λ v. refl; spelt = λ v. refl; seen = λ names v. refl; stop = λ names v behind rest g h. tt; from_stop = λ names v behind rest g h. tt }

head_side : (h : ForHead) → Image head.Declaration h ⊎ Image valued_of h
head_side (head.Expression value semicolon) = inr ((value, semicolon), refl)
head_side (head.Declaration declaration) = inl (declaration, refl)

head_exact : (more : ℕ) → Exact head_form more (for_head more)
unfolding for_head
head_exact more =
    whole_exact (λ h. Image head.Declaration h ⊎ Image valued_of h) head_form more _ (λ names h g. head_side h)
    (choose_exact (Image head.Declaration) (Image valued_of) head_form more (λ i. begins_specifier true false i.0 (peek i.1)) (declaring_head more) (valued_head more)
    (node_exact (deeper declaration_form) head.Declaration head_form more (inside_declaration more) (inside_declaration_exact more) declared_node)
    (node_exact (value_form up p.Semicolon) valued_of head_form more _ (value_exact up p.Semicolon semicolon_ends more ((inside more).expr comma) (inner_value more)) valued_node)
    (λ names h rest i. subst (λ h. head_form.good names h → Unit {0} → begins_specifier true false names (peek (for_head_spelling h ++ rest)) ≡ true) i.1
    (λ g s. starts_seen true false names (declaration_spelling i.0) rest (declaration_starts i.0 names g)))
    (λ names h rest i. subst (λ h. head_form.good names h → Unit {0} → begins_specifier true false names (peek (for_head_spelling h ++ rest)) ≡ false) i.1
    (λ g s. value_no_specifier names i.0.0 p.Semicolon i.0.1 rest g)))

-- ---- the brackets of `for`

abbrev pub control_form : Form ForControl
control_form = record {
  spell = for_control_spelling;
  good = λ names c. (for_control_level c names).0 ≡ true;
  adds = λ names c. (for_control_level c names).1;
  nest = for_control_nesting;
  stop = λ c names rest. Unit {0};
}

abbrev control_parts : Form (((Pos × ForHead) × (Option Expr × Pos)) × (Option Expr × Pos))
control_parts = seq (seq (pre (opening_form p.LeftParen) (λ _. head_form)) (λ _. value_form up p.Semicolon)) (λ _. value_form up p.RightParen)

abbrev control_of : ((Pos × ForHead) × (Option Expr × Pos)) × (Option Expr × Pos) → ForControl
control_of t = record { opening = t.0.0.0; head = t.0.0.1; condition = t.0.1.0; semicolon = t.0.1.1; step = t.1.0; closing = t.1.1 }

value_deep : (v : Option Expr) → max 1 (lift_value up v) ≡ value_nesting v + 1
value_deep None = omega arith
value_deep (Some x) = omega arith

head_deep : (h : ForHead) → max 1 (head_nest h) ≡ for_head_nesting h + 1
head_deep (head.Expression value semicolon) = value_deep value
head_deep (head.Declaration declaration) = omega arith

control_spelt : (t : ((Pos × ForHead) × (Option Expr × Pos)) × (Option Expr × Pos)) → for_control_spelling (control_of t) ≡ control_parts.spell t
control_spelt t =
    let h : Tokens = for_head_spelling t.0.0.1 in
    let c : Tokens = value_spelling t.0.1.0 in
    let s : Tokens = value_spelling t.1.0 in
    let m : Tokens = punct p.Semicolon t.0.1.1 ∷ [] in
    let e : Tokens = punct p.RightParen t.1.1 ∷ [] in
    ap (λ l. punct p.LeftParen t.0.0.0 ∷ l)
    (append_assoc h (c ++ (m ++ s)) e
    ∙ ap (λ l. h ++ l) (append_assoc c (m ++ s) e ∙ sym (append_assoc c m (s ++ e)))
    ∙ sym (append_assoc h (c ++ m) (s ++ e)))

control_node : Node control_parts control_of control_form
control_node = record {
  good = λ names t g.
      both_are _ _ g.0.0.1 (both_are _ _ g.0.1 (subst (λ n. (value_level t.1.0 n).0 ≡ true) (sym (append_assoc names (for_head_level t.0.0.1 names).1 (value_level t.0.1.0 (names ++ (for_head_level t.0.0.1 names).1)).1)) g.1));
  parts = λ names t h.
      let a = both_true (for_head_level t.0.0.1 names).0 _ h in
      let b = both_true (value_level t.0.1.0 (names ++ (for_head_level t.0.0.1 names).1)).0 _ a.1 in
      (((tt, a.0), b.0), subst (λ n. (value_level t.1.0 n).0 ≡ true) (append_assoc names (for_head_level t.0.0.1 names).1 (value_level t.0.1.0 (names ++ (for_head_level t.0.0.1 names).1)).1) b.1);
  nested = λ t. omega (arith, head_deep t.0.0.1, value_deep t.0.1.0, value_deep t.1.0);
  spelt = control_spelt;
  seen = λ names t. control_seen names t.0.0.1 t.0.1.0 t.1.0;
  stop = λ names t behind rest g h. tt;
  from_stop = λ names t behind rest g h. tt;
} where
  control_seen : (names : Names) (h : ForHead) (c s : Option Expr) → (for_head_level h names).1 ++ ((value_level c (names ++ (for_head_level h names).1)).1 ++ (value_level s ((names ++ (for_head_level h names).1) ++ (value_level c (names ++ (for_head_level h names).1)).1)).1)
      ≡ ((for_head_level h names).1 ++ (value_level c (names ++ (for_head_level h names).1)).1) ++ (value_level s (names ++ ((for_head_level h names).1 ++ (value_level c (names ++ (for_head_level h names).1)).1))).1
  control_seen names h c s =
      let a : Names = (for_head_level h names).1 in
      let b : Names = (value_level c (names ++ a)).1 in
      sym (append_assoc a b (value_level s ((names ++ a) ++ b)).1) ∙ ap (λ n. (a ++ b) ++ (value_level s n).1) (append_assoc names a b)

pub control_exact : (more : ℕ) → Exact control_form more (for_control more)
unfolding for_control
control_exact more =
    whole_exact (Image control_of) control_form more _ (λ names c g. ((((c.opening, c.head), (c.condition, c.semicolon)), (c.step, c.closing)), refl))
    (same_exact (only (Image control_of) control_form) more _ _
    (four (opening more p.LeftParen) (λ from. for_head more) (λ from first. value_until p.Semicolon ((inside more).expr comma)) (λ from first test. value_until p.RightParen ((inside more).expr comma))
    (λ from first test step. record { opening = from; head = first; condition = test.0; semicolon = test.1; step = step.0; closing = step.1 }))
    (node_exact control_parts control_of control_form more _
    (seq_exact (seq (pre (opening_form p.LeftParen) (λ _. head_form)) (λ _. value_form up p.Semicolon)) (λ _. value_form up p.RightParen) more _ (λ _. value_until p.RightParen ((inside more).expr comma))
    (seq_exact (pre (opening_form p.LeftParen) (λ _. head_form)) (λ _. value_form up p.Semicolon) more _ (λ _. value_until p.Semicolon ((inside more).expr comma))
    (pre_exact (opening_form p.LeftParen) (λ _. head_form) more (opening more p.LeftParen) (λ from. for_head more) (λ names a. refl) (opening_exact p.LeftParen more) (λ _. head_exact more) (λ names a b rest g h s. tt))
    (λ _. value_exact up p.Semicolon semicolon_ends more ((inside more).expr comma) (inner_value more)) (λ names a b rest g h s. tt))
    (λ _. value_exact up p.RightParen paren_ends more ((inside more).expr comma) (inner_value more)) (λ names a b rest g h s. tt)) control_node))
