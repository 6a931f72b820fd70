-- Primary expressions are read exactly.
use Rattle.std.specs.Prelude.{◌≡◌, ℕ, ◌≤◌, ◌<◌, Bool, true, false, not, if◌then◌else◌, List, [], ◌∷◌, ◌++◌, map, Option, Some, None, refl}
use Rattle.std.proofs.Common.{ap, sym, ◌∙◌, subst, arith, ◌⊎◌, inl, inr}
use Rattle.c_tree.specs.declared.token.Pos.{Pos}
use Rattle.c_tree.specs.declared.token.Punct.TheVariants as p
use Rattle.c_tree.specs.declared.token.IntKind.{IntKind}
use Rattle.c_tree.specs.declared.token.TokenKind.{TokenKind}
use Rattle.c_tree.specs.declared.token.TokenKind.TheVariants as k
use Rattle.c_tree.specs.declared.token.Token.{Token}
use Rattle.c_tree.specs.declared.expression.Identifier.{Identifier}
use Rattle.c_tree.specs.declared.expression.Literal.{Literal}
use Rattle.c_tree.specs.declared.expression.Expr.{Expr}
use Rattle.c_tree.specs.declared.expression.Expr.TheVariants as expr
use Rattle.c_tree.specs.Spelling.Tokens.{token, joined}
use Rattle.c_grammar.specs.Laws.Spelled.{literal, literals}
use Rattle.c_tree.specs.Spelling.Trees.{expr_spelling, expr_spelling-Name, expr_spelling-Number, expr_spelling-Char, expr_spelling-Strings, expr_spelling-Paren}
use Rattle.c_tree.specs.Levels.Names.{Names, is_typedef_name}
use Rattle.c_tree.specs.Levels.Productions.{primary, unary, cast, comma}
use Rattle.c_tree.specs.Levels.Facts.{filled}
use Rattle.c_tree.specs.Levels.Trees.{expr_level}
use Rattle.c_grammar.specs.Laws.Told.{expr_level-Name, expr_level-Number, expr_level-Char, expr_level-Strings, expr_level-Paren}
use Rattle.c_tree.specs.Nesting.OfTrees.{deepest}
use Rattle.c_tree.specs.Nesting.Trees.{expr_nesting-Name, expr_nesting-Number, expr_nesting-Char, expr_nesting-Strings, expr_nesting-Paren}
use Rattle.c_grammar.specs.Input.{Tokens, State, peek, is_bytes, is_mark, sees, one, expect, opening, many}
use Rattle.c_grammar.specs.Read.Nodes.{begins_cast}
use Rattle.c_grammar.specs.Read.Inner.{Inner}
use Rattle.c_grammar.specs.Read.Expressions.{atom_at, literal_at, paren, strings, primary as read_primary}
use Rattle.c_grammar.specs.Ending.Trees.{expr_ending, expr_ending-Name, expr_ending-Number, expr_ending-Char, expr_ending-Strings, expr_ending-Paren}
use Rattle.c_grammar.specs.Laws.Form.{Form, Exact, Node, Image, only, node_exact, same_exact, choose_exact, whole_exact, two, three}
use Rattle.c_grammar.specs.Laws.Lists.{Items, Kept, all_good, all_added, chain, chain_exact, stop_goes, stop_made}
use Rattle.c_grammar.specs.Laws.Single.{single, one_exact, MadeOf, OneToken, pick_exact, sees_mark}
use Rattle.c_grammar.specs.Laws.Rows.{deeper, bracketed, bracketed_exact}
use Rattle.c_grammar.specs.Laws.Cases.{ExprShape, expr_shape}
use Rattle.c_grammar.specs.Laws.Numbers.{shape_number, number_within, level_low}
use Rattle.c_grammar.specs.Laws.Behind.{goes_on, expr_form, nat_le-true, nat_le-is, good_of, where_is, before_mark, primary_stop, joins_above, goes_above}

-- ---- one token

abbrev pub IsAtom : Expr → Type 0
IsAtom x = Image expr.Name x ⊎ (Image (λ (t : ℕ × IntKind × Pos). expr.Number t.0 t.1 t.2) x ⊎ Image (λ (t : ℕ × Pos). expr.Char t.0 t.1) x)

not_typedef : (b : Bool) → not b ≡ true → b ≡ false
not_typedef true h = absurd cc
not_typedef false h = refl

name_made : (names : Names) (text : List ℕ) (place : Pos) (a : Expr) (b : Bool) → is_typedef_name names text ≡ b → (if b then None else Some (expr.Name (record { text = text; place = place }))) ≡ Some a
    → IsAtom a × MadeOf (expr_form primary) names (k.Name text) place a
name_made names text place a true e h = absurd cc
name_made names text place a false e h =
    let id : Identifier = record { text = text; place = place } in
    let w : expr.Name id ≡ a = cc in
    subst (λ a. IsAtom a × MadeOf (expr_form primary) names (k.Name text) place a) w (
      inl (id, refl),
      record {
        good = rw (expr_level-Name id, e) (omega arith);
        spelt = expr_spelling-Name id;
        seen = ap (λ f. (f names).1) (expr_level-Name id);
        nested = expr_nesting-Name id;
        stops = λ n rest. primary_stop (expr_ending (expr.Name id)) rest (ap (λ e. e.text) (expr_ending-Name id));
      },
    )

atom_made : (names : Names) (kind : TokenKind) (place : Pos) (a : Expr) → atom_at names kind place ≡ Some a → IsAtom a × MadeOf (expr_form primary) names kind place a
atom_made names (k.Name text) place a h = name_made names text place a (is_typedef_name names text) refl h
atom_made names (k.Number value kind) place a h =
    let w : expr.Number value kind place ≡ a = cc in
    subst (λ a. IsAtom a × MadeOf (expr_form primary) names (k.Number value kind) place a) w (
      inr (inl ((value, kind, place), refl)),
      record {
        good = rw (expr_level-Number value kind place) (omega arith);
        spelt = expr_spelling-Number value kind place;
        seen = ap (λ f. (f names).1) (expr_level-Number value kind place);
        nested = expr_nesting-Number value kind place;
        stops = λ n rest. primary_stop (expr_ending (expr.Number value kind place)) rest (ap (λ e. e.text) (expr_ending-Number value kind place));
      },
    )
atom_made names (k.Char value) place a h =
    let w : expr.Char value place ≡ a = cc in
    subst (λ a. IsAtom a × MadeOf (expr_form primary) names (k.Char value) place a) w (
      inr (inr ((value, place), refl)),
      record {
        good = rw (expr_level-Char value place) (omega arith);
        spelt = expr_spelling-Char value place;
        seen = ap (λ f. (f names).1) (expr_level-Char value place);
        nested = expr_nesting-Char value place;
        stops = λ n rest. primary_stop (expr_ending (expr.Char value place)) rest (ap (λ e. e.text) (expr_ending-Char value place));
      },
    )
atom_made names (k.Keyword key) place a h = absurd cc
atom_made names (k.Bytes bytes) place a h = absurd cc
atom_made names (k.Punct op) place a h = absurd cc

name_taken : (names : Names) (id : Identifier) → (expr_level (expr.Name id) names).0 ≤ primary → OneToken (expr_form primary) atom_at names (expr.Name id)
name_taken names id g =
    let b = (good_of (not (is_typedef_name names id.text)) primary primary (rw (expr_level-Name id) at g) (omega arith)).0 in
    record {
      kind = k.Name id.text;
      place = id.place;
      spelt = expr_spelling-Name id;
      seen = ap (λ f. (f names).1) (expr_level-Name id);
      picked = rw (not_typedef (is_typedef_name names id.text) b) refl;
    }

atom_taken : (names : Names) (a : Expr) → IsAtom a → (expr_level a names).0 ≤ primary → OneToken (expr_form primary) atom_at names a
atom_taken names a (inl i) g =
    subst (λ a. (expr_level a names).0 ≤ primary → OneToken (expr_form primary) atom_at names a) i.1 (name_taken names i.0) g
atom_taken names a (inr (inl i)) g =
    subst (λ a. OneToken (expr_form primary) atom_at names a) i.1 (record {
      kind = k.Number i.0.0 i.0.1;
      place = i.0.2;
      spelt = expr_spelling-Number i.0.0 i.0.1 i.0.2;
      seen = ap (λ f. (f names).1) (expr_level-Number i.0.0 i.0.1 i.0.2);
      picked = refl;
    })
atom_taken names a (inr (inr i)) g =
    subst (λ a. OneToken (expr_form primary) atom_at names a) i.1 (record {
      kind = k.Char i.0.0;
      place = i.0.1;
      spelt = expr_spelling-Char i.0.0 i.0.1;
      seen = ap (λ f. (f names).1) (expr_level-Char i.0.0 i.0.1);
      picked = refl;
    })

atom_exact : (more : ℕ) → Exact (only IsAtom (expr_form primary)) more (one atom_at)
atom_exact more = pick_exact (expr_form primary) IsAtom atom_at atom_made atom_taken more

-- ---- string literals

literal_picks : (names : Names) (kind : TokenKind) (place : Pos) (a : Literal) → literal_at names kind place ≡ Some a → (literal a ≡ token kind place) × Unit {0}
literal_picks names (k.Bytes bytes) place a h = let e : record { bytes = bytes; place = place } ≡ a = cc in (ap literal (sym e), tt)
literal_picks names (k.Keyword key) place a h = absurd cc
literal_picks names (k.Name text) place a h = absurd cc
literal_picks names (k.Number value kind) place a h = absurd cc
literal_picks names (k.Char value) place a h = absurd cc
literal_picks names (k.Punct op) place a h = absurd cc

abbrev literal_form : Form Literal
literal_form = single literal (λ names a. Unit {0})

literal_exact : (more : ℕ) → Exact literal_form more (one literal_at)
literal_exact more = one_exact literal (λ names a. Unit {0}) literal_at literal_picks (λ names a g. refl) more

abbrev goes_text : State → Bool
goes_text i = is_bytes (peek i.1)

abbrev literal_items : Items (Unit {0}) Literal
literal_items = record {
  spell = literal_form.spell;
  good = λ s. literal_form.good;
  adds = literal_form.adds;
  nest = literal_form.nest;
  stop = literal_form.stop;
  goes = λ s. goes_text;
  step = λ s x. tt;
}

sees_bytes : (names : Names) (a : Literal) (rest : Tokens) → goes_text (names, literal a ∷ rest) ≡ true
unfolding peek
sees_bytes names a rest = refl

no_bytes : (names : Names) → goes_text (names, []) ≡ false
unfolding peek
no_bytes names = refl

literals_kept : (more : ℕ) → Kept literal_items more (λ s. one literal_at)
literals_kept more = record {
  sound = λ s names ts x end go h. (literal_exact more).sound names ts x end h;
  complete = λ s names x rest g n st. (literal_exact more).complete names x rest g n st;
  starts = λ s names x rest g st. sees_bytes names x rest;
  ends = λ s names. no_bytes names;
  follows = λ s names x y rest g h st. tt;
  some = λ s names x g. omega arith;
}

literals_spelt : (ls : List Literal) → literals ls ≡ joined (map (λ l. literal l ∷ []) ls)
literals_spelt [] = refl
literals_spelt (l ∷ ls) = ap (λ r. literal l ∷ r) (literals_spelt ls)

literals_good : (names : Names) (ls : List Literal) → all_good literal_items tt names ls
literals_good names [] = tt
literals_good names (l ∷ ls) = (tt, literals_good (names ++ []) ls)

literals_quiet : (names : Names) (ls : List Literal) → all_added literal_items names ls ≡ []
literals_quiet names [] = refl
literals_quiet names (l ∷ ls) = literals_quiet (names ++ []) ls

literals_flat : (ls : List Literal) → deepest (map (λ l. 0) ls) ≡ 0
literals_flat [] = refl
literals_flat (l ∷ ls) = let e = literals_flat ls in omega arith

abbrev strings_of : Literal × List Literal → Expr
strings_of t = expr.Strings (t.0 ∷ t.1)

abbrev strings_form : Form (Literal × List Literal)
strings_form = chain literal_form literal_items (λ a. tt)

literals_end : (a : Literal) (ls : List Literal) (names : Names) (rest : Tokens) → strings_form.stop (a, ls) names rest → goes_text (names, rest) ≡ false
literals_end a [] names rest h = h.1
literals_end a (l ∷ ls) names rest h = stop_goes literal_items tt (l ∷ ls) names rest h

literals_stop : (a : Literal) (ls : List Literal) (names : Names) (rest : Tokens) → goes_text (names, rest) ≡ false → strings_form.stop (a, ls) names rest
literals_stop a [] names rest h = (tt, h)
literals_stop a (l ∷ ls) names rest h = stop_made literal_items tt l ls names rest tt h

text_goes : (o : Option TokenKind) → is_bytes o ≡ false → primary < goes_on (record { text = true; size = false; target = true }) o
text_goes None h = omega arith
text_goes (Some (k.Punct op)) h = let a = joins_above op in let b = goes_above (record { text = true; size = false; target = true }) op in omega arith
text_goes (Some (k.Bytes bytes)) h = absurd cc
text_goes (Some (k.Keyword key)) h = omega arith
text_goes (Some (k.Name text)) h = omega arith
text_goes (Some (k.Number value kind)) h = omega arith
text_goes (Some (k.Char value)) h = omega arith

text_stops : (o : Option TokenKind) → primary < goes_on (record { text = true; size = false; target = true }) o → is_bytes o ≡ false
text_stops None h = refl
text_stops (Some (k.Punct op)) h = refl
text_stops (Some (k.Bytes bytes)) h = absurd (omega arith)
text_stops (Some (k.Keyword key)) h = refl
text_stops (Some (k.Name text)) h = refl
text_stops (Some (k.Number value kind)) h = refl
text_stops (Some (k.Char value)) h = refl

strings_node : Node strings_form strings_of (expr_form primary)
strings_node = record {
  good = λ names t g. rw (expr_level-Strings (t.0 ∷ t.1)) (omega arith);
  parts = λ names t g. (tt, literals_good (names ++ []) t.1);
  nested = λ t. expr_nesting-Strings (t.0 ∷ t.1) ∙ sym (let e = literals_flat t.1 in omega arith);
  spelt = λ t. expr_spelling-Strings (t.0 ∷ t.1) ∙ ap (λ r. literal t.0 ∷ r) (literals_spelt t.1);
  seen = λ names t. ap (λ f. (f names).1) (expr_level-Strings (t.0 ∷ t.1)) ∙ sym (literals_quiet (names ++ []) t.1);
  stop = λ names t behind rest g h. rw (expr_ending-Strings (t.0 ∷ t.1)) (text_goes (peek rest) (literals_end t.0 t.1 behind rest h));
  from_stop = λ names t behind rest g h. literals_stop t.0 t.1 behind rest (text_stops (peek rest) (rw (expr_ending-Strings (t.0 ∷ t.1)) at h));
}

strings_exact : (more : ℕ) (inner : Inner) → Exact (only (Image strings_of) (expr_form primary)) more (strings more inner)
unfolding strings
strings_exact more inner =
    same_exact (only (Image strings_of) (expr_form primary)) more _ (strings more inner) (two (one literal_at) (λ first. many goes_text (one literal_at)) (λ first rest. expr.Strings (first ∷ rest)))
    (node_exact strings_form strings_of (expr_form primary) more _
    (chain_exact literal_form literal_items (λ a. tt) more (one literal_at) (λ s. one literal_at) (literal_exact more) (literals_kept more) (λ names a x rest g h st. tt)) strings_node)

-- ---- in brackets

abbrev paren_of : (Pos × Expr) × Pos → Expr
paren_of t = expr.Paren t.0.0 t.0.1 t.1

abbrev paren_form : Form ((Pos × Expr) × Pos)
paren_form = bracketed p.LeftParen (deeper (expr_form comma)) p.RightParen

paren_node : Node paren_form paren_of (expr_form primary)
paren_node = record {
  good = λ names t g. rw (expr_level-Paren t.0.0 t.0.1 t.1) (where_is _ primary primary (nat_le-is (expr_level t.0.1 names).0 comma g.0.1) (omega arith));
  parts = λ names t g. ((tt, nat_le-true (expr_level t.0.1 names).0 comma (good_of _ primary primary (rw (expr_level-Paren t.0.0 t.0.1 t.1) at g) (omega arith)).0), tt);
  nested = λ t. expr_nesting-Paren t.0.0 t.0.1 t.1 ∙ omega arith;
  spelt = λ t. expr_spelling-Paren t.0.0 t.0.1 t.1;
  seen = λ names t. ap (λ f. (f names).1) (expr_level-Paren t.0.0 t.0.1 t.1);
  stop = λ names t behind rest g h. primary_stop (expr_ending (paren_of t)) rest (ap (λ e. e.text) (expr_ending-Paren t.0.0 t.0.1 t.1));
  from_stop = λ names t behind rest g h. tt;
}

paren_exact : (more : ℕ) (inner : Inner) → Exact (deeper (expr_form comma)) more (inner.expr comma) → Exact (only (Image paren_of) (expr_form primary)) more (paren more inner)
unfolding paren
paren_exact more inner exact =
    same_exact (only (Image paren_of) (expr_form primary)) more _ (paren more inner) (three (opening more p.LeftParen) (λ from. inner.expr comma) (λ from x. expect p.RightParen) (λ from x to. expr.Paren from x to))
    (node_exact paren_form paren_of (expr_form primary) more _
    (bracketed_exact p.LeftParen (deeper (expr_form comma)) p.RightParen more (inner.expr comma) exact (λ names x at rest g. before_mark comma (expr_ending x) p.RightParen at rest (omega arith))) paren_node)

-- ---- a primary expression is one of these

abbrev IsStrings : Expr → Type 0
IsStrings = Image strings_of

abbrev IsParen : Expr → Type 0
IsParen = Image paren_of

first_bytes : (names : Names) (a : Literal) (ls : List Literal) (rest : Tokens) → goes_text (names, expr_spelling (expr.Strings (a ∷ ls)) ++ rest) ≡ true
first_bytes names a ls rest = ap (λ l. goes_text (names, l ++ rest)) (expr_spelling-Strings (a ∷ ls)) ∙ sees_bytes names a (literals ls ++ rest)

sees_token : (t : Token) (names : Names) (rest : Tokens) → peek (t ∷ rest) ≡ Some t.kind
unfolding peek
sees_token t names rest = refl

atom_kind : (names : Names) (x : Expr) (rest : Tokens) (test : Option TokenKind → Bool) → IsAtom x → ((text : List ℕ) → test (Some (k.Name text)) ≡ false) → ((value : ℕ) (kind : IntKind) → test (Some (k.Number value kind)) ≡ false) → ((value : ℕ) → test (Some (k.Char value)) ≡ false)
    → test (peek (expr_spelling x ++ rest)) ≡ false
atom_kind names x rest test (inl i) a b c = subst (λ x. test (peek (expr_spelling x ++ rest)) ≡ false) i.1 (ap (λ l. test (peek (l ++ rest))) (expr_spelling-Name i.0) ∙ ap test (sees_token _ names rest) ∙ a i.0.text)
atom_kind names x rest test (inr (inl i)) a b c = subst (λ x. test (peek (expr_spelling x ++ rest)) ≡ false) i.1 (ap (λ l. test (peek (l ++ rest))) (expr_spelling-Number i.0.0 i.0.1 i.0.2) ∙ ap test (sees_token _ names rest) ∙ b i.0.0 i.0.1)
atom_kind names x rest test (inr (inr i)) a b c = subst (λ x. test (peek (expr_spelling x ++ rest)) ≡ false) i.1 (ap (λ l. test (peek (l ++ rest))) (expr_spelling-Char i.0.0 i.0.1) ∙ ap test (sees_token _ names rest) ∙ c i.0.0)

is_strings_seen : (names : Names) (x : Expr) (rest : Tokens) → IsStrings x → goes_text (names, expr_spelling x ++ rest) ≡ true
is_strings_seen names x rest i = subst (λ x. goes_text (names, expr_spelling x ++ rest) ≡ true) i.1 (first_bytes names i.0.0 i.0.1 rest)

paren_seen : (names : Names) (x : Expr) (rest : Tokens) → IsParen x → sees p.LeftParen (names, expr_spelling x ++ rest) ≡ true
paren_seen names x rest i = subst (λ x. sees p.LeftParen (names, expr_spelling x ++ rest) ≡ true) i.1
    (ap (λ l. sees p.LeftParen (names, l ++ rest)) (expr_spelling-Paren i.0.0.0 i.0.0.1 i.0.1) ∙ sees_mark p.LeftParen names i.0.0.0 _)

bytes_no_mark : (o : Option TokenKind) → is_bytes o ≡ true → is_mark p.LeftParen o ≡ false
bytes_no_mark None h = refl
bytes_no_mark (Some (k.Punct op)) h = absurd cc
bytes_no_mark (Some (k.Bytes bytes)) h = refl
bytes_no_mark (Some (k.Keyword key)) h = refl
bytes_no_mark (Some (k.Name text)) h = refl
bytes_no_mark (Some (k.Number value kind)) h = refl
bytes_no_mark (Some (k.Char value)) h = refl

unopened : (names : Names) (x : Expr) (rest : Tokens) → IsStrings x ⊎ IsAtom x → sees p.LeftParen (names, expr_spelling x ++ rest) ≡ false
unopened names x rest (inl i) = bytes_no_mark (peek (expr_spelling x ++ rest)) (is_strings_seen names x rest i)
unopened names x rest (inr i) = atom_kind names x rest (is_mark p.LeftParen) i (λ text. refl) (λ value kind. refl) (λ value. refl)

strings_are : (all : List Literal) (names : Names) → (expr_level (expr.Strings all) names).0 ≤ primary → IsStrings (expr.Strings all)
strings_are [] names h = absurd (let b = (good_of (filled {A = Literal} []) primary primary (rw (expr_level-Strings []) at h) (omega arith)).0 in cc)
strings_are (l ∷ ls) names h = ((l, ls), refl)

abbrev IsPrimary : Expr → Type 0
IsPrimary x = IsParen x ⊎ (IsStrings x ⊎ IsAtom x)

too_loose : {x : Expr} (s : ExprShape x) (names : Names) → (expr_level x names).0 ≤ primary → 0 < shape_number s → ⊥
too_loose s names h n = let e = number_within s names primary h (omega arith) in omega arith

primary_is : {x : Expr} → ExprShape x → (names : Names) → (expr_level x names).0 ≤ primary → IsPrimary x
primary_is (ExprShape.a_name id) names h = inr (inr (inl (id, refl)))
primary_is (ExprShape.a_number value kind at) names h = inr (inr (inr (inl ((value, kind, at), refl))))
primary_is (ExprShape.a_char value at) names h = inr (inr (inr (inr ((value, at), refl))))
primary_is (ExprShape.a_strings all) names h = inr (inl (strings_are all names h))
primary_is (ExprShape.a_paren from inner to) names h = inl (((from, inner), to), refl)
primary_is (ExprShape.a_prefixed run operand) names h = absurd (too_loose (ExprShape.a_prefixed run operand) names h (run_number (begins_cast run)))
  where
    run_number : (b : Bool) → 0 < (if b then cast else unary)
    run_number true = omega arith
    run_number false = omega arith
primary_is (ExprShape.a_binary lv first rest) names h = absurd (too_loose (ExprShape.a_binary lv first rest) names h (let a = level_low lv in omega arith))
primary_is (ExprShape.a_postfix operand suffixes) names h = absurd (too_loose (ExprShape.a_postfix operand suffixes) names h (omega arith))
primary_is (ExprShape.a_sizeof_type at from type to) names h = absurd (too_loose (ExprShape.a_sizeof_type at from type to) names h (omega arith))
primary_is (ExprShape.a_conditional first rest) names h = absurd (too_loose (ExprShape.a_conditional first rest) names h (omega arith))
primary_is (ExprShape.a_assign first rest) names h = absurd (too_loose (ExprShape.a_assign first rest) names h (omega arith))
primary_is (ExprShape.a_comma first rest) names h = absurd (too_loose (ExprShape.a_comma first rest) names h (omega arith))

pub primary_exact : (more : ℕ) (inner : Inner) → Exact (deeper (expr_form comma)) more (inner.expr comma) → Exact (expr_form primary) more (read_primary more inner)
unfolding read_primary
primary_exact more inner exact =
    whole_exact IsPrimary (expr_form primary) more _ (λ names x g. primary_is (expr_shape x) names g)
    (choose_exact IsParen (λ x. IsStrings x ⊎ IsAtom x) (expr_form primary) more (sees p.LeftParen) (paren more inner) _ (paren_exact more inner exact)
    (choose_exact IsStrings IsAtom (expr_form primary) more goes_text (strings more inner) (one atom_at) (strings_exact more inner) (atom_exact more)
    (λ names x rest i g s. is_strings_seen names x rest i)
    (λ names x rest i g s. atom_kind names x rest is_bytes i (λ text. refl) (λ value kind. refl) (λ value. refl)))
    (λ names x rest i g s. paren_seen names x rest i)
    (λ names x rest i g s. unopened names x rest i))
