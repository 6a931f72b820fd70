-- Runs of prefixes, casts and `sizeof` are read exactly (C11 6.5.3, 6.5.4).
use Rattle.std.specs.Prelude.{◌≡◌, ℕ, ◌≤◌, ◌<◌, Bool, true, false, not, ◌&&◌, ◌||◌, if◌then◌else◌, nat_le, List, [], ◌∷◌, ◌++◌, length, map, Option, Some, None, refl}
use Rattle.std.proofs.Common.{ap, sym, ◌∙◌, subst, cond, arith, append_assoc, append-nil, ◌⊎◌, inl, inr}
use denote.Hole.Carrier.{out}
use Rattle.c_tree.specs.declared.token.Pos.{Pos}
use Rattle.c_tree.specs.declared.token.Punct.{Punct}
use Rattle.c_tree.specs.declared.token.Punct.TheVariants as p
use Rattle.c_tree.specs.declared.token.Keyword.{Keyword}
use Rattle.c_tree.specs.declared.token.Keyword.TheVariants as word
use Rattle.c_tree.specs.declared.token.TokenKind.{TokenKind}
use Rattle.c_tree.specs.declared.token.TokenKind.TheVariants as k
use Rattle.c_tree.specs.declared.token.Token.{Token}
use Rattle.c_tree.specs.declared.expression.Mark.{Mark}
use Rattle.c_tree.specs.declared.expression.TypeName.{TypeName}
use Rattle.c_tree.specs.declared.expression.Expr.{Expr}
use Rattle.c_tree.specs.declared.expression.Expr.TheVariants as expr
use Rattle.c_tree.specs.declared.expression.Prefix.{Prefix, out-Prefix}
use Rattle.c_tree.specs.declared.expression.Prefix.TheVariants as prefix
use Rattle.c_tree.specs.declared.declarator.DeclaratorSuffix.TheOpen.{Prefix-F}
use Rattle.c_tree.specs.Layers.{PrefixLayer}
use Rattle.c_tree.specs.Spelling.Tokens.{token, punct, keyword, mark, joined}
use Rattle.c_tree.specs.Spelling.Trees.{expr_spelling, prefix_spelling, suffix_spelling, type_name_spelling, expr_spelling-Name, expr_spelling-Number, expr_spelling-Char, expr_spelling-Strings, expr_spelling-Paren, expr_spelling-SizeofType, expr_spelling-Prefixed, prefix_spelling-Operator, prefix_spelling-Sizeof, prefix_spelling-Cast}
use Rattle.c_tree.specs.Levels.Names.{Names, in_row}
use Rattle.c_tree.specs.Levels.Productions.{primary, postfix, prefixed, unary, cast, comma, none, joins}
use Rattle.c_tree.specs.Levels.Facts.{PrefixKind, Wrong, Loose, Tight, Typed, kind_of_mark, runs_on, begins_typed}
use Rattle.c_tree.specs.Levels.Trees.{expr_level, prefix_level, type_name_level}
use Rattle.c_grammar.specs.Laws.Tests.{and_false}
use Rattle.c_grammar.specs.Laws.Told.{expr_level-Strings, expr_level-Paren, expr_level-SizeofType, expr_level-Prefixed, prefix_level-Operator, prefix_level-Sizeof, prefix_level-Cast}
use Rattle.c_tree.specs.Nesting.Trees.{expr_nesting, prefix_nesting, expr_nesting-SizeofType, expr_nesting-Prefixed, prefix_nesting-Operator, prefix_nesting-Sizeof, prefix_nesting-Cast}
use Rattle.c_grammar.specs.Input.{Tokens, State, peek, behind, is_mark, sees, one, expect, opening, many_by}
use Rattle.c_grammar.specs.Punctuators.{same_mark}
use Rattle.c_grammar.specs.Read.Nodes.{with_run, begins_cast, is_tight, ties}
use Rattle.c_grammar.specs.Read.Inner.{Inner, type_name, is_sizeof, begins_type}
use Rattle.c_grammar.specs.Read.Expressions.{prefix_of, prefix_at, sizeof_at, is_prefix_mark, begins_mark, sees_cast, sees_sizeof_type, goes_prefix, postfixed, cast_prefix, one_prefix, sizeof_type, prefixed as read_prefixed, cast as read_cast}
use Rattle.c_grammar.specs.Ending.OfTrees.{Ending, run_target}
use Rattle.c_grammar.specs.Ending.Trees.{expr_ending, prefix_ending, expr_ending-SizeofType, expr_ending-Prefixed}
use Rattle.c_grammar.specs.Laws.Form.{Form, Exact, Node, Image, Split, Joint, only, seq, seq_exact, node_exact, joint_exact, same_exact, choose_exact, whole_exact, two, three, four}
use Rattle.c_grammar.specs.Laws.Lists.{Items, Kept, all_good, all_added, all_stop, list, list_exact, last_of, stop_made, added_in_row}
use Rattle.c_grammar.specs.Laws.Single.{single, one_exact, MadeOf, OneToken, pick_exact, always, opening_form, opening_exact, sees_mark}
use Rattle.c_grammar.specs.Laws.Rows.{pre, pre_exact, deeper, closed, closed_exact, bracketed, bracketed_exact}
use Rattle.c_grammar.specs.Laws.Cases.{ExprShape, expr_shape, PrefixShape, prefix_shape}
use Rattle.c_grammar.specs.Laws.Behind.{goes_on, expr_form, both_true, both_are, nat_le-true, nat_le-is, good_of, where_is, nat_le-false, over_gap, retarget}
use Rattle.c_grammar.specs.Laws.Numbers.{shape_number, number_within, tighter, level_low}
use Rattle.c_grammar.specs.Laws.Starts.{starts, peek_first, no_type}
use Rattle.c_grammar.specs.Laws.Postfix.{InsideExpr, postfix_exact, run_high, postfix_split, postfix_spelt, above_primary}
use Rattle.c_grammar.specs.Laws.Forms.{type_form}
use Rattle.c_grammar.specs.Laws.SpecifierStarts.{starts_seen}
use Rattle.c_grammar.specs.Laws.TypeNames.{type_starts, type_closes}

-- ---- one prefix

abbrev kind_fits : Bool → PrefixKind → Bool
kind_fits tight Wrong = false
kind_fits tight Typed = not tight
kind_fits tight _ = true

abbrev is_sizeof_layer : PrefixLayer → Bool
is_sizeof_layer (Prefix-F.Sizeof at) = true
is_sizeof_layer _ = false

unfoldable pub is_sizeof_prefix : Prefix → Bool
is_sizeof_prefix x = is_sizeof_layer (out-Prefix x)

abbrev prefix_form : Form Prefix
prefix_form = record {
  spell = prefix_spelling;
  good = λ names x. kind_fits false (prefix_level x names).0 ≡ true;
  adds = λ names x. (prefix_level x names).1;
  nest = prefix_nesting;
  stop = λ x names rest. Unit {0};
}

abbrev cast_of : (Pos × TypeName) × Pos → Prefix
cast_of t = prefix.Cast t.0.0 t.0.1 t.1

abbrev cast_form : Form ((Pos × TypeName) × Pos)
cast_form = bracketed p.LeftParen (deeper type_form) p.RightParen

cast_kind : (b : Bool) → b ≡ true → kind_fits false (if b then Typed else Wrong) ≡ true
cast_kind true h = refl
cast_kind false h = absurd cc

kind_cast : (b : Bool) → kind_fits false (if b then Typed else Wrong) ≡ true → b ≡ true
kind_cast true h = refl
kind_cast false h = absurd cc

cast_node : Node cast_form cast_of prefix_form
cast_node = record {
  good = λ names t g. ap (λ f. kind_fits false (f names).0) (prefix_level-Cast t.0.0 t.0.1 t.1) ∙ cast_kind (type_name_level t.0.1 names).0 g.0.1;
  parts = λ names t g. ((tt, kind_cast (type_name_level t.0.1 names).0 (sym (ap (λ f. kind_fits false (f names).0) (prefix_level-Cast t.0.0 t.0.1 t.1)) ∙ g)), tt);
  nested = λ t. prefix_nesting-Cast t.0.0 t.0.1 t.1 ∙ omega arith;
  spelt = λ t. prefix_spelling-Cast t.0.0 t.0.1 t.1;
  seen = λ names t. ap (λ f. (f names).1) (prefix_level-Cast t.0.0 t.0.1 t.1);
  stop = λ names t behind rest g h. tt;
  from_stop = λ names t behind rest g h. tt;
}

cast_prefix_exact : (more : ℕ) (inner : Inner) → Exact (deeper type_form) more (type_name inner) → Exact (only (Image cast_of) prefix_form) more (cast_prefix more inner)
unfolding cast_prefix
cast_prefix_exact more inner types =
    same_exact (only (Image cast_of) prefix_form) more _ (cast_prefix more inner) (three (opening more p.LeftParen) (λ from. type_name inner) (λ from type. expect p.RightParen) (λ from type to. prefix.Cast from type to))
    (node_exact cast_form cast_of prefix_form more _ (bracketed_exact p.LeftParen (deeper type_form) p.RightParen more (type_name inner) types type_closes) cast_node)

-- ---- which kind a prefix is of

kinds_tie : {x : Prefix} → PrefixShape x → (names : Names) → ties x ≡ is_tight (prefix_level x names).0
unfolding ties out-Prefix out
kinds_tie (PrefixShape.a_operator m) names = sym (ap (λ f. is_tight (f names).0) (prefix_level-Operator m))
kinds_tie (PrefixShape.a_sizeof at) names = sym (ap (λ f. is_tight (f names).0) (prefix_level-Sizeof at))
kinds_tie (PrefixShape.a_cast from type to) names = sym (ap (λ f. is_tight (f names).0) (prefix_level-Cast from type to) ∙ loose (type_name_level type names).0)
  where
    loose : (b : Bool) → is_tight (if b then Typed else Wrong) ≡ false
    loose true = refl
    loose false = refl

-- one token that is a prefix, as it is read

abbrev IsPlain : Prefix → Type 0
IsPlain x = Image prefix.Operator x ⊎ Image prefix.Sizeof x

mark_kind : (names : Names) (op : Punct) (place : Pos) (kind : PrefixKind) → kind_of_mark op ≡ kind → (a : Prefix) → prefix_of kind (record { punct = op; place = place }) ≡ Some a → IsPlain a × MadeOf prefix_form names (k.Punct op) place a
mark_kind names op place Wrong e a h = absurd cc
mark_kind names op place Typed e a h = absurd cc
mark_kind names op place Loose e a h =
    let m : Mark = record { punct = op; place = place } in
    let w : prefix.Operator m ≡ a = cc in
    subst (λ a. IsPlain a × MadeOf prefix_form names (k.Punct op) place a) w (
      inl (m, refl),
      record {
        good = ap (λ f. kind_fits false (f names).0) (prefix_level-Operator m) ∙ ap (kind_fits false) e;
        spelt = prefix_spelling-Operator m;
        seen = ap (λ f. (f names).1) (prefix_level-Operator m);
        nested = prefix_nesting-Operator m;
        stops = λ n rest. tt;
      },
    )
mark_kind names op place Tight e a h =
    let m : Mark = record { punct = op; place = place } in
    let w : prefix.Operator m ≡ a = cc in
    subst (λ a. IsPlain a × MadeOf prefix_form names (k.Punct op) place a) w (
      inl (m, refl),
      record {
        good = ap (λ f. kind_fits false (f names).0) (prefix_level-Operator m) ∙ ap (kind_fits false) e;
        spelt = prefix_spelling-Operator m;
        seen = ap (λ f. (f names).1) (prefix_level-Operator m);
        nested = prefix_nesting-Operator m;
        stops = λ n rest. tt;
      },
    )

sizeof_made : (names : Names) (key : Keyword) (place : Pos) (a : Prefix) → prefix_at names (k.Keyword key) place ≡ Some a → IsPlain a × MadeOf prefix_form names (k.Keyword key) place a
sizeof_made names word.Sizeof place a h =
    let w : prefix.Sizeof place ≡ a = cc in
    subst (λ a. IsPlain a × MadeOf prefix_form names (k.Keyword word.Sizeof) place a) w (
      inr (place, refl),
      record {
        good = ap (λ f. kind_fits false (f names).0) (prefix_level-Sizeof place);
        spelt = prefix_spelling-Sizeof place;
        seen = ap (λ f. (f names).1) (prefix_level-Sizeof place);
        nested = prefix_nesting-Sizeof place;
        stops = λ n rest. tt;
      },
    )
sizeof_made names _ place a h = absurd cc

plain_made : (names : Names) (kind : TokenKind) (place : Pos) (a : Prefix) → prefix_at names kind place ≡ Some a → IsPlain a × MadeOf prefix_form names kind place a
plain_made names (k.Punct op) place a h = mark_kind names op place (kind_of_mark op) refl a h
plain_made names (k.Keyword key) place a h = sizeof_made names key place a h
plain_made names (k.Name text) place a h = absurd cc
plain_made names (k.Number value kind) place a h = absurd cc
plain_made names (k.Char value) place a h = absurd cc
plain_made names (k.Bytes bytes) place a h = absurd cc

fitting : (op : Punct) (kind : PrefixKind) (m : Mark) → kind_of_mark op ≡ kind → kind_fits false kind ≡ true → prefix_of kind m ≡ Some (prefix.Operator m)
fitting op Wrong m e h = absurd cc
fitting op Loose m e h = refl
fitting op Tight m e h = refl
fitting op Typed m e h = absurd (mark_untyped op e)
  where
    mark_untyped : (op : Punct) → kind_of_mark op ≡ Typed → ⊥
    mark_untyped p.Ampersand e = cc
    mark_untyped p.Star e = cc
    mark_untyped p.Plus e = cc
    mark_untyped p.Minus e = cc
    mark_untyped p.Tilde e = cc
    mark_untyped p.Not e = cc
    mark_untyped p.Increment e = cc
    mark_untyped p.Decrement e = cc
    mark_untyped _ e = cc

plain_taken : (names : Names) (a : Prefix) → IsPlain a → kind_fits false (prefix_level a names).0 ≡ true → OneToken prefix_form prefix_at names a
plain_taken names a (inl i) g =
    let m : Mark = i.0 in
    subst (λ a. kind_fits false (prefix_level a names).0 ≡ true → OneToken prefix_form prefix_at names a) i.1 (λ g. record {
      kind = k.Punct m.punct;
      place = m.place;
      spelt = prefix_spelling-Operator m;
      seen = ap (λ f. (f names).1) (prefix_level-Operator m);
      picked = fitting m.punct (kind_of_mark m.punct) m refl (sym (ap (λ f. kind_fits false (f names).0) (prefix_level-Operator m)) ∙ g);
    }) g
plain_taken names a (inr i) g =
    subst (λ a. OneToken prefix_form prefix_at names a) i.1 (record {
      kind = k.Keyword word.Sizeof;
      place = i.0;
      spelt = prefix_spelling-Sizeof i.0;
      seen = ap (λ f. (f names).1) (prefix_level-Sizeof i.0);
      picked = refl;
    })

plain_exact : (more : ℕ) → Exact (only IsPlain prefix_form) more (one prefix_at)
plain_exact more = pick_exact prefix_form IsPlain prefix_at plain_made plain_taken more

-- ---- how a prefix begins

mark_open : (op : Punct) → kind_fits false (kind_of_mark op) ≡ true → same_mark op p.LeftParen ≡ false
mark_open p.LeftParen h = absurd cc
mark_open _ h = refl

operator_shut : (names seen : Names) (m : Mark) (rest : Tokens) → kind_fits false (prefix_level (prefix.Operator m) names).0 ≡ true → sees p.LeftParen (seen, prefix_spelling (prefix.Operator m) ++ rest) ≡ false
operator_shut names seen m rest g =
    ap (λ l. sees p.LeftParen (seen, l ++ rest)) (prefix_spelling-Operator m) ∙ ap (is_mark p.LeftParen) (peek_first (mark m) rest)
    ∙ mark_open m.punct (sym (ap (λ f. kind_fits false (f names).0) (prefix_level-Operator m)) ∙ g)

sizeof_shut : (seen : Names) (at : Pos) (rest : Tokens) → sees p.LeftParen (seen, prefix_spelling (prefix.Sizeof at) ++ rest) ≡ false
sizeof_shut seen at rest = ap (λ l. sees p.LeftParen (seen, l ++ rest)) (prefix_spelling-Sizeof at) ∙ ap (is_mark p.LeftParen) (peek_first (keyword word.Sizeof at) rest)

plain_shut : (names seen : Names) (x : Prefix) (rest : Tokens) → IsPlain x → kind_fits false (prefix_level x names).0 ≡ true → sees p.LeftParen (seen, prefix_spelling x ++ rest) ≡ false
plain_shut names seen x rest (inl i) g = subst (λ x. kind_fits false (prefix_level x names).0 ≡ true → sees p.LeftParen (seen, prefix_spelling x ++ rest) ≡ false) i.1 (operator_shut names seen i.0 rest) g
plain_shut names seen x rest (inr i) g = subst (λ x. sees p.LeftParen (seen, prefix_spelling x ++ rest) ≡ false) i.1 (sizeof_shut seen i.0 rest)

cast_open : (seen : Names) (x : Prefix) (rest : Tokens) → Image cast_of x → sees p.LeftParen (seen, prefix_spelling x ++ rest) ≡ true
cast_open seen x rest i = subst (λ x. sees p.LeftParen (seen, prefix_spelling x ++ rest) ≡ true) i.1
    (ap (λ l. sees p.LeftParen (seen, l ++ rest)) (prefix_spelling-Cast i.0.0.0 i.0.0.1 i.0.1) ∙ sees_mark p.LeftParen seen i.0.0.0 _)

prefix_is : {x : Prefix} → PrefixShape x → Image cast_of x ⊎ IsPlain x
prefix_is (PrefixShape.a_operator m) = inr (inl (m, refl))
prefix_is (PrefixShape.a_sizeof at) = inr (inr (at, refl))
prefix_is (PrefixShape.a_cast from type to) = inl (((from, type), to), refl)

prefix_exact : (more : ℕ) (inner : Inner) → Exact (deeper type_form) more (type_name inner) → Exact prefix_form more (one_prefix more inner)
unfolding one_prefix
prefix_exact more inner types =
    whole_exact (λ x. Image cast_of x ⊎ IsPlain x) prefix_form more _ (λ names x g. prefix_is (prefix_shape x))
    (choose_exact (Image cast_of) IsPlain prefix_form more (sees p.LeftParen) (cast_prefix more inner) (one prefix_at) (cast_prefix_exact more inner types) (plain_exact more)
    (λ names x rest i g s. cast_open names x rest i) (λ names x rest i g s. plain_shut names names x rest i g))

-- ---- `(` type name `)` is seen

behind_first : (t : Token) (ts : Tokens) → behind (t ∷ ts) ≡ ts
unfolding behind
behind_first t ts = refl

-- `(` and a type name, whatever stands behind
sees_type : (names : Names) (from : Pos) (type : TypeName) (rest : Tokens) → (type_name_level type names).0 ≡ true → sees_cast (names, punct p.LeftParen from ∷ (type_name_spelling type ++ rest)) ≡ true
unfolding sees_cast
sees_type names from type rest g =
    both_are _ _ (sees_mark p.LeftParen names from (type_name_spelling type ++ rest))
    (ap (λ l. begins_type names (peek l)) (behind_first (punct p.LeftParen from) (type_name_spelling type ++ rest)) ∙ starts_seen false false names (type_name_spelling type) rest (type_starts names type g))

no_paren_no_cast : (names : Names) (ts : Tokens) → sees p.LeftParen (names, ts) ≡ false → sees_cast (names, ts) ≡ false
unfolding sees_cast
no_paren_no_cast names ts h = ap (λ b. b && begins_type names (peek (behind ts))) h

cast_seen : (names : Names) (from : Pos) (type : TypeName) (to : Pos) (rest : Tokens) → (type_name_level type names).0 ≡ true → sees_cast (names, prefix_spelling (prefix.Cast from type to) ++ rest) ≡ true
cast_seen names from type to rest g =
    ap (λ l. sees_cast (names, l ++ rest)) (prefix_spelling-Cast from type to) ∙ ap (λ l. sees_cast (names, punct p.LeftParen from ∷ l)) (append_assoc (type_name_spelling type) (punct p.RightParen to ∷ []) rest)
    ∙ sees_type names from type (punct p.RightParen to ∷ rest) g

-- ---- a run

abbrev pub prefix_items : Items Bool Prefix
prefix_items = record {
  spell = prefix_spelling;
  good = λ tight names x. kind_fits tight (prefix_level x names).0 ≡ true;
  adds = prefix_form.adds;
  nest = prefix_nesting;
  stop = λ x names rest. (is_sizeof_prefix x && sees_cast (names, rest)) ≡ false;
  goes = goes_prefix;
  step = λ tight x. ties x;
}

fits_less : (tight : Bool) (kind : PrefixKind) → kind_fits tight kind ≡ true → kind_fits false kind ≡ true
fits_less tight Wrong h = absurd cc
fits_less tight Loose h = refl
fits_less tight Tight h = refl
fits_less tight Typed h = refl

or_left : (a b : Bool) → a ≡ true → (a || b) ≡ true
or_left a b h = rw h refl

mark_begins : (op : Punct) (kind : PrefixKind) → kind_of_mark op ≡ kind → kind_fits false kind ≡ true → is_prefix_mark kind ≡ true
mark_begins op Wrong e h = absurd cc
mark_begins op Loose e h = refl
mark_begins op Tight e h = refl
mark_begins p.LeftBracket Typed e h = absurd cc
mark_begins p.Ampersand Typed e h = absurd cc
mark_begins p.Star Typed e h = absurd cc
mark_begins p.Plus Typed e h = absurd cc
mark_begins p.Minus Typed e h = absurd cc
mark_begins p.Tilde Typed e h = absurd cc
mark_begins p.Not Typed e h = absurd cc
mark_begins p.Increment Typed e h = absurd cc
mark_begins p.Decrement Typed e h = absurd cc
mark_begins _ Typed e h = absurd cc

untied : (tight b : Bool) → kind_fits tight (if b then Typed else Wrong) ≡ true → (tight ≡ false) × (b ≡ true)
untied true true h = absurd cc
untied false true h = (refl, refl)
untied tight false h = absurd cc

sizeof_plain : (at : Pos) → is_sizeof_prefix (prefix.Sizeof at) ≡ true
unfolding is_sizeof_prefix out-Prefix out
sizeof_plain at = refl

shape_goes : {x : Prefix} → PrefixShape x → (tight : Bool) (names : Names) (rest : Tokens) → kind_fits tight (prefix_level x names).0 ≡ true → (is_sizeof_prefix x && sees_cast (names ++ (prefix_level x names).1, rest)) ≡ false → goes_prefix tight (names, prefix_spelling x ++ rest) ≡ true
unfolding goes_prefix sees_sizeof_type
shape_goes (PrefixShape.a_operator m) tight names rest g st =
    or_left _ _ (ap (λ l. begins_mark (peek (l ++ rest))) (prefix_spelling-Operator m) ∙ ap begins_mark (peek_first (mark m) rest)
    ∙ mark_begins m.punct (kind_of_mark m.punct) refl (fits_less tight _ (sym (ap (λ f. kind_fits tight (f names).0) (prefix_level-Operator m)) ∙ g)))
shape_goes (PrefixShape.a_sizeof at) tight names rest g st =
    let quiet : sees_cast (names, rest) ≡ false = subst (λ n. sees_cast (n, rest) ≡ false) (ap (λ l. names ++ l) (ap (λ f. (f names).1) (prefix_level-Sizeof at)) ∙ append-nil names)
    (subst (λ b. (b && sees_cast (names ++ (prefix_level (prefix.Sizeof at) names).1, rest)) ≡ false) (sizeof_plain at) st) in
    ap (λ l. goes_prefix tight (names, l ++ rest)) (prefix_spelling-Sizeof at) ∙ sizeof_goes quiet
  where
    sizeof_goes : sees_cast (names, rest) ≡ false → goes_prefix tight (names, keyword word.Sizeof at ∷ rest) ≡ true
    sizeof_goes q = rw (peek_first (keyword word.Sizeof at) rest, behind_first (keyword word.Sizeof at) rest, q) refl
shape_goes (PrefixShape.a_cast from type to) tight names rest g st =
    let u = untied tight (type_name_level type names).0 (sym (ap (λ f. kind_fits tight (f names).0) (prefix_level-Cast from type to)) ∙ g) in
    or_right (begins_mark (peek (prefix_spelling (prefix.Cast from type to) ++ rest))) _ (or_right (is_sizeof (peek (prefix_spelling (prefix.Cast from type to) ++ rest)) && not (sees_sizeof_type (names, prefix_spelling (prefix.Cast from type to) ++ rest))) _
    (both_are (not tight) _ (ap not u.0) (cast_seen names from type to rest u.1)))
  where
    or_right : (a b : Bool) → b ≡ true → (a || b) ≡ true
    or_right true b h = refl
    or_right false b h = h

-- ---- what was read where a prefix comes next

mark_fits : (op : Punct) (tight : Bool) → kind_fits false (kind_of_mark op) ≡ true → kind_fits tight (kind_of_mark op) ≡ true
mark_fits p.Ampersand tight h = refl
mark_fits p.Star tight h = refl
mark_fits p.Plus tight h = refl
mark_fits p.Minus tight h = refl
mark_fits p.Tilde tight h = refl
mark_fits p.Not tight h = refl
mark_fits p.Increment tight h = refl
mark_fits p.Decrement tight h = refl
mark_fits _ tight h = absurd cc

not_both : (a b c : Bool) → ((true && not a) || (b && c)) ≡ true → c ≡ false → a ≡ false
not_both true b true h e = absurd cc
not_both true true false h e = absurd cc
not_both true false false h e = absurd cc
not_both false b c h e = refl

sizeof_next : (tight : Bool) (names : Names) (at : Pos) (rest : Tokens) → goes_prefix tight (names, keyword word.Sizeof at ∷ rest) ≡ true → sees_cast (names, rest) ≡ false
unfolding goes_prefix sees_sizeof_type
sizeof_next tight names at rest h =
    let shut : sees_cast (names, keyword word.Sizeof at ∷ rest) ≡ false = no_paren_no_cast names (keyword word.Sizeof at ∷ rest) (ap (is_mark p.LeftParen) (peek_first (keyword word.Sizeof at) rest)) in
    let h1 = rw (peek_first (keyword word.Sizeof at) rest, behind_first (keyword word.Sizeof at) rest) at h in
    not_both (sees_cast (names, rest)) (not tight) (sees_cast (names, keyword word.Sizeof at ∷ rest)) h1 shut

both_left : (a b : Bool) → (a && b) ≡ true → a ≡ true
both_left true b h = refl
both_left false b h = absurd cc

cast_next : (tight : Bool) (names : Names) (from : Pos) (rest : Tokens) → goes_prefix tight (names, punct p.LeftParen from ∷ rest) ≡ true → not tight ≡ true
unfolding goes_prefix sees_sizeof_type
cast_next tight names from rest h =
    let h1 = rw (peek_first (punct p.LeftParen from) rest) at h in
    both_left (not tight) _ h1

fits_cast : (tight b : Bool) → not tight ≡ true → kind_fits false (if b then Typed else Wrong) ≡ true → kind_fits tight (if b then Typed else Wrong) ≡ true
fits_cast tight true t h = t
fits_cast tight false t h = absurd cc

operator_no_sizeof : (m : Mark) (b : Bool) → (is_sizeof_prefix (prefix.Operator m) && b) ≡ false
unfolding is_sizeof_prefix out-Prefix out
operator_no_sizeof m b = refl

cast_no_sizeof : (from : Pos) (type : TypeName) (to : Pos) (b : Bool) → (is_sizeof_prefix (prefix.Cast from type to) && b) ≡ false
unfolding is_sizeof_prefix out-Prefix out
cast_no_sizeof from type to b = refl

sizeof_is : (at : Pos) (b : Bool) → b ≡ false → (is_sizeof_prefix (prefix.Sizeof at) && b) ≡ false
unfolding is_sizeof_prefix out-Prefix out
sizeof_is at b h = h

shape_sound : {x : Prefix} → PrefixShape x → (tight : Bool) (names : Names) (ts : Tokens) (end : State) → ts ≡ prefix_spelling x ++ end.1 → end.0 ≡ names ++ (prefix_level x names).1 → goes_prefix tight (names, ts) ≡ true
    → kind_fits false (prefix_level x names).0 ≡ true → (kind_fits tight (prefix_level x names).0 ≡ true) × ((is_sizeof_prefix x && sees_cast end) ≡ false)
shape_sound (PrefixShape.a_operator m) tight names ts end e seen go g =
    (ap (λ f. kind_fits tight (f names).0) (prefix_level-Operator m) ∙ mark_fits m.punct tight (sym (ap (λ f. kind_fits false (f names).0) (prefix_level-Operator m)) ∙ g), operator_no_sizeof m (sees_cast end))
shape_sound (PrefixShape.a_sizeof at) tight names ts end e seen go g =
    let e1 : ts ≡ keyword word.Sizeof at ∷ end.1 = e ∙ ap (λ l. l ++ end.1) (prefix_spelling-Sizeof at) in
    let n : names ≡ end.0 = sym (seen ∙ ap (λ l. names ++ l) (ap (λ f. (f names).1) (prefix_level-Sizeof at)) ∙ append-nil names) in
    let q = sizeof_next tight names at end.1 (subst (λ l. goes_prefix tight (names, l) ≡ true) e1 go) in
    (ap (λ f. kind_fits tight (f names).0) (prefix_level-Sizeof at), sizeof_is at (sees_cast end) (subst (λ m. sees_cast (m, end.1) ≡ false) n q))
shape_sound (PrefixShape.a_cast from type to) tight names ts end e seen go g =
    let e1 : ts ≡ punct p.LeftParen from ∷ ((type_name_spelling type ++ punct p.RightParen to ∷ []) ++ end.1) = e ∙ ap (λ l. l ++ end.1) (prefix_spelling-Cast from type to) in
    let t = cast_next tight names from _ (subst (λ l. goes_prefix tight (names, l) ≡ true) e1 go) in (
      ap (λ f. kind_fits tight (f names).0) (prefix_level-Cast from type to) ∙ fits_cast tight (type_name_level type names).0 t (sym (ap (λ f. kind_fits false (f names).0) (prefix_level-Cast from type to)) ∙ g),
      cast_no_sizeof from type to (sees_cast end),
    )

ties_sizeof : (at : Pos) → ties (prefix.Sizeof at) ≡ true
unfolding ties out-Prefix out
ties_sizeof at = refl

-- no cast stands behind `sizeof`
tied_shut : {y : Prefix} → PrefixShape y → (names : Names) (rest : Tokens) → kind_fits true (prefix_level y names).0 ≡ true → sees_cast (names, prefix_spelling y ++ rest) ≡ false
tied_shut (PrefixShape.a_operator m) names rest g = no_paren_no_cast names _ (operator_shut names names m rest (fits_less true _ g))
tied_shut (PrefixShape.a_sizeof at) names rest g = no_paren_no_cast names _ (sizeof_shut names at rest)
tied_shut (PrefixShape.a_cast from type to) names rest g =
    absurd (let u = untied true (type_name_level type names).0 (sym (ap (λ f. kind_fits true (f names).0) (prefix_level-Cast from type to)) ∙ g) in let z = u.0 in cc)

shape_follows : {x : Prefix} → PrefixShape x → (names : Names) (y : Prefix) (rest : Tokens) → kind_fits (ties x) (prefix_level y names).0 ≡ true → (is_sizeof_prefix x && sees_cast (names, prefix_spelling y ++ rest)) ≡ false
shape_follows (PrefixShape.a_operator m) names y rest g = operator_no_sizeof m _
shape_follows (PrefixShape.a_sizeof at) names y rest g = sizeof_is at _ (tied_shut (prefix_shape y) names rest (subst (λ b. kind_fits b (prefix_level y names).0 ≡ true) (ties_sizeof at) g))
shape_follows (PrefixShape.a_cast from type to) names y rest g = cast_no_sizeof from type to _

no_prefix : (tight : Bool) (names : Names) → goes_prefix tight (names, []) ≡ false
unfolding goes_prefix sees_sizeof_type sees_cast peek
no_prefix tight names = and_false (not tight)

some_prefix : {x : Prefix} → PrefixShape x → 0 < length (prefix_spelling x)
some_prefix (PrefixShape.a_operator m) = rw (prefix_spelling-Operator m) (omega arith)
some_prefix (PrefixShape.a_sizeof at) = rw (prefix_spelling-Sizeof at) (omega arith)
some_prefix (PrefixShape.a_cast from type to) = rw (prefix_spelling-Cast from type to) (omega arith)

prefixes_kept : (more : ℕ) (inner : Inner) → Exact (deeper type_form) more (type_name inner) → Kept prefix_items more (λ s. one_prefix more inner)
prefixes_kept more inner types = record {
  sound = λ s names ts x end go h.
      let g = (prefix_exact more inner types).sound names ts x end h in
      let w = shape_sound (prefix_shape x) s names ts end g.spelt g.seen go g.good in
      record { good = w.0; nested = g.nested; spelt = g.spelt; seen = g.seen; stops = w.1 };
  complete = λ s names x rest g n st. (prefix_exact more inner types).complete names x rest (fits_less s _ g) n tt;
  starts = λ s names x rest g st. shape_goes (prefix_shape x) s names rest g st;
  ends = no_prefix;
  follows = λ s names x y rest g h st. shape_follows (prefix_shape x) (names ++ (prefix_level x names).1) y rest h;
  some = λ s names x g. some_prefix (prefix_shape x);
}

-- what the levels tell of a run

kind_step : (tight : Bool) (kind : PrefixKind) (kinds : List PrefixKind) → runs_on tight (kind ∷ kinds) ≡ true → (kind_fits tight kind ≡ true) × (runs_on (is_tight kind) kinds ≡ true)
kind_step tight Wrong kinds h = absurd cc
kind_step tight Loose kinds h = (refl, h)
kind_step tight Tight kinds h = (refl, h)
kind_step tight Typed kinds h = both_true (not tight) _ h

step_kind : (tight : Bool) (kind : PrefixKind) (kinds : List PrefixKind) → kind_fits tight kind ≡ true → runs_on (is_tight kind) kinds ≡ true → runs_on tight (kind ∷ kinds) ≡ true
step_kind tight Wrong kinds g h = absurd cc
step_kind tight Loose kinds g h = h
step_kind tight Tight kinds g h = h
step_kind tight Typed kinds g h = both_are (not tight) _ g h

run_are : (tight : Bool) (names : Names) (xs : List Prefix) → runs_on tight (in_row (map prefix_level xs) names).0 ≡ true → all_good prefix_items tight names xs
run_are tight names [] h = tt
run_are tight names (x ∷ xs) h =
    let k = kind_step tight (prefix_level x names).0 (in_row (map prefix_level xs) (names ++ (prefix_level x names).1)).0 h in
    (k.0, run_are (ties x) (names ++ (prefix_level x names).1) xs (subst (λ b. runs_on b (in_row (map prefix_level xs) (names ++ (prefix_level x names).1)).0 ≡ true) (sym (kinds_tie (prefix_shape x) names)) k.1))

run_told : (tight : Bool) (names : Names) (xs : List Prefix) → all_good prefix_items tight names xs → runs_on tight (in_row (map prefix_level xs) names).0 ≡ true
run_told tight names [] g = refl
run_told tight names (x ∷ xs) g =
    step_kind tight (prefix_level x names).0 _ g.0
    (subst (λ b. runs_on b (in_row (map prefix_level xs) (names ++ (prefix_level x names).1)).0 ≡ true) (kinds_tie (prefix_shape x) names) (run_told (ties x) (names ++ (prefix_level x names).1) xs g.1))

-- ---- what stands behind a run begins with no prefix

pub record NoPrefix (names : Names) (ts : Tokens) : Type 0 where
  pub goes : (tight : Bool) → goes_prefix tight (names, ts) ≡ false
  pub casts : sees_cast (names, ts) ≡ false

-- by the first token, where it is no mark
unmarked : (names : Names) (t : Token) (ts : Tokens) → begins_mark (Some t.kind) ≡ false → is_sizeof (Some t.kind) ≡ false → sees_cast (names, t ∷ ts) ≡ false → NoPrefix names (t ∷ ts)
unfolding goes_prefix sees_sizeof_type
unmarked names t ts a b c = record { goes = λ tight. rw (peek_first t ts, a, b, c) (and_false (not tight)); casts = c }

unopened : (names : Names) (t : Token) (ts : Tokens) → begins_mark (Some t.kind) ≡ false → is_sizeof (Some t.kind) ≡ false → is_mark p.LeftParen (Some t.kind) ≡ false → NoPrefix names (t ∷ ts)
unopened names t ts a b c = unmarked names t ts a b (no_paren_no_cast names (t ∷ ts) (ap (is_mark p.LeftParen) (peek_first t ts) ∙ c))

paren_no_cast : (names : Names) (from to : Pos) (inner : Expr) (rest : Tokens) → (expr_level inner names).0 ≤ comma → sees_cast (names, punct p.LeftParen from ∷ (expr_spelling inner ++ rest)) ≡ false
unfolding sees_cast
paren_no_cast names from to inner rest g =
    let s = starts names inner (omega arith) in
    ap (λ l. sees p.LeftParen (names, punct p.LeftParen from ∷ l) && begins_type names (peek (behind (punct p.LeftParen from ∷ l)))) (ap (λ l. l ++ rest) s.spelt)
    ∙ ap (λ l. sees p.LeftParen (names, punct p.LeftParen from ∷ (s.first ∷ (s.others ++ rest))) && begins_type names (peek l)) (behind_first (punct p.LeftParen from) (s.first ∷ (s.others ++ rest)))
    ∙ ap (λ o. sees p.LeftParen (names, punct p.LeftParen from ∷ (s.first ∷ (s.others ++ rest))) && begins_type names o) (peek_first s.first (s.others ++ rest))
    ∙ ap (λ b. sees p.LeftParen (names, punct p.LeftParen from ∷ (s.first ∷ (s.others ++ rest))) && b) (no_type names s.first.kind s.good) ∙ and_false _

primary_no_prefix : {x : Expr} → ExprShape x → (names : Names) (rest : Tokens) → (expr_level x names).0 ≤ primary → NoPrefix names (expr_spelling x ++ rest)
primary_no_prefix (ExprShape.a_name id) names rest h = subst (λ l. NoPrefix names (l ++ rest)) (sym (expr_spelling-Name id)) (unopened names _ rest refl refl refl)
primary_no_prefix (ExprShape.a_number value kind at) names rest h = subst (λ l. NoPrefix names (l ++ rest)) (sym (expr_spelling-Number value kind at)) (unopened names _ rest refl refl refl)
primary_no_prefix (ExprShape.a_char value at) names rest h = subst (λ l. NoPrefix names (l ++ rest)) (sym (expr_spelling-Char value at)) (unopened names _ rest refl refl refl)
primary_no_prefix (ExprShape.a_strings []) names rest h = absurd (let b = (good_of false primary primary (rw (expr_level-Strings []) at h) (omega arith)).0 in cc)
primary_no_prefix (ExprShape.a_strings (l ∷ ls)) names rest h = subst (λ l. NoPrefix names (l ++ rest)) (sym (expr_spelling-Strings (l ∷ ls))) (unopened names _ _ refl refl refl)
primary_no_prefix (ExprShape.a_paren from inner to) names rest h =
    let g = nat_le-true (expr_level inner names).0 comma (good_of _ primary primary (rw (expr_level-Paren from inner to) at h) (omega arith)).0 in
    let flat : (punct p.LeftParen from ∷ (expr_spelling inner ++ punct p.RightParen to ∷ [])) ++ rest ≡ punct p.LeftParen from ∷ (expr_spelling inner ++ (punct p.RightParen to ∷ rest)) =
    ap (λ l. punct p.LeftParen from ∷ l) (append_assoc (expr_spelling inner) (punct p.RightParen to ∷ []) rest) in
    subst (NoPrefix names) (sym (ap (λ l. l ++ rest) (expr_spelling-Paren from inner to) ∙ flat))
    (unmarked names (punct p.LeftParen from) _ refl refl (paren_no_cast names from to inner (punct p.RightParen to ∷ rest) g))
primary_no_prefix (ExprShape.a_postfix a xs) names rest h = absurd (above_primary (ExprShape.a_postfix a xs) names h (omega arith))
primary_no_prefix (ExprShape.a_sizeof_type at from type to) names rest h = absurd (above_primary (ExprShape.a_sizeof_type at from type to) names h (omega arith))
primary_no_prefix (ExprShape.a_prefixed run a) names rest h = absurd (above_primary (ExprShape.a_prefixed run a) names h (let l = run_high (begins_cast run) in omega arith))
primary_no_prefix (ExprShape.a_binary lv a ns) names rest h = absurd (above_primary (ExprShape.a_binary lv a ns) names h (let l = level_low lv in omega arith))
primary_no_prefix (ExprShape.a_conditional a bs) names rest h = absurd (above_primary (ExprShape.a_conditional a bs) names h (omega arith))
primary_no_prefix (ExprShape.a_assign a ns) names rest h = absurd (above_primary (ExprShape.a_assign a ns) names h (omega arith))
primary_no_prefix (ExprShape.a_comma a ns) names rest h = absurd (above_primary (ExprShape.a_comma a ns) names h (omega arith))

postfix_no_prefix : (names : Names) (x : Expr) (rest : Tokens) → (expr_level x names).0 ≤ postfix → NoPrefix names (expr_spelling x ++ rest)
postfix_no_prefix names x rest h =
    let t = postfix_split (expr_shape x) names h in
    let a : Expr = t.tuple.0 in
    let n = primary_no_prefix (expr_shape a) names (joined (map suffix_spelling t.tuple.1) ++ rest) t.good.0 in
    subst (λ x. NoPrefix names (expr_spelling x ++ rest)) t.whole
    (subst (NoPrefix names) (sym (ap (λ l. l ++ rest) (postfix_spelt a t.tuple.1) ∙ append_assoc (expr_spelling a) (joined (map suffix_spelling t.tuple.1)) rest)) n)

sizeof_no_prefix : (names : Names) (at from : Pos) (type : TypeName) (rest : Tokens) → (type_name_level type names).0 ≡ true → NoPrefix names (keyword word.Sizeof at ∷ (punct p.LeftParen from ∷ (type_name_spelling type ++ rest)))
unfolding goes_prefix sees_sizeof_type
sizeof_no_prefix names at from type rest g =
    let tail : Tokens = punct p.LeftParen from ∷ (type_name_spelling type ++ rest) in
    let shut : sees_cast (names, keyword word.Sizeof at ∷ tail) ≡ false = no_paren_no_cast names (keyword word.Sizeof at ∷ tail) (ap (is_mark p.LeftParen) (peek_first (keyword word.Sizeof at) tail)) in
    record { goes = λ tight. rw (peek_first (keyword word.Sizeof at) tail, behind_first (keyword word.Sizeof at) tail, sees_type names from type rest g, shut) (and_false (not tight)); casts = shut }

-- ---- `sizeof` `(` type name `)`

abbrev sizeof_form : Form Pos
sizeof_form = single (keyword word.Sizeof) always

sizeof_key : (names : Names) (key : Keyword) (place a : Pos) → sizeof_at names (k.Keyword key) place ≡ Some a → (keyword word.Sizeof a ≡ token (k.Keyword key) place) × Unit {0}
sizeof_key names word.Sizeof place a h = let e : place ≡ a = cc in (ap (keyword word.Sizeof) (sym e), tt)
sizeof_key names _ place a h = absurd cc

sizeof_picks : (names : Names) (kind : TokenKind) (place a : Pos) → sizeof_at names kind place ≡ Some a → (keyword word.Sizeof a ≡ token kind place) × Unit {0}
sizeof_picks names (k.Keyword key) place a h = sizeof_key names key place a h
sizeof_picks names (k.Punct op) place a h = absurd cc
sizeof_picks names (k.Name text) place a h = absurd cc
sizeof_picks names (k.Number value kind) place a h = absurd cc
sizeof_picks names (k.Char value) place a h = absurd cc
sizeof_picks names (k.Bytes bytes) place a h = absurd cc

abbrev sizeof_of : ((Pos × Pos) × TypeName) × Pos → Expr
sizeof_of t = expr.SizeofType t.0.0.0 t.0.0.1 t.0.1 t.1

abbrev sizeof_parts : Form (((Pos × Pos) × TypeName) × Pos)
sizeof_parts = closed (pre (pre sizeof_form (λ _. opening_form p.LeftParen)) (λ _. deeper type_form)) p.RightParen

abbrev pub sized : Ending
sized = record { text = false; size = true; target = true }

sized_by : (b : Bool) (j : ℕ) → nat_le j postfix ≡ b → postfix < cond b none j
sized_by true j e = omega arith
sized_by false j e = nat_le-false j postfix e

pub sized_stop : (o : Option TokenKind) → postfix < goes_on sized o
sized_stop None = omega arith
sized_stop (Some (k.Punct op)) = sized_by (nat_le (joins op) postfix) (joins op) refl
sized_stop (Some (k.Bytes bytes)) = omega arith
sized_stop (Some (k.Keyword key)) = omega arith
sized_stop (Some (k.Name text)) = omega arith
sized_stop (Some (k.Number value kind)) = omega arith
sized_stop (Some (k.Char value)) = omega arith

sizeof_node : Node sizeof_parts sizeof_of (expr_form prefixed)
sizeof_node = record {
  good = λ names t g. rw (expr_level-SizeofType t.0.0.0 t.0.0.1 t.0.1 t.1) (where_is _ prefixed prefixed g.0.1 (omega arith));
  parts = λ names t g. (((tt, tt), (good_of (type_name_level t.0.1 names).0 prefixed prefixed (rw (expr_level-SizeofType t.0.0.0 t.0.0.1 t.0.1 t.1) at g) (omega arith)).0), tt);
  nested = λ t. expr_nesting-SizeofType t.0.0.0 t.0.0.1 t.0.1 t.1 ∙ omega arith;
  spelt = λ t. expr_spelling-SizeofType t.0.0.0 t.0.0.1 t.0.1 t.1;
  seen = λ names t. ap (λ f. (f names).1) (expr_level-SizeofType t.0.0.0 t.0.0.1 t.0.1 t.1);
  stop = λ names t behind rest g h. subst (λ e. prefixed < goes_on e (peek rest)) (sym (expr_ending-SizeofType t.0.0.0 t.0.0.1 t.0.1 t.1)) (let a = over_gap sized (peek rest) (sized_stop (peek rest)) in omega arith);
  from_stop = λ names t behind rest g h. tt;
}

sizeof_exact : (more : ℕ) (inner : Inner) → Exact (deeper type_form) more (type_name inner) → Exact (only (Image sizeof_of) (expr_form prefixed)) more (sizeof_type more inner)
unfolding sizeof_type
sizeof_exact more inner types =
    same_exact (only (Image sizeof_of) (expr_form prefixed)) more _ (sizeof_type more inner)
    (four (one sizeof_at) (λ at. opening more p.LeftParen) (λ at from. type_name inner) (λ at from type. expect p.RightParen) (λ at from type to. expr.SizeofType at from type to))
    (node_exact sizeof_parts sizeof_of (expr_form prefixed) more _
    (closed_exact (pre (pre sizeof_form (λ _. opening_form p.LeftParen)) (λ _. deeper type_form)) p.RightParen more _
    (pre_exact (pre sizeof_form (λ _. opening_form p.LeftParen)) (λ _. deeper type_form) more _ (λ t. type_name inner) (λ names t. refl)
    (pre_exact sizeof_form (λ _. opening_form p.LeftParen) more (one sizeof_at) (λ _. opening more p.LeftParen) (λ names a. refl)
    (one_exact (keyword word.Sizeof) always sizeof_at sizeof_picks (λ names a g. refl) more) (λ _. opening_exact p.LeftParen more) (λ names a b rest g h s. tt))
    (λ _. types) (λ names a b rest g h s. tt))
    (λ names t at rest g. type_closes names t.1 at rest g.1)) sizeof_node)

-- ---- what may stand behind a run

tail_sound : (more : ℕ) (inner : Inner) → InsideExpr more inner → Exact (only (λ x. shape_number (expr_shape x) ≤ postfix) (expr_form prefixed)) more (postfixed more inner)
tail_sound more inner inside =
    let e = postfix_exact more inner inside in record {
      sound = λ names ts x s h.
          let g = e.sound names ts x s h in
          record {
            good = (number_within (expr_shape x) names postfix g.good (omega arith), let a = g.good in omega arith);
            nested = g.nested;
            spelt = g.spelt;
            seen = g.seen;
            stops = let a = over_gap (expr_ending x) (peek s.1) g.stops in omega arith;
          };
      complete = λ names x rest g n st. e.complete names x rest (let h = g.1 in tighter (expr_shape x) names postfix (omega arith) g.0) n (omega arith);
    }

first_sizeof : (names : Names) (x : Expr) (rest : Tokens) → Image sizeof_of x → is_sizeof (peek (expr_spelling x ++ rest)) ≡ true
first_sizeof names x rest i = subst (λ x. is_sizeof (peek (expr_spelling x ++ rest)) ≡ true) i.1
    (ap (λ l. is_sizeof (peek (l ++ rest))) (expr_spelling-SizeofType i.0.0.0.0 i.0.0.0.1 i.0.0.1 i.0.1) ∙ ap is_sizeof (peek_first (keyword word.Sizeof i.0.0.0.0) _))

primary_no_sizeof : {x : Expr} → ExprShape x → (names : Names) (rest : Tokens) → (expr_level x names).0 ≤ primary → is_sizeof (peek (expr_spelling x ++ rest)) ≡ false
primary_no_sizeof (ExprShape.a_name id) names rest h = ap (λ l. is_sizeof (peek (l ++ rest))) (expr_spelling-Name id) ∙ ap is_sizeof (peek_first _ rest)
primary_no_sizeof (ExprShape.a_number value kind at) names rest h = ap (λ l. is_sizeof (peek (l ++ rest))) (expr_spelling-Number value kind at) ∙ ap is_sizeof (peek_first _ rest)
primary_no_sizeof (ExprShape.a_char value at) names rest h = ap (λ l. is_sizeof (peek (l ++ rest))) (expr_spelling-Char value at) ∙ ap is_sizeof (peek_first _ rest)
primary_no_sizeof (ExprShape.a_strings []) names rest h = absurd (let b = (good_of false primary primary (rw (expr_level-Strings []) at h) (omega arith)).0 in cc)
primary_no_sizeof (ExprShape.a_strings (l ∷ ls)) names rest h = ap (λ l. is_sizeof (peek (l ++ rest))) (expr_spelling-Strings (l ∷ ls)) ∙ ap is_sizeof (peek_first _ _)
primary_no_sizeof (ExprShape.a_paren from inner to) names rest h = ap (λ l. is_sizeof (peek (l ++ rest))) (expr_spelling-Paren from inner to) ∙ ap is_sizeof (peek_first _ _)
primary_no_sizeof (ExprShape.a_postfix a xs) names rest h = absurd (above_primary (ExprShape.a_postfix a xs) names h (omega arith))
primary_no_sizeof (ExprShape.a_sizeof_type at from type to) names rest h = absurd (above_primary (ExprShape.a_sizeof_type at from type to) names h (omega arith))
primary_no_sizeof (ExprShape.a_prefixed run a) names rest h = absurd (above_primary (ExprShape.a_prefixed run a) names h (let l = run_high (begins_cast run) in omega arith))
primary_no_sizeof (ExprShape.a_binary lv a ns) names rest h = absurd (above_primary (ExprShape.a_binary lv a ns) names h (let l = level_low lv in omega arith))
primary_no_sizeof (ExprShape.a_conditional a bs) names rest h = absurd (above_primary (ExprShape.a_conditional a bs) names h (omega arith))
primary_no_sizeof (ExprShape.a_assign a ns) names rest h = absurd (above_primary (ExprShape.a_assign a ns) names h (omega arith))
primary_no_sizeof (ExprShape.a_comma a ns) names rest h = absurd (above_primary (ExprShape.a_comma a ns) names h (omega arith))

postfix_no_sizeof : (names : Names) (x : Expr) (rest : Tokens) → (expr_level x names).0 ≤ postfix → is_sizeof (peek (expr_spelling x ++ rest)) ≡ false
postfix_no_sizeof names x rest h =
    let t = postfix_split (expr_shape x) names h in
    let a : Expr = t.tuple.0 in
    let n = primary_no_sizeof (expr_shape a) names (joined (map suffix_spelling t.tuple.1) ++ rest) t.good.0 in
    subst (λ x. is_sizeof (peek (expr_spelling x ++ rest)) ≡ false) t.whole
    (subst (λ l. is_sizeof (peek l) ≡ false) (sym (ap (λ l. l ++ rest) (postfix_spelt a t.tuple.1) ∙ append_assoc (expr_spelling a) (joined (map suffix_spelling t.tuple.1)) rest)) n)

loose_prefixed : {x : Expr} (s : ExprShape x) (names : Names) → (expr_level x names).0 ≤ prefixed → prefixed < shape_number s → ⊥
loose_prefixed s names h n = let e = number_within s names prefixed h (omega arith) in omega arith

prefixed_is : {x : Expr} (s : ExprShape x) (names : Names) → (expr_level x names).0 ≤ prefixed → Image sizeof_of x ⊎ (shape_number s ≤ postfix)
prefixed_is (ExprShape.a_sizeof_type at from type to) names h = inl ((((at, from), type), to), refl)
prefixed_is (ExprShape.a_name id) names h = inr (omega arith)
prefixed_is (ExprShape.a_number value kind at) names h = inr (omega arith)
prefixed_is (ExprShape.a_char value at) names h = inr (omega arith)
prefixed_is (ExprShape.a_strings all) names h = inr (omega arith)
prefixed_is (ExprShape.a_paren from inner to) names h = inr (omega arith)
prefixed_is (ExprShape.a_postfix a xs) names h = inr (omega arith)
prefixed_is (ExprShape.a_prefixed run a) names h = absurd (loose_prefixed (ExprShape.a_prefixed run a) names h (let l = run_high (begins_cast run) in omega arith))
prefixed_is (ExprShape.a_binary lv a ns) names h = absurd (loose_prefixed (ExprShape.a_binary lv a ns) names h (let l = level_low lv in omega arith))
prefixed_is (ExprShape.a_conditional a bs) names h = absurd (loose_prefixed (ExprShape.a_conditional a bs) names h (omega arith))
prefixed_is (ExprShape.a_assign a ns) names h = absurd (loose_prefixed (ExprShape.a_assign a ns) names h (omega arith))
prefixed_is (ExprShape.a_comma a ns) names h = absurd (loose_prefixed (ExprShape.a_comma a ns) names h (omega arith))

pub prefixed_exact : (more : ℕ) (inner : Inner) → InsideExpr more inner → Exact (deeper type_form) more (type_name inner) → Exact (expr_form prefixed) more (read_prefixed more inner)
unfolding read_prefixed
prefixed_exact more inner inside types =
    whole_exact (λ x. Image sizeof_of x ⊎ (shape_number (expr_shape x) ≤ postfix)) (expr_form prefixed) more _ (λ names x g. prefixed_is (expr_shape x) names g)
    (choose_exact (Image sizeof_of) (λ x. shape_number (expr_shape x) ≤ postfix) (expr_form prefixed) more (λ i. is_sizeof (peek i.1)) (sizeof_type more inner) (postfixed more inner)
    (sizeof_exact more inner types) (tail_sound more inner inside)
    (λ names x rest i g s. first_sizeof names x rest i)
    (λ names x rest i g s. postfix_no_sizeof names x rest (tighter (expr_shape x) names postfix (omega arith) i)))

-- ---- a run and the operand behind it

sizeof_operand : (names : Names) (x : Expr) (rest : Tokens) → Image sizeof_of x → (expr_level x names).0 ≤ prefixed → NoPrefix names (expr_spelling x ++ rest)
sizeof_operand names x rest i h =
    let t = i.0 in
    subst (λ x. (expr_level x names).0 ≤ prefixed → NoPrefix names (expr_spelling x ++ rest)) i.1 (λ h.
    let g = (sizeof_node.parts names t h).0.1 in
    let flat : (keyword word.Sizeof t.0.0.0 ∷ (punct p.LeftParen t.0.0.1 ∷ (type_name_spelling t.0.1 ++ punct p.RightParen t.1 ∷ []))) ++ rest ≡ keyword word.Sizeof t.0.0.0 ∷ (punct p.LeftParen t.0.0.1 ∷ (type_name_spelling t.0.1 ++ (punct p.RightParen t.1 ∷ rest))) =
    ap (λ l. keyword word.Sizeof t.0.0.0 ∷ (punct p.LeftParen t.0.0.1 ∷ l)) (append_assoc (type_name_spelling t.0.1) (punct p.RightParen t.1 ∷ []) rest) in
    subst (NoPrefix names) (sym (ap (λ l. l ++ rest) (expr_spelling-SizeofType t.0.0.0 t.0.0.1 t.0.1 t.1) ∙ flat)) (sizeof_no_prefix names t.0.0.0 t.0.0.1 t.0.1 (punct p.RightParen t.1 ∷ rest) g)) h

operand_by : (names : Names) (x : Expr) (rest : Tokens) → Image sizeof_of x ⊎ (shape_number (expr_shape x) ≤ postfix) → (expr_level x names).0 ≤ prefixed → NoPrefix names (expr_spelling x ++ rest)
operand_by names x rest (inl i) h = sizeof_operand names x rest i h
operand_by names x rest (inr n) h = postfix_no_prefix names x rest (tighter (expr_shape x) names postfix (omega arith) n)

operand_no_prefix : (names : Names) (x : Expr) (rest : Tokens) → (expr_level x names).0 ≤ prefixed → NoPrefix names (expr_spelling x ++ rest)
operand_no_prefix names x rest h = operand_by names x rest (prefixed_is (expr_shape x) names h) h

abbrev pub run_form : Form (List Prefix × Expr)
run_form = seq (list prefix_items false) (λ run. expr_form prefixed)

run_stops : (run : List Prefix) (names : Names) (ts : Tokens) → NoPrefix names ts → all_stop prefix_items false run names ts
run_stops [] names ts n = n.goes false
run_stops (x ∷ xs) names ts n = stop_made prefix_items false x xs names ts (ap (λ b. is_sizeof_prefix (last_of prefix_items x xs) && b) n.casts ∙ and_false _) (n.goes _)

pub run_good : (names : Names) (run : List Prefix) (a : Expr) → run_form.good names (run, a) → (expr_level (with_run run a) names).0 ≤ cast
run_good names [] a g = let h = subst (λ n. (expr_level a n).0 ≤ prefixed) (append-nil names) g.1 in omega arith
run_good names (x ∷ xs) a g =
    let kinds = in_row (map prefix_level (x ∷ xs)) names in
    let same : all_added prefix_items names (x ∷ xs) ≡ kinds.1 = added_in_row prefix_items prefix_level (λ names x. refl) names (x ∷ xs) in
    let h : (expr_level a (names ++ kinds.1)).0 ≤ prefixed = subst (λ l. (expr_level a (names ++ l)).0 ≤ prefixed) same g.1 in
    rw (expr_level-Prefixed (x ∷ xs) a) (where_is _ (if begins_typed kinds.0 then cast else unary) cast (both_are (runs_on false kinds.0) _ (run_told false names (x ∷ xs) g.0) (nat_le-is (expr_level a (names ++ kinds.1)).0 prefixed h)) (run_low (begins_typed kinds.0)))
  where
    run_low : (b : Bool) → (if b then cast else unary) ≤ cast
    run_low true = omega arith
    run_low false = omega arith

run_split_node : (run : List Prefix) (a : Expr) (names : Names) → (expr_level (expr.Prefixed run a) names).0 ≤ cast → Split run_form (λ t. with_run t.0 t.1) (expr_form cast) names (expr.Prefixed run a)
run_split_node [] a names h = absurd (let b : false ≡ true = (good_of false unary cast (rw (expr_level-Prefixed [] a) at h) (omega arith)).0 in cc)
run_split_node (x ∷ xs) a names h =
    let kinds = in_row (map prefix_level (x ∷ xs)) names in
    let same : all_added prefix_items names (x ∷ xs) ≡ kinds.1 = added_in_row prefix_items prefix_level (λ names x. refl) names (x ∷ xs) in
    let b = both_true (runs_on false kinds.0) _ (good_of _ (if begins_typed kinds.0 then cast else unary) cast (rw (expr_level-Prefixed (x ∷ xs) a) at h) (omega arith)).0 in
    record {
      tuple = (x ∷ xs, a);
      whole = refl;
      good = (run_are false names (x ∷ xs) b.0, subst (λ l. (expr_level a (names ++ l)).0 ≤ prefixed) (sym same) (nat_le-true (expr_level a (names ++ kinds.1)).0 prefixed b.1));
    }

bare : {x : Expr} (s : ExprShape x) (names : Names) → (expr_level x names).0 ≤ cast → shape_number s ≤ prefixed → Split run_form (λ t. with_run t.0 t.1) (expr_form cast) names x
bare {x} s names h n = record { tuple = ([], x); whole = refl; good = (tt, subst (λ n. (expr_level x n).0 ≤ prefixed) (sym (append-nil names)) (tighter s names prefixed (omega arith) n)) }

loose_cast : {x : Expr} (s : ExprShape x) (names : Names) → (expr_level x names).0 ≤ cast → cast < shape_number s → ⊥
loose_cast s names h n = let e = number_within s names cast h (omega arith) in omega arith

pub run_split : {x : Expr} → ExprShape x → (names : Names) → (expr_level x names).0 ≤ cast → Split run_form (λ t. with_run t.0 t.1) (expr_form cast) names x
run_split (ExprShape.a_prefixed run a) names h = run_split_node run a names h
run_split (ExprShape.a_name id) names h = bare (ExprShape.a_name id) names h (omega arith)
run_split (ExprShape.a_number value kind at) names h = bare (ExprShape.a_number value kind at) names h (omega arith)
run_split (ExprShape.a_char value at) names h = bare (ExprShape.a_char value at) names h (omega arith)
run_split (ExprShape.a_strings all) names h = bare (ExprShape.a_strings all) names h (omega arith)
run_split (ExprShape.a_paren from inner to) names h = bare (ExprShape.a_paren from inner to) names h (omega arith)
run_split (ExprShape.a_postfix a xs) names h = bare (ExprShape.a_postfix a xs) names h (omega arith)
run_split (ExprShape.a_sizeof_type at from type to) names h = bare (ExprShape.a_sizeof_type at from type to) names h (omega arith)
run_split (ExprShape.a_binary lv a ns) names h = absurd (loose_cast (ExprShape.a_binary lv a ns) names h (let l = level_low lv in omega arith))
run_split (ExprShape.a_conditional a bs) names h = absurd (loose_cast (ExprShape.a_conditional a bs) names h (omega arith))
run_split (ExprShape.a_assign a ns) names h = absurd (loose_cast (ExprShape.a_assign a ns) names h (omega arith))
run_split (ExprShape.a_comma a ns) names h = absurd (loose_cast (ExprShape.a_comma a ns) names h (omega arith))

run_nested : (run : List Prefix) (a : Expr) → expr_nesting (with_run run a) ≡ run_form.nest (run, a)
run_nested [] a = omega arith
run_nested (x ∷ xs) a = expr_nesting-Prefixed (x ∷ xs) a

pub run_spelt : (run : List Prefix) (a : Expr) → expr_spelling (with_run run a) ≡ run_form.spell (run, a)
run_spelt [] a = refl
run_spelt (x ∷ xs) a = expr_spelling-Prefixed (x ∷ xs) a

run_seen : (names : Names) (run : List Prefix) (a : Expr) → (expr_level (with_run run a) names).1 ≡ run_form.adds names (run, a)
run_seen names [] a = ap (λ n. (expr_level a n).1) (sym (append-nil names))
run_seen names (x ∷ xs) a =
    let same : all_added prefix_items names (x ∷ xs) ≡ (in_row (map prefix_level (x ∷ xs)) names).1 = added_in_row prefix_items prefix_level (λ names x. refl) names (x ∷ xs) in
    ap (λ f. (f names).1) (expr_level-Prefixed (x ∷ xs) a) ∙ ap (λ l. l ++ (expr_level a (names ++ l)).1) (sym same)

run_stop : (run : List Prefix) (a : Expr) (rest : Tokens) → prefixed < goes_on (expr_ending a) (peek rest) → cast < goes_on (expr_ending (with_run run a)) (peek rest)
run_stop [] a rest h = over_gap (expr_ending a) (peek rest) (omega arith)
run_stop (x ∷ xs) a rest h =
    subst (λ e. cast < goes_on e (peek rest)) (sym (expr_ending-Prefixed (x ∷ xs) a))
    (retarget cast (expr_ending a) (run_target (map prefix_ending (x ∷ xs))) (peek rest) (omega arith) (over_gap (expr_ending a) (peek rest) (omega arith)))

run_from_stop : (run : List Prefix) (a : Expr) (rest : Tokens) → cast < goes_on (expr_ending (with_run run a)) (peek rest) → prefixed < goes_on (expr_ending a) (peek rest)
run_from_stop [] a rest h = omega arith
run_from_stop (x ∷ xs) a rest h =
    let e : Ending = record { text = (expr_ending a).text; size = (expr_ending a).size; target = run_target (map prefix_ending (x ∷ xs)) } in
    let g : cast < goes_on e (peek rest) = subst (λ e. cast < goes_on e (peek rest)) (expr_ending-Prefixed (x ∷ xs) a) h in
    let r = retarget cast e (expr_ending a).target (peek rest) (omega arith) g in
    omega arith

run_joint : Joint run_form (λ t. with_run t.0 t.1) (expr_form cast)
run_joint = record {
  good = λ names t g. run_good names t.0 t.1 g;
  split = λ names x g. run_split (expr_shape x) names g;
  nested = λ t. run_nested t.0 t.1;
  spelt = λ t. run_spelt t.0 t.1;
  seen = λ names t. run_seen names t.0 t.1;
  stop = λ names t behind rest g h. run_stop t.0 t.1 rest h;
  from_stop = λ names t behind rest g h. run_from_stop t.0 t.1 rest h;
}

pub cast_exact : (more : ℕ) (inner : Inner) → InsideExpr more inner → Exact (deeper type_form) more (type_name inner) → Exact (expr_form cast) more (read_cast more inner)
unfolding read_cast
cast_exact more inner inside types =
    same_exact (expr_form cast) more _ (read_cast more inner) (two (many_by goes_prefix (λ _. one_prefix more inner) (λ _. ties) false) (λ run. read_prefixed more inner) with_run)
    (joint_exact run_form (λ t. with_run t.0 t.1) (expr_form cast) more _
    (seq_exact (list prefix_items false) (λ run. expr_form prefixed) more _ (λ run. read_prefixed more inner) (list_exact prefix_items more (λ s. one_prefix more inner) (prefixes_kept more inner types) false)
    (λ _. prefixed_exact more inner inside types)
    (λ names run a rest g h st. run_stops run (names ++ all_added prefix_items names run) (expr_spelling a ++ rest) (operand_no_prefix (names ++ all_added prefix_items names run) a rest h))) run_joint)
