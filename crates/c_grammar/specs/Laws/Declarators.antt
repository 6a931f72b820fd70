-- Arrays, parameter lists and declarators are read exactly (C11 6.7.6).
use Rattle.std.specs.Prelude.{◌≡◌, ℕ, ◌<◌, max, Bool, true, false, not, ◌&&◌, ◌||◌, List, [], ◌∷◌, ◌++◌, length, map, Option, Some, None, is_some, Ok, refl}
use Rattle.std.proofs.Common.{ap, sym, ◌∙◌, subst, arith, append_assoc, append-nil, ◌⊎◌, inl, inr}
use Rattle.c_tree.specs.declared.token.Pos.{Pos}
use Rattle.c_tree.specs.declared.token.Punct.{Punct}
use Rattle.c_tree.specs.declared.token.Punct.TheVariants as p
use Rattle.c_tree.specs.declared.token.Keyword.{Keyword}
use Rattle.c_tree.specs.declared.token.Keyword.TheVariants as word
use Rattle.c_tree.specs.declared.token.Token.{Token}
use Rattle.c_tree.specs.declared.token.TokenKind.{TokenKind}
use Rattle.c_tree.specs.declared.token.TokenKind.TheVariants as k
use Rattle.c_tree.specs.declared.expression.Expr.{Expr}
use Rattle.c_tree.specs.declared.declarator.Pointer.{Pointer}
use Rattle.c_tree.specs.declared.declarator.Declarator.{Declarator, roll-Declarator, roll-out-Declarator}
use Rattle.c_tree.specs.declared.declarator.Direct.{Direct, out-Direct}
use denote.Hole.Carrier.{out}
use Rattle.c_tree.specs.declared.declarator.DeclaratorSuffix.{DeclaratorSuffix}
use Rattle.c_tree.specs.declared.declarator.DeclaratorSuffix.TheVariants as suffix
use Rattle.c_tree.specs.declared.declarator.Parameter.{Parameter as ParameterTree, out-Parameter}
use Rattle.c_tree.specs.Spelling.Tokens.{token, punct, keyword, comma_at, joined, name as name_token}
use Rattle.c_tree.specs.Spelling.Trees.{expr_spelling, specifier_spelling, declarator_spelling, declarator_suffix_spelling, direct_spelling, direct_spelling-Nothing, direct_spelling-Named, direct_spelling-Grouped, parameter_spelling, parameter_spelling-is, declarator_spelling-is, declarator_suffix_spelling-Array, declarator_suffix_spelling-ArrayOf, declarator_suffix_spelling-Empty, declarator_suffix_spelling-Void, declarator_suffix_spelling-Parameters}
use Rattle.c_tree.specs.Levels.Names.{Names, in_row}
use Rattle.c_tree.specs.Levels.Productions.{conditional}
use Rattle.c_tree.specs.Levels.Facts.{Use, Declaring, Abstract, Parameter, declares, suffixes_good, only_void, rest_listed, listed_parameters}
use Rattle.c_tree.specs.Levels.Trees.{expr_level, declarator_level, declarator_suffix_level, direct_level, parameter_level}
use Rattle.c_grammar.specs.Laws.Tests.{and_false}
use Rattle.c_grammar.specs.Laws.Told.{direct_level-Nothing, parameter_level-is, declarator_level-is, declarator_suffix_level-Array, declarator_suffix_level-ArrayOf, declarator_suffix_level-Empty, declarator_suffix_level-Void, declarator_suffix_level-Parameters}
use Rattle.c_tree.specs.Nesting.Trees.{declarator_suffix_nesting, parameter_nesting, declarator_nesting-is, declarator_suffix_nesting-Array, declarator_suffix_nesting-ArrayOf, declarator_suffix_nesting-Empty, declarator_suffix_nesting-Void, declarator_suffix_nesting-Parameters}
use Rattle.c_grammar.specs.Punctuators.{same_mark}
use Rattle.c_grammar.specs.Input.{Tokens, State, Parser, and_then, ◌>>=◌, pure, choose, peek, behind, is_mark, sees, one, expect, opening, many, enclosed}
use Rattle.c_grammar.specs.Read.Inner.{Inner, is_void, is_const, begins_parameters}
use Rattle.c_grammar.specs.Read.Declarators.{takes_name, opens_declarator, void_at, sees_void, pointers as read_pointers, middle, unsized, sized, array, parameter, next_parameter, no_parameters, void_parameters, some_parameters, parameters, goes_suffix, one_suffix, declarator as read_declarator}
use Rattle.c_grammar.specs.Laws.Form.{Form, Exact, Node, Image, only, both, map_to, node_exact, same_exact, choose_exact, whole_exact, two, three, bind_same, choose_same, choose_map, open_seq, open_exact, either, either_exact, Guarded, either_guarded, quieted, enclosed_guarded, enclosed_map}
use Rattle.c_grammar.specs.Laws.Lists.{Items, Kept, all_good, all_added, all_stop, list, chain, chain_exact, chain_stop, last_of, stop_made, added_in_row}
use Rattle.c_grammar.specs.Laws.Single.{single, one_exact, always, mark_form, expect_exact, sees_mark}
use Rattle.c_grammar.specs.Laws.Rows.{pre, pre_exact, deeper, opened, opened_exact, closed, closed_exact}
use Rattle.c_grammar.specs.Laws.Cases.{DeclaratorSuffixShape, declarator_suffix_shape, DirectShape, direct_shape}
use Rattle.c_grammar.specs.Laws.Behind.{expr_form, both_true, both_are, nat_le-true, nat_le-is, before_mark, peek_mark}
use Rattle.c_grammar.specs.Laws.Starts.{Begins, begins_seen, image_begins, peek_first, sized_opens}
use Rattle.c_grammar.specs.Laws.Postfix.{deep_list}
use Rattle.c_grammar.specs.Laws.Forms.{pointer_spelling, pointer_items, middle_form, behind_items, parts_form, parts_of, declarator_form, is_no_name, nothing_stop}
use Rattle.c_grammar.specs.Laws.TypeNames.{Ending, unlike, declarator_before, specifiers_before, close_ends}
use Rattle.c_grammar.specs.Laws.Pointers.{pointers_exact, pointers_spelt, pointers_good, pointers_quiet, pointers_flat}
use Rattle.c_grammar.specs.Laws.DeclaratorFacts.{suffix_mark, suffix_begins, declares_parts, parts_declare}
use Rattle.c_grammar.specs.Laws.Middle.{middle_exact}
use Rattle.c_grammar.specs.Laws.Parameters.{parameter_form, parts_of_parameter, good_parts, first_parameter, next_form}
use Rattle.c_grammar.specs.Laws.VoidParameters.{void_is, specifier_no_close}
use Rattle.c_grammar.specs.Laws.SpecifierStarts.{specifiers_start}

abbrev pub suffix_form : Form DeclaratorSuffix
suffix_form = record {
  spell = declarator_suffix_spelling;
  good = λ names x. (declarator_suffix_level x names).0.good ≡ true;
  adds = λ names x. (declarator_suffix_level x names).1;
  nest = declarator_suffix_nesting;
  stop = λ x names rest. Unit {0};
}

-- ---- arrays

abbrev array_tail : Form (Pos ⊎ (Expr × Pos))
array_tail = either (mark_form p.RightBracket) (closed (deeper (expr_form conditional)) p.RightBracket)

abbrev array_by : Pos → Pos ⊎ (Expr × Pos) → DeclaratorSuffix
array_by from (inl to) = suffix.Array from to
array_by from (inr t) = suffix.ArrayOf from t.0 t.1

abbrev array_of : Pos × (Pos ⊎ (Expr × Pos)) → DeclaratorSuffix
array_of t = array_by t.0 t.1

array_good : (names : Names) (from : Pos) (u : Pos ⊎ (Expr × Pos)) → array_tail.good names u → (declarator_suffix_level (array_by from u) names).0.good ≡ true
array_good names from (inl to) g = ap (λ f. (f names).0.good) (declarator_suffix_level-Array from to)
array_good names from (inr t) g = ap (λ f. (f names).0.good) (declarator_suffix_level-ArrayOf from t.0 t.1) ∙ nat_le-is (expr_level t.0 names).0 conditional g.0

array_parts : (names : Names) (from : Pos) (u : Pos ⊎ (Expr × Pos)) → (declarator_suffix_level (array_by from u) names).0.good ≡ true → array_tail.good names u
array_parts names from (inl to) g = tt
array_parts names from (inr t) g = (nat_le-true (expr_level t.0 names).0 conditional (sym (ap (λ f. (f names).0.good) (declarator_suffix_level-ArrayOf from t.0 t.1)) ∙ g), tt)

array_nested : (from : Pos) (u : Pos ⊎ (Expr × Pos)) → declarator_suffix_nesting (array_by from u) ≡ max 1 (array_tail.nest u)
array_nested from (inl to) = declarator_suffix_nesting-Array from to ∙ omega arith
array_nested from (inr t) = declarator_suffix_nesting-ArrayOf from t.0 t.1 ∙ omega arith

array_spelt : (from : Pos) (u : Pos ⊎ (Expr × Pos)) → declarator_suffix_spelling (array_by from u) ≡ punct p.LeftBracket from ∷ array_tail.spell u
array_spelt from (inl to) = declarator_suffix_spelling-Array from to
array_spelt from (inr t) = declarator_suffix_spelling-ArrayOf from t.0 t.1

array_seen : (names : Names) (from : Pos) (u : Pos ⊎ (Expr × Pos)) → (declarator_suffix_level (array_by from u) names).1 ≡ array_tail.adds names u
array_seen names from (inl to) = ap (λ f. (f names).1) (declarator_suffix_level-Array from to)
array_seen names from (inr t) = ap (λ f. (f names).1) (declarator_suffix_level-ArrayOf from t.0 t.1)

array_stop : (u : Pos ⊎ (Expr × Pos)) (behind : Names) (rest : Tokens) → array_tail.stop u behind rest
array_stop (inl to) behind rest = tt
array_stop (inr t) behind rest = tt

array_node : Node (opened p.LeftBracket array_tail) array_of suffix_form
array_node = record {
  good = λ names t g. array_good names t.0 t.1 g.1;
  parts = λ names t g. (tt, array_parts names t.0 t.1 g);
  nested = λ t. array_nested t.0 t.1;
  spelt = λ t. array_spelt t.0 t.1;
  seen = λ names t. array_seen names t.0 t.1;
  stop = λ names t behind rest g h. tt;
  from_stop = λ names t behind rest g h. array_stop t.1 behind rest;
}

array_is : (more : ℕ) (inner : Inner) (i : State) → array more inner i
    ≡ map_to (both (opening more p.LeftBracket) (λ from. choose (sees p.RightBracket) (map_to (expect p.RightBracket) inl) (map_to (both (inner.expr conditional) (λ x. expect p.RightBracket)) inr))) array_of i
unfolding array
array_is more inner i =
    let tail : Pos → Parser (Pos ⊎ (Expr × Pos)) = λ from. choose (sees p.RightBracket) (map_to (expect p.RightBracket) inl) (map_to (both (inner.expr conditional) (λ x. expect p.RightBracket)) inr) in
    bind_same (opening more p.LeftBracket) (λ from. choose (sees p.RightBracket) (unsized more inner from) (sized more inner from)) (λ from. tail from >>= (λ u. pure (array_by from u)))
    (λ from j. choose_same (sees p.RightBracket) (unsized more inner from) (sized more inner from) (unsized more inner from) _ (λ j. refl)
    (λ j. two (inner.expr conditional) (λ x. expect p.RightBracket) (λ x to. suffix.ArrayOf from x to) j) j
    ∙ choose_map (sees p.RightBracket) (expect p.RightBracket) (both (inner.expr conditional) (λ x. expect p.RightBracket)) (array_by from) j) i
    ∙ two (opening more p.LeftBracket) tail array_by i

array_exact : (more : ℕ) (inner : Inner) → Exact (deeper (expr_form conditional)) more (inner.expr conditional) → Exact (only (Image array_of) suffix_form) more (array more inner)
array_exact more inner exact =
    same_exact (only (Image array_of) suffix_form) more _ (array more inner) (array_is more inner)
    (node_exact (opened p.LeftBracket array_tail) array_of suffix_form more _
    (opened_exact p.LeftBracket array_tail more _
    (either_exact (mark_form p.RightBracket) (closed (deeper (expr_form conditional)) p.RightBracket) more (sees p.RightBracket) (expect p.RightBracket) _ (expect_exact p.RightBracket more)
    (closed_exact (deeper (expr_form conditional)) p.RightBracket more (inner.expr conditional) exact (λ names x at rest g. before_mark conditional _ p.RightBracket at rest (omega arith)))
    (λ names at rest g st. sees_mark p.RightBracket names at rest)
    (λ names t rest g st. ap (λ l. sees p.RightBracket (names, l)) (append_assoc (expr_spelling t.0) (punct p.RightBracket t.1 ∷ []) rest) ∙ sized_opens names t.0 _ (let a = g.0 in omega arith)))) array_node)

-- ---- a list of parameters

abbrev parameter_items : Items (Unit {0}) ParameterTree
parameter_items = record {
  spell = parameter_spelling;
  good = λ s. next_form.good;
  adds = next_form.adds;
  nest = next_form.nest;
  stop = next_form.stop;
  goes = λ s. sees p.Comma;
  step = λ s x. tt;
}

-- a further parameter begins with a comma
comma_begins : (x : ParameterTree) (c : Option Pos) → (out-Parameter x).comma ≡ c → is_some c ≡ true → Begins p.Comma (parameter_spelling x)
comma_begins x None e h = absurd cc
comma_begins x (Some at) e h =
    let tail : Tokens = joined (map specifier_spelling (out-Parameter x).specifiers) ++ declarator_spelling (out-Parameter x).declarator in
    record { at = at; others = tail; spelt = parameter_spelling-is x ∙ ap (λ c. comma_at c ++ tail) e }

comma_ends : Ending p.Comma
comma_ends = record { brace = refl; paren = refl; bracket = refl; star = refl }

-- what ends a parameter
parameter_before : (x : ParameterTree) (names : Names) (op : Punct) (at : Pos) (rest : Tokens) → Ending op → parameter_form.stop x names (punct op at ∷ rest)
parameter_before x names op at rest e = (declarator_before Parameter _ (parts_of_parameter x).1 names op at rest e, λ z. specifiers_before true (parts_of_parameter x).0 names op at rest e)

parameter_then : (x y : ParameterTree) (names : Names) (rest : Tokens) → is_some (out-Parameter y).comma ≡ true → parameter_form.stop x names (parameter_spelling y ++ rest)
parameter_then x y names rest h =
    let b = comma_begins y (out-Parameter y).comma refl h in
    subst (λ l. parameter_form.stop x names (l ++ rest)) (sym b.spelt) (parameter_before x names p.Comma b.at (b.others ++ rest) comma_ends)

no_comma : (names : Names) → sees p.Comma (names, []) ≡ false
unfolding peek
no_comma names = refl

module _ (more : ℕ) (inner : Inner) (nexts : Exact next_form more (next_parameter more inner)) where
  parameters_kept : Kept parameter_items more (λ s. next_parameter more inner)
  parameters_kept = record {
    sound = λ s names ts x end go h. nexts.sound names ts x end h;
    complete = λ s names x rest g n st. nexts.complete names x rest g n st;
    starts = λ s names x rest g st. begins_seen p.Comma p.Comma names _ rest true (comma_begins x (out-Parameter x).comma refl g.0) refl;
    ends = λ s names. no_comma names;
    follows = λ s names x y rest g h st. parameter_then x y _ rest h.0;
    some = λ s names x g. let b = comma_begins x (out-Parameter x).comma refl g.0 in subst (λ l. 0 < length l) (sym b.spelt) (omega arith);
  }

abbrev some_form : Form (ParameterTree × List ParameterTree)
some_form = chain first_parameter parameter_items (λ x. tt)

some_close : (names : Names) (t : ParameterTree × List ParameterTree) (at : Pos) (rest : Tokens) → some_form.good names t → some_form.stop t (names ++ some_form.adds names t) (punct p.RightParen at ∷ rest)
some_close names t at rest g = by t.0 t.1 (names ++ some_form.adds names t) where
  no_more : sees p.Comma (names, punct p.RightParen at ∷ rest) ≡ false
  no_more = unlike p.RightParen p.Comma at rest refl

  by : (x : ParameterTree) (xs : List ParameterTree) (n : Names) → chain_stop first_parameter parameter_items (λ x. tt) x xs n (punct p.RightParen at ∷ rest)
  by x [] n = (parameter_before x n p.RightParen at rest close_ends, no_more)
  by x (y ∷ ys) n = stop_made parameter_items tt y ys n (punct p.RightParen at ∷ rest) (parameter_before (last_of parameter_items y ys) n p.RightParen at rest close_ends) no_more

-- parameters that are not the one word `void`
abbrev not_void : Form (ParameterTree × List ParameterTree) → Form (ParameterTree × List ParameterTree)
not_void F = record { spell = F.spell; good = λ names t. F.good names t × (only_void (in_row (map parameter_level (t.0 ∷ t.1)) names).0 ≡ false); adds = F.adds; nest = F.nest; stop = F.stop }

abbrev list_tail : Form ((ParameterTree × List ParameterTree) × Pos)
list_tail = quieted (closed (not_void some_form) p.RightParen)

commas_of : (names : Names) (xs : List ParameterTree) → all_good parameter_items tt names xs → (y : ParameterTree) (ys : List ParameterTree) → xs ≡ y ∷ ys → is_some (out-Parameter y).comma ≡ true
commas_of names xs g y ys e = (subst (λ l. all_good parameter_items tt names l) e g).0.0

abbrev list_reader : ℕ → Inner → Parser ((ParameterTree × List ParameterTree) × Pos)
list_reader more inner = both (both (parameter more inner None) (λ first. many (sees p.Comma) (next_parameter more inner))) (λ t. expect p.RightParen)

list_flat : (x : ParameterTree) (xs : List ParameterTree) (at : Pos) (rest : Tokens) → (((parameter_spelling x ++ joined (map parameter_spelling xs)) ++ punct p.RightParen at ∷ []) ++ rest) ≡ (parameter_spelling x ++ joined (map parameter_spelling xs)) ++ (punct p.RightParen at ∷ rest)
list_flat x xs at rest = append_assoc (parameter_spelling x ++ joined (map parameter_spelling xs)) (punct p.RightParen at ∷ []) rest

module _ (more : ℕ) (inner : Inner) (firsts : Exact first_parameter more (parameter more inner None)) (nexts : Exact next_form more (next_parameter more inner)) where
  whole_list : Exact (closed some_form p.RightParen) more (list_reader more inner)
  whole_list =
      closed_exact some_form p.RightParen more _
      (chain_exact first_parameter parameter_items (λ x. tt) more (parameter more inner None) (λ s. next_parameter more inner) firsts (parameters_kept more inner nexts)
      (λ names x y rest g h st. parameter_then x y _ rest h.0)) some_close

  list_guarded : Guarded (λ i. sees_void i ≡ false) (closed (not_void some_form) p.RightParen) more (list_reader more inner)
  list_guarded = record {
    sound = λ names ts t s known h.
        let g = whole_list.sound names ts t s h in
        let v = void_is names t.0.0 t.0.1 t.1 s.1 g.good.0.0 (commas_of _ t.0.1 g.good.0.1) in
        let e = sym (ap (λ l. sees_void (names, l)) (g.spelt ∙ list_flat t.0.0 t.0.1 t.1 s.1)) ∙ known in
        record { good = ((g.good.0, sym v ∙ e), tt); nested = g.nested; spelt = g.spelt; seen = g.seen; stops = g.stops };
    complete = λ names t rest g n st. whole_list.complete names t rest (g.0.0, tt) n st;
  }

-- ---- `(` `void` `)`

void_key : (names : Names) (key : Keyword) (place a : Pos) → void_at names (k.Keyword key) place ≡ Some a → (keyword word.Void a ≡ token (k.Keyword key) place) × Unit {0}
void_key names word.Void place a h = let e : place ≡ a = cc in (ap (keyword word.Void) (sym e), tt)
void_key names _ place a h = absurd cc

void_picks : (names : Names) (kind : TokenKind) (place a : Pos) → void_at names kind place ≡ Some a → (keyword word.Void a ≡ token kind place) × Unit {0}
void_picks names (k.Keyword key) place a h = void_key names key place a h
void_picks names (k.Punct op) place a h = absurd cc
void_picks names (k.Name text) place a h = absurd cc
void_picks names (k.Number value kind) place a h = absurd cc
void_picks names (k.Char value) place a h = absurd cc
void_picks names (k.Bytes bytes) place a h = absurd cc

abbrev void_tail : Form (Pos × Pos)
void_tail = pre (single (keyword word.Void) always) (λ _. mark_form p.RightParen)

void_exact : (more : ℕ) → Exact void_tail more (both (one void_at) (λ at. expect p.RightParen))
void_exact more =
    pre_exact (single (keyword word.Void) always) (λ _. mark_form p.RightParen) more (one void_at) (λ at. expect p.RightParen) (λ names a. refl)
    (one_exact (keyword word.Void) always void_at void_picks (λ names a g. refl) more) (λ _. expect_exact p.RightParen more) (λ names a b rest g h s. tt)

behind_first : (t : Token) (ts : Tokens) → behind (t ∷ ts) ≡ ts
unfolding behind
behind_first t ts = refl

void_shown : (names : Names) (at to : Pos) (rest : Tokens) → sees_void (names, keyword word.Void at ∷ (punct p.RightParen to ∷ rest)) ≡ true
void_shown names at to rest =
    ap (λ o. is_void o && is_mark p.RightParen (peek (behind (keyword word.Void at ∷ (punct p.RightParen to ∷ rest))))) (peek_first (keyword word.Void at) (punct p.RightParen to ∷ rest))
    ∙ ap (λ l. is_mark p.RightParen (peek l)) (behind_first (keyword word.Void at) (punct p.RightParen to ∷ rest)) ∙ ap (is_mark p.RightParen) (peek_first (punct p.RightParen to) rest)

-- ---- what stands behind `(`

abbrev Tail : Type 0
Tail = Pos ⊎ ((Pos × Pos) ⊎ ((ParameterTree × List ParameterTree) × Pos))

abbrev tail_form : Form Tail
tail_form = either (mark_form p.RightParen) (either void_tail list_tail)

abbrev tail_by : Pos → Tail → DeclaratorSuffix
tail_by from (inl to) = suffix.Empty from to
tail_by from (inr (inl t)) = suffix.Void from t.0 t.1
tail_by from (inr (inr t)) = suffix.Parameters from (t.0.0 ∷ t.0.1) t.1

abbrev tail_of : Pos × Tail → DeclaratorSuffix
tail_of t = tail_by t.0 t.1

comma_told : (x : ParameterTree) (names : Names) → (parameter_level x names).0.comma ≡ is_some (out-Parameter x).comma
comma_told x names = ap (λ f. (f names).0.comma) (parameter_level-is x)

rest_told : (names : Names) (xs : List ParameterTree) → all_good parameter_items tt names xs → rest_listed (listed_parameters (in_row (map parameter_level xs) names).0) ≡ true
rest_told names [] g = refl
rest_told names (x ∷ xs) g = both_are _ _ (comma_told x names ∙ g.0.0) (both_are _ _ g.0.1 (rest_told (names ++ (parameter_level x names).1) xs g.1))

rest_are : (names : Names) (xs : List ParameterTree) → rest_listed (listed_parameters (in_row (map parameter_level xs) names).0) ≡ true → all_good parameter_items tt names xs
rest_are names [] h = tt
rest_are names (x ∷ xs) h =
    let b = both_true (parameter_level x names).0.comma _ h in
    let c = both_true (parameter_level x names).0.good _ b.1 in
    ((sym (comma_told x names) ∙ b.0, c.0), rest_are (names ++ (parameter_level x names).1) xs c.1)

no_first_comma : (c : Option Pos) → not (is_some c) ≡ true → c ≡ None
no_first_comma None h = refl
no_first_comma (Some at) h = absurd cc

tail_good : (names : Names) (from : Pos) (u : Tail) → tail_form.good names u → (declarator_suffix_level (tail_by from u) names).0.good ≡ true
tail_good names from (inl to) g = ap (λ f. (f names).0.good) (declarator_suffix_level-Empty from to)
tail_good names from (inr (inl t)) g = ap (λ f. (f names).0.good) (declarator_suffix_level-Void from t.0 t.1)
tail_good names from (inr (inr t)) g =
    let x : ParameterTree = t.0.0 in
    ap (λ f. (f names).0.good) (declarator_suffix_level-Parameters from (x ∷ t.0.1) t.1)
    ∙ both_are (not (only_void (in_row (map parameter_level (x ∷ t.0.1)) names).0)) _ (ap not g.0.1)
    (both_are _ _ (ap not (comma_told x names ∙ ap is_some g.0.0.0.0)) (both_are _ _ g.0.0.0.1 (rest_told (names ++ (parameter_level x names).1) t.0.1 g.0.0.1)))

flipped : (b : Bool) → not b ≡ true → b ≡ false
flipped true h = absurd cc
flipped false h = refl

tail_parts : (names : Names) (from : Pos) (u : Tail) → (declarator_suffix_level (tail_by from u) names).0.good ≡ true → tail_form.good names u
tail_parts names from (inl to) g = tt
tail_parts names from (inr (inl t)) g = (tt, tt)
tail_parts names from (inr (inr t)) g =
    let x : ParameterTree = t.0.0 in
    let h = sym (ap (λ f. (f names).0.good) (declarator_suffix_level-Parameters from (x ∷ t.0.1) t.1)) ∙ g in
    let b = both_true (not (only_void (in_row (map parameter_level (x ∷ t.0.1)) names).0)) _ h in
    let c = both_true (not (parameter_level x names).0.comma) _ b.1 in
    let d = both_true (parameter_level x names).0.good _ c.1 in
    ((((no_first_comma (out-Parameter x).comma (sym (ap not (comma_told x names)) ∙ c.0), d.0), rest_are (names ++ (parameter_level x names).1) t.0.1 d.1), flipped _ b.0), tt)

tail_nested : (from : Pos) (u : Tail) → declarator_suffix_nesting (tail_by from u) ≡ max 1 (tail_form.nest u)
tail_nested from (inl to) = declarator_suffix_nesting-Empty from to ∙ omega arith
tail_nested from (inr (inl t)) = declarator_suffix_nesting-Void from t.0 t.1 ∙ omega arith
tail_nested from (inr (inr t)) = declarator_suffix_nesting-Parameters from (t.0.0 ∷ t.0.1) t.1 ∙ (let e = deep_list parameter_nesting (parameter_nesting t.0.0) t.0.1 in omega arith)

tail_spelt : (from : Pos) (u : Tail) → declarator_suffix_spelling (tail_by from u) ≡ punct p.LeftParen from ∷ tail_form.spell u
tail_spelt from (inl to) = declarator_suffix_spelling-Empty from to
tail_spelt from (inr (inl t)) = declarator_suffix_spelling-Void from t.0 t.1
tail_spelt from (inr (inr t)) = declarator_suffix_spelling-Parameters from (t.0.0 ∷ t.0.1) t.1

tail_seen : (names : Names) (from : Pos) (u : Tail) → (declarator_suffix_level (tail_by from u) names).1 ≡ tail_form.adds names u
tail_seen names from (inl to) = ap (λ f. (f names).1) (declarator_suffix_level-Empty from to)
tail_seen names from (inr (inl t)) = ap (λ f. (f names).1) (declarator_suffix_level-Void from t.0 t.1)
tail_seen names from (inr (inr t)) = ap (λ f. (f names).1) (declarator_suffix_level-Parameters from (t.0.0 ∷ t.0.1) t.1)

tail_stop : (u : Tail) (behind : Names) (rest : Tokens) → tail_form.stop u behind rest
tail_stop (inl to) behind rest = tt
tail_stop (inr (inl t)) behind rest = tt
tail_stop (inr (inr t)) behind rest = tt

tail_node : Node (opened p.LeftParen tail_form) tail_of suffix_form
tail_node = record {
  good = λ names t g. tail_good names t.0 t.1 g.1;
  parts = λ names t g. (tt, tail_parts names t.0 t.1 g);
  nested = λ t. tail_nested t.0 t.1;
  spelt = λ t. tail_spelt t.0 t.1;
  seen = λ names t. tail_seen names t.0 t.1;
  stop = λ names t behind rest g h. tt;
  from_stop = λ names t behind rest g h. tail_stop t.1 behind rest;
}

abbrev tail_reader : ℕ → Inner → Parser Tail
tail_reader more inner = choose (sees p.RightParen) (map_to (expect p.RightParen) inl)
    (map_to (choose sees_void (map_to (both (one void_at) (λ at. expect p.RightParen)) inl) (map_to (enclosed (list_reader more inner)) inr)) inr)

some_is : (more : ℕ) (inner : Inner) (from : Pos) (j : State) → some_parameters more inner from j ≡ map_to (enclosed (list_reader more inner)) (λ t. suffix.Parameters from (t.0.0 ∷ t.0.1) t.1) j
some_is more inner from j =
    ap (λ o. and_then o (λ a k. Ok (a, (j.0, k.1)))) (three (parameter more inner None) (λ first. many (sees p.Comma) (next_parameter more inner)) (λ first rest. expect p.RightParen) (λ first rest to. suffix.Parameters from (first ∷ rest) to) j)
    ∙ enclosed_map (list_reader more inner) (λ t. suffix.Parameters from (t.0.0 ∷ t.0.1) t.1) j

parameters_is : (more : ℕ) (inner : Inner) (i : State) → parameters more inner i ≡ map_to (both (opening more p.LeftParen) (λ from. tail_reader more inner)) tail_of i
unfolding parameters
parameters_is more inner i =
    bind_same (opening more p.LeftParen) (λ from. choose (sees p.RightParen) (no_parameters more inner from) (choose sees_void (void_parameters more inner from) (some_parameters more inner from)))
    (λ from. tail_reader more inner >>= (λ u. pure (tail_by from u)))
    (λ from j. choose_same (sees p.RightParen) (no_parameters more inner from) (choose sees_void (void_parameters more inner from) (some_parameters more inner from)) (no_parameters more inner from) _ (λ j. refl)
    (λ j. choose_same sees_void (void_parameters more inner from) (some_parameters more inner from) _ _ (λ j. two (one void_at) (λ at. expect p.RightParen) (λ at to. suffix.Void from at to) j) (some_is more inner from) j
    ∙ choose_map sees_void (both (one void_at) (λ at. expect p.RightParen)) (enclosed (list_reader more inner)) (λ c. tail_by from (inr c)) j) j
    ∙ choose_map (sees p.RightParen) (expect p.RightParen) (choose sees_void (map_to (both (one void_at) (λ at. expect p.RightParen)) inl) (map_to (enclosed (list_reader more inner)) inr)) (tail_by from) j) i
    ∙ two (opening more p.LeftParen) (λ from. tail_reader more inner) tail_by i

list_seen : (names : Names) (t : (ParameterTree × List ParameterTree) × Pos) (rest : Tokens) → list_tail.good names t → sees_void (names, list_tail.spell t ++ rest) ≡ false
list_seen names t rest g =
    ap (λ l. sees_void (names, l)) (list_flat t.0.0 t.0.1 t.1 rest)
    ∙ void_is names t.0.0 t.0.1 t.1 rest g.0.0.0 (commas_of _ t.0.1 g.0.0.1) ∙ g.0.1

-- what stands in brackets: `(` `)` is told by its second token
first_specifier : (names : Names) (x : ParameterTree) (rest : Tokens) → first_parameter.good names x → sees p.RightParen (names, parameter_spelling x ++ rest) ≡ false
first_specifier names x rest g =
    let q = out-Parameter x in
    let s = specifiers_start true names q.specifiers (good_parts names x g.1).0 in
    ap (λ l. sees p.RightParen (names, l ++ rest)) (parameter_spelling-is x ∙ ap (λ c. comma_at c ++ (joined (map specifier_spelling q.specifiers) ++ declarator_spelling q.declarator)) g.0)
    ∙ ap (λ l. sees p.RightParen (names, (l ++ declarator_spelling q.declarator) ++ rest)) s.spelt
    ∙ ap (is_mark p.RightParen) (peek_first s.first ((s.others ++ declarator_spelling q.declarator) ++ rest)) ∙ specifier_no_close true false names s.first.kind s.good

either_opens : (names : Names) (u : (Pos × Pos) ⊎ ((ParameterTree × List ParameterTree) × Pos)) (rest : Tokens) → (either void_tail list_tail).good names u → sees p.RightParen (names, (either void_tail list_tail).spell u ++ rest) ≡ false
either_opens names (inl t) rest g = ap (is_mark p.RightParen) (peek_first (keyword word.Void t.0) (punct p.RightParen t.1 ∷ rest))
either_opens names (inr t) rest g =
    ap (λ l. sees p.RightParen (names, l)) (list_flat t.0.0 t.0.1 t.1 rest ∙ append_assoc (parameter_spelling t.0.0) (joined (map parameter_spelling t.0.1)) (punct p.RightParen t.1 ∷ rest))
    ∙ first_specifier names t.0.0 _ g.0.0.0

list_free : (t : (ParameterTree × List ParameterTree) × Pos) (names : Names) (rest : Tokens) → (closed (not_void some_form) p.RightParen).stop t names rest
list_free t names rest = tt

module _ (more : ℕ) (inner : Inner) (firsts : Exact first_parameter more (parameter more inner None)) (nexts : Exact next_form more (next_parameter more inner)) where
  tail_exact : Exact tail_form more (tail_reader more inner)
  tail_exact =
      either_exact (mark_form p.RightParen) (either void_tail list_tail) more (sees p.RightParen) (expect p.RightParen) _ (expect_exact p.RightParen more)
      (either_guarded void_tail list_tail more sees_void (both (one void_at) (λ at. expect p.RightParen)) (enclosed (list_reader more inner)) (void_exact more)
      (enclosed_guarded (λ i. sees_void i ≡ false) (closed (not_void some_form) p.RightParen) more (list_reader more inner) list_free (list_guarded more inner firsts nexts))
      (λ names t rest g s. void_shown names t.0 t.1 rest)
      (λ names t rest g s. list_seen names t rest g))
      (λ names at rest g s. sees_mark p.RightParen names at rest)
      (λ names u rest g s. either_opens names u rest g)

  parameters_exact : Exact (only (Image tail_of) suffix_form) more (parameters more inner)
  parameters_exact =
      same_exact (only (Image tail_of) suffix_form) more _ (parameters more inner) (parameters_is more inner)
      (node_exact (opened p.LeftParen tail_form) tail_of suffix_form more _ (opened_exact p.LeftParen tail_form more _ tail_exact) tail_node)

-- ---- a suffix

array_first : (from : Pos) (u : Pos ⊎ (Expr × Pos)) → Begins p.LeftBracket (declarator_suffix_spelling (array_by from u))
array_first from u = record { at = from; others = array_tail.spell u; spelt = array_spelt from u }

tail_first : (from : Pos) (u : Tail) → Begins p.LeftParen (declarator_suffix_spelling (tail_by from u))
tail_first from u = record { at = from; others = tail_form.spell u; spelt = tail_spelt from u }

array_begins : (x : DeclaratorSuffix) → Image array_of x → Begins p.LeftBracket (declarator_suffix_spelling x)
array_begins = image_begins array_of declarator_suffix_spelling p.LeftBracket (λ t. array_first t.0 t.1)

tail_begins : (x : DeclaratorSuffix) → Image tail_of x → Begins p.LeftParen (declarator_suffix_spelling x)
tail_begins = image_begins tail_of declarator_suffix_spelling p.LeftParen (λ t. tail_first t.0 t.1)

no_parameters_told : (names : Names) (from to : Pos) → (declarator_suffix_level (suffix.Parameters from [] to) names).0.good ≡ true → ⊥
no_parameters_told names from to h = let e : false ≡ true = sym (ap (λ f. (f names).0.good) (declarator_suffix_level-Parameters from [] to)) ∙ h in absurd cc

suffix_is : {x : DeclaratorSuffix} → DeclaratorSuffixShape x → (names : Names) → (declarator_suffix_level x names).0.good ≡ true → Image array_of x ⊎ Image tail_of x
suffix_is (DeclaratorSuffixShape.a_array from to) names h = inl ((from, inl to), refl)
suffix_is (DeclaratorSuffixShape.a_array_of from size to) names h = inl ((from, inr (size, to)), refl)
suffix_is (DeclaratorSuffixShape.a_empty from to) names h = inr ((from, inl to), refl)
suffix_is (DeclaratorSuffixShape.a_void from at to) names h = inr ((from, inr (inl (at, to))), refl)
suffix_is (DeclaratorSuffixShape.a_parameters from [] to) names h = absurd (no_parameters_told names from to h)
suffix_is (DeclaratorSuffixShape.a_parameters from (x ∷ xs) to) names h = inr ((from, inr (inr ((x, xs), to))), refl)

pub suffix_exact : (more : ℕ) (inner : Inner) → Exact (deeper (expr_form conditional)) more (inner.expr conditional) → Exact first_parameter more (parameter more inner None) → Exact next_form more (next_parameter more inner)
    → Exact suffix_form more (one_suffix more inner)
unfolding one_suffix
suffix_exact more inner exact firsts nexts =
    whole_exact (λ x. Image array_of x ⊎ Image tail_of x) suffix_form more _ (λ names x g. suffix_is (declarator_suffix_shape x) names g)
    (choose_exact (Image array_of) (Image tail_of) suffix_form more (sees p.LeftBracket) (array more inner) (parameters more inner) (array_exact more inner exact) (parameters_exact more inner firsts nexts)
    (λ names x rest i g s. begins_seen p.LeftBracket p.LeftBracket names _ rest true (array_begins x i) refl)
    (λ names x rest i g s. begins_seen p.LeftBracket p.LeftParen names _ rest false (tail_begins x i) refl))

-- ---- declarators

suffix_goes : {x : DeclaratorSuffix} (s : DeclaratorSuffixShape x) → (same_mark (suffix_mark s) p.LeftBracket || same_mark (suffix_mark s) p.LeftParen) ≡ true
suffix_goes (DeclaratorSuffixShape.a_array from to) = refl
suffix_goes (DeclaratorSuffixShape.a_array_of from size to) = refl
suffix_goes (DeclaratorSuffixShape.a_empty from to) = refl
suffix_goes (DeclaratorSuffixShape.a_void from at to) = refl
suffix_goes (DeclaratorSuffixShape.a_parameters from all to) = refl

some_suffix : (x : DeclaratorSuffix) → 0 < length (declarator_suffix_spelling x)
some_suffix x = let b = suffix_begins (declarator_suffix_shape x) in subst (λ l. 0 < length l) (sym b.spelt) (omega arith)

no_suffix : (names : Names) → (sees p.LeftBracket (names, []) || sees p.LeftParen (names, [])) ≡ false
unfolding peek
no_suffix names = refl

suffixes_kept : (more : ℕ) (inner : Inner) → Exact suffix_form more (one_suffix more inner) → Kept behind_items more (λ s. one_suffix more inner)
suffixes_kept more inner exact = record {
  sound = λ s names ts x end go h. exact.sound names ts x end h;
  complete = λ s names x rest g n st. exact.complete names x rest g n st;
  starts = λ s names x rest g st.
      let b = suffix_begins (declarator_suffix_shape x) in
      ap (λ l. sees p.LeftBracket (names, l ++ rest) || sees p.LeftParen (names, l ++ rest)) b.spelt
      ∙ ap (λ o. is_mark p.LeftBracket o || is_mark p.LeftParen o) (peek_mark (suffix_mark (declarator_suffix_shape x)) b.at (b.others ++ rest)) ∙ suffix_goes (declarator_suffix_shape x);
  ends = λ s names. no_suffix names;
  follows = λ s names x y rest g h st. tt;
  some = λ s names x g. some_suffix x;
}

-- pointers do not go on with what stands in the middle of a declarator, nor with a suffix

-- a token that is neither `*` nor `const`
record NoPointer (t : Token) : Type 0 where
  star : is_mark p.Star (Some t.kind) ≡ false
  const : is_const (Some t.kind) ≡ false

stars_before : (stars : List Pointer) (names : Names) (t : Token) (ts : Tokens) → NoPointer t → all_stop pointer_items tt stars names (t ∷ ts)
stars_before [] names t ts n = ap (is_mark p.Star) (peek_first t ts) ∙ n.star
stars_before (q ∷ qs) names t ts n = stop_made pointer_items tt q qs names (t ∷ ts) (ap is_const (peek_first t ts) ∙ n.const) (ap (is_mark p.Star) (peek_first t ts) ∙ n.star)

first_token : (a b : Token) (r s : Tokens) → ◌≡◌ {A = Tokens} (a ∷ r) (b ∷ s) → a ≡ b
first_token a b r s h = cc

direct_no_pointer : {d : Direct} → DirectShape d → (t : Token) (ts : Tokens) → direct_spelling d ≡ t ∷ ts → NoPointer t
direct_no_pointer DirectShape.a_nothing t ts e = absurd (let n : ◌≡◌ {A = Tokens} [] (t ∷ ts) = sym direct_spelling-Nothing ∙ e in cc)
direct_no_pointer (DirectShape.a_named id) t ts e = subst NoPointer (first_token _ t [] ts (sym (direct_spelling-Named id) ∙ e)) (record { star = refl; const = refl })
direct_no_pointer (DirectShape.a_grouped from d to) t ts e = subst NoPointer (first_token (punct p.LeftParen from) t _ ts (sym (direct_spelling-Grouped from d to) ∙ e)) (record { star = refl; const = refl })

direct_quiet : {d : Direct} → DirectShape d → (names : Names) → direct_spelling d ≡ [] → (direct_level d names).1 ≡ []
direct_quiet DirectShape.a_nothing names e = ap (λ f. (f names).1) direct_level-Nothing
direct_quiet (DirectShape.a_named id) names e = absurd (let n : ◌≡◌ {A = Tokens} [] (name_token id ∷ []) = sym e ∙ direct_spelling-Named id in cc)
direct_quiet (DirectShape.a_grouped from d to) names e = absurd (let n : ◌≡◌ {A = Tokens} [] (punct p.LeftParen from ∷ (declarator_spelling d ++ punct p.RightParen to ∷ [])) = sym e ∙ direct_spelling-Grouped from d to in cc)

-- what stands in the middle does not go on with a suffix

-- the token behind the bracket of a parameter list begins parameters
begins_tail : (names : Names) (u : Tail) (rest : Tokens) → tail_form.good names u → begins_parameters names (peek (tail_form.spell u ++ rest)) ≡ true
begins_tail names (inl to) rest g = ap (begins_parameters names) (peek_first (punct p.RightParen to) rest)
begins_tail names (inr (inl t)) rest g = ap (begins_parameters names) (peek_first (keyword word.Void t.0) (punct p.RightParen t.1 ∷ rest))
begins_tail names (inr (inr t)) rest g =
    let x : ParameterTree = t.0.0 in
    let q = out-Parameter x in
    let s = specifiers_start true names q.specifiers (good_parts names x g.0.0.0.1).0 in
    let tail : Tokens = joined (map parameter_spelling t.0.1) ++ (punct p.RightParen t.1 ∷ rest) in
    ap (λ l. begins_parameters names (peek l)) (list_flat x t.0.1 t.1 rest ∙ append_assoc (parameter_spelling x) (joined (map parameter_spelling t.0.1)) (punct p.RightParen t.1 ∷ rest))
    ∙ ap (λ l. begins_parameters names (peek (l ++ tail))) (parameter_spelling-is x ∙ ap (λ c. comma_at c ++ (joined (map specifier_spelling q.specifiers) ++ declarator_spelling q.declarator)) g.0.0.0.0)
    ∙ ap (λ l. begins_parameters names (peek ((l ++ declarator_spelling q.declarator) ++ tail))) s.spelt
    ∙ ap (begins_parameters names) (peek_first s.first ((s.others ++ declarator_spelling q.declarator) ++ tail))
    ∙ or_right (is_mark p.RightParen (Some s.first.kind)) _ s.good
  where
    or_right : (a b : Bool) → b ≡ true → (a || b) ≡ true
    or_right true b h = refl
    or_right false b h = h

no_group : (purpose : Use) (names : Names) (kind : Option TokenKind) → (purpose ≡ Declaring → ⊥) → begins_parameters names kind ≡ true → opens_declarator purpose names kind ≡ false
no_group Declaring names kind n h = absurd (n refl)
no_group Abstract names kind n h = ap not h
no_group Parameter names kind n h = ap not h

takes_none : (purpose : Use) (typed : Bool) (names : Names) (op : Punct) (at : Pos) (rest : Tokens) → takes_name purpose typed names (peek (punct op at ∷ rest)) ≡ false
takes_none Declaring typed names op at rest = ap (takes_name Declaring typed names) (peek_mark op at rest)
takes_none Abstract typed names op at rest = refl
takes_none Parameter typed names op at rest = ap (takes_name Parameter typed names) (peek_mark op at rest)

-- nothing stands before a suffix only where no name is wanted
nothing_before : (purpose : Use) (typed : Bool) (names : Names) (x : DeclaratorSuffix) (rest : Tokens) → (purpose ≡ Declaring → ⊥) → Image array_of x ⊎ Image tail_of x → (declarator_suffix_level x names).0.good ≡ true
    → nothing_stop true purpose typed names (declarator_suffix_spelling x ++ rest)
nothing_before purpose typed names x rest n (inl i) g =
    subst (λ x. nothing_stop true purpose typed names (declarator_suffix_spelling x ++ rest)) i.1
    (subst (λ l. nothing_stop true purpose typed names (l ++ rest)) (sym (array_spelt i.0.0 i.0.1)) (
      ap (λ o. is_mark p.LeftParen o && opens_declarator purpose names (peek (behind (punct p.LeftBracket i.0.0 ∷ (array_tail.spell i.0.1 ++ rest))))) (peek_first (punct p.LeftBracket i.0.0) (array_tail.spell i.0.1 ++ rest)),
      takes_none purpose typed names p.LeftBracket i.0.0 (array_tail.spell i.0.1 ++ rest),
    ))
nothing_before purpose typed names x rest n (inr i) g =
    let ts : Tokens = tail_form.spell i.0.1 ++ rest in
    subst (λ x. (declarator_suffix_level x names).0.good ≡ true → nothing_stop true purpose typed names (declarator_suffix_spelling x ++ rest)) i.1 (λ g.
    subst (λ l. nothing_stop true purpose typed names (l ++ rest)) (sym (tail_spelt i.0.0 i.0.1)) (
      ap (λ l. sees p.LeftParen (names, punct p.LeftParen i.0.0 ∷ ts) && opens_declarator purpose names (peek l)) (behind_first (punct p.LeftParen i.0.0) ts)
          ∙ ap (λ b. sees p.LeftParen (names, punct p.LeftParen i.0.0 ∷ ts) && b) (no_group purpose names (peek ts) n (begins_tail names i.0.1 rest (tail_parts names i.0.0 i.0.1 g))) ∙ and_false _,
      takes_none purpose typed names p.LeftParen i.0.0 ts,
    )) g

named_by : {d : Direct} → DirectShape d → (typed : Bool) (names : Names) → declares Declaring typed (direct_level d names).0 ≡ true → is_no_name d ≡ true → ⊥
unfolding is_no_name out-Direct out
named_by DirectShape.a_nothing typed names g h = let e : false ≡ true = sym (ap (λ f. declares Declaring typed (f names).0) direct_level-Nothing) ∙ g in absurd cc
named_by (DirectShape.a_named id) typed names g h = absurd cc
named_by (DirectShape.a_grouped from d to) typed names g h = absurd cc

not_declaring : (purpose : Use) (typed : Bool) (names : Names) (d : Direct) → declares purpose typed (direct_level d names).0 ≡ true → is_no_name d ≡ true → purpose ≡ Declaring → ⊥
not_declaring purpose typed names d g h e = named_by (direct_shape d) typed names (subst (λ u. declares u typed (direct_level d names).0 ≡ true) e g) h

abbrev front_form : Use → Bool → Form (List Pointer × Direct)
front_form purpose typed = open_seq (list pointer_items tt) (λ stars. middle_form purpose typed)

suffix_token : (x : DeclaratorSuffix) → (t : Token) × (ts : Tokens) × (declarator_suffix_spelling x ≡ t ∷ ts) × NoPointer t
suffix_token x = by (declarator_suffix_shape x) where
  by : {x : DeclaratorSuffix} → DeclaratorSuffixShape x → (t : Token) × (ts : Tokens) × (declarator_suffix_spelling x ≡ t ∷ ts) × NoPointer t
  by (DeclaratorSuffixShape.a_array from to) = (punct p.LeftBracket from, _, declarator_suffix_spelling-Array from to, record { star = refl; const = refl })
  by (DeclaratorSuffixShape.a_array_of from size to) = (punct p.LeftBracket from, _, declarator_suffix_spelling-ArrayOf from size to, record { star = refl; const = refl })
  by (DeclaratorSuffixShape.a_empty from to) = (punct p.LeftParen from, _, declarator_suffix_spelling-Empty from to, record { star = refl; const = refl })
  by (DeclaratorSuffixShape.a_void from at to) = (punct p.LeftParen from, _, declarator_suffix_spelling-Void from at to, record { star = refl; const = refl })
  by (DeclaratorSuffixShape.a_parameters from all to) = (punct p.LeftParen from, _, declarator_suffix_spelling-Parameters from all to, record { star = refl; const = refl })

middle_follows : (purpose : Use) (typed : Bool) (names : Names) (d : Direct) (x : DeclaratorSuffix) (rest : Tokens) (b : Bool) → is_no_name d ≡ b → declares purpose typed (direct_level d names).0 ≡ true
    → (declarator_suffix_level x (names ++ (direct_level d names).1)).0.good ≡ true → (middle_form purpose typed).stop d (names ++ (direct_level d names).1) (declarator_suffix_spelling x ++ rest)
middle_follows purpose typed names d x rest true e g h =
    subst (λ b. nothing_stop b purpose typed (names ++ (direct_level d names).1) (declarator_suffix_spelling x ++ rest)) (sym e)
    (nothing_before purpose typed (names ++ (direct_level d names).1) x rest (not_declaring purpose typed names d g e) (suffix_is (declarator_suffix_shape x) _ h) h)
middle_follows purpose typed names d x rest false e g h = subst (λ b. nothing_stop b purpose typed (names ++ (direct_level d names).1) (declarator_suffix_spelling x ++ rest)) (sym e) tt

-- the names behind pointers are those before them
front_names : (names : Names) (stars : List Pointer) → names ++ all_added pointer_items names stars ≡ names
front_names names stars = ap (λ l. names ++ l) (pointers_quiet names stars) ∙ append-nil names

front_follows : (purpose : Use) (typed : Bool) (names : Names) (t : List Pointer × Direct) (x : DeclaratorSuffix) (rest : Tokens) → (front_form purpose typed).good names t
    → (declarator_suffix_level x (names ++ (front_form purpose typed).adds names t)).0.good ≡ true → (front_form purpose typed).stop t (names ++ (front_form purpose typed).adds names t) (declarator_suffix_spelling x ++ rest)
front_follows purpose typed names t x rest g h =
    let names1 : Names = names ++ all_added pointer_items names t.0 in
    let same : names1 ++ (direct_level t.1 names1).1 ≡ names ++ (front_form purpose typed).adds names t = append_assoc names (all_added pointer_items names t.0) (direct_level t.1 names1).1 in
    let k = suffix_token x in (
      subst (λ n. (middle_form purpose typed).stop t.1 n (declarator_suffix_spelling x ++ rest)) same
          (middle_follows purpose typed names1 t.1 x rest (is_no_name t.1) refl g.1 (subst (λ n. (declarator_suffix_level x n).0.good ≡ true) (sym same) h)),
      λ z. subst (λ l. all_stop pointer_items tt t.0 (names ++ (front_form purpose typed).adds names t) (l ++ rest)) (sym k.2) (stars_before t.0 _ k.0 (k.1 ++ rest) k.3),
    )

module _ (more : ℕ) (inner : Inner) (purpose : Use) (typed : Bool) (exact : Exact (deeper (expr_form conditional)) more (inner.expr conditional))
    (firsts : Exact first_parameter more (parameter more inner None)) (nexts : Exact next_form more (next_parameter more inner)) (declarators : Exact (deeper (declarator_form purpose typed)) more (inner.declarator purpose typed)) where
  front_exact : Exact (front_form purpose typed) more (both read_pointers (λ stars. middle more inner purpose typed))
  front_exact =
      open_exact (list pointer_items tt) (λ stars. middle_form purpose typed) more read_pointers (λ stars. middle more inner purpose typed) (pointers_exact more) (λ stars. middle_exact more inner purpose typed declarators)
      (λ names stars d g e. direct_quiet (direct_shape d) names e)
      (λ names stars d t ts rest g h e. stars_before stars _ t (ts ++ rest) (direct_no_pointer (direct_shape d) t ts e))

  parts_exact : Exact (parts_form purpose typed) more (both (both read_pointers (λ stars. middle more inner purpose typed)) (λ t. many (λ i. sees p.LeftBracket i || sees p.LeftParen i) (one_suffix more inner)))
  parts_exact =
      chain_exact (front_form purpose typed) behind_items (λ t. tt) more _ (λ s. one_suffix more inner) front_exact (suffixes_kept more inner (suffix_exact more inner exact firsts nexts))
      (λ names t x rest g h st. front_follows purpose typed names t x rest g h)

abbrev pub declarator_of : (List Pointer × Direct) × List DeclaratorSuffix → Declarator
declarator_of t = roll-Declarator (record { pointers = t.0.0; direct = t.0.1; suffixes = t.1 })

suffixes_told : (names : Names) (xs : List DeclaratorSuffix) → all_good behind_items tt names xs → suffixes_good (in_row (map declarator_suffix_level xs) names).0 ≡ true
suffixes_told names [] g = refl
suffixes_told names (x ∷ xs) g = both_are _ _ g.0 (suffixes_told (names ++ (declarator_suffix_level x names).1) xs g.1)

suffixes_are : (names : Names) (xs : List DeclaratorSuffix) → suffixes_good (in_row (map declarator_suffix_level xs) names).0 ≡ true → all_good behind_items tt names xs
suffixes_are names [] h = tt
suffixes_are names (x ∷ xs) h = let b = both_true (declarator_suffix_level x names).0.good _ h in (b.0, suffixes_are (names ++ (declarator_suffix_level x names).1) xs b.1)

module _ (purpose : Use) (typed : Bool) where
  parts_names : (names : Names) (t : (List Pointer × Direct) × List DeclaratorSuffix) → names ++ (front_form purpose typed).adds names t.0 ≡ names ++ (direct_level t.0.1 names).1
  parts_names names t =
      ap (λ l. names ++ (l ++ (direct_level t.0.1 (names ++ l)).1)) (pointers_quiet names t.0.0) ∙ ap (λ n. names ++ (direct_level t.0.1 n).1) (append-nil names)

  pub declarator_good : (names : Names) (t : (List Pointer × Direct) × List DeclaratorSuffix) → (parts_form purpose typed).good names t → declares purpose typed (declarator_level (declarator_of t) names).0 ≡ true
  declarator_good names t g =
      parts_declare purpose typed (declarator_of t) names (subst (λ n. declares purpose typed (direct_level t.0.1 n).0 ≡ true) (front_names names t.0.0) g.0.1)
      (suffixes_told (names ++ (direct_level t.0.1 names).1) t.1 (subst (λ n. all_good behind_items tt n t.1) (parts_names names t) g.1))

  pub declarator_parts : (names : Names) (t : (List Pointer × Direct) × List DeclaratorSuffix) → declares purpose typed (declarator_level (declarator_of t) names).0 ≡ true → (parts_form purpose typed).good names t
  declarator_parts names t h =
      let b = declares_parts purpose typed (declarator_of t) names h in (
        (pointers_good names t.0.0, subst (λ n. declares purpose typed (direct_level t.0.1 n).0 ≡ true) (sym (front_names names t.0.0)) b.0),
        subst (λ n. all_good behind_items tt n t.1) (sym (parts_names names t)) (suffixes_are (names ++ (direct_level t.0.1 names).1) t.1 b.1),
      )

  declarator_seen : (names : Names) (t : (List Pointer × Direct) × List DeclaratorSuffix) → (declarator_level (declarator_of t) names).1 ≡ (parts_form purpose typed).adds names t
  declarator_seen names t =
      ap (λ f. (f names).1) (declarator_level-is (declarator_of t))
      ∙ ap (λ l. (direct_level t.0.1 names).1 ++ l) (sym (added_in_row behind_items declarator_suffix_level (λ names x. refl) (names ++ (direct_level t.0.1 names).1) t.1))
      ∙ sym (ap (λ l. (l ++ (direct_level t.0.1 (names ++ l)).1) ++ all_added behind_items (names ++ (l ++ (direct_level t.0.1 (names ++ l)).1)) t.1) (pointers_quiet names t.0.0)
      ∙ ap (λ n. (direct_level t.0.1 n).1 ++ all_added behind_items (names ++ (direct_level t.0.1 n).1) t.1) (append-nil names))

  pub declarator_node : Node (parts_form purpose typed) declarator_of (declarator_form purpose typed)
  declarator_node = record {
    good = declarator_good;
    parts = declarator_parts;
    nested = λ t. declarator_nesting-is (declarator_of t) ∙ (let e = pointers_flat t.0.0 in omega arith);
    spelt = λ t. declarator_spelling-is (declarator_of t) ∙ ap (λ l. l ++ (direct_spelling t.0.1 ++ joined (map declarator_suffix_spelling t.1))) (pointers_spelt t.0.0)
        ∙ sym (append_assoc (joined (map pointer_spelling t.0.0)) (direct_spelling t.0.1) (joined (map declarator_suffix_spelling t.1)));
    seen = declarator_seen;
    stop = λ names t behind rest g h. h;
    from_stop = λ names t behind rest g h. h;
  }

pub declarator_exact : (more : ℕ) (inner : Inner) (purpose : Use) (typed : Bool) → Exact (deeper (expr_form conditional)) more (inner.expr conditional)
    → Exact first_parameter more (parameter more inner None) → Exact next_form more (next_parameter more inner) → Exact (deeper (declarator_form purpose typed)) more (inner.declarator purpose typed)
    → Exact (declarator_form purpose typed) more (read_declarator more inner purpose typed)
unfolding read_declarator
declarator_exact more inner purpose typed exact firsts nexts declarators =
    whole_exact (Image declarator_of) (declarator_form purpose typed) more _ (λ names d g. (parts_of d, roll-out-Declarator d))
    (same_exact (only (Image declarator_of) (declarator_form purpose typed)) more _ (read_declarator more inner purpose typed)
    (three read_pointers (λ stars. middle more inner purpose typed) (λ stars d. many (goes_suffix more inner) (one_suffix more inner)) (λ stars d suffixes. roll-Declarator (record { pointers = stars; direct = d; suffixes = suffixes })))
    (node_exact (parts_form purpose typed) declarator_of (declarator_form purpose typed) more _ (parts_exact more inner purpose typed exact firsts nexts declarators) (declarator_node purpose typed)))
