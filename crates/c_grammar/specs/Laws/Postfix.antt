-- Suffixes, and postfix expressions, are read exactly (C11 6.5.2).
use Rattle.std.specs.Prelude.{◌≡◌, ℕ, ◌+◌, ◌≤◌, ◌<◌, max, Bool, true, false, not, ◌&&◌, if◌then◌else◌, nat_le, List, [], ◌∷◌, ◌++◌, length, map, refl}
use Rattle.std.proofs.Common.{ap, sym, ◌∙◌, subst, arith, append_assoc, append-nil, ◌⊎◌, inl, inr}
use Rattle.c_tree.specs.declared.token.Pos.{Pos}
use Rattle.c_tree.specs.declared.token.Punct.{Punct}
use Rattle.c_tree.specs.declared.token.Punct.TheVariants as p
use Rattle.c_tree.specs.declared.expression.Identifier.{Identifier}
use Rattle.c_tree.specs.declared.expression.Expr.{Expr}
use Rattle.c_tree.specs.declared.expression.Expr.TheVariants as expr
use Rattle.c_tree.specs.declared.expression.Next.{Next}
use Rattle.c_tree.specs.declared.expression.Suffix.{Suffix}
use Rattle.c_tree.specs.declared.expression.Suffix.TheVariants as suffix
use Rattle.c_tree.specs.Spelling.Tokens.{punct, joined}
use Rattle.c_tree.specs.Spelling.Trees.{expr_spelling, suffix_spelling, next_spelling, expr_spelling-Postfix, suffix_spelling-Index, suffix_spelling-Call, suffix_spelling-CallWith, suffix_spelling-Member, suffix_spelling-Arrow, suffix_spelling-Increment, suffix_spelling-Decrement}
use Rattle.c_tree.specs.Levels.Names.{Names, in_row}
use Rattle.c_tree.specs.Levels.Productions.{primary, postfix, unary, cast, assignment, comma, none, joins}
use Rattle.c_tree.specs.Levels.Facts.{all_good as all_true}
use Rattle.c_tree.specs.Levels.Trees.{expr_level, suffix_level}
use Rattle.c_grammar.specs.Laws.Tests.{and_false}
use Rattle.c_grammar.specs.Laws.Told.{expr_level-Postfix, suffix_level-Index, suffix_level-Call, suffix_level-CallWith, suffix_level-Member, suffix_level-Arrow, suffix_level-Increment, suffix_level-Decrement}
use Rattle.c_tree.specs.Nesting.OfTrees.{deepest}
use Rattle.c_tree.specs.Nesting.Trees.{expr_nesting, next_nesting, suffix_nesting, expr_nesting-Postfix, suffix_nesting-Index, suffix_nesting-Call, suffix_nesting-CallWith, suffix_nesting-Member, suffix_nesting-Arrow, suffix_nesting-Increment, suffix_nesting-Decrement}
use Rattle.c_grammar.specs.Input.{Tokens, State, Parser, ◌>>=◌, pure, choose, peek, sees, goes, expect, identifier, opening, many}
use Rattle.c_grammar.specs.Read.Nodes.{with_suffixes, begins_cast}
use Rattle.c_grammar.specs.Read.Inner.{Inner}
use Rattle.c_grammar.specs.Read.Expressions.{after_operator, nexts, primary as read_primary, index, no_arguments, arguments, call, member, arrow, increment, decrement, one_suffix, postfixed}
use Rattle.c_grammar.specs.Ending.OfTrees.{Ending, plain}
use Rattle.c_grammar.specs.Ending.Trees.{expr_ending, expr_ending-Name, expr_ending-Number, expr_ending-Char, expr_ending-Strings, expr_ending-Paren, expr_ending-Postfix}
use Rattle.c_grammar.specs.Laws.Form.{Form, Exact, Node, Image, Split, Joint, only, both, map_to, node_exact, joint_exact, same_exact, choose_exact, whole_exact, two, three, bind_same, choose_same, choose_map, either, either_exact}
use Rattle.c_grammar.specs.Laws.Lists.{Items, Kept, all_good, chain, chain_exact, last_of, stop_goes, stop_made, added_in_row}
use Rattle.c_grammar.specs.Laws.Single.{mark_form, expect_exact, name_form, identifier_exact, sees_mark}
use Rattle.c_grammar.specs.Laws.Rows.{pre, pre_exact, deeper, opened, opened_exact, closed, closed_exact, bracketed, bracketed_exact}
use Rattle.c_grammar.specs.Laws.Cases.{ExprShape, expr_shape, SuffixShape, suffix_shape}
use Rattle.c_grammar.specs.Laws.Behind.{goes_on, expr_form, both_true, both_are, nat_le-true, nat_le-is, good_of, where_is, before_mark, goes_mark, goes_end, next_level as next_production, no_goes, primary_stop}
use Rattle.c_grammar.specs.Laws.Numbers.{shape_number, number_within, tighter, level_low}
use Rattle.c_grammar.specs.Laws.Primary.{primary_exact}
use Rattle.c_grammar.specs.Laws.Operators.{expr_at, operand_of, next_items, nexts_kept, before_next, operands_good, operands_are, operands_added}
use Rattle.c_grammar.specs.Laws.Starts.{Begins, begins_seen, image_begins, opens}

abbrev pub suffix_form : Form Suffix
suffix_form = record {
  spell = suffix_spelling;
  good = λ names x. (suffix_level x names).0 ≡ true;
  adds = λ names x. (suffix_level x names).1;
  nest = suffix_nesting;
  stop = λ x names rest. Unit {0};
}

-- ---- an index

abbrev index_of : (Pos × Expr) × Pos → Suffix
index_of t = suffix.Index t.0.0 t.0.1 t.1

index_node : Node (bracketed p.LeftBracket (deeper (expr_form comma)) p.RightBracket) index_of suffix_form
index_node = record {
  good = λ names t g. ap (λ f. (f names).0) (suffix_level-Index t.0.0 t.0.1 t.1) ∙ nat_le-is (expr_level t.0.1 names).0 comma g.0.1;
  parts = λ names t g. ((tt, nat_le-true (expr_level t.0.1 names).0 comma (sym (ap (λ f. (f names).0) (suffix_level-Index t.0.0 t.0.1 t.1)) ∙ g)), tt);
  nested = λ t. suffix_nesting-Index t.0.0 t.0.1 t.1 ∙ omega arith;
  spelt = λ t. suffix_spelling-Index t.0.0 t.0.1 t.1;
  seen = λ names t. ap (λ f. (f names).1) (suffix_level-Index t.0.0 t.0.1 t.1);
  stop = λ names t behind rest g h. tt;
  from_stop = λ names t behind rest g h. tt;
}

index_exact : (more : ℕ) (inner : Inner) → Exact (deeper (expr_form comma)) more (inner.expr comma) → Exact (only (Image index_of) suffix_form) more (index more inner)
unfolding index
index_exact more inner exact =
    same_exact (only (Image index_of) suffix_form) more _ (index more inner) (three (opening more p.LeftBracket) (λ from. inner.expr comma) (λ from x. expect p.RightBracket) (λ from x to. suffix.Index from x to))
    (node_exact (bracketed p.LeftBracket (deeper (expr_form comma)) p.RightBracket) index_of suffix_form more _
    (bracketed_exact p.LeftBracket (deeper (expr_form comma)) p.RightBracket more (inner.expr comma) exact (λ names x at rest g. before_mark comma (expr_ending x) p.RightBracket at rest (omega arith))) index_node)

-- ---- a call

abbrev pub up : ℕ → ℕ
up n = n + 1

up_is : (n : ℕ) → max 0 (up n) ≡ up n
up_is n = omega arith

abbrev arguments_form : Form (Expr × List Next)
arguments_form = chain (expr_at assignment up) (next_items comma assignment up) (λ a. tt)

abbrev call_tail : Form (Pos ⊎ ((Expr × List Next) × Pos))
call_tail = either (mark_form p.RightParen) (closed arguments_form p.RightParen)

abbrev call_by : Pos → Pos ⊎ ((Expr × List Next) × Pos) → Suffix
call_by from (inl to) = suffix.Call from to
call_by from (inr t) = suffix.CallWith from t.0.0 t.0.1 t.1

abbrev call_of : Pos × (Pos ⊎ ((Expr × List Next) × Pos)) → Suffix
call_of t = call_by t.0 t.1

pub deep_list : {X : Type 0} (f : X → ℕ) (m : ℕ) (xs : List X) → max (up m) (deepest (map (λ x. up (f x)) xs)) ≡ max m (deepest (map f xs)) + 1
deep_list f m [] = omega arith
deep_list f m (x ∷ xs) = let e = deep_list f m xs in omega arith

call_good : (names : Names) (from : Pos) (u : Pos ⊎ ((Expr × List Next) × Pos)) → call_tail.good names u → (suffix_level (call_by from u) names).0 ≡ true
call_good names from (inl to) g = ap (λ f. (f names).0) (suffix_level-Call from to)
call_good names from (inr t) g =
    ap (λ f. (f names).0) (suffix_level-CallWith from t.0.0 t.0.1 t.1)
    ∙ both_are _ _ (nat_le-is (expr_level t.0.0 names).0 assignment g.0.0) (operands_good comma assignment up up_is (omega arith) (omega arith) (names ++ (expr_level t.0.0 names).1) t.0.1 g.0.1)

call_parts : (names : Names) (from : Pos) (u : Pos ⊎ ((Expr × List Next) × Pos)) → (suffix_level (call_by from u) names).0 ≡ true → call_tail.good names u
call_parts names from (inl to) g = tt
call_parts names from (inr t) g =
    let b = both_true (nat_le (expr_level t.0.0 names).0 assignment) _ (sym (ap (λ f. (f names).0) (suffix_level-CallWith from t.0.0 t.0.1 t.1)) ∙ g) in
    ((nat_le-true (expr_level t.0.0 names).0 assignment b.0, operands_are comma assignment up up_is (omega arith) (omega arith) (names ++ (expr_level t.0.0 names).1) t.0.1 b.1), tt)

call_nested : (from : Pos) (u : Pos ⊎ ((Expr × List Next) × Pos)) → suffix_nesting (call_by from u) ≡ max 1 (call_tail.nest u)
call_nested from (inl to) = suffix_nesting-Call from to ∙ omega arith
call_nested from (inr t) = suffix_nesting-CallWith from t.0.0 t.0.1 t.1 ∙ (let e = deep_list next_nesting (expr_nesting t.0.0) t.0.1 in omega arith)

call_spelt : (from : Pos) (u : Pos ⊎ ((Expr × List Next) × Pos)) → suffix_spelling (call_by from u) ≡ punct p.LeftParen from ∷ call_tail.spell u
call_spelt from (inl to) = suffix_spelling-Call from to
call_spelt from (inr t) = suffix_spelling-CallWith from t.0.0 t.0.1 t.1

call_seen : (names : Names) (from : Pos) (u : Pos ⊎ ((Expr × List Next) × Pos)) → (suffix_level (call_by from u) names).1 ≡ call_tail.adds names u
call_seen names from (inl to) = ap (λ f. (f names).1) (suffix_level-Call from to)
call_seen names from (inr t) =
    ap (λ f. (f names).1) (suffix_level-CallWith from t.0.0 t.0.1 t.1)
    ∙ ap (λ l. (expr_level t.0.0 names).1 ++ l) (sym (operands_added comma assignment up up_is (omega arith) (omega arith) (names ++ (expr_level t.0.0 names).1) t.0.1))

call_stop : (u : Pos ⊎ ((Expr × List Next) × Pos)) (behind : Names) (rest : Tokens) → call_tail.stop u behind rest
call_stop (inl to) behind rest = tt
call_stop (inr t) behind rest = tt

call_node : Node (opened p.LeftParen call_tail) call_of suffix_form
call_node = record {
  good = λ names t g. call_good names t.0 t.1 g.1;
  parts = λ names t g. (tt, call_parts names t.0 t.1 g);
  nested = λ t. call_nested t.0 t.1;
  spelt = λ t. call_spelt t.0 t.1;
  seen = λ names t. call_seen names t.0 t.1;
  stop = λ names t behind rest g h. tt;
  from_stop = λ names t behind rest g h. call_stop t.1 behind rest;
}

-- a mark of a looser production, or of none, stands behind operands
pub list_before_mark : (within level : ℕ) (raise : ℕ → ℕ) (names : Names) (a : Expr) (ns : List Next) (op : Punct) (at : Pos) (rest : Tokens) → level < joins op → within < level → level < none
    → (chain (expr_at within raise) (next_items level within raise) (λ a. tt)).stop (a, ns) names (punct op at ∷ rest)
list_before_mark within level raise names a [] op at rest h w low =
    (before_mark within (expr_ending a) op at rest (omega arith), no_goes level plain names (punct op at ∷ rest) low refl refl (before_mark level plain op at rest h))
list_before_mark within level raise names a (n ∷ ns) op at rest h w low =
    stop_made (next_items level within raise) tt n ns names (punct op at ∷ rest)
    (before_mark within (expr_ending (operand_of (last_of (next_items level within raise) n ns))) op at rest (omega arith))
    (no_goes level plain names (punct op at ∷ rest) low refl refl (before_mark level plain op at rest h))

args_close : (names : Names) (t : Expr × List Next) (at : Pos) (rest : Tokens) → arguments_form.good names t → arguments_form.stop t (names ++ arguments_form.adds names t) (punct p.RightParen at ∷ rest)
args_close names t at rest g = list_before_mark assignment comma up (names ++ arguments_form.adds names t) t.0 t.1 p.RightParen at rest (omega arith) (omega arith) (omega arith)

call_is : (more : ℕ) (inner : Inner) (i : State) → call more inner i ≡ map_to (both (opening more p.LeftParen)
    (λ from. choose (sees p.RightParen) (map_to (expect p.RightParen) inl) (map_to (both (both (inner.expr assignment) (λ first. nexts comma (inner.expr assignment))) (λ t. expect p.RightParen)) inr))) call_of i
unfolding call
call_is more inner i =
    let tail : Pos → Parser (Pos ⊎ ((Expr × List Next) × Pos)) =
    λ from. choose (sees p.RightParen) (map_to (expect p.RightParen) inl) (map_to (both (both (inner.expr assignment) (λ first. nexts comma (inner.expr assignment))) (λ t. expect p.RightParen)) inr) in
    bind_same (opening more p.LeftParen) (λ from. choose (sees p.RightParen) (no_arguments more inner from) (arguments more inner from)) (λ from. tail from >>= (λ u. pure (call_by from u)))
    (λ from j. choose_same (sees p.RightParen) (no_arguments more inner from) (arguments more inner from) (no_arguments more inner from) _ (λ j. refl)
    (λ j. three (inner.expr assignment) (λ first. nexts comma (inner.expr assignment)) (λ first rest. expect p.RightParen) (λ first rest to. suffix.CallWith from first rest to) j) j
    ∙ choose_map (sees p.RightParen) (expect p.RightParen) (both (both (inner.expr assignment) (λ first. nexts comma (inner.expr assignment))) (λ t. expect p.RightParen)) (call_by from) j) i
    ∙ two (opening more p.LeftParen) tail call_by i

call_exact : (more : ℕ) (inner : Inner) → Exact (deeper (expr_form assignment)) more (inner.expr assignment) → Exact (only (Image call_of) suffix_form) more (call more inner)
unfolding nexts
call_exact more inner exact =
    same_exact (only (Image call_of) suffix_form) more _ (call more inner) (call_is more inner)
    (node_exact (opened p.LeftParen call_tail) call_of suffix_form more _
    (opened_exact p.LeftParen call_tail more _
    (either_exact (mark_form p.RightParen) (closed arguments_form p.RightParen) more (sees p.RightParen) (expect p.RightParen) _ (expect_exact p.RightParen more)
    (closed_exact arguments_form p.RightParen more _
    (chain_exact (expr_at assignment up) (next_items comma assignment up) (λ a. tt) more (inner.expr assignment) (λ s. after_operator (inner.expr assignment)) exact
    (nexts_kept comma assignment up up_is (omega arith) (omega arith) more (inner.expr assignment) exact)
    (λ names a n rest g h st. before_next assignment comma (expr_ending a) n rest (omega arith) h.0)) args_close)
    (λ names at rest g st. sees_mark p.RightParen names at rest)
    (λ names t rest g st. ap (λ l. sees p.RightParen (names, l)) (argument_first t.0.0 t.0.1 t.1 rest) ∙ opens names t.0.0 _ (let a = g.0.0 in omega arith)))) call_node)
  where
    argument_first : (a : Expr) (ns : List Next) (to : Pos) (rest : Tokens) → (((expr_spelling a ++ joined (map next_spelling ns)) ++ punct p.RightParen to ∷ []) ++ rest) ≡ expr_spelling a ++ (joined (map next_spelling ns) ++ (punct p.RightParen to ∷ rest))
    argument_first a ns to rest = simp append_assoc

-- ---- a member, and an operator behind

abbrev member_of : Pos × Identifier → Suffix
member_of t = suffix.Member t.0 t.1

member_node : Node (pre (mark_form p.Dot) (λ _. name_form)) member_of suffix_form
member_node = record {
  good = λ names t g. ap (λ f. (f names).0) (suffix_level-Member t.0 t.1);
  parts = λ names t g. (tt, tt);
  nested = λ t. suffix_nesting-Member t.0 t.1 ∙ omega arith;
  spelt = λ t. suffix_spelling-Member t.0 t.1;
  seen = λ names t. ap (λ f. (f names).1) (suffix_level-Member t.0 t.1);
  stop = λ names t behind rest g h. tt;
  from_stop = λ names t behind rest g h. tt;
}

abbrev arrow_of : Pos × Identifier → Suffix
arrow_of t = suffix.Arrow t.0 t.1

arrow_node : Node (pre (mark_form p.Arrow) (λ _. name_form)) arrow_of suffix_form
arrow_node = record {
  good = λ names t g. ap (λ f. (f names).0) (suffix_level-Arrow t.0 t.1);
  parts = λ names t g. (tt, tt);
  nested = λ t. suffix_nesting-Arrow t.0 t.1 ∙ omega arith;
  spelt = λ t. suffix_spelling-Arrow t.0 t.1;
  seen = λ names t. ap (λ f. (f names).1) (suffix_level-Arrow t.0 t.1);
  stop = λ names t behind rest g h. tt;
  from_stop = λ names t behind rest g h. tt;
}

increment_node : Node (mark_form p.Increment) suffix.Increment suffix_form
increment_node = record {
  good = λ names t g. ap (λ f. (f names).0) (suffix_level-Increment t);
  parts = λ names t g. tt;
  nested = λ t. suffix_nesting-Increment t;
  spelt = λ t. suffix_spelling-Increment t;
  seen = λ names t. ap (λ f. (f names).1) (suffix_level-Increment t);
  stop = λ names t behind rest g h. tt;
  from_stop = λ names t behind rest g h. tt;
}

decrement_node : Node (mark_form p.Decrement) suffix.Decrement suffix_form
decrement_node = record {
  good = λ names t g. ap (λ f. (f names).0) (suffix_level-Decrement t);
  parts = λ names t g. tt;
  nested = λ t. suffix_nesting-Decrement t;
  spelt = λ t. suffix_spelling-Decrement t;
  seen = λ names t. ap (λ f. (f names).1) (suffix_level-Decrement t);
  stop = λ names t behind rest g h. tt;
  from_stop = λ names t behind rest g h. tt;
}

mark_and_name : (op : Punct) (more : ℕ) → Exact (pre (mark_form op) (λ _. name_form)) more (both (expect op) (λ at. identifier))
mark_and_name op more = pre_exact (mark_form op) (λ _. name_form) more (expect op) (λ at. identifier) (λ names a. refl) (expect_exact op more) (λ _. identifier_exact more) (λ names a b rest g h s. tt)

member_exact : (more : ℕ) (inner : Inner) → Exact (only (Image member_of) suffix_form) more (member more inner)
unfolding member
member_exact more inner =
    same_exact (only (Image member_of) suffix_form) more _ (member more inner) (two (expect p.Dot) (λ at. identifier) suffix.Member)
    (node_exact (pre (mark_form p.Dot) (λ _. name_form)) member_of suffix_form more _ (mark_and_name p.Dot more) member_node)

arrow_exact : (more : ℕ) (inner : Inner) → Exact (only (Image arrow_of) suffix_form) more (arrow more inner)
unfolding arrow
arrow_exact more inner =
    same_exact (only (Image arrow_of) suffix_form) more _ (arrow more inner) (two (expect p.Arrow) (λ at. identifier) suffix.Arrow)
    (node_exact (pre (mark_form p.Arrow) (λ _. name_form)) arrow_of suffix_form more _ (mark_and_name p.Arrow more) arrow_node)

increment_exact : (more : ℕ) (inner : Inner) → Exact (only (Image suffix.Increment) suffix_form) more (increment more inner)
unfolding increment
increment_exact more inner = node_exact (mark_form p.Increment) suffix.Increment suffix_form more (expect p.Increment) (expect_exact p.Increment more) increment_node

decrement_exact : (more : ℕ) (inner : Inner) → Exact (only (Image suffix.Decrement) suffix_form) more (decrement more inner)
unfolding decrement
decrement_exact more inner = node_exact (mark_form p.Decrement) suffix.Decrement suffix_form more (expect p.Decrement) (expect_exact p.Decrement more) decrement_node

-- ---- a suffix is told by its first token

abbrev suffix_mark : {x : Suffix} → SuffixShape x → Punct
suffix_mark (SuffixShape.a_index from inner to) = p.LeftBracket
suffix_mark (SuffixShape.a_call from to) = p.LeftParen
suffix_mark (SuffixShape.a_call_with from first rest to) = p.LeftParen
suffix_mark (SuffixShape.a_member at id) = p.Dot
suffix_mark (SuffixShape.a_arrow at id) = p.Arrow
suffix_mark (SuffixShape.a_increment at) = p.Increment
suffix_mark (SuffixShape.a_decrement at) = p.Decrement

suffix_first : {x : Suffix} (s : SuffixShape x) → Begins (suffix_mark s) (suffix_spelling x)
suffix_first (SuffixShape.a_index from inner to) = record { at = from; others = _; spelt = suffix_spelling-Index from inner to }
suffix_first (SuffixShape.a_call from to) = record { at = from; others = _; spelt = suffix_spelling-Call from to }
suffix_first (SuffixShape.a_call_with from first rest to) = record { at = from; others = _; spelt = suffix_spelling-CallWith from first rest to }
suffix_first (SuffixShape.a_member at id) = record { at = at; others = _; spelt = suffix_spelling-Member at id }
suffix_first (SuffixShape.a_arrow at id) = record { at = at; others = _; spelt = suffix_spelling-Arrow at id }
suffix_first (SuffixShape.a_increment at) = record { at = at; others = _; spelt = suffix_spelling-Increment at }
suffix_first (SuffixShape.a_decrement at) = record { at = at; others = _; spelt = suffix_spelling-Decrement at }

index_begins : (x : Suffix) → Image index_of x → Begins p.LeftBracket (suffix_spelling x)
index_begins = image_begins index_of suffix_spelling p.LeftBracket (λ t. suffix_first (SuffixShape.a_index t.0.0 t.0.1 t.1))

call_first : (from : Pos) (u : Pos ⊎ ((Expr × List Next) × Pos)) → Begins p.LeftParen (suffix_spelling (call_by from u))
call_first from (inl to) = suffix_first (SuffixShape.a_call from to)
call_first from (inr t) = suffix_first (SuffixShape.a_call_with from t.0.0 t.0.1 t.1)

call_begins : (x : Suffix) → Image call_of x → Begins p.LeftParen (suffix_spelling x)
call_begins = image_begins call_of suffix_spelling p.LeftParen (λ t. call_first t.0 t.1)

member_begins : (x : Suffix) → Image member_of x → Begins p.Dot (suffix_spelling x)
member_begins = image_begins member_of suffix_spelling p.Dot (λ t. suffix_first (SuffixShape.a_member t.0 t.1))

arrow_begins : (x : Suffix) → Image arrow_of x → Begins p.Arrow (suffix_spelling x)
arrow_begins = image_begins arrow_of suffix_spelling p.Arrow (λ t. suffix_first (SuffixShape.a_arrow t.0 t.1))

increment_begins : (x : Suffix) → Image suffix.Increment x → Begins p.Increment (suffix_spelling x)
increment_begins = image_begins suffix.Increment suffix_spelling p.Increment (λ t. suffix_first (SuffixShape.a_increment t))

decrement_begins : (x : Suffix) → Image suffix.Decrement x → Begins p.Decrement (suffix_spelling x)
decrement_begins = image_begins suffix.Decrement suffix_spelling p.Decrement (λ t. suffix_first (SuffixShape.a_decrement t))

-- the kinds of suffixes from each choice on, in the order in which they are tried
abbrev Stepped : Suffix → Type 0
Stepped x = Image suffix.Increment x ⊎ Image suffix.Decrement x

abbrev FromArrow : Suffix → Type 0
FromArrow x = Image arrow_of x ⊎ Stepped x

abbrev FromMember : Suffix → Type 0
FromMember x = Image member_of x ⊎ FromArrow x

abbrev FromCall : Suffix → Type 0
FromCall x = Image call_of x ⊎ FromMember x

abbrev FromIndex : Suffix → Type 0
FromIndex x = Image index_of x ⊎ FromCall x

not_arrow : (names : Names) (x : Suffix) (rest : Tokens) → Stepped x → sees p.Arrow (names, suffix_spelling x ++ rest) ≡ false
not_arrow names x rest (inl i) = begins_seen p.Arrow p.Increment names _ rest false (increment_begins x i) refl
not_arrow names x rest (inr i) = begins_seen p.Arrow p.Decrement names _ rest false (decrement_begins x i) refl

not_dot : (names : Names) (x : Suffix) (rest : Tokens) → FromArrow x → sees p.Dot (names, suffix_spelling x ++ rest) ≡ false
not_dot names x rest (inl i) = begins_seen p.Dot p.Arrow names _ rest false (arrow_begins x i) refl
not_dot names x rest (inr (inl i)) = begins_seen p.Dot p.Increment names _ rest false (increment_begins x i) refl
not_dot names x rest (inr (inr i)) = begins_seen p.Dot p.Decrement names _ rest false (decrement_begins x i) refl

not_paren : (names : Names) (x : Suffix) (rest : Tokens) → FromMember x → sees p.LeftParen (names, suffix_spelling x ++ rest) ≡ false
not_paren names x rest (inl i) = begins_seen p.LeftParen p.Dot names _ rest false (member_begins x i) refl
not_paren names x rest (inr (inl i)) = begins_seen p.LeftParen p.Arrow names _ rest false (arrow_begins x i) refl
not_paren names x rest (inr (inr (inl i))) = begins_seen p.LeftParen p.Increment names _ rest false (increment_begins x i) refl
not_paren names x rest (inr (inr (inr i))) = begins_seen p.LeftParen p.Decrement names _ rest false (decrement_begins x i) refl

not_bracket : (names : Names) (x : Suffix) (rest : Tokens) → FromCall x → sees p.LeftBracket (names, suffix_spelling x ++ rest) ≡ false
not_bracket names x rest (inl i) = begins_seen p.LeftBracket p.LeftParen names _ rest false (call_begins x i) refl
not_bracket names x rest (inr (inl i)) = begins_seen p.LeftBracket p.Dot names _ rest false (member_begins x i) refl
not_bracket names x rest (inr (inr (inl i))) = begins_seen p.LeftBracket p.Arrow names _ rest false (arrow_begins x i) refl
not_bracket names x rest (inr (inr (inr (inl i)))) = begins_seen p.LeftBracket p.Increment names _ rest false (increment_begins x i) refl
not_bracket names x rest (inr (inr (inr (inr i)))) = begins_seen p.LeftBracket p.Decrement names _ rest false (decrement_begins x i) refl

suffix_is : {x : Suffix} → SuffixShape x → FromIndex x
suffix_is (SuffixShape.a_index from inner to) = inl (((from, inner), to), refl)
suffix_is (SuffixShape.a_call from to) = inr (inl ((from, inl to), refl))
suffix_is (SuffixShape.a_call_with from first rest to) = inr (inl ((from, inr ((first, rest), to)), refl))
suffix_is (SuffixShape.a_member at id) = inr (inr (inl ((at, id), refl)))
suffix_is (SuffixShape.a_arrow at id) = inr (inr (inr (inl ((at, id), refl))))
suffix_is (SuffixShape.a_increment at) = inr (inr (inr (inr (inl (at, refl)))))
suffix_is (SuffixShape.a_decrement at) = inr (inr (inr (inr (inr (at, refl)))))

-- what stands in brackets in an expression
pub record InsideExpr (more : ℕ) (inner : Inner) : Type 0 where
  pub comma_is : Exact (deeper (expr_form comma)) more (inner.expr comma)
  pub assignment_is : Exact (deeper (expr_form assignment)) more (inner.expr assignment)

suffix_exact : (more : ℕ) (inner : Inner) → InsideExpr more inner → Exact suffix_form more (one_suffix more inner)
unfolding one_suffix
suffix_exact more inner inside =
    whole_exact FromIndex suffix_form more _ (λ names x g. suffix_is (suffix_shape x))
    (choose_exact (Image index_of) FromCall suffix_form more (sees p.LeftBracket) (index more inner) _ (index_exact more inner inside.comma_is)
    (choose_exact (Image call_of) FromMember suffix_form more (sees p.LeftParen) (call more inner) _ (call_exact more inner inside.assignment_is)
    (choose_exact (Image member_of) FromArrow suffix_form more (sees p.Dot) (member more inner) _ (member_exact more inner)
    (choose_exact (Image arrow_of) Stepped suffix_form more (sees p.Arrow) (arrow more inner) _ (arrow_exact more inner)
    (choose_exact (Image suffix.Increment) (Image suffix.Decrement) suffix_form more (sees p.Increment) (increment more inner) (decrement more inner) (increment_exact more inner) (decrement_exact more inner)
    (λ names x rest i g s. begins_seen p.Increment p.Increment names _ rest true (increment_begins x i) refl)
    (λ names x rest i g s. begins_seen p.Increment p.Decrement names _ rest false (decrement_begins x i) refl))
    (λ names x rest i g s. begins_seen p.Arrow p.Arrow names _ rest true (arrow_begins x i) refl)
    (λ names x rest i g s. not_arrow names x rest i))
    (λ names x rest i g s. begins_seen p.Dot p.Dot names _ rest true (member_begins x i) refl)
    (λ names x rest i g s. not_dot names x rest i))
    (λ names x rest i g s. begins_seen p.LeftParen p.LeftParen names _ rest true (call_begins x i) refl)
    (λ names x rest i g s. not_paren names x rest i))
    (λ names x rest i g s. begins_seen p.LeftBracket p.LeftBracket names _ rest true (index_begins x i) refl)
    (λ names x rest i g s. not_bracket names x rest i))

-- ---- a primary expression and the suffixes behind it

pub run_high : (b : Bool) → unary ≤ (if b then cast else unary)
run_high true = omega arith
run_high false = omega arith

pub above_primary : {x : Expr} (s : ExprShape x) (names : Names) → (expr_level x names).0 ≤ primary → primary < shape_number s → ⊥
above_primary s names h n = let e = number_within s names primary h (omega arith) in omega arith

-- a primary expression is no `sizeof` `(` type name `)`
pub primary_size : {x : Expr} → ExprShape x → (names : Names) → (expr_level x names).0 ≤ primary → (expr_ending x).size ≡ false
primary_size (ExprShape.a_name id) names h = ap (λ e. e.size) (expr_ending-Name id)
primary_size (ExprShape.a_number value kind at) names h = ap (λ e. e.size) (expr_ending-Number value kind at)
primary_size (ExprShape.a_char value at) names h = ap (λ e. e.size) (expr_ending-Char value at)
primary_size (ExprShape.a_strings all) names h = ap (λ e. e.size) (expr_ending-Strings all)
primary_size (ExprShape.a_paren from inner to) names h = ap (λ e. e.size) (expr_ending-Paren from inner to)
primary_size (ExprShape.a_postfix a xs) names h = absurd (above_primary (ExprShape.a_postfix a xs) names h (omega arith))
primary_size (ExprShape.a_sizeof_type at from type to) names h = absurd (above_primary (ExprShape.a_sizeof_type at from type to) names h (omega arith))
primary_size (ExprShape.a_prefixed run a) names h = absurd (above_primary (ExprShape.a_prefixed run a) names h (let l = run_high (begins_cast run) in omega arith))
primary_size (ExprShape.a_binary lv a ns) names h = absurd (above_primary (ExprShape.a_binary lv a ns) names h (let l = level_low lv in omega arith))
primary_size (ExprShape.a_conditional a bs) names h = absurd (above_primary (ExprShape.a_conditional a bs) names h (omega arith))
primary_size (ExprShape.a_assign a ns) names h = absurd (above_primary (ExprShape.a_assign a ns) names h (omega arith))
primary_size (ExprShape.a_comma a ns) names h = absurd (above_primary (ExprShape.a_comma a ns) names h (omega arith))

abbrev pub suffix_items : Items (Unit {0}) Suffix
suffix_items = record {
  spell = suffix_spelling;
  good = λ s. suffix_form.good;
  adds = suffix_form.adds;
  nest = suffix_nesting;
  stop = suffix_form.stop;
  goes = λ s. goes postfix;
  step = λ s x. tt;
}

mark_of_suffix : {x : Suffix} (s : SuffixShape x) → joins (suffix_mark s) ≡ postfix
mark_of_suffix (SuffixShape.a_index from inner to) = refl
mark_of_suffix (SuffixShape.a_call from to) = refl
mark_of_suffix (SuffixShape.a_call_with from first rest to) = refl
mark_of_suffix (SuffixShape.a_member at id) = refl
mark_of_suffix (SuffixShape.a_arrow at id) = refl
mark_of_suffix (SuffixShape.a_increment at) = refl
mark_of_suffix (SuffixShape.a_decrement at) = refl

suffix_goes : (names : Names) (x : Suffix) (rest : Tokens) → goes postfix (names, suffix_spelling x ++ rest) ≡ true
suffix_goes names x rest =
    let s = suffix_shape x in
    let b = suffix_first s in
    ap (λ l. goes postfix (names, l ++ rest)) b.spelt ∙ goes_mark postfix names (suffix_mark s) b.at (b.others ++ rest) (mark_of_suffix s)

pub before_suffix : (within : ℕ) (e : Ending) (x : Suffix) (rest : Tokens) → within < postfix → within < goes_on e (peek (suffix_spelling x ++ rest))
before_suffix within e x rest low =
    let s = suffix_shape x in
    let b = suffix_first s in
    let j = mark_of_suffix s in
    subst (λ l. within < goes_on e (peek (l ++ rest))) (sym b.spelt) (before_mark within e (suffix_mark s) b.at (b.others ++ rest) (omega arith))

some_suffix : (x : Suffix) → 0 < length (suffix_spelling x)
some_suffix x = rw ((suffix_first (suffix_shape x)).spelt) (omega arith)

suffixes_kept : (more : ℕ) (inner : Inner) → InsideExpr more inner → Kept suffix_items more (λ s. one_suffix more inner)
suffixes_kept more inner inside = record {
  sound = λ s names ts x end go h. (suffix_exact more inner inside).sound names ts x end h;
  complete = λ s names x rest g n st. (suffix_exact more inner inside).complete names x rest g n st;
  starts = λ s names x rest g st. suffix_goes names x rest;
  ends = λ s names. goes_end postfix names (omega arith);
  follows = λ s names x y rest g h st. tt;
  some = λ s names x g. some_suffix x;
}

suffixes_good : (names : Names) (xs : List Suffix) → all_good suffix_items tt names xs → all_true (in_row (map suffix_level xs) names).0 ≡ true
suffixes_good names [] g = refl
suffixes_good names (x ∷ xs) g = both_are _ _ g.0 (suffixes_good (names ++ (suffix_level x names).1) xs g.1)

suffixes_are : (names : Names) (xs : List Suffix) → all_true (in_row (map suffix_level xs) names).0 ≡ true → all_good suffix_items tt names xs
suffixes_are names [] h = tt
suffixes_are names (x ∷ xs) h = let b = both_true (suffix_level x names).0 _ h in (b.0, suffixes_are (names ++ (suffix_level x names).1) xs b.1)

abbrev pub postfix_form : Form (Expr × List Suffix)
postfix_form = chain (expr_form primary) suffix_items (λ a. tt)

pub postfix_good : (names : Names) (a : Expr) (xs : List Suffix) → postfix_form.good names (a, xs) → (expr_level (with_suffixes a xs) names).0 ≤ postfix
postfix_good names a [] g = let h = g.0 in omega arith
postfix_good names a (x ∷ xs) g =
    rw (expr_level-Postfix a (x ∷ xs)) (where_is _ postfix postfix (both_are _ _ (nat_le-is (expr_level a names).0 primary g.0) (suffixes_good (names ++ (expr_level a names).1) (x ∷ xs) g.1)) (omega arith))

postfix_node : (a : Expr) (xs : List Suffix) (names : Names) → (expr_level (expr.Postfix a xs) names).0 ≤ postfix → Split postfix_form (λ t. with_suffixes t.0 t.1) (expr_form postfix) names (expr.Postfix a xs)
postfix_node a [] names h =
    let b = (good_of (nat_le (expr_level a names).0 primary && false) postfix postfix (rw (expr_level-Postfix a []) at h) (omega arith)).0 in
    absurd (let z = (both_true (nat_le (expr_level a names).0 primary) false b).1 in cc)
postfix_node a (x ∷ xs) names h =
    let b = both_true (nat_le (expr_level a names).0 primary) _ (good_of _ postfix postfix (rw (expr_level-Postfix a (x ∷ xs)) at h) (omega arith)).0 in
    record { tuple = (a, x ∷ xs); whole = refl; good = (nat_le-true (expr_level a names).0 primary b.0, suffixes_are (names ++ (expr_level a names).1) (x ∷ xs) b.1) }

alone : {x : Expr} (s : ExprShape x) (names : Names) → (expr_level x names).0 ≤ postfix → shape_number s ≤ primary → Split postfix_form (λ t. with_suffixes t.0 t.1) (expr_form postfix) names x
alone {x} s names h n = record { tuple = (x, []); whole = refl; good = (tighter s names primary (omega arith) n, tt) }

too_loose : {x : Expr} (s : ExprShape x) (names : Names) → (expr_level x names).0 ≤ postfix → postfix < shape_number s → ⊥
too_loose s names h n = let e = number_within s names postfix h (omega arith) in omega arith

pub postfix_split : {x : Expr} → ExprShape x → (names : Names) → (expr_level x names).0 ≤ postfix → Split postfix_form (λ t. with_suffixes t.0 t.1) (expr_form postfix) names x
postfix_split (ExprShape.a_postfix a xs) names h = postfix_node a xs names h
postfix_split (ExprShape.a_name id) names h = alone (ExprShape.a_name id) names h (omega arith)
postfix_split (ExprShape.a_number value kind at) names h = alone (ExprShape.a_number value kind at) names h (omega arith)
postfix_split (ExprShape.a_char value at) names h = alone (ExprShape.a_char value at) names h (omega arith)
postfix_split (ExprShape.a_strings all) names h = alone (ExprShape.a_strings all) names h (omega arith)
postfix_split (ExprShape.a_paren from inner to) names h = alone (ExprShape.a_paren from inner to) names h (omega arith)
postfix_split (ExprShape.a_sizeof_type at from type to) names h = absurd (too_loose (ExprShape.a_sizeof_type at from type to) names h (omega arith))
postfix_split (ExprShape.a_prefixed run a) names h = absurd (too_loose (ExprShape.a_prefixed run a) names h (let l = run_high (begins_cast run) in omega arith))
postfix_split (ExprShape.a_binary lv a ns) names h = absurd (too_loose (ExprShape.a_binary lv a ns) names h (let l = level_low lv in omega arith))
postfix_split (ExprShape.a_conditional a bs) names h = absurd (too_loose (ExprShape.a_conditional a bs) names h (omega arith))
postfix_split (ExprShape.a_assign a ns) names h = absurd (too_loose (ExprShape.a_assign a ns) names h (omega arith))
postfix_split (ExprShape.a_comma a ns) names h = absurd (too_loose (ExprShape.a_comma a ns) names h (omega arith))

postfix_nested : (a : Expr) (xs : List Suffix) → expr_nesting (with_suffixes a xs) ≡ postfix_form.nest (a, xs)
postfix_nested a [] = omega arith
postfix_nested a (x ∷ xs) = expr_nesting-Postfix a (x ∷ xs)

pub postfix_spelt : (a : Expr) (xs : List Suffix) → expr_spelling (with_suffixes a xs) ≡ postfix_form.spell (a, xs)
postfix_spelt a [] = sym (append-nil (expr_spelling a))
postfix_spelt a (x ∷ xs) = expr_spelling-Postfix a (x ∷ xs)

postfix_seen : (names : Names) (a : Expr) (xs : List Suffix) → (expr_level (with_suffixes a xs) names).1 ≡ postfix_form.adds names (a, xs)
postfix_seen names a [] = sym (append-nil (expr_level a names).1)
postfix_seen names a (x ∷ xs) =
    ap (λ f. (f names).1) (expr_level-Postfix a (x ∷ xs)) ∙ ap (λ l. (expr_level a names).1 ++ l) (sym (added_in_row suffix_items suffix_level (λ names x. refl) (names ++ (expr_level a names).1) (x ∷ xs)))

postfix_stop : (a : Expr) (xs : List Suffix) (behind : Names) (rest : Tokens) → postfix_form.stop (a, xs) behind rest → postfix < goes_on (expr_ending (with_suffixes a xs)) (peek rest)
postfix_stop a [] behind rest h = next_production primary postfix (expr_ending a) (peek rest) (omega arith) (omega arith) h.0 h.1
postfix_stop a (x ∷ xs) behind rest h =
    subst (λ e. postfix < goes_on e (peek rest)) (sym (expr_ending-Postfix a (x ∷ xs)))
    (next_production primary postfix plain (peek rest) (omega arith) (omega arith) (primary_stop plain rest refl) (stop_goes suffix_items tt (x ∷ xs) behind rest h))

postfix_from_stop : (names : Names) (a : Expr) (xs : List Suffix) (behind : Names) (rest : Tokens) → (expr_level a names).0 ≤ primary → postfix < goes_on (expr_ending (with_suffixes a xs)) (peek rest) → postfix_form.stop (a, xs) behind rest
postfix_from_stop names a [] behind rest g h =
    (omega arith, no_goes postfix (expr_ending a) behind rest (omega arith) (ap (λ b. b && true) (primary_size (expr_shape a) names g)) (and_false (not (expr_ending a).target)) h)
postfix_from_stop names a (x ∷ xs) behind rest g h =
    stop_made suffix_items tt x xs behind rest tt (no_goes postfix plain behind rest (omega arith) refl refl (subst (λ e. postfix < goes_on e (peek rest)) (expr_ending-Postfix a (x ∷ xs)) h))

postfix_joint : Joint postfix_form (λ t. with_suffixes t.0 t.1) (expr_form postfix)
postfix_joint = record {
  good = λ names t g. postfix_good names t.0 t.1 g;
  split = λ names x g. postfix_split (expr_shape x) names g;
  nested = λ t. postfix_nested t.0 t.1;
  spelt = λ t. postfix_spelt t.0 t.1;
  seen = λ names t. postfix_seen names t.0 t.1;
  stop = λ names t behind rest g h. postfix_stop t.0 t.1 behind rest h;
  from_stop = λ names t behind rest g h. postfix_from_stop names t.0 t.1 behind rest g.0 h;
}

pub postfix_exact : (more : ℕ) (inner : Inner) → InsideExpr more inner → Exact (expr_form postfix) more (postfixed more inner)
unfolding postfixed
postfix_exact more inner inside =
    same_exact (expr_form postfix) more _ (postfixed more inner) (two (read_primary more inner) (λ a. many (goes postfix) (one_suffix more inner)) with_suffixes)
    (joint_exact postfix_form (λ t. with_suffixes t.0 t.1) (expr_form postfix) more _
    (chain_exact (expr_form primary) suffix_items (λ a. tt) more (read_primary more inner) (λ s. one_suffix more inner) (primary_exact more inner inside.comma_is) (suffixes_kept more inner inside)
    (λ names a x rest g h st. before_suffix primary (expr_ending a) x rest (omega arith))) postfix_joint)
