-- Enumerators are read exactly (C11 6.7.2.2).
use Rattle.std.specs.Prelude.{◌≡◌, ℕ, ◌+◌, ◌<◌, max, Bool, true, false, ◌&&◌, List, [], ◌∷◌, ◌++◌, length, map, Option, Some, None, is_some, refl}
use Rattle.std.proofs.Common.{ap, sym, ◌∙◌, subst, arith, append-nil, ◌⊎◌, inl, inr}
use Rattle.c_tree.specs.declared.token.Pos.{Pos}
use Rattle.c_tree.specs.declared.token.Punct.{Punct}
use Rattle.c_tree.specs.declared.token.Punct.TheVariants as p
use Rattle.c_tree.specs.declared.token.Token.{Token}
use Rattle.c_tree.specs.declared.expression.Identifier.{Identifier}
use Rattle.c_tree.specs.declared.expression.Expr.{Expr}
use Rattle.c_tree.specs.declared.specifier.Enumerator.{Enumerator, out-Enumerator, out-roll-Enumerator}
use Rattle.c_tree.specs.declared.specifier.Enumerator.TheVariants as enumerator
use Rattle.c_tree.specs.declared.declarator.DeclaratorSuffix.TheOpen.{Enumerator-F}
use Rattle.c_tree.specs.Layers.{EnumeratorLayer}
use Rattle.c_tree.specs.Spelling.Tokens.{punct, name as name_token, comma_at}
use Rattle.c_tree.specs.Spelling.Trees.{expr_spelling, enumerator_spelling, enumerator_spelling-Plain, enumerator_spelling-Valued}
use Rattle.c_tree.specs.Levels.Names.{Names}
use Rattle.c_tree.specs.Levels.Productions.{conditional, joins}
use Rattle.c_tree.specs.Levels.Trees.{expr_level, enumerator_level}
use Rattle.c_grammar.specs.Laws.Tests.{and_false}
use Rattle.c_grammar.specs.Laws.Told.{enumerator_level-Plain, enumerator_level-Valued}
use Rattle.c_tree.specs.Nesting.OfTrees.{deepest}
use Rattle.c_tree.specs.Nesting.Trees.{expr_nesting, enumerator_nesting, enumerator_nesting-Plain, enumerator_nesting-Valued}
use Rattle.c_grammar.specs.Punctuators.{same_mark}
use Rattle.c_grammar.specs.Input.{Tokens, State, Parser, and_then, ◌>>=◌, pure, choose, peek, behind, is_name, sees, expect, identifier, opening, many, declare}
use Rattle.c_grammar.specs.Read.Inner.{Inner}
use Rattle.c_grammar.specs.Read.Specifiers.{enumerator_value, one_enumerator, next_enumerator, goes_enumerator, optional_comma}
use Rattle.c_grammar.specs.Ending.Trees.{expr_ending}
use Rattle.c_grammar.specs.Laws.Form.{Form, Exact, Node, Image, only, both, map_to, node_exact, same_exact, whole_exact, two, bind_same, choose_same, choose_map, either, either_guarded, declaring, declaring_form, declaring_exact, without, without_guarded, declare_two}
use Rattle.c_grammar.specs.Laws.Lists.{Items, Kept, chain, chain_exact, last_of, stop_made}
use Rattle.c_grammar.specs.Laws.Single.{mark_form, expect_exact, name_form, identifier_exact, opening_form, opening_exact, sees_mark}
use Rattle.c_grammar.specs.Laws.Rows.{pre, pre_exact, post, post_exact, deeper, closed, closed_exact}
use Rattle.c_grammar.specs.Laws.Cases.{EnumeratorShape, enumerator_shape}
use Rattle.c_grammar.specs.Laws.Behind.{goes_on, expr_form, nat_le-true, nat_le-is, before_mark, peek_mark}
use Rattle.c_grammar.specs.Laws.Starts.{peek_first}
use Rattle.c_grammar.specs.Laws.TypeNames.{unlike}

-- ---- a name, and its value where one stands

abbrev value_form : Form ((Pos × Expr) ⊎ Unit {0})
value_form = either (pre (mark_form p.Assign) (λ _. deeper (expr_form conditional))) (without (sees p.Assign))

abbrev valued_name : Form (Identifier × ((Pos × Expr) ⊎ Unit {0}))
valued_name = pre name_form (λ id. value_form)

abbrev constant_of : Names → Identifier × ((Pos × Expr) ⊎ Unit {0}) → Names
constant_of names t = (t.0.text, false) ∷ []

abbrev parts_form : Form (Identifier × ((Pos × Expr) ⊎ Unit {0}))
parts_form = declaring_form constant_of valued_name

abbrev parts_reader : Inner → Parser (Identifier × ((Pos × Expr) ⊎ Unit {0}))
parts_reader inner = declaring constant_of (both identifier (λ id. choose (sees p.Assign) (map_to (both (expect p.Assign) (λ equals. inner.expr conditional)) inl) (map_to (pure tt) inr)))

value_any : (u : (Pos × Expr) ⊎ Unit {0}) (a b : Names) (rest : Tokens) → value_form.stop u a rest → value_form.stop u b rest
value_any (inl t) a b rest h = h
value_any (inr u) a b rest h = h

parts_exact : (more : ℕ) (inner : Inner) → Exact (deeper (expr_form conditional)) more (inner.expr conditional) → Exact parts_form more (parts_reader inner)
parts_exact more inner exact =
    declaring_exact constant_of valued_name more _
    (pre_exact name_form (λ id. value_form) more identifier _ (λ names a. refl) (identifier_exact more)
    (λ id. either_guarded (pre (mark_form p.Assign) (λ _. deeper (expr_form conditional))) (without (sees p.Assign)) more (sees p.Assign) (both (expect p.Assign) (λ equals. inner.expr conditional)) (pure tt)
    (pre_exact (mark_form p.Assign) (λ _. deeper (expr_form conditional)) more (expect p.Assign) (λ equals. inner.expr conditional) (λ names a. refl) (expect_exact p.Assign more) (λ _. exact) (λ names a b rest g h s. tt))
    (without_guarded (sees p.Assign) more)
    (λ names t rest g s. sees_mark p.Assign names t.0 (expr_spelling t.1 ++ rest))
    (λ names u rest g s. subst (λ n. sees p.Assign (n, rest) ≡ false) (append-nil names) s))
    (λ names a b rest g h s. tt))
    (λ names t rest g h. value_any t.1 _ _ rest h) (λ names t rest g h. value_any t.1 _ _ rest h)

abbrev made_by : Option Pos → Identifier → (Pos × Expr) ⊎ Unit {0} → Enumerator
made_by comma id (inl t) = enumerator.Valued comma id t.0 t.1
made_by comma id (inr u) = enumerator.Plain comma id

-- ---- what is told of an enumerator

made_good : (comma : Option Pos) (names : Names) (id : Identifier) (u : (Pos × Expr) ⊎ Unit {0}) → value_form.good names u → (enumerator_level (made_by comma id u) names).0.good ≡ true
made_good comma names id (inl t) g = ap (λ f. (f names).0.good) (enumerator_level-Valued comma id t.0 t.1) ∙ nat_le-is (expr_level t.1 names).0 conditional g.1
made_good comma names id (inr u) g = ap (λ f. (f names).0.good) (enumerator_level-Plain comma id)

good_made : (comma : Option Pos) (names : Names) (id : Identifier) (u : (Pos × Expr) ⊎ Unit {0}) → (enumerator_level (made_by comma id u) names).0.good ≡ true → value_form.good names u
good_made comma names id (inl t) h = (tt, nat_le-true (expr_level t.1 names).0 conditional (sym (ap (λ f. (f names).0.good) (enumerator_level-Valued comma id t.0 t.1)) ∙ h))
good_made comma names id (inr u) h = tt

made_spelt : (comma : Option Pos) (id : Identifier) (u : (Pos × Expr) ⊎ Unit {0}) → enumerator_spelling (made_by comma id u) ≡ comma_at comma ++ (name_token id ∷ value_form.spell u)
made_spelt comma id (inl t) = enumerator_spelling-Valued comma id t.0 t.1
made_spelt comma id (inr u) = enumerator_spelling-Plain comma id

made_seen : (comma : Option Pos) (names : Names) (id : Identifier) (u : (Pos × Expr) ⊎ Unit {0}) → (enumerator_level (made_by comma id u) names).1 ≡ value_form.adds names u ++ (id.text, false) ∷ []
made_seen comma names id (inl t) = ap (λ f. (f names).1) (enumerator_level-Valued comma id t.0 t.1)
made_seen comma names id (inr u) = ap (λ f. (f names).1) (enumerator_level-Plain comma id)

made_comma : (comma : Option Pos) (names : Names) (id : Identifier) (u : (Pos × Expr) ⊎ Unit {0}) → (enumerator_level (made_by comma id u) names).0.comma ≡ is_some comma
made_comma comma names id (inl t) = ap (λ f. (f names).0.comma) (enumerator_level-Valued comma id t.0 t.1)
made_comma comma names id (inr u) = ap (λ f. (f names).0.comma) (enumerator_level-Plain comma id)

-- ---- what is asked of one node

abbrev layer_by : Option Pos → Identifier → (Pos × Expr) ⊎ Unit {0} → EnumeratorLayer
layer_by comma id (inl t) = Enumerator-F.Valued comma id t.0 t.1
layer_by comma id (inr u) = Enumerator-F.Plain comma id

made_layer : (comma : Option Pos) (id : Identifier) (u : (Pos × Expr) ⊎ Unit {0}) → out-Enumerator (made_by comma id u) ≡ layer_by comma id u
made_layer comma id (inl t) = ap out-Enumerator (sym (enumerator.rolls-Valued comma id t.0 t.1)) ∙ out-roll-Enumerator (Enumerator-F.Valued comma id t.0 t.1)
made_layer comma id (inr u) = ap out-Enumerator (sym (enumerator.rolls-Plain comma id)) ∙ out-roll-Enumerator (Enumerator-F.Plain comma id)

abbrev layer_stop : EnumeratorLayer → Names → Tokens → Type 0
layer_stop (Enumerator-F.Plain comma id) names rest = sees p.Assign (names, rest) ≡ false
layer_stop (Enumerator-F.Valued comma id equals value) names rest = conditional < goes_on (expr_ending value) (peek rest)

abbrev pub layer_nest : EnumeratorLayer → ℕ
layer_nest (Enumerator-F.Plain comma id) = 0
layer_nest (Enumerator-F.Valued comma id equals value) = expr_nesting value + 1

abbrev pub layer_comma : EnumeratorLayer → Option Pos
layer_comma (Enumerator-F.Plain comma id) = comma
layer_comma (Enumerator-F.Valued comma id equals value) = comma

-- an enumerator in its braces
abbrev pub enumerator_form : Form Enumerator
enumerator_form = record {
  spell = enumerator_spelling;
  good = λ names x. (enumerator_level x names).0.good ≡ true;
  adds = λ names x. (enumerator_level x names).1;
  nest = λ x. layer_nest (out-Enumerator x);
  stop = λ x names rest. layer_stop (out-Enumerator x) names rest;
}

abbrev pub first_enumerator : Form Enumerator
first_enumerator = record { spell = enumerator_form.spell; good = λ names x. (layer_comma (out-Enumerator x) ≡ None) × enumerator_form.good names x; adds = enumerator_form.adds; nest = enumerator_form.nest; stop = enumerator_form.stop }

abbrev pub next_form : Form Enumerator
next_form = record { spell = enumerator_form.spell; good = λ names x. (is_some (layer_comma (out-Enumerator x)) ≡ true) × enumerator_form.good names x; adds = enumerator_form.adds; nest = enumerator_form.nest; stop = enumerator_form.stop }

value_nest : (comma : Option Pos) (id : Identifier) (u : (Pos × Expr) ⊎ Unit {0}) → layer_nest (layer_by comma id u) ≡ max 0 (value_form.nest u)
value_nest comma id (inl t) = omega arith
value_nest comma id (inr u) = omega arith

value_stop : (comma : Option Pos) (id : Identifier) (u : (Pos × Expr) ⊎ Unit {0}) (behind : Names) (rest : Tokens) → value_form.stop u behind rest → layer_stop (layer_by comma id u) behind rest
value_stop comma id (inl t) behind rest h = h
value_stop comma id (inr u) behind rest h = h

stop_value : (comma : Option Pos) (id : Identifier) (u : (Pos × Expr) ⊎ Unit {0}) (behind : Names) (rest : Tokens) → layer_stop (layer_by comma id u) behind rest → value_form.stop u behind rest
stop_value comma id (inl t) behind rest h = h
stop_value comma id (inr u) behind rest h = h

comma_by : (comma : Option Pos) (id : Identifier) (u : (Pos × Expr) ⊎ Unit {0}) → layer_comma (out-Enumerator (made_by comma id u)) ≡ comma
comma_by comma id u = ap layer_comma (made_layer comma id u) ∙ same comma id u where
  same : (comma : Option Pos) (id : Identifier) (u : (Pos × Expr) ⊎ Unit {0}) → layer_comma (layer_by comma id u) ≡ comma
  same comma id (inl t) = refl
  same comma id (inr u) = refl

abbrev first_of : Identifier × ((Pos × Expr) ⊎ Unit {0}) → Enumerator
first_of t = made_by None t.0 t.1

abbrev next_of : Pos × (Identifier × ((Pos × Expr) ⊎ Unit {0})) → Enumerator
next_of t = made_by (Some t.0) t.1.0 t.1.1

first_node : Node parts_form first_of first_enumerator
first_node = record {
  good = λ names t g. (comma_by None t.0 t.1, made_good None names t.0 t.1 g.1);
  parts = λ names t g. (tt, good_made None names t.0 t.1 g.1);
  nested = λ t. ap layer_nest (made_layer None t.0 t.1) ∙ value_nest None t.0 t.1;
  spelt = λ t. made_spelt None t.0 t.1;
  seen = λ names t. made_seen None names t.0 t.1;
  stop = λ names t behind rest g h. subst (λ l. layer_stop l behind rest) (sym (made_layer None t.0 t.1)) (value_stop None t.0 t.1 behind rest h);
  from_stop = λ names t behind rest g h. stop_value None t.0 t.1 behind rest (subst (λ l. layer_stop l behind rest) (made_layer None t.0 t.1) h);
}

next_node : Node (pre (mark_form p.Comma) (λ _. parts_form)) next_of next_form
next_node = record {
  good = λ names t g. (ap is_some (comma_by (Some t.0) t.1.0 t.1.1), made_good (Some t.0) names t.1.0 t.1.1 g.1.1);
  parts = λ names t g. (tt, (tt, good_made (Some t.0) names t.1.0 t.1.1 g.1));
  nested = λ t. ap layer_nest (made_layer (Some t.0) t.1.0 t.1.1) ∙ value_nest (Some t.0) t.1.0 t.1.1 ∙ omega arith;
  spelt = λ t. made_spelt (Some t.0) t.1.0 t.1.1;
  seen = λ names t. made_seen (Some t.0) names t.1.0 t.1.1;
  stop = λ names t behind rest g h. subst (λ l. layer_stop l behind rest) (sym (made_layer (Some t.0) t.1.0 t.1.1)) (value_stop (Some t.0) t.1.0 t.1.1 behind rest h);
  from_stop = λ names t behind rest g h. stop_value (Some t.0) t.1.0 t.1.1 behind rest (subst (λ l. layer_stop l behind rest) (made_layer (Some t.0) t.1.0 t.1.1) h);
}

first_is : {x : Enumerator} (s : EnumeratorShape x) → layer_comma (out-Enumerator x) ≡ None → Image first_of x
first_is (EnumeratorShape.a_plain comma id) e = ((id, inr tt), ap (λ c. enumerator.Plain c id) (sym (sym (comma_by comma id (inr tt)) ∙ e)))
first_is (EnumeratorShape.a_valued comma id equals value) e = ((id, inl (equals, value)), ap (λ c. enumerator.Valued c id equals value) (sym (sym (comma_by comma id (inl (equals, value))) ∙ e)))

next_by : (c : Option Pos) → is_some c ≡ true → (at : Pos) × (Some at ≡ c)
next_by None h = absurd cc
next_by (Some at) h = (at, refl)

next_is : {x : Enumerator} (s : EnumeratorShape x) → is_some (layer_comma (out-Enumerator x)) ≡ true → Image next_of x
next_is (EnumeratorShape.a_plain comma id) e =
    let c = next_by comma (sym (ap is_some (comma_by comma id (inr tt))) ∙ e) in ((c.0, (id, inr tt)), ap (λ c. enumerator.Plain c id) c.1)
next_is (EnumeratorShape.a_valued comma id equals value) e =
    let c = next_by comma (sym (ap is_some (comma_by comma id (inl (equals, value)))) ∙ e) in ((c.0, (id, inl (equals, value))), ap (λ c. enumerator.Valued c id equals value) c.1)

enumerator_reads : (more : ℕ) (inner : Inner) (comma : Option Pos) (i : State) → one_enumerator more inner comma i ≡ map_to (parts_reader inner) (λ t. made_by comma t.0 t.1) i
unfolding one_enumerator
enumerator_reads more inner comma i =
    let value : Identifier → Parser ((Pos × Expr) ⊎ Unit {0}) = λ id. choose (sees p.Assign) (map_to (both (expect p.Assign) (λ equals. inner.expr conditional)) inl) (map_to (pure tt) inr) in
    bind_same identifier (λ id. choose (sees p.Assign) (enumerator_value more inner comma id) (pure (enumerator.Plain comma id)) >>= (λ x. declare ((id.text, false) ∷ []) >>= (λ u. pure x)))
    (λ id. (value id >>= (λ u. pure (made_by comma id u))) >>= (λ x. declare ((id.text, false) ∷ []) >>= (λ u. pure x)))
    (λ id j. ap (λ o. and_then o (λ x. declare ((id.text, false) ∷ []) >>= (λ u. pure x)))
    (choose_same (sees p.Assign) (enumerator_value more inner comma id) (pure (enumerator.Plain comma id)) _ _ (λ j. two (expect p.Assign) (λ equals. inner.expr conditional) (λ equals value. enumerator.Valued comma id equals value) j) (λ j. refl) j
    ∙ choose_map (sees p.Assign) (both (expect p.Assign) (λ equals. inner.expr conditional)) (pure tt) (made_by comma id) j)) i
    ∙ declare_two identifier value (λ id. (id.text, false) ∷ []) (made_by comma) i

next_reads : (more : ℕ) (inner : Inner) (i : State) → next_enumerator more inner i ≡ map_to (both (expect p.Comma) (λ c. parts_reader inner)) next_of i
unfolding next_enumerator
next_reads more inner i =
    bind_same (expect p.Comma) (λ c. one_enumerator more inner (Some c)) (λ c. parts_reader inner >>= (λ t. pure (made_by (Some c) t.0 t.1))) (λ c j. enumerator_reads more inner (Some c) j) i
    ∙ two (expect p.Comma) (λ c. parts_reader inner) (λ c t. made_by (Some c) t.0 t.1) i

module _ (more : ℕ) (inner : Inner) (exact : Exact (deeper (expr_form conditional)) more (inner.expr conditional)) where
  pub first_exact : Exact first_enumerator more (one_enumerator more inner None)
  first_exact =
      whole_exact (Image first_of) first_enumerator more _ (λ names x g. first_is (enumerator_shape x) g.0)
      (same_exact (only (Image first_of) first_enumerator) more _ _ (enumerator_reads more inner None) (node_exact parts_form first_of first_enumerator more _ (parts_exact more inner exact) first_node))

  pub next_exact : Exact next_form more (next_enumerator more inner)
  next_exact =
      whole_exact (Image next_of) next_form more _ (λ names x g. next_is (enumerator_shape x) g.0)
      (same_exact (only (Image next_of) next_form) more _ _ (next_reads more inner) (node_exact (pre (mark_form p.Comma) (λ _. parts_form)) next_of next_form more _
      (pre_exact (mark_form p.Comma) (λ _. parts_form) more (expect p.Comma) (λ c. parts_reader inner) (λ names a. refl) (expect_exact p.Comma more) (λ _. parts_exact more inner exact) (λ names a b rest g h s. tt)) next_node))

-- ---- a list of enumerators

abbrev pub enumerator_items : Items (Unit {0}) Enumerator
enumerator_items = record {
  spell = enumerator_spelling;
  good = λ s. next_form.good;
  adds = next_form.adds;
  nest = next_form.nest;
  stop = next_form.stop;
  goes = λ s. goes_enumerator;
  step = λ s x. tt;
}

behind_first : (t : Token) (ts : Tokens) → behind (t ∷ ts) ≡ ts
unfolding behind
behind_first t ts = refl

comma_and_name : (names : Names) (at : Pos) (id : Identifier) (ts : Tokens) → goes_enumerator (names, punct p.Comma at ∷ (name_token id ∷ ts)) ≡ true
comma_and_name names at id ts =
    ap (λ b. b && is_name (peek (behind (punct p.Comma at ∷ (name_token id ∷ ts))))) (sees_mark p.Comma names at (name_token id ∷ ts))
    ∙ ap (λ l. is_name (peek l)) (behind_first (punct p.Comma at) (name_token id ∷ ts)) ∙ ap is_name (peek_first (name_token id) ts)

next_spelt : {x : Enumerator} → Image next_of x → (rest : Tokens) → (at : Pos) × (id : Identifier) × (ts : Tokens) × (enumerator_spelling x ≡ punct p.Comma at ∷ (name_token id ∷ ts))
next_spelt {x} i rest = (i.0.0, i.0.1.0, value_form.spell i.0.1.1, ap enumerator_spelling (sym i.1) ∙ made_spelt (Some i.0.0) i.0.1.0 i.0.1.1)

-- what ends an enumerator
record Ends (op : Punct) : Type 0 where
  assign : same_mark op p.Assign ≡ false
  loose : conditional < joins op

layer_before : (l : EnumeratorLayer) (names : Names) (op : Punct) (at : Pos) (rest : Tokens) → Ends op → layer_stop l names (punct op at ∷ rest)
layer_before (Enumerator-F.Plain comma id) names op at rest e = unlike op p.Assign at rest e.assign
layer_before (Enumerator-F.Valued comma id equals value) names op at rest e = before_mark conditional (expr_ending value) op at rest e.loose

comma_ends : Ends p.Comma
comma_ends = record { assign = refl; loose = omega arith }

brace_ends : Ends p.RightBrace
brace_ends = record { assign = refl; loose = omega arith }

enumerator_then : (x y : Enumerator) (names : Names) (rest : Tokens) → is_some (layer_comma (out-Enumerator y)) ≡ true → enumerator_form.stop x names (enumerator_spelling y ++ rest)
enumerator_then x y names rest h =
    let w = next_spelt (next_is (enumerator_shape y) h) rest in
    subst (λ l. enumerator_form.stop x names (l ++ rest)) (sym w.3) (layer_before (out-Enumerator x) names p.Comma w.0 (name_token w.1 ∷ (w.2 ++ rest)) comma_ends)

no_enumerator : (names : Names) → goes_enumerator (names, []) ≡ false
unfolding peek
no_enumerator names = refl

pub enumerators_kept : (more : ℕ) (inner : Inner) → Exact next_form more (next_enumerator more inner) → Kept enumerator_items more (λ s. next_enumerator more inner)
enumerators_kept more inner exact = record {
  sound = λ s names ts x end go h. exact.sound names ts x end h;
  complete = λ s names x rest g n st. exact.complete names x rest g n st;
  starts = λ s names x rest g st. let w = next_spelt (next_is (enumerator_shape x) g.0) rest in ap (λ l. goes_enumerator (names, l ++ rest)) w.3 ∙ comma_and_name names w.0 w.1 (w.2 ++ rest);
  ends = λ s names. no_enumerator names;
  follows = λ s names x y rest g h st. enumerator_then x y _ rest h.0;
  some = λ s names x g. let w = next_spelt (next_is (enumerator_shape x) g.0) [] in subst (λ l. 0 < length l) (sym w.3) (omega arith);
}

-- ---- enumerators in braces, and a last comma where one stands

abbrev comma_stop : Option Pos → Names → Tokens → Type 0
comma_stop None names rest = sees p.Comma (names, rest) ≡ false
comma_stop (Some at) names rest = Unit {0}

abbrev comma_form : Form (Option Pos)
comma_form = record { spell = comma_at; good = λ names c. Unit {0}; adds = λ names c. []; nest = λ c. 0; stop = comma_stop }

abbrev comma_by_side : Pos ⊎ Unit {0} → Option Pos
comma_by_side (inl at) = Some at
comma_by_side (inr u) = None

abbrev comma_sides : Form (Pos ⊎ Unit {0})
comma_sides = either (mark_form p.Comma) (without (sees p.Comma))

side_good : (names : Names) (t : Pos ⊎ Unit {0}) → comma_sides.good names t
side_good names (inl at) = tt
side_good names (inr u) = tt

side_nested : (t : Pos ⊎ Unit {0}) → 0 ≡ comma_sides.nest t
side_nested (inl at) = refl
side_nested (inr u) = refl

side_spelt : (t : Pos ⊎ Unit {0}) → comma_at (comma_by_side t) ≡ comma_sides.spell t
side_spelt (inl at) = refl
side_spelt (inr u) = refl

side_seen : (names : Names) (t : Pos ⊎ Unit {0}) → [] ≡ comma_sides.adds names t
side_seen names (inl at) = refl
side_seen names (inr u) = refl

side_stop : (t : Pos ⊎ Unit {0}) (behind : Names) (rest : Tokens) → comma_sides.stop t behind rest → comma_stop (comma_by_side t) behind rest
side_stop (inl at) behind rest h = tt
side_stop (inr u) behind rest h = h

stop_side : (t : Pos ⊎ Unit {0}) (behind : Names) (rest : Tokens) → comma_stop (comma_by_side t) behind rest → comma_sides.stop t behind rest
stop_side (inl at) behind rest h = tt
stop_side (inr u) behind rest h = h

comma_node : Node comma_sides comma_by_side comma_form
comma_node = record { good = λ names t g. tt; parts = λ names t g. side_good names t; nested = side_nested; spelt = side_spelt; seen = side_seen; stop = λ names t behind rest g h. side_stop t behind rest h; from_stop = λ names t behind rest g h. stop_side t behind rest h }

comma_is : (c : Option Pos) → Image comma_by_side c
comma_is None = (inr tt, refl)
comma_is (Some at) = (inl at, refl)

optional_exact : (more : ℕ) → Exact comma_form more optional_comma
optional_exact more =
    whole_exact (Image comma_by_side) comma_form more _ (λ names c g. comma_is c)
    (same_exact (only (Image comma_by_side) comma_form) more _ optional_comma (choose_map (sees p.Comma) (expect p.Comma) (pure tt) comma_by_side)
    (node_exact comma_sides comma_by_side comma_form more _
    (either_guarded (mark_form p.Comma) (without (sees p.Comma)) more (sees p.Comma) (expect p.Comma) (pure tt) (expect_exact p.Comma more) (without_guarded (sees p.Comma) more)
    (λ names at rest g s. sees_mark p.Comma names at rest)
    (λ names u rest g s. subst (λ n. sees p.Comma (n, rest) ≡ false) (append-nil names) s)) comma_node))

abbrev pub braced : Form ((Pos × Enumerator) × List Enumerator)
braced = chain (pre (opening_form p.LeftBrace) (λ _. first_enumerator)) enumerator_items (λ t. tt)

abbrev pub enum_body_form : Form (((Pos × Enumerator) × List Enumerator) × (Option Pos × Pos))
enum_body_form = post braced (λ _. closed comma_form p.RightBrace)

-- enumerators end at a brace, and at a comma that no name stands behind
braced_before : (a : Pos × Enumerator) (xs : List Enumerator) (names : Names) (op : Punct) (at : Pos) (rest : Tokens) → Ends op → goes_enumerator (names, punct op at ∷ rest) ≡ false → braced.stop (a, xs) names (punct op at ∷ rest)
braced_before a [] names op at rest e h = (layer_before (out-Enumerator a.1) names op at rest e, h)
braced_before a (x ∷ xs) names op at rest e h = stop_made enumerator_items tt x xs names (punct op at ∷ rest) (layer_before (out-Enumerator (last_of enumerator_items x xs)) names op at rest e) h

braced_closes : (t : (Pos × Enumerator) × List Enumerator) (c : Option Pos) (to : Pos) (names : Names) (rest : Tokens) → braced.stop t names ((comma_at c ++ punct p.RightBrace to ∷ []) ++ rest)
braced_closes t None to names rest = braced_before t.0 t.1 names p.RightBrace to rest brace_ends (ap (λ b. b && is_name (peek (behind (punct p.RightBrace to ∷ rest)))) (unlike p.RightBrace p.Comma to rest refl))
braced_closes t (Some at) to names rest =
    braced_before t.0 t.1 names p.Comma at (punct p.RightBrace to ∷ rest) comma_ends
    (ap (λ l. sees p.Comma (names, punct p.Comma at ∷ (punct p.RightBrace to ∷ rest)) && is_name (peek l)) (behind_first (punct p.Comma at) (punct p.RightBrace to ∷ rest))
    ∙ ap (λ o. sees p.Comma (names, punct p.Comma at ∷ (punct p.RightBrace to ∷ rest)) && is_name o) (peek_mark p.RightBrace to rest) ∙ and_false _)

comma_closes : (c : Option Pos) (names : Names) (at : Pos) (rest : Tokens) → comma_stop c names (punct p.RightBrace at ∷ rest)
comma_closes None names at rest = unlike p.RightBrace p.Comma at rest refl
comma_closes (Some c) names at rest = tt

pub enum_body_exact : (more : ℕ) (inner : Inner) → Exact (deeper (expr_form conditional)) more (inner.expr conditional)
    → Exact enum_body_form more (both (both (both (opening more p.LeftBrace) (λ from. one_enumerator more inner None)) (λ t. many goes_enumerator (next_enumerator more inner))) (λ t. both optional_comma (λ c. expect p.RightBrace)))
enum_body_exact more inner exact =
    post_exact braced (λ _. closed comma_form p.RightBrace) more _ (λ t. both optional_comma (λ c. expect p.RightBrace)) (λ t names c. refl)
    (chain_exact (pre (opening_form p.LeftBrace) (λ _. first_enumerator)) enumerator_items (λ t. tt) more _ (λ s. next_enumerator more inner)
    (pre_exact (opening_form p.LeftBrace) (λ _. first_enumerator) more (opening more p.LeftBrace) (λ from. one_enumerator more inner None) (λ names a. refl) (opening_exact p.LeftBrace more) (λ _. first_exact more inner exact) (λ names a b rest g h s. tt))
    (enumerators_kept more inner (next_exact more inner exact))
    (λ names a y rest g h st. enumerator_then a.1 y _ rest h.0))
    (λ t. closed_exact comma_form p.RightBrace more optional_comma (optional_exact more) (λ names c at rest g. comma_closes c _ at rest))
    (λ names t c rest g h s. braced_closes t c.0 c.1 _ rest)

-- ---- what the levels and the nesting tell

shape_comma : {x : Enumerator} → EnumeratorShape x → (names : Names) → (enumerator_level x names).0.comma ≡ is_some (layer_comma (out-Enumerator x))
shape_comma (EnumeratorShape.a_plain comma id) names = made_comma comma names id (inr tt) ∙ ap is_some (sym (comma_by comma id (inr tt)))
shape_comma (EnumeratorShape.a_valued comma id equals value) names = made_comma comma names id (inl (equals, value)) ∙ ap is_some (sym (comma_by comma id (inl (equals, value))))

pub comma_told : (x : Enumerator) (names : Names) → (enumerator_level x names).0.comma ≡ is_some (layer_comma (out-Enumerator x))
comma_told x names = shape_comma (enumerator_shape x) names

shape_deep : {x : Enumerator} → EnumeratorShape x → max 1 (layer_nest (out-Enumerator x)) ≡ enumerator_nesting x + 1
shape_deep (EnumeratorShape.a_plain comma id) =
    ap (λ l. max 1 (layer_nest l)) (made_layer comma id (inr tt)) ∙ ap (λ n. n + 1) (sym (enumerator_nesting-Plain comma id))
shape_deep (EnumeratorShape.a_valued comma id equals value) =
    ap (λ l. max 1 (layer_nest l)) (made_layer comma id (inl (equals, value))) ∙ (let e = enumerator_nesting-Valued comma id equals value in omega arith)

-- each in its braces
pub enumerator_deep : (m : ℕ) (xs : List Enumerator) → max (max 1 m) (deepest (map (λ x. layer_nest (out-Enumerator x)) xs)) ≡ max (max 1 m) (deepest (map enumerator_nesting xs) + 1)
enumerator_deep m [] = omega arith
enumerator_deep m (x ∷ xs) = let e = enumerator_deep m xs in let d = shape_deep (enumerator_shape x) in omega arith
