-- Declarations are read exactly (C11 6.7).
use Rattle.std.specs.Prelude.{◌≡◌, ℕ, zero, suc, ◌≤◌, ◌<◌, Bool, true, false, not, ◌||◌, List, [], ◌∷◌, ◌++◌, length, map, Option, Some, None, is_some, Ok, refl}
use Rattle.std.proofs.Common.{ap, sym, ◌∙◌, subst, arith, append_assoc, append-nil, ◌⊎◌, inl, inr}
use Rattle.c_tree.specs.declared.token.Pos.{Pos}
use Rattle.c_tree.specs.declared.token.Punct.{Punct}
use Rattle.c_tree.specs.declared.token.Punct.TheVariants as p
use Rattle.c_tree.specs.declared.token.TokenKind.{TokenKind}
use Rattle.c_tree.specs.declared.token.TokenKind.TheVariants as k
use Rattle.c_tree.specs.declared.token.Token.{Token}
use Rattle.c_tree.specs.declared.specifier.Specifier.{Specifier}
use Rattle.c_tree.specs.declared.declarator.Pointer.{Pointer}
use Rattle.c_tree.specs.declared.declarator.Direct.{Direct}
use Rattle.c_tree.specs.declared.declarator.DeclaratorSuffix.{DeclaratorSuffix}
use Rattle.c_tree.specs.declared.declarator.Declarator.{Declarator, out-Declarator}
use Rattle.c_tree.specs.declared.declaration.Initialiser.{Initialiser, out-Initialiser}
use Rattle.c_tree.specs.declared.declaration.Start.{Start}
use Rattle.c_tree.specs.declared.declaration.InitDeclarator.{InitDeclarator}
use Rattle.c_tree.specs.declared.declaration.Declaration.{Declaration}
use Rattle.c_tree.specs.Spelling.Tokens.{token, punct, comma_at, joined}
use Rattle.c_tree.specs.Spelling.Trees.{specifier_spelling, declarator_spelling}
use Rattle.c_tree.specs.Spelling.Initialisers.{initialiser_spelling}
use Rattle.c_tree.specs.Spelling.Declarations.{start_spelling, init_declarator_spelling, declaration_spelling}
use Rattle.c_tree.specs.Levels.Names.{Names, With, in_row}
use Rattle.c_tree.specs.Levels.Productions.{assignment, joins}
use Rattle.c_tree.specs.Levels.Facts.{ListedFacts, listed, rest_listed, facts_of_specifiers, SpecifiersFacts, names_type, Beside, Declaring, declares, names_of}
use Rattle.c_tree.specs.Levels.Trees.{specifier_level, declarator_level}
use Rattle.c_tree.specs.Levels.Declarations.{start_level, init_declarator_level, declaration_level}
use Rattle.c_tree.specs.Nesting.OfTrees.{deepest}
use Rattle.c_tree.specs.Nesting.Trees.{declarator_nesting}
use Rattle.c_tree.specs.Nesting.Declarations.{start_nesting, init_declarator_nesting, declaration_nesting}
use Rattle.c_grammar.specs.Punctuators.{same_mark}
use Rattle.c_grammar.specs.Input.{Tokens, State, Outcome, Parser, and_then, ◌>>=◌, pure, choose, peek, is_mark, sees, expect, many, too_deep}
use Rattle.c_grammar.specs.Read.Nodes.{name_type, have_typedef, is_nothing}
use Rattle.c_grammar.specs.Read.Inner.{is_const}
use Rattle.c_grammar.specs.Read.Depth as depth
use Rattle.c_grammar.specs.Laws.Form.{Form, Got, Exact, Node, Image, Joint, Guarded, only, bind_ok, ok_pair, subst2, both, map_to, node_exact, joint_exact, same_exact, whole_exact, choose_guarded, guarded_exact, two, three, bind_same, choose_map, choose_same, either, either_guarded, without, without_guarded, seq, seq_exact, open_seq, open_exact}
use Rattle.c_grammar.specs.Laws.Lists.{Items, Kept, all_good, all_stop, chain, chain_exact, last_of, stop_made, added_in_row}
use Rattle.c_grammar.specs.Laws.Single.{mark_form, expect_exact, sees_mark}
use Rattle.c_grammar.specs.Laws.Rows.{pre, pre_exact, deeper, closed, closed_exact}
use Rattle.c_grammar.specs.Laws.Behind.{both_true, both_are, peek_mark}
use Rattle.c_grammar.specs.Laws.Starts.{Begins, begins_seen, peek_first}
use Rattle.c_grammar.specs.Laws.Forms.{specifiers_form, declarator_form, parts_form, parts_of, is_no_name, pointer_items, behind_items, nothing_stop}
use Rattle.c_grammar.specs.Laws.TypeNames.{unlike, specifiers_before, form_told, form_is, types_are}
use Rattle.c_grammar.specs.Laws.DeclaratorFacts.{FirstToken, declarator_first, named_is, nothing_middle}
use Rattle.c_grammar.specs.Laws.Parameters.{declarator_any, typedef_is, specifiers_follow}
use Rattle.c_grammar.specs.Laws.GrowSpecifiers.{mark_kind}
use Rattle.c_grammar.specs.Laws.Depth.{specifiers_read, declarator_read}
use Rattle.c_unit_grammar.specs.Read.Initialisers.{initialiser}
use Rattle.c_unit_grammar.specs.Read.Declarations.{named, some_start, start, first_declarator, next_declarator, some_declarators, declarators, declaration, inside_declaration}
use Rattle.c_unit_grammar.specs.Laws.Common.{raise, none_deeper}
use Rattle.c_unit_grammar.specs.Laws.Initialisers.{layer_stop, initialiser_form, initialiser_before, initialiser_exact}

-- ---- a declarator with a name

pub declares_name : (typed : Bool) (d : Declarator) (names : Names) → declares Declaring typed (declarator_level d names).0 ≡ true → is_no_name (out-Declarator d).direct ≡ false
declares_name typed d names g = named_is d names (both_true (is_some (declarator_level d names).0.name) _ (both_true (declarator_level d names).0.good _ g).1).0

-- what it declares, and what stands beside the name
abbrev pub declared_by : Bool → Names → Declarator → Names
declared_by typedef names d = names_of typedef (declarator_level d names).0.name

abbrev pub named_form : Bool → Bool → Form (Declarator × Beside)
named_form typed typedef = record {
  spell = λ t. declarator_spelling t.0;
  good = λ names t. (declares Declaring typed (declarator_level t.0 names).0 ≡ true) × (t.1 ≡ (declarator_level t.0 names).0.beside);
  adds = λ names t. (declarator_level t.0 names).1 ++ declared_by typedef names t.0;
  nest = λ t. declarator_nesting t.0;
  stop = λ t names rest. (declarator_form Declaring typed).stop t.0 names rest;
}

module _ (more : ℕ) (specifiers : List Specifier) where
  abbrev ty : Bool
  ty = name_type specifiers

  abbrev td : Bool
  td = have_typedef specifiers

  abbrev told_with : Names → Declarator → State → Outcome (Declarator × Beside)
  told_with names d j = Ok ((d, (declarator_level d names).0.beside), (j.0 ++ declared_by td names d, j.1))

  named_sound : (names : Names) (ts : Tokens) (t : Declarator × Beside) (s : State) → named more specifiers (names, ts) ≡ Ok (t, s) → Got (named_form ty td) more names ts t s
  unfolding named
  named_sound names ts t s h =
      let b = bind_ok (depth.declarator more Declaring ty (names, ts)) (told_with names) _ h in
      let d : Declarator = b.0.0 in
      let mid : State = b.0.1 in
      let g = (declarator_read more Declaring ty).sound names ts d mid b.1 in
      let w = ok_pair {A = Declarator × Beside} (d, (declarator_level d names).0.beside) t (mid.0 ++ declared_by td names d, mid.1) s b.2 in
      let n : mid.0 ++ declared_by td names d ≡ names ++ ((declarator_level d names).1 ++ declared_by td names d) = ap (λ l. l ++ declared_by td names d) g.seen ∙ append_assoc names (declarator_level d names).1 (declared_by td names d) in
      subst2 (λ (t : Declarator × Beside) (s : State). Got (named_form ty td) more names ts t s) w.0 w.1 (record {
        good = (g.good, refl);
        nested = g.nested;
        spelt = g.spelt;
        seen = n;
        stops = declarator_any Declaring ty d _ _ mid.1 (declares_name ty d names g.good) g.stops;
      })

  named_complete : (names : Names) (d : Declarator) (b : Beside) (rest : Tokens) → declares Declaring ty (declarator_level d names).0 ≡ true → (declarator_level d names).0.beside ≡ b → declarator_nesting d ≤ more
      → (declarator_form Declaring ty).stop d (names ++ ((declarator_level d names).1 ++ declared_by td names d)) rest
      → named more specifiers (names, declarator_spelling d ++ rest) ≡ Ok ((d, b), (names ++ ((declarator_level d names).1 ++ declared_by td names d), rest))
  unfolding named
  named_complete names d b rest g e n s =
      let c = (declarator_read more Declaring ty).complete names d rest g n (declarator_any Declaring ty d _ _ rest (declares_name ty d names g) s) in
      let end : Beside → Names → Outcome (Declarator × Beside) = λ b m. Ok ((d, b), (m, rest)) in
      ap (λ o. and_then o (told_with names)) c
      ∙ ap (λ m. end (declarator_level d names).0.beside m) (append_assoc names (declarator_level d names).1 (declared_by td names d))
      ∙ ap (λ b. end b (names ++ ((declarator_level d names).1 ++ declared_by td names d))) e

  pub named_exact : Exact (named_form ty td) more (named more specifiers)
  named_exact = record { sound = named_sound; complete = λ names t rest g n s. named_complete names t.0 t.1 rest g.0 (sym g.1) n s }

-- a mark that goes on with no declarator that has a name
pub record Apart (op : Punct) : Type 0 where
  pub paren : same_mark op p.LeftParen ≡ false
  pub bracket : same_mark op p.LeftBracket ≡ false
  pub star : same_mark op p.Star ≡ false

pub comma_apart : Apart p.Comma
comma_apart = record { paren = refl; bracket = refl; star = refl }

pub assign_apart : Apart p.Assign
assign_apart = record { paren = refl; bracket = refl; star = refl }

pub semicolon_apart : Apart p.Semicolon
semicolon_apart = record { paren = refl; bracket = refl; star = refl }

pub brace_apart : Apart p.LeftBrace
brace_apart = record { paren = refl; bracket = refl; star = refl }

stars_before : (stars : List Pointer) (names : Names) (op : Punct) (at : Pos) (rest : Tokens) → Apart op → all_stop pointer_items tt stars names (punct op at ∷ rest)
stars_before [] names op at rest e = unlike op p.Star at rest e.star
stars_before (q ∷ qs) names op at rest e = stop_made pointer_items tt q qs names (punct op at ∷ rest) (ap is_const (peek_mark op at rest)) (unlike op p.Star at rest e.star)

no_suffix : (op : Punct) (at : Pos) (rest : Tokens) → Apart op → (is_mark p.LeftBracket (peek (punct op at ∷ rest)) || is_mark p.LeftParen (peek (punct op at ∷ rest))) ≡ false
no_suffix op at rest e = ap (λ b. b || is_mark p.LeftParen (peek (punct op at ∷ rest))) (unlike op p.LeftBracket at rest e.bracket) ∙ unlike op p.LeftParen at rest e.paren

parts_before : (typed : Bool) (stars : List Pointer) (d : Direct) (xs : List DeclaratorSuffix) (names : Names) (op : Punct) (at : Pos) (rest : Tokens) → Apart op → is_no_name d ≡ false
    → (parts_form Declaring typed).stop ((stars, d), xs) names (punct op at ∷ rest)
parts_before typed stars d [] names op at rest e n = ((subst (λ b. nothing_stop b Declaring typed names (punct op at ∷ rest)) (sym n) tt, λ _. stars_before stars names op at rest e), no_suffix op at rest e)
parts_before typed stars d (x ∷ xs) names op at rest e n = stop_made behind_items tt x xs names (punct op at ∷ rest) tt (no_suffix op at rest e)

pub named_before : (typed : Bool) (d : Declarator) (names : Names) (op : Punct) (at : Pos) (rest : Tokens) → Apart op → is_no_name (out-Declarator d).direct ≡ false → (declarator_form Declaring typed).stop d names (punct op at ∷ rest)
named_before typed d names op at rest e n = parts_before typed (parts_of d).0.0 (parts_of d).0.1 (parts_of d).1 names op at rest e n

-- ---- `=` and an initialiser, where they stand

abbrev pub start_stop : Option Start → Names → Tokens → Type 0
start_stop None names rest = sees p.Assign (names, rest) ≡ false
start_stop (Some s) names rest = layer_stop (out-Initialiser s.value) rest

abbrev pub start_form : Form (Option Start)
start_form = record { spell = start_spelling; good = λ names s. (start_level s names).0 ≡ true; adds = λ names s. (start_level s names).1; nest = start_nesting; stop = start_stop }

abbrev start_sides : Form ((Pos × Initialiser) ⊎ Unit {0})
start_sides = either (pre (mark_form p.Assign) (λ _. initialiser_form)) (without (sees p.Assign))

abbrev start_by : (Pos × Initialiser) ⊎ Unit {0} → Option Start
start_by (inl t) = Some (record { equals = t.0; value = t.1 })
start_by (inr u) = None

start_good : (names : Names) (t : (Pos × Initialiser) ⊎ Unit {0}) → start_sides.good names t → (start_level (start_by t) names).0 ≡ true
start_good names (inl t) g = g.1
start_good names (inr u) g = refl

good_start : (names : Names) (t : (Pos × Initialiser) ⊎ Unit {0}) → (start_level (start_by t) names).0 ≡ true → start_sides.good names t
good_start names (inl t) g = (tt, g)
good_start names (inr u) g = tt

start_nested : (t : (Pos × Initialiser) ⊎ Unit {0}) → start_nesting (start_by t) ≡ start_sides.nest t
start_nested (inl t) = omega arith
start_nested (inr u) = refl

start_spelt : (t : (Pos × Initialiser) ⊎ Unit {0}) → start_spelling (start_by t) ≡ start_sides.spell t
start_spelt (inl t) = refl
start_spelt (inr u) = refl

start_seen : (names : Names) (t : (Pos × Initialiser) ⊎ Unit {0}) → (start_level (start_by t) names).1 ≡ start_sides.adds names t
start_seen names (inl t) = refl
start_seen names (inr u) = refl

start_stops : (t : (Pos × Initialiser) ⊎ Unit {0}) (behind : Names) (rest : Tokens) → start_sides.stop t behind rest → start_stop (start_by t) behind rest
start_stops (inl t) behind rest h = h
start_stops (inr u) behind rest h = h

stops_start : (t : (Pos × Initialiser) ⊎ Unit {0}) (behind : Names) (rest : Tokens) → start_stop (start_by t) behind rest → start_sides.stop t behind rest
stops_start (inl t) behind rest h = h
stops_start (inr u) behind rest h = h

start_node : Node start_sides start_by start_form
start_node = record { good = start_good; parts = good_start; nested = start_nested; spelt = start_spelt; seen = start_seen; stop = λ names t behind rest g h. start_stops t behind rest h; from_stop = λ names t behind rest g h. stops_start t behind rest h }

start_is : (s : Option Start) → Image start_by s
start_is None = (inr tt, refl)
start_is (Some s) = (inl (s.equals, s.value), refl)

pub start_exact : (more : ℕ) → Exact start_form more (start more)
unfolding start
start_exact more =
    whole_exact (Image start_by) start_form more _ (λ names s g. start_is s)
    (same_exact (only (Image start_by) start_form) more _ (start more)
    (λ i. choose_same (sees p.Assign) (some_start more) (pure None) _ _ (λ j. two (expect p.Assign) (λ equals. initialiser more) (λ equals value. Some (record { equals = equals; value = value })) j) (λ j. refl) i
    ∙ choose_map (sees p.Assign) (both (expect p.Assign) (λ equals. initialiser more)) (pure tt) start_by i)
    (node_exact start_sides start_by start_form more _
    (either_guarded (pre (mark_form p.Assign) (λ _. initialiser_form)) (without (sees p.Assign)) more (sees p.Assign) (both (expect p.Assign) (λ equals. initialiser more)) (pure tt)
    (pre_exact (mark_form p.Assign) (λ _. initialiser_form) more (expect p.Assign) (λ equals. initialiser more) (λ names a. refl) (expect_exact p.Assign more) (λ _. initialiser_exact more) (λ names a b rest g h s. tt))
    (without_guarded (sees p.Assign) more)
    (λ names t rest g s. sees_mark p.Assign names t.0 (initialiser_spelling t.1 ++ rest))
    (λ names u rest g s. subst (λ n. sees p.Assign (n, rest) ≡ false) (append-nil names) s)) start_node))

-- ---- a declarator with its initialiser

-- as much of specifiers as a declarator asks for
abbrev pub told_of : Bool → Bool → SpecifiersFacts
told_of typed typedef = record { good = true; names_type = typed; has_storage = false; has_typedef = typedef; is_void = false }

abbrev pub IsNone : Option Pos → Type 0
IsNone c = c ≡ None

abbrev pub IsComma : Option Pos → Type 0
IsComma c = is_some c ≡ true

abbrev pub init_stop : Bool → Declarator → Option Start → Names → Tokens → Type 0
init_stop typed d s names rest = start_stop s names rest × (start_spelling s ≡ [] → (declarator_form Declaring typed).stop d names rest)

module _ (typed typedef : Bool) where
  abbrev pub level : InitDeclarator → With ListedFacts
  level = init_declarator_level (told_of typed typedef)

  abbrev pub item_form : (Option Pos → Type 0) → Form InitDeclarator
  item_form comma = record {
    spell = init_declarator_spelling;
    good = λ names x. comma x.comma × ((level x names).0.good ≡ true);
    adds = λ names x. (level x names).1;
    nest = init_declarator_nesting;
    stop = λ x names rest. init_stop typed x.declarator x.start names rest;
  }

  abbrev pub plain_form : Form ((Declarator × Beside) × Option Start)
  plain_form = open_seq (named_form typed typedef) (λ _. start_form)

  abbrev first_of : (Declarator × Beside) × Option Start → InitDeclarator
  first_of t = record { comma = None; declarator = t.0.0; start = t.1 }

  abbrev next_of : Pos × ((Declarator × Beside) × Option Start) → InitDeclarator
  next_of t = record { comma = Some t.0; declarator = t.1.0.0; start = t.1.1 }

  pub plain_level : (comma : Option Pos) (names : Names) (d : Declarator) (b : Beside) (s : Option Start) → plain_form.good names ((d, b), s) → (level (record { comma = comma; declarator = d; start = s }) names).0.good ≡ true
  plain_level comma names d b s g = both_are _ _ g.0.0 g.1

  pub level_plain : (comma : Option Pos) (names : Names) (d : Declarator) (s : Option Start) → (level (record { comma = comma; declarator = d; start = s }) names).0.good ≡ true → plain_form.good names ((d, (declarator_level d names).0.beside), s)
  level_plain comma names d s h = let b = both_true (declares Declaring typed (declarator_level d names).0) _ h in ((b.0, refl), b.1)

  first_joint : Joint plain_form first_of (item_form IsNone)
  first_joint = record {
    good = λ names t g. (refl, plain_level None names t.0.0 t.0.1 t.1 g);
    split = λ names x g. record { tuple = ((x.declarator, (declarator_level x.declarator names).0.beside), x.start); whole = ap (λ c. record { comma = c; declarator = x.declarator; start = x.start }) (sym g.0); good = level_plain x.comma names x.declarator x.start g.1 };
    nested = λ t. refl;
    spelt = λ t. refl;
    seen = λ names t. refl;
    stop = λ names t behind rest g h. h;
    from_stop = λ names t behind rest g h. h;
  }

  comma_of : (c : Option Pos) → is_some c ≡ true → (at : Pos) × (Some at ≡ c)
  comma_of None h = absurd cc
  comma_of (Some at) h = (at, refl)

  next_joint : Joint (pre (mark_form p.Comma) (λ _. plain_form)) next_of (item_form IsComma)
  next_joint = record {
    good = λ names t g. (refl, plain_level (Some t.0) names t.1.0.0 t.1.0.1 t.1.1 g.1);
    split = λ names x g. let c = comma_of x.comma g.0 in record { tuple = (c.0, ((x.declarator, (declarator_level x.declarator names).0.beside), x.start)); whole = ap (λ c. record { comma = c; declarator = x.declarator; start = x.start }) c.1; good = (tt, level_plain x.comma names x.declarator x.start g.1) };
    nested = λ t. omega arith;
    spelt = λ t. refl;
    seen = λ names t. refl;
    stop = λ names t behind rest g h. h;
    from_stop = λ names t behind rest g h. h;
  }

start_first : (s : Option Start) (t : Token) (ts : Tokens) → start_spelling s ≡ t ∷ ts → (at : Pos) × (punct p.Assign at ≡ t)
start_first None t ts e = absurd cc
start_first (Some s) t ts e = (s.equals, cc)

pub start_quiet : (s : Option Start) (names : Names) → start_spelling s ≡ [] → (start_level s names).1 ≡ []
start_quiet None names e = refl
start_quiet (Some s) names e = absurd cc

-- what stands behind a declarator with its name does not go on with it
start_follows : (typed : Bool) (names before : Names) (d : Declarator) (s : Option Start) (t : Token) (ts rest : Tokens) → declares Declaring typed (declarator_level d before).0 ≡ true → start_spelling s ≡ t ∷ ts → (declarator_form Declaring typed).stop d names (t ∷ (ts ++ rest))
start_follows typed names before d s t ts rest g e =
    let w = start_first s t ts e in
    subst (λ t. (declarator_form Declaring typed).stop d names (t ∷ (ts ++ rest))) w.1 (named_before typed d names p.Assign w.0 (ts ++ rest) assign_apart (declares_name typed d before g))

module _ (more : ℕ) (specifiers : List Specifier) where
  abbrev pub Ty : Bool
  Ty = name_type specifiers

  abbrev pub Td : Bool
  Td = have_typedef specifiers

  plain_exact : Exact (plain_form Ty Td) more (both (named more specifiers) (λ d. start more))
  plain_exact =
      open_exact (named_form Ty Td) (λ _. start_form) more (named more specifiers) (λ d. start more) (named_exact more specifiers) (λ _. start_exact more)
      (λ names a s g e. start_quiet s names e) (λ names a s t ts rest g h e. start_follows Ty _ names a.0 s t ts rest g.0 e)

  pub first_exact : Exact (item_form Ty Td IsNone) more (first_declarator more specifiers)
  unfolding first_declarator
  first_exact =
      same_exact (item_form Ty Td IsNone) more _ _ (two (named more specifiers) (λ d. start more) (λ d s. record { comma = None; declarator = d.0; start = s }))
      (joint_exact (plain_form Ty Td) (first_of Ty Td) (item_form Ty Td IsNone) more _ plain_exact (first_joint Ty Td))

  next_reads : (i : State) → next_declarator more specifiers i ≡ map_to (both (expect p.Comma) (λ c. both (named more specifiers) (λ d. start more))) (next_of Ty Td) i
  unfolding next_declarator
  next_reads i =
      bind_same (expect p.Comma) (λ comma. named more specifiers >>= (λ d. start more >>= (λ s. pure (record { comma = Some comma; declarator = d.0; start = s }))))
      (λ comma. both (named more specifiers) (λ d. start more) >>= (λ t. pure (record { comma = Some comma; declarator = t.0.0; start = t.1 })))
      (λ comma j. two (named more specifiers) (λ d. start more) (λ d s. record { comma = Some comma; declarator = d.0; start = s }) j) i
      ∙ two (expect p.Comma) (λ c. both (named more specifiers) (λ d. start more)) (λ c t. record { comma = Some c; declarator = t.0.0; start = t.1 }) i

  pub next_exact : Exact (item_form Ty Td IsComma) more (next_declarator more specifiers)
  next_exact =
      same_exact (item_form Ty Td IsComma) more _ _ next_reads
      (joint_exact (pre (mark_form p.Comma) (λ _. plain_form Ty Td)) (next_of Ty Td) (item_form Ty Td IsComma) more _
      (pre_exact (mark_form p.Comma) (λ _. plain_form Ty Td) more (expect p.Comma) (λ c. both (named more specifiers) (λ d. start more)) (λ names a. refl) (expect_exact p.Comma more) (λ _. plain_exact) (λ names a b rest g h s. tt)) (next_joint Ty Td))

-- ---- declarators with commas between

module _ (typed typedef : Bool) where
  abbrev pub items : Items (Unit {0}) InitDeclarator
  items = record {
    spell = init_declarator_spelling;
    good = λ s. (item_form typed typedef IsComma).good;
    adds = λ names x. (level typed typedef x names).1;
    nest = init_declarator_nesting;
    stop = λ x names rest. init_stop typed x.declarator x.start names rest;
    goes = λ s. sees p.Comma;
    step = λ s x. tt;
  }

  pub comma_begins : (x : InitDeclarator) (c : Option Pos) → x.comma ≡ c → is_some c ≡ true → Begins p.Comma (init_declarator_spelling x)
  comma_begins x None e h = absurd cc
  comma_begins x (Some at) e h = record { at = at; others = declarator_spelling x.declarator ++ start_spelling x.start; spelt = ap (λ c. comma_at c ++ (declarator_spelling x.declarator ++ start_spelling x.start)) e }

  -- a mark behind a declarator with its initialiser
  pub item_before : (x : InitDeclarator) (names before : Names) (op : Punct) (at : Pos) (rest : Tokens) → declares Declaring typed (declarator_level x.declarator before).0 ≡ true → Apart op → same_mark op p.Assign ≡ false → assignment < joins op
      → init_stop typed x.declarator x.start names (punct op at ∷ rest)
  item_before x names before op at rest g a e j = (by x.start, λ _. named_before typed x.declarator names op at rest a (declares_name typed x.declarator before g)) where
    by : (s : Option Start) → start_stop s names (punct op at ∷ rest)
    by None = unlike op p.Assign at rest e
    by (Some s) = initialiser_before op s.value at rest j

  pub good_declares : (x : InitDeclarator) (names : Names) → (level typed typedef x names).0.good ≡ true → declares Declaring typed (declarator_level x.declarator names).0 ≡ true
  good_declares x names h = (both_true (declares Declaring typed (declarator_level x.declarator names).0) _ h).0

  pub item_then : (x y : InitDeclarator) (names before : Names) (rest : Tokens) → (level typed typedef x before).0.good ≡ true → is_some y.comma ≡ true → init_stop typed x.declarator x.start names (init_declarator_spelling y ++ rest)
  item_then x y names before rest g h =
      let b = comma_begins y y.comma refl h in
      subst (λ l. init_stop typed x.declarator x.start names (l ++ rest)) (sym b.spelt) (item_before x names before p.Comma b.at (b.others ++ rest) (good_declares x before g) comma_apart refl (omega arith))

  no_comma : (names : Names) → sees p.Comma (names, []) ≡ false
  unfolding peek
  no_comma names = refl

  pub items_kept : (more : ℕ) (reads : Parser InitDeclarator) → Exact (item_form typed typedef IsComma) more reads → Kept items more (λ s. reads)
  items_kept more reads exact = record {
    sound = λ s names ts x end go h. exact.sound names ts x end h;
    complete = λ s names x rest g n st. exact.complete names x rest g n st;
    starts = λ s names x rest g st. begins_seen p.Comma p.Comma names _ rest true (comma_begins x x.comma refl g.0) refl;
    ends = λ s names. no_comma names;
    follows = λ s names x y rest g h st. item_then x y _ names rest g.1 h.0;
    some = λ s names x g. let b = comma_begins x x.comma refl g.0 in subst (λ l. 0 < length l) (sym b.spelt) (omega arith);
  }

  abbrev pub listing : Form (InitDeclarator × List InitDeclarator)
  listing = chain (item_form typed typedef IsNone) items (λ t. tt)

  pub listing_exact : (more : ℕ) (first next : Parser InitDeclarator) → Exact (item_form typed typedef IsNone) more first → Exact (item_form typed typedef IsComma) more next
      → Exact listing more (both first (λ x. many (sees p.Comma) next))
  listing_exact more first next one others =
      chain_exact (item_form typed typedef IsNone) items (λ t. tt) more first (λ s. next) one (items_kept more next others) (λ names a y rest g h st. item_then a y _ names rest g.1 h.0)

  -- ---- what the levels tell of them

  rest_told : (names : Names) (xs : List InitDeclarator) → all_good items tt names xs → rest_listed (in_row (map (level typed typedef) xs) names).0 ≡ true
  rest_told names [] g = refl
  rest_told names (x ∷ xs) g = both_are _ _ g.0.0 (both_are _ _ g.0.1 (rest_told (names ++ (level typed typedef x names).1) xs g.1))

  rest_are : (names : Names) (xs : List InitDeclarator) → rest_listed (in_row (map (level typed typedef) xs) names).0 ≡ true → all_good items tt names xs
  rest_are names [] h = tt
  rest_are names (x ∷ xs) h =
      let b = both_true (is_some x.comma) _ h in
      let c = both_true (level typed typedef x names).0.good _ b.1 in
      ((b.0, c.0), rest_are (names ++ (level typed typedef x names).1) xs c.1)

  not_none : (c : Option Pos) → not (is_some c) ≡ true → c ≡ None
  not_none None h = refl
  not_none (Some at) h = absurd cc

  none_not : (c : Option Pos) → c ≡ None → not (is_some c) ≡ true
  none_not c e = ap (λ c. not (is_some c)) e

  -- declarators, where a declaration has them
  abbrev pub row_stop : List InitDeclarator → Names → Tokens → Type 0
  row_stop [] names rest = sees p.Semicolon (names, rest) ≡ true
  row_stop (x ∷ xs) names rest = listing.stop (x, xs) names rest

  abbrev pub row_form : Form (List InitDeclarator)
  row_form = record {
    spell = λ xs. joined (map init_declarator_spelling xs);
    good = λ names xs. listed (in_row (map (level typed typedef) xs) names).0 ≡ true;
    adds = λ names xs. (in_row (map (level typed typedef) xs) names).1;
    nest = λ xs. deepest (map init_declarator_nesting xs);
    stop = λ xs names rest. row_stop xs names rest;
  }

  abbrev pub row_of : InitDeclarator × List InitDeclarator → List InitDeclarator
  row_of t = t.0 ∷ t.1

  pub row_node : Node listing row_of row_form
  row_node = record {
    good = λ names t g. both_are _ _ (none_not t.0.comma g.0.0) (both_are _ _ g.0.1 (rest_told (names ++ (level typed typedef t.0 names).1) t.1 g.1));
    parts = λ names t h.
        let a = both_true (not (is_some t.0.comma)) _ h in
        let b = both_true (level typed typedef t.0 names).0.good _ a.1 in
        ((not_none t.0.comma a.0, b.0), rest_are (names ++ (level typed typedef t.0 names).1) t.1 b.1);
    nested = λ t. refl;
    spelt = λ t. refl;
    seen = λ names t. ap (λ l. (level typed typedef t.0 names).1 ++ l) (sym (added_in_row items (level typed typedef) (λ names x. refl) (names ++ (level typed typedef t.0 names).1) t.1));
    stop = λ names t behind rest g h. h;
    from_stop = λ names t behind rest g h. h;
  }

  -- the first token of a declarator
  pub first_token : (x : InitDeclarator) (xs : List InitDeclarator) (names : Names) → x.comma ≡ None → declares Declaring typed (declarator_level x.declarator names).0 ≡ true
      → (t : Token) × (ts : Tokens) × (declarator_spelling x.declarator ≡ t ∷ ts) × (joined (map init_declarator_spelling (x ∷ xs)) ≡ t ∷ (ts ++ (start_spelling x.start ++ joined (map init_declarator_spelling xs)))) × (is_mark p.Semicolon (Some t.kind) ≡ false)
  first_token x xs names c g = by (is_nothing x.declarator) refl where
    later : Tokens
    later = start_spelling x.start ++ joined (map init_declarator_spelling xs)

    no_mark : (begins : Bool) (kind : TokenKind) → FirstToken begins names kind → is_mark p.Semicolon (Some kind) ≡ false
    no_mark begins _ (FirstToken.star e) = refl
    no_mark begins _ (FirstToken.paren e) = refl
    no_mark begins _ (FirstToken.bracket e) = refl
    no_mark begins _ (FirstToken.a_name text e) = refl

    by : (b : Bool) → is_nothing x.declarator ≡ b → (t : Token) × (ts : Tokens) × (declarator_spelling x.declarator ≡ t ∷ ts) × (joined (map init_declarator_spelling (x ∷ xs)) ≡ t ∷ (ts ++ (start_spelling x.start ++ joined (map init_declarator_spelling xs)))) × (is_mark p.Semicolon (Some t.kind) ≡ false)
    by true e = absurd (let a = declares_name typed x.declarator names g in let b = nothing_middle x.declarator e in let z : true ≡ false = sym b ∙ a in cc)
    by false e =
        let f = declarator_first names x.declarator e in (
          f.first,
          f.others,
          f.spelt,
          ap (λ c. (comma_at c ++ (declarator_spelling x.declarator ++ start_spelling x.start)) ++ joined (map init_declarator_spelling xs)) c
              ∙ append_assoc (declarator_spelling x.declarator) (start_spelling x.start) (joined (map init_declarator_spelling xs))
              ∙ ap (λ l. l ++ (start_spelling x.start ++ joined (map init_declarator_spelling xs))) f.spelt,
          no_mark _ f.first.kind f.kind,
        )

  no_semicolon : (names : Names) (xs : List InitDeclarator) (rest : Tokens) → Image row_of xs → row_form.good names xs → sees p.Semicolon (names, joined (map init_declarator_spelling xs) ++ rest) ≡ false
  no_semicolon names xs rest i =
      subst (λ xs. row_form.good names xs → sees p.Semicolon (names, joined (map init_declarator_spelling xs) ++ rest) ≡ false) i.1
      (λ h.
      let g = row_node.parts names i.0 h in
      let w = first_token i.0.0 i.0.1 names g.0.0 (good_declares i.0.0 names g.0.1) in
      ap (λ l. is_mark p.Semicolon (peek (l ++ rest))) w.3 ∙ ap (is_mark p.Semicolon) (peek_first w.0 _) ∙ w.4)

  row_side : (xs : List InitDeclarator) → (xs ≡ []) ⊎ Image row_of xs
  row_side [] = inl refl
  row_side (x ∷ xs) = inr ((x, xs), refl)

  abbrev IsEmpty : List InitDeclarator → Type 0
  IsEmpty xs = xs ≡ []

  empty_exact : (more : ℕ) → Guarded (λ i. Unit {0} × (sees p.Semicolon i ≡ true)) (only IsEmpty row_form) more (pure [])
  empty_exact more = record {
    sound = λ names ts x s known h.
        let w = ok_pair {A = List InitDeclarator} [] x (names, ts) s h in
        subst2 (λ (x : List InitDeclarator) (s : State). Got (only IsEmpty row_form) more names ts x s) w.0 w.1 (record { good = (refl, refl); nested = omega arith; spelt = refl; seen = sym (append-nil names); stops = known.1 });
    complete = λ names x rest g n s.
        subst (λ (x : List InitDeclarator). pure [] (names, joined (map init_declarator_spelling x) ++ rest) ≡ Ok (x, (names ++ row_form.adds names x, rest))) (sym g.0)
        (let end : Names → Outcome (List InitDeclarator) = λ m. Ok ([], (m, rest)) in ap end (sym (append-nil names)));
  }

  pub row_exact : (more : ℕ) (reads : Parser (List InitDeclarator)) → Exact (only (Image row_of) row_form) more reads → Exact row_form more (choose (sees p.Semicolon) (pure []) reads)
  row_exact more reads exact =
      whole_exact (λ xs. IsEmpty xs ⊎ Image row_of xs) row_form more _ (λ names xs g. row_side xs)
      (guarded_exact (only (λ xs. IsEmpty xs ⊎ Image row_of xs) row_form) more _
      (choose_guarded (λ i. Unit {0}) IsEmpty (Image row_of) row_form more (sees p.Semicolon) (pure []) reads (empty_exact more)
      (record { sound = λ names ts x s known h. exact.sound names ts x s h; complete = exact.complete })
      (λ names xs rest i. subst (λ xs. row_form.good names xs → row_stop xs (names ++ row_form.adds names xs) rest → sees p.Semicolon (names, joined (map init_declarator_spelling xs) ++ rest) ≡ true) (sym i) (λ g s. s))
      (λ names xs rest i g s. no_semicolon names xs rest i g)))

pub declarators_exact : (more : ℕ) (specifiers : List Specifier) → Exact (row_form (name_type specifiers) (have_typedef specifiers)) more (declarators more specifiers)
unfolding declarators
declarators_exact more specifiers =
    let ty : Bool = name_type specifiers in
    let td : Bool = have_typedef specifiers in
    row_exact ty td more (some_declarators more specifiers)
    (same_exact (only (Image (row_of ty td)) (row_form ty td)) more _ _ (two (first_declarator more specifiers) (λ x. many (sees p.Comma) (next_declarator more specifiers)) (λ x xs. x ∷ xs))
    (node_exact (listing ty td) (row_of ty td) (row_form ty td) more _ (listing_exact ty td more _ _ (first_exact more specifiers) (next_exact more specifiers)) (row_node ty td)))

-- ---- declarations

no_token : is_mark p.Semicolon (peek []) ≡ false
unfolding peek
no_token = refl

-- specifiers before declarators or `;`
pub specifiers_then : (specifiers : List Specifier) (names : Names) (xs : List InitDeclarator) (behind : Names) (rest : Tokens) → (row_form (name_type specifiers) (have_typedef specifiers)).good names xs
    → row_stop (name_type specifiers) (have_typedef specifiers) xs behind rest → (specifiers_form true).stop specifiers names (joined (map init_declarator_spelling xs) ++ rest)
specifiers_then specifiers names [] behind rest g s = by rest s where
  by : (rest : Tokens) → is_mark p.Semicolon (peek rest) ≡ true → (specifiers_form true).stop specifiers names rest
  by [] s = absurd (let z : false ≡ true = sym no_token ∙ s in cc)
  by (t ∷ ts) s =
      let e : k.Punct p.Semicolon ≡ t.kind = mark_kind p.Semicolon t.kind (sym (ap (is_mark p.Semicolon) (peek_first t ts)) ∙ s) in
      subst (λ (t : Token). (specifiers_form true).stop specifiers names (t ∷ ts)) (ap (λ (kind : TokenKind). token kind t.place) e)
      (specifiers_before true specifiers names p.Semicolon t.place ts (record { brace = refl; paren = refl; bracket = refl; star = refl }))
specifiers_then specifiers names (x ∷ xs) behind rest h s =
    let ty : Bool = name_type specifiers in
    let td : Bool = have_typedef specifiers in
    let g = (row_node ty td).parts names (x, xs) h in
    let d = good_declares ty td x names g.0.1 in
    let w = first_token ty td x xs names g.0.0 d in
    subst (λ l. (specifiers_form true).stop specifiers names (l ++ rest)) (sym w.3)
    (subst (λ l. (specifiers_form true).stop specifiers names (w.0 ∷ l)) (sym (append_assoc w.1 (start_spelling x.start ++ joined (map init_declarator_spelling xs)) rest))
    (specifiers_follow true Declaring specifiers names x.declarator w.0 w.1 ((start_spelling x.start ++ joined (map init_declarator_spelling xs)) ++ rest) d w.2))

-- declarators before `;`
pub row_closes : (typed typedef : Bool) (names : Names) (xs : List InitDeclarator) (behind : Names) (at : Pos) (rest : Tokens) → (row_form typed typedef).good names xs → row_stop typed typedef xs behind (punct p.Semicolon at ∷ rest)
row_closes typed typedef names [] behind at rest g = sees_mark p.Semicolon behind at rest
row_closes typed typedef names (x ∷ xs) behind at rest h = by xs (((row_node typed typedef).parts names (x, xs) h).1) where
  no_more : sees p.Comma (behind, punct p.Semicolon at ∷ rest) ≡ false
  no_more = unlike p.Semicolon p.Comma at rest refl

  one_stops : (y : InitDeclarator) (before : Names) → (level typed typedef y before).0.good ≡ true → init_stop typed y.declarator y.start behind (punct p.Semicolon at ∷ rest)
  one_stops y before g = item_before typed typedef y behind before p.Semicolon at rest (good_declares typed typedef y before g) semicolon_apart refl (omega arith)

  last_good : (y : InitDeclarator) (ys : List InitDeclarator) (before : Names) → all_good (items typed typedef) tt before (y ∷ ys) → init_stop typed (last_of (items typed typedef) y ys).declarator (last_of (items typed typedef) y ys).start behind (punct p.Semicolon at ∷ rest)
  last_good y [] before g = one_stops y before g.0.1
  last_good y (z ∷ zs) before g = last_good z zs (before ++ (level typed typedef y before).1) g.1

  by : (ys : List InitDeclarator) → all_good (items typed typedef) tt (names ++ (level typed typedef x names).1) ys → row_stop typed typedef (x ∷ ys) behind (punct p.Semicolon at ∷ rest)
  by [] g = (one_stops x names (((row_node typed typedef).parts names (x, xs) h).0.1), no_more)
  by (y ∷ ys) g = stop_made (items typed typedef) tt y ys behind (punct p.Semicolon at ∷ rest) (last_good y ys (names ++ (level typed typedef x names).1) g) no_more

abbrev pub declaration_form : Form Declaration
declaration_form = record {
  spell = declaration_spelling;
  good = λ names d. (declaration_level d names).0 ≡ true;
  adds = λ names d. (declaration_level d names).1;
  nest = declaration_nesting;
  stop = λ d names rest. Unit {0};
}

abbrev pub rows : List Specifier → Form (List InitDeclarator)
rows specifiers = row_form (name_type specifiers) (have_typedef specifiers)

abbrev pub declaration_parts : Form ((List Specifier × List InitDeclarator) × Pos)
declaration_parts = closed (seq (specifiers_form true) rows) p.Semicolon

abbrev pub declaration_of : (List Specifier × List InitDeclarator) × Pos → Declaration
declaration_of t = record { specifiers = t.0.0; declarators = t.0.1; semicolon = t.1 }

abbrev pub facts : Names → List Specifier → SpecifiersFacts
facts names specifiers = facts_of_specifiers (in_row (map specifier_level specifiers) names).0

-- what is told of declarators depends on the specifiers by two facts alone
pub row_told : (names before : Names) (specifiers : List Specifier) (xs : List InitDeclarator)
    → in_row (map (level (name_type specifiers) (have_typedef specifiers)) xs) names ≡ in_row (map (init_declarator_level (facts before specifiers)) xs) names
row_told names before specifiers xs =
    ap (λ b. in_row (map (level b (have_typedef specifiers)) xs) names) (types_are specifiers before) ∙ ap (λ b. in_row (map (level (names_type (in_row (map specifier_level specifiers) before).0) b) xs) names) (typedef_is specifiers before)

pub declaration_node : Node declaration_parts declaration_of declaration_form
declaration_node = record {
  good = λ names t g.
      let f = form_told true names t.0.0 g.0.0 in
      both_are _ _ f.0 (sym (ap (λ r. listed r.0) (row_told (names ++ (in_row (map specifier_level t.0.0) names).1) names t.0.0 t.0.1)) ∙ g.0.1);
  parts = λ names t h.
      let b = both_true (facts names t.0.0).good _ h in
      ((form_is true names t.0.0 b.0 refl, ap (λ r. listed r.0) (row_told (names ++ (in_row (map specifier_level t.0.0) names).1) names t.0.0 t.0.1) ∙ b.1), tt);
  nested = λ t. omega arith;
  spelt = λ t. sym (append_assoc (joined (map specifier_spelling t.0.0)) (joined (map init_declarator_spelling t.0.1)) (punct p.Semicolon t.1 ∷ []));
  seen = λ names t. ap (λ r. (in_row (map specifier_level t.0.0) names).1 ++ r.1) (sym (row_told (names ++ (in_row (map specifier_level t.0.0) names).1) names t.0.0 t.0.1));
  stop = λ names t behind rest g h. tt;
  from_stop = λ names t behind rest g h. tt;
}

pub declaration_exact : (more : ℕ) → Exact declaration_form more (declaration more)
unfolding declaration
declaration_exact more =
    whole_exact (Image declaration_of) declaration_form more _ (λ names d g. (((d.specifiers, d.declarators), d.semicolon), refl))
    (same_exact (only (Image declaration_of) declaration_form) more _ _ (three (depth.specifiers more true) (λ specifiers. declarators more specifiers) (λ specifiers all. expect p.Semicolon) (λ specifiers all semicolon. record { specifiers = specifiers; declarators = all; semicolon = semicolon }))
    (node_exact declaration_parts declaration_of declaration_form more _
    (closed_exact (seq (specifiers_form true) rows) p.Semicolon more _
    (seq_exact (specifiers_form true) rows more (depth.specifiers more true) (λ specifiers. declarators more specifiers) (specifiers_read more true) (λ specifiers. declarators_exact more specifiers)
    (λ names specifiers xs rest g h st. specifiers_then specifiers _ xs _ rest h st))
    (λ names t at rest g. row_closes (name_type t.0) (have_typedef t.0) _ t.1 _ at rest g.1)) declaration_node))

pub inside_declaration_exact : (more : ℕ) → Exact (deeper declaration_form) more (inside_declaration more)
unfolding inside_declaration
inside_declaration_exact zero = none_deeper declaration_form too_deep (λ i y h. cc)
inside_declaration_exact (suc more) = raise declaration_form more _ (declaration_exact more)
