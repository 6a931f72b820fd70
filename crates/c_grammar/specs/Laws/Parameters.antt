-- Parameters are read exactly (C11 6.7.6.3).
use Rattle.std.specs.Prelude.{◌≡◌, ℕ, ◌+◌, Bool, true, false, not, ◌&&◌, ◌||◌, List, [], ◌∷◌, ◌++◌, map, Option, Some, None, is_some, refl}
use Rattle.std.proofs.Common.{ap, sym, ◌∙◌, subst, arith, append_assoc, append-nil}
use denote.Hole.Carrier.{out}
use Rattle.c_tree.specs.declared.token.Pos.{Pos}
use Rattle.c_tree.specs.declared.token.Punct.TheVariants as p
use Rattle.c_tree.specs.declared.token.Token.{Token}
use Rattle.c_tree.specs.declared.token.TokenKind.{TokenKind}
use Rattle.c_tree.specs.declared.specifier.Specifier.{Specifier, out-Specifier}
use Rattle.c_tree.specs.declared.declarator.Pointer.{Pointer}
use Rattle.c_tree.specs.declared.declarator.Declarator.{Declarator, out-Declarator}
use Rattle.c_tree.specs.declared.declarator.Direct.{Direct, out-Direct}
use Rattle.c_tree.specs.declared.declarator.DeclaratorSuffix.{DeclaratorSuffix}
use Rattle.c_tree.specs.declared.declarator.Parameter.{Parameter as ParameterTree, out-Parameter, roll-Parameter, roll-out-Parameter}
use Rattle.c_tree.specs.Spelling.Trees.{declarator_spelling, parameter_spelling, parameter_spelling-is}
use Rattle.c_tree.specs.Levels.Names.{Names, in_row}
use Rattle.c_tree.specs.Levels.Facts.{filled, SpecifierKind, has_typedef, facts_of_specifiers, Use, Declaring, Abstract, Parameter, declares, names_of}
use Rattle.c_tree.specs.Levels.Trees.{specifier_level, declarator_level, direct_level, parameter_level}
use Rattle.c_grammar.specs.Laws.Tests.{and_false}
use Rattle.c_grammar.specs.Laws.Told.{declarator_level-is, parameter_level-is, direct_level-Nothing, direct_level-Named, direct_level-Grouped, specifier_level-Storage, specifier_level-Const, specifier_level-Word, specifier_level-StructTag, specifier_level-Struct, specifier_level-EnumTag, specifier_level-Enum, specifier_level-TypedefName}
use Rattle.c_tree.specs.Levels.OfTrees.{kind_of_word, is_typedef}
use Rattle.c_tree.specs.declared.specifier.TypeWord.{TypeWord}
use Rattle.c_tree.specs.declared.specifier.TypeWord.TheVariants as type
use Rattle.c_tree.specs.Nesting.Trees.{parameter_nesting, parameter_nesting-is}
use Rattle.c_grammar.specs.Input.{Tokens, State, Parser, ◌>>=◌, pure, is_mark, expect}
use Rattle.c_grammar.specs.Read.Nodes.{is_type, name_type, is_typedef_word, have_typedef}
use Rattle.c_grammar.specs.Read.Inner.{Inner, begins_specifier}
use Rattle.c_grammar.specs.Read.Declarators.{parameter_behind, parameter, next_parameter}
use Rattle.c_grammar.specs.Laws.Form.{Form, Exact, Node, Image, only, both, map_to, node_exact, same_exact, whole_exact, two, bind_same, open_seq, open_exact, declaring, declaring_form, declaring_exact, declaring_map}
use Rattle.c_grammar.specs.Laws.Lists.{all_stop, last_stop, left}
use Rattle.c_grammar.specs.Laws.Single.{mark_form, expect_exact}
use Rattle.c_grammar.specs.Laws.Rows.{pre, pre_exact, deeper}
use Rattle.c_grammar.specs.Laws.Cases.{SpecifierShape, specifier_shape, DirectShape, direct_shape}
use Rattle.c_grammar.specs.Laws.Behind.{both_true, both_are}
use Rattle.c_grammar.specs.Laws.Starts.{peek_first}
use Rattle.c_grammar.specs.Laws.Forms.{is_tag, specifier_items, specifiers_form, pointer_items, nothing_stop, is_no_name, behind_items, parts_form, parts_of, declarator_form}
use Rattle.c_grammar.specs.Laws.TypeNames.{form_told, form_is, types_are}
use Rattle.c_grammar.specs.Laws.DeclaratorFacts.{FirstToken, declarator_first, unnamed_untyped, spelt_something, spelt_none, nothing_middle, nothing_adds, first_of}

-- ---- what stands behind a declarator does not depend on the names, where it has one

pointers_any : (stars : List Pointer) (a b : Names) (rest : Tokens) → all_stop pointer_items tt stars a rest → all_stop pointer_items tt stars b rest
pointers_any [] a b rest h = h
pointers_any (q ∷ []) a b rest h = h
pointers_any (q ∷ (r ∷ qs)) a b rest h = (tt, pointers_any (r ∷ qs) a b rest h.1)

behind_any : (xs : List DeclaratorSuffix) (a b : Names) (rest : Tokens) → all_stop behind_items tt xs a rest → all_stop behind_items tt xs b rest
behind_any [] a b rest h = h
behind_any (x ∷ []) a b rest h = h
behind_any (x ∷ (y ∷ ys)) a b rest h = (tt, behind_any (y ∷ ys) a b rest h.1)

parts_any : (purpose : Use) (typed : Bool) (stars : List Pointer) (d : Direct) (xs : List DeclaratorSuffix) (a b : Names) (rest : Tokens) → is_no_name d ≡ false
    → (parts_form purpose typed).stop ((stars, d), xs) a rest → (parts_form purpose typed).stop ((stars, d), xs) b rest
parts_any purpose typed stars d [] a b rest e h =
    ((subst (λ c. nothing_stop c purpose typed b rest) (sym e) tt, λ z. pointers_any stars a b rest (h.0.1 z)), h.1)
parts_any purpose typed stars d (x ∷ xs) a b rest e h = behind_any (x ∷ xs) a b rest h

pub declarator_any : (purpose : Use) (typed : Bool) (d : Declarator) (a b : Names) (rest : Tokens) → is_no_name (out-Declarator d).direct ≡ false
    → (declarator_form purpose typed).stop d a rest → (declarator_form purpose typed).stop d b rest
declarator_any purpose typed d a b rest e h = parts_any purpose typed (parts_of d).0.0 (parts_of d).0.1 (parts_of d).1 a b rest e h

-- a declarator without a name declares none
unnamed : {d : Direct} → DirectShape d → (names : Names) → is_no_name d ≡ true → (direct_level d names).0.name ≡ None
unfolding is_no_name out-Direct out
unnamed DirectShape.a_nothing names h = ap (λ f. (f names).0.name) direct_level-Nothing
unnamed (DirectShape.a_named id) names h = absurd cc
unnamed (DirectShape.a_grouped from d to) names h = absurd cc

no_name_is : (d : Declarator) (names : Names) → is_no_name (out-Declarator d).direct ≡ true → (declarator_level d names).0.name ≡ None
no_name_is d names h = ap (λ f. (f names).0.name) (declarator_level-is d) ∙ unnamed (direct_shape (out-Declarator d).direct) names h

-- ---- a parameter's declarator, and the name that it declares

abbrev pub parameter_names : Bool → Names → Declarator → Names
parameter_names is_typedef names d = names_of is_typedef (declarator_level d names).0.name

abbrev pub parameter_declarator : Bool → Bool → Form Declarator
parameter_declarator is_typedef typed = declaring_form (parameter_names is_typedef) (declarator_form Parameter typed)

stop_by : (is_typedef typed : Bool) (names : Names) (d : Declarator) (rest : Tokens) (b : Bool) → is_no_name (out-Declarator d).direct ≡ b
    → (declarator_form Parameter typed).stop d (names ++ (declarator_level d names).1) rest → (declarator_form Parameter typed).stop d (names ++ ((declarator_level d names).1 ++ parameter_names is_typedef names d)) rest
stop_by is_typedef typed names d rest true e h =
    let n : (declarator_level d names).1 ++ parameter_names is_typedef names d ≡ (declarator_level d names).1 = ap (λ o. (declarator_level d names).1 ++ names_of is_typedef o) (no_name_is d names e) ∙ append-nil (declarator_level d names).1 in
    subst (λ l. (declarator_form Parameter typed).stop d (names ++ l) rest) (sym n) h
stop_by is_typedef typed names d rest false e h = declarator_any Parameter typed d _ _ rest e h

stop_from : (is_typedef typed : Bool) (names : Names) (d : Declarator) (rest : Tokens) (b : Bool) → is_no_name (out-Declarator d).direct ≡ b
    → (declarator_form Parameter typed).stop d (names ++ ((declarator_level d names).1 ++ parameter_names is_typedef names d)) rest → (declarator_form Parameter typed).stop d (names ++ (declarator_level d names).1) rest
stop_from is_typedef typed names d rest true e h =
    let n : (declarator_level d names).1 ++ parameter_names is_typedef names d ≡ (declarator_level d names).1 = ap (λ o. (declarator_level d names).1 ++ names_of is_typedef o) (no_name_is d names e) ∙ append-nil (declarator_level d names).1 in
    subst (λ l. (declarator_form Parameter typed).stop d (names ++ l) rest) n h
stop_from is_typedef typed names d rest false e h = declarator_any Parameter typed d _ _ rest e h

parameter_declarator_exact : (is_typedef typed : Bool) (more : ℕ) (q : Parser Declarator) → Exact (deeper (declarator_form Parameter typed)) more q
    → Exact (deeper (parameter_declarator is_typedef typed)) more (declaring (parameter_names is_typedef) q)
parameter_declarator_exact is_typedef typed more q exact =
    declaring_exact (parameter_names is_typedef) (deeper (declarator_form Parameter typed)) more q exact
    (λ names d rest g h. stop_by is_typedef typed names d rest (is_no_name (out-Declarator d).direct) refl h)
    (λ names d rest g h. stop_from is_typedef typed names d rest (is_no_name (out-Declarator d).direct) refl h)

-- ---- `typedef` among specifiers

shape_typedef : {x : Specifier} → SpecifierShape x → (names : Names) (kinds : List SpecifierKind) → has_typedef ((specifier_level x names).0 ∷ kinds) ≡ (is_typedef_word x || has_typedef kinds)
unfolding is_typedef_word out-Specifier out
shape_typedef (SpecifierShape.a_storage st at) names kinds = ap (λ f. has_typedef ((f names).0 ∷ kinds)) (specifier_level-Storage st at)
shape_typedef (SpecifierShape.a_const at) names kinds = ap (λ f. has_typedef ((f names).0 ∷ kinds)) (specifier_level-Const at)
shape_typedef (SpecifierShape.a_word t at) names kinds = ap (λ f. has_typedef ((f names).0 ∷ kinds)) (specifier_level-Word t at) ∙ word_typedef t where
  word_typedef : (t : TypeWord) → has_typedef (kind_of_word t ∷ kinds) ≡ has_typedef kinds
  word_typedef type.Void = refl
  word_typedef _ = refl
shape_typedef (SpecifierShape.a_struct_tag at tag) names kinds = ap (λ f. has_typedef ((f names).0 ∷ kinds)) (specifier_level-StructTag at tag)
shape_typedef (SpecifierShape.a_struct at tag from members to) names kinds = ap (λ f. has_typedef ((f names).0 ∷ kinds)) (specifier_level-Struct at tag from members to)
shape_typedef (SpecifierShape.a_enum_tag at tag) names kinds = ap (λ f. has_typedef ((f names).0 ∷ kinds)) (specifier_level-EnumTag at tag)
shape_typedef (SpecifierShape.a_enum at tag from enumerators last to) names kinds = ap (λ f. has_typedef ((f names).0 ∷ kinds)) (specifier_level-Enum at tag from enumerators last to)
shape_typedef (SpecifierShape.a_typedef_name id) names kinds = ap (λ f. has_typedef ((f names).0 ∷ kinds)) (specifier_level-TypedefName id)

pub typedef_is : (xs : List Specifier) (names : Names) → have_typedef xs ≡ has_typedef (in_row (map specifier_level xs) names).0
typedef_is [] names = refl
typedef_is (x ∷ xs) names = ap (λ b. is_typedef_word x || b) (typedef_is xs (names ++ (specifier_level x names).1)) ∙ sym (shape_typedef (specifier_shape x) names _)

-- ---- specifiers before a declarator

-- what was told of the types, to the end
left_types : (w s : Bool) (xs : List Specifier) → left (specifier_items w) s xs ≡ (s || name_type xs)
left_types w s [] = or_false s where
  or_false : (b : Bool) → b ≡ (b || false)
  or_false true = refl
  or_false false = refl
left_types w s (x ∷ xs) = left_types w (s || is_type x) xs ∙ or_assoc s (is_type x) (name_type xs) where
  or_assoc : (a b c : Bool) → ((a || b) || c) ≡ (a || (b || c))
  or_assoc true b c = refl
  or_assoc false b c = refl

-- a token that is no brace and no specifier, by the kinds of type words before it
specifiers_by : (w s : Bool) (xs : List Specifier) (names : Names) (t : Token) (ts : Tokens) → is_mark p.LeftBrace (Some t.kind) ≡ false → begins_specifier w (s || name_type xs) names (Some t.kind) ≡ false
    → all_stop (specifier_items w) s xs names (t ∷ ts)
specifiers_by w s [] names t ts b h =
    ap (begins_specifier w s names) (peek_first t ts) ∙ subst (λ c. begins_specifier w c names (Some t.kind) ≡ false) (or_false s) h where
      or_false : (b : Bool) → (b || false) ≡ b
      or_false true = refl
      or_false false = refl
specifiers_by w s (x ∷ xs) names t ts b h =
    (last_one xs, specifiers_by w (s || is_type x) xs names t ts b (subst (λ c. begins_specifier w c names (Some t.kind) ≡ false) (sym (or_assoc s (is_type x) (name_type xs))) h))
  where
    or_assoc : (a b c : Bool) → ((a || b) || c) ≡ (a || (b || c))
    or_assoc true b c = refl
    or_assoc false b c = refl

    last_one : (xs : List Specifier) → last_stop (specifier_items w) x xs names (t ∷ ts)
    last_one [] = ap (λ o. is_tag x && is_mark p.LeftBrace o) (peek_first t ts) ∙ ap (λ c. is_tag x && c) b ∙ and_false (is_tag x)
    last_one (y ∷ ys) = tt

-- a declarator's first token is no specifier behind those before it
first_no_specifier : (w typed begins : Bool) (names : Names) (kind : TokenKind) → FirstToken begins names kind → (begins ≡ true → typed ≡ true) → begins_specifier w typed names (Some kind) ≡ false
first_no_specifier w typed begins names _ (FirstToken.star e) f = refl
first_no_specifier w typed begins names _ (FirstToken.paren e) f = refl
first_no_specifier w typed begins names _ (FirstToken.bracket e) f = refl
first_no_specifier w true begins names _ (FirstToken.a_name text e) f = refl
first_no_specifier w false true names _ (FirstToken.a_name text e) f = absurd (let z : false ≡ true = f refl in cc)
first_no_specifier w false false names _ (FirstToken.a_name text e) f = sym e

first_no_brace : (begins : Bool) (names : Names) (kind : TokenKind) → FirstToken begins names kind → is_mark p.LeftBrace (Some kind) ≡ false
first_no_brace begins names _ (FirstToken.star e) = refl
first_no_brace begins names _ (FirstToken.paren e) = refl
first_no_brace begins names _ (FirstToken.bracket e) = refl
first_no_brace begins names _ (FirstToken.a_name text e) = refl

-- a declarator that begins with a typedef name declares that anew
direct_begins : {d : Direct} → DirectShape d → (names : Names) → (direct_level d names).0.begins_typed ≡ true → (direct_level d names).0.names_typedef ≡ true
direct_begins DirectShape.a_nothing names h = absurd (let e : false ≡ true = sym (ap (λ f. (f names).0.begins_typed) direct_level-Nothing) ∙ h in cc)
direct_begins (DirectShape.a_named id) names h = ap (λ f. (f names).0.names_typedef) (direct_level-Named id) ∙ sym (ap (λ f. (f names).0.begins_typed) (direct_level-Named id)) ∙ h
direct_begins (DirectShape.a_grouped from d to) names h = absurd (let e : false ≡ true = sym (ap (λ f. (f names).0.begins_typed) (direct_level-Grouped from d to)) ∙ h in cc)

begins_named : (d : Declarator) (names : Names) → (declarator_level d names).0.begins_typed ≡ true → (declarator_level d names).0.names_typedef ≡ true
begins_named d names h =
    let q = out-Declarator d in
    let b = both_true (not (filled q.pointers)) _ (sym (ap (λ f. (f names).0.begins_typed) (declarator_level-is d)) ∙ h) in
    ap (λ f. (f names).0.names_typedef) (declarator_level-is d) ∙ direct_begins (direct_shape q.direct) names b.1

or_not : (typed n : Bool) → (typed || not n) ≡ true → n ≡ true → typed ≡ true
or_not true n h e = refl
or_not false true h e = absurd cc
or_not false false h e = absurd cc

-- so only behind specifiers that name a type
begins_behind : (purpose : Use) (typed : Bool) (d : Declarator) (names : Names) → declares purpose typed (declarator_level d names).0 ≡ true → (declarator_level d names).0.begins_typed ≡ true → typed ≡ true
begins_behind Declaring typed d names g h =
    let b = both_true (declarator_level d names).0.good _ g in
    let c = both_true (is_some (declarator_level d names).0.name) _ b.1 in
    or_not typed (declarator_level d names).0.names_typedef c.1 (begins_named d names h)
begins_behind Parameter typed d names g h =
    let b = both_true (declarator_level d names).0.good _ g in
    let c = both_true (not (declarator_level d names).0.may_be_parameters) _ b.1 in
    or_not typed (declarator_level d names).0.names_typedef c.1 (begins_named d names h)
begins_behind Abstract typed d names g h = absurd (let e : false ≡ true = sym (no_begin d names g) ∙ h in cc) where
  no_begin : (d : Declarator) (names : Names) → declares Abstract typed (declarator_level d names).0 ≡ true → (declarator_level d names).0.begins_typed ≡ false
  no_begin d names g = unnamed_untyped d names (both_true (declarator_level d names).0.good _ g).1

-- specifiers before a declarator that has tokens
pub specifiers_follow : (w : Bool) (purpose : Use) (xs : List Specifier) (names : Names) (d : Declarator) (t : Token) (ts rest : Tokens) → declares purpose (name_type xs) (declarator_level d names).0 ≡ true
    → declarator_spelling d ≡ t ∷ ts → (specifiers_form w).stop xs names (t ∷ (ts ++ rest))
specifiers_follow w purpose xs names d t ts rest g e =
    let f = declarator_first names d (spelt_something d t ts e) in
    let k1 : FirstToken (declarator_level d names).0.begins_typed names t.kind = first_of _ names f.first t ts f.others (sym f.spelt ∙ e) f.kind in
    specifiers_by w false xs names t (ts ++ rest) (first_no_brace _ names t.kind k1)
    (first_no_specifier w (name_type xs) (declarator_level d names).0.begins_typed names t.kind k1 (begins_behind purpose (name_type xs) d names g))

-- ---- a parameter without its comma

abbrev pub parameter_parts : Form (List Specifier × Declarator)
parameter_parts = open_seq (specifiers_form true) (λ specifiers. parameter_declarator (have_typedef specifiers) (name_type specifiers))

abbrev pub parameter_with : Option Pos → List Specifier × Declarator → ParameterTree
parameter_with comma t = roll-Parameter (record { comma = comma; specifiers = t.0; declarator = t.1 })

abbrev pub parts_of_parameter : ParameterTree → List Specifier × Declarator
parts_of_parameter x = ((out-Parameter x).specifiers, (out-Parameter x).declarator)

abbrev pub parameter_reader : Inner → Parser (List Specifier × Declarator)
parameter_reader inner = both (inner.specifiers true) (λ specifiers. declaring (parameter_names (have_typedef specifiers)) (inner.declarator Parameter (name_type specifiers)))

parameter_quiet : (is_typedef typed : Bool) (names : Names) (d : Declarator) → declarator_spelling d ≡ [] → (declarator_level d names).1 ++ parameter_names is_typedef names d ≡ []
parameter_quiet is_typedef typed names d e =
    let n = spelt_none d e in
    ap (λ o. (declarator_level d names).1 ++ names_of is_typedef o) (no_name_is d names (nothing_middle d n)) ∙ append-nil (declarator_level d names).1 ∙ nothing_adds d names n

module _ (more : ℕ) (inner : Inner) (specs : (w : Bool) → Exact (deeper (specifiers_form w)) more (inner.specifiers w)) (declarators : (purpose : Use) (typed : Bool) → Exact (deeper (declarator_form purpose typed)) more (inner.declarator purpose typed)) where
  pub parts_exact : Exact (open_seq (deeper (specifiers_form true)) (λ specifiers. deeper (parameter_declarator (have_typedef specifiers) (name_type specifiers)))) more (parameter_reader inner)
  parts_exact =
      open_exact (deeper (specifiers_form true)) (λ specifiers. deeper (parameter_declarator (have_typedef specifiers) (name_type specifiers))) more (inner.specifiers true) _ (specs true)
      (λ specifiers. parameter_declarator_exact (have_typedef specifiers) (name_type specifiers) more (inner.declarator Parameter (name_type specifiers)) (declarators Parameter (name_type specifiers)))
      (λ names specifiers d g e. parameter_quiet (have_typedef specifiers) (name_type specifiers) names d e)
      (λ names specifiers d t ts rest g h e. specifiers_follow true Parameter specifiers _ d t ts rest h e)

-- ---- parameters

abbrev pub parameter_form : Form ParameterTree
parameter_form = record {
  spell = parameter_spelling;
  good = λ names x. (parameter_level x names).0.good ≡ true;
  adds = λ names x. (parameter_level x names).1;
  nest = λ x. parameter_nesting x + 1;
  stop = λ x names rest. parameter_parts.stop (parts_of_parameter x) names rest;
}

abbrev raised : Form (List Specifier × Declarator)
raised = open_seq (deeper (specifiers_form true)) (λ specifiers. deeper (parameter_declarator (have_typedef specifiers) (name_type specifiers)))

parameter_good : (comma : Option Pos) (names : Names) (t : List Specifier × Declarator) → raised.good names t → (parameter_level (parameter_with comma t) names).0.good ≡ true
parameter_good comma names t g =
    let r = in_row (map specifier_level t.0) names in
    let f = form_told true names t.0 g.0 in
    ap (λ f. (f names).0.good) (parameter_level-is (parameter_with comma t))
    ∙ both_are _ _ f.0 (subst (λ b. declares Parameter b (declarator_level t.1 (names ++ r.1)).0 ≡ true) (types_are t.0 names) g.1)

good_parameter : (comma : Option Pos) (names : Names) (t : List Specifier × Declarator) → (parameter_level (parameter_with comma t) names).0.good ≡ true → raised.good names t
good_parameter comma names t h =
    let r = in_row (map specifier_level t.0) names in
    let b = both_true (facts_of_specifiers r.0).good _ (sym (ap (λ f. (f names).0.good) (parameter_level-is (parameter_with comma t))) ∙ h) in
    (form_is true names t.0 b.0 refl, subst (λ b. declares Parameter b (declarator_level t.1 (names ++ r.1)).0 ≡ true) (sym (types_are t.0 names)) b.1)

parameter_seen : (comma : Option Pos) (names : Names) (t : List Specifier × Declarator) → (parameter_level (parameter_with comma t) names).1 ≡ raised.adds names t
parameter_seen comma names t =
    let r = in_row (map specifier_level t.0) names in
    ap (λ f. (f names).1) (parameter_level-is (parameter_with comma t))
    ∙ append_assoc r.1 (declarator_level t.1 (names ++ r.1)).1 (names_of (has_typedef r.0) (declarator_level t.1 (names ++ r.1)).0.name)
    ∙ ap (λ b. r.1 ++ ((declarator_level t.1 (names ++ r.1)).1 ++ names_of b (declarator_level t.1 (names ++ r.1)).0.name)) (sym (typedef_is t.0 names))

parameter_flat : (comma : Option Pos) (t : List Specifier × Declarator) → parameter_nesting (parameter_with comma t) + 1 ≡ raised.nest t
parameter_flat comma t = ap (λ n. n + 1) (parameter_nesting-is (parameter_with comma t)) ∙ omega arith

first_node : Node raised (parameter_with None) parameter_form
first_node = record {
  good = λ names t g. parameter_good None names t g;
  parts = λ names t g. good_parameter None names t g;
  nested = parameter_flat None;
  spelt = λ t. parameter_spelling-is (parameter_with None t);
  seen = λ names t. parameter_seen None names t;
  stop = λ names t behind rest g h. h;
  from_stop = λ names t behind rest g h. h;
}

abbrev next_of : Pos × (List Specifier × Declarator) → ParameterTree
next_of t = parameter_with (Some t.0) t.1

next_node : Node (pre (mark_form p.Comma) (λ _. raised)) next_of parameter_form
next_node = record {
  good = λ names t g. parameter_good (Some t.0) names t.1 g.1;
  parts = λ names t g. (tt, good_parameter (Some t.0) names t.1 g);
  nested = λ t. parameter_flat (Some t.0) t.1 ∙ omega arith;
  spelt = λ t. parameter_spelling-is (next_of t);
  seen = λ names t. parameter_seen (Some t.0) names t.1;
  stop = λ names t behind rest g h. h;
  from_stop = λ names t behind rest g h. h;
}

parameter_is : (inner : Inner) (more : ℕ) (comma : Option Pos) (i : State) → parameter more inner comma i ≡ map_to (parameter_reader inner) (parameter_with comma) i
unfolding parameter
parameter_is inner more comma i =
    let q : List Specifier → Parser Declarator = λ specifiers. declaring (parameter_names (have_typedef specifiers)) (inner.declarator Parameter (name_type specifiers)) in
    bind_same (inner.specifiers true) (parameter_behind more inner comma) (λ specifiers. q specifiers >>= (λ d. pure (parameter_with comma (specifiers, d)))) (λ specifiers j. behind_is specifiers j) i
    ∙ two (inner.specifiers true) q (λ specifiers d. parameter_with comma (specifiers, d)) i
  where
    behind_is : (specifiers : List Specifier) (j : State) → parameter_behind more inner comma specifiers j
        ≡ (declaring (parameter_names (have_typedef specifiers)) (inner.declarator Parameter (name_type specifiers)) >>= (λ d. pure (parameter_with comma (specifiers, d)))) j
    behind_is specifiers j = declaring_map (inner.declarator Parameter (name_type specifiers) j) (λ d. names_of (have_typedef specifiers) (declarator_level d j.0).0.name) (λ d. parameter_with comma (specifiers, d))

pub good_parts : (names : Names) (x : ParameterTree) → (parameter_level x names).0.good ≡ true → raised.good names (parts_of_parameter x)
good_parts names x h = good_parameter (out-Parameter x).comma names (parts_of_parameter x) (subst (λ x. (parameter_level x names).0.good ≡ true) (sym (roll-out-Parameter x)) h)

-- the first parameter has no comma before it, and each other one has

abbrev pub first_parameter : Form ParameterTree
first_parameter = record { spell = parameter_spelling; good = λ names x. ((out-Parameter x).comma ≡ None) × parameter_form.good names x; adds = parameter_form.adds; nest = parameter_form.nest; stop = parameter_form.stop }

abbrev pub next_form : Form ParameterTree
next_form = record { spell = parameter_spelling; good = λ names x. (is_some (out-Parameter x).comma ≡ true) × parameter_form.good names x; adds = parameter_form.adds; nest = parameter_form.nest; stop = parameter_form.stop }

first_is : (x : ParameterTree) → (out-Parameter x).comma ≡ None → Image (parameter_with None) x
first_is x e = (parts_of_parameter x, ap (λ c. roll-Parameter (record { comma = c; specifiers = (out-Parameter x).specifiers; declarator = (out-Parameter x).declarator })) (sym e) ∙ roll-out-Parameter x)

next_by : (x : ParameterTree) (c : Option Pos) → (out-Parameter x).comma ≡ c → is_some c ≡ true → Image next_of x
next_by x None e h = absurd cc
next_by x (Some at) e h = ((at, parts_of_parameter x), ap (λ c. roll-Parameter (record { comma = c; specifiers = (out-Parameter x).specifiers; declarator = (out-Parameter x).declarator })) (sym e) ∙ roll-out-Parameter x)

first_made : Node raised (parameter_with None) first_parameter
first_made = record {
  good = λ names t g. (refl, first_node.good names t g);
  parts = λ names t g. first_node.parts names t g.1;
  nested = first_node.nested;
  spelt = first_node.spelt;
  seen = first_node.seen;
  stop = first_node.stop;
  from_stop = first_node.from_stop;
}

next_made : Node (pre (mark_form p.Comma) (λ _. raised)) next_of next_form
next_made = record {
  good = λ names t g. (refl, next_node.good names t g);
  parts = λ names t g. next_node.parts names t g.1;
  nested = next_node.nested;
  spelt = next_node.spelt;
  seen = next_node.seen;
  stop = next_node.stop;
  from_stop = next_node.from_stop;
}

next_reads : (inner : Inner) (more : ℕ) (i : State) → next_parameter more inner i ≡ map_to (both (expect p.Comma) (λ c. parameter_reader inner)) next_of i
unfolding next_parameter
next_reads inner more i =
    bind_same (expect p.Comma) (λ c. parameter more inner (Some c)) (λ c. parameter_reader inner >>= (λ t. pure (parameter_with (Some c) t))) (λ c j. parameter_is inner more (Some c) j) i
    ∙ two (expect p.Comma) (λ c. parameter_reader inner) (λ c t. parameter_with (Some c) t) i

module _ (more : ℕ) (inner : Inner) (specs : (w : Bool) → Exact (deeper (specifiers_form w)) more (inner.specifiers w)) (declarators : (purpose : Use) (typed : Bool) → Exact (deeper (declarator_form purpose typed)) more (inner.declarator purpose typed)) where
  pub first_exact : Exact first_parameter more (parameter more inner None)
  first_exact =
      whole_exact (Image (parameter_with None)) first_parameter more _ (λ names x g. first_is x g.0)
      (same_exact (only (Image (parameter_with None)) first_parameter) more _ _ (parameter_is inner more None) (node_exact raised (parameter_with None) first_parameter more _ (parts_exact more inner specs declarators) first_made))

  pub next_exact : Exact next_form more (next_parameter more inner)
  next_exact =
      whole_exact (Image next_of) next_form more _ (λ names x g. next_by x (out-Parameter x).comma refl g.0)
      (same_exact (only (Image next_of) next_form) more _ _ (next_reads inner more) (node_exact (pre (mark_form p.Comma) (λ _. raised)) next_of next_form more _
      (pre_exact (mark_form p.Comma) (λ _. raised) more (expect p.Comma) (λ c. parameter_reader inner) (λ names a. refl) (expect_exact p.Comma more) (λ _. parts_exact more inner specs declarators) (λ names a b rest g h s. tt)) next_made))
