-- Type names are read exactly where specifiers and declarators are, and what stands behind them.
use Rattle.std.specs.Prelude.{◌≡◌, Bool, true, false, not, ◌&&◌, ◌||◌, List, [], ◌∷◌, ◌++◌, map, refl}
use Rattle.std.proofs.Common.{ap, sym, ◌∙◌, subst}
use denote.Hole.Carrier.{out}
use Rattle.c_tree.specs.declared.token.Pos.{Pos}
use Rattle.c_tree.specs.declared.token.Punct.{Punct}
use Rattle.c_tree.specs.declared.token.Punct.TheVariants as p
use Rattle.c_tree.specs.declared.expression.TypeName.{TypeName, out-TypeName, roll-TypeName}
use Rattle.c_tree.specs.declared.specifier.Specifier.{Specifier, out-Specifier}
use Rattle.c_tree.specs.declared.declarator.Declarator.{Declarator}
use Rattle.c_tree.specs.declared.declarator.Pointer.{Pointer}
use Rattle.c_tree.specs.declared.declarator.Direct.{Direct}
use Rattle.c_tree.specs.declared.declarator.DeclaratorSuffix.{DeclaratorSuffix}
use Rattle.c_tree.specs.Spelling.Tokens.{punct}
use Rattle.c_tree.specs.Spelling.Trees.{declarator_spelling, type_name_spelling, type_name_spelling-is}
use Rattle.c_tree.specs.Levels.Names.{Names, in_row}
use Rattle.c_tree.specs.Levels.Facts.{filled, specify, names_type, has_storage, facts_of_specifiers, SpecifierKind, Storing, Qualifying, Voiding, Typing, Naming, Use, Declaring, Abstract, Parameter, declares}
use Rattle.c_tree.specs.Levels.Trees.{specifier_level, declarator_level, type_name_level}
use Rattle.c_grammar.specs.Laws.Tests.{and_false}
use Rattle.c_grammar.specs.Laws.Told.{type_name_level-is, specifier_level-Storage, specifier_level-Const, specifier_level-Word, specifier_level-StructTag, specifier_level-Struct, specifier_level-EnumTag, specifier_level-Enum, specifier_level-TypedefName}
use Rattle.c_tree.specs.Levels.OfTrees.{kind_of_word}
use Rattle.c_tree.specs.declared.specifier.TypeWord.{TypeWord}
use Rattle.c_tree.specs.declared.specifier.TypeWord.TheVariants as type
use Rattle.c_tree.specs.Nesting.Trees.{type_name_nesting-is}
use Rattle.c_grammar.specs.Punctuators.{same_mark}
use Rattle.c_grammar.specs.Input.{Tokens, peek, behind, is_mark}
use Rattle.c_grammar.specs.Read.Nodes.{is_type, name_type}
use Rattle.c_grammar.specs.Read.Inner.{begins_specifier, is_const}
use Rattle.c_grammar.specs.Read.Declarators.{takes_name, opens_declarator}
use Rattle.c_grammar.specs.Laws.Form.{Node}
use Rattle.c_grammar.specs.Laws.Lists.{all_good, all_stop, last_stop, stop_made}
use Rattle.c_grammar.specs.Laws.Rows.{deeper, Closes}
use Rattle.c_grammar.specs.Laws.Cases.{SpecifierShape, specifier_shape}
use Rattle.c_grammar.specs.Laws.Behind.{both_true, both_are, peek_mark}
use Rattle.c_grammar.specs.Laws.SpecifierStarts.{StartsSpecifier, specifiers_start}
use Rattle.c_grammar.specs.Laws.Forms.{kind_good, is_storing, is_tag, specifier_items, specifiers_form, pointer_items, nothing_stop, is_no_name, behind_items, parts_form, parts_of, declarator_form, type_parts, type_form}

-- ---- which specifiers name a type

-- a kind that names a type
abbrev pub names_one : SpecifierKind → Bool
names_one (Storing is_typedef) = false
names_one Qualifying = false
names_one _ = true

word_names : (t : TypeWord) → names_one (kind_of_word t) ≡ true
word_names type.Void = refl
word_names _ = refl

shape_types : {x : Specifier} → SpecifierShape x → (names : Names) → is_type x ≡ names_one (specifier_level x names).0
unfolding is_type out-Specifier out
shape_types (SpecifierShape.a_storage st at) names = sym (ap (λ f. names_one (f names).0) (specifier_level-Storage st at))
shape_types (SpecifierShape.a_const at) names = sym (ap (λ f. names_one (f names).0) (specifier_level-Const at))
shape_types (SpecifierShape.a_word t at) names = sym (ap (λ f. names_one (f names).0) (specifier_level-Word t at) ∙ word_names t)
shape_types (SpecifierShape.a_struct_tag at tag) names = sym (ap (λ f. names_one (f names).0) (specifier_level-StructTag at tag))
shape_types (SpecifierShape.a_struct at tag from members to) names = sym (ap (λ f. names_one (f names).0) (specifier_level-Struct at tag from members to))
shape_types (SpecifierShape.a_enum_tag at tag) names = sym (ap (λ f. names_one (f names).0) (specifier_level-EnumTag at tag))
shape_types (SpecifierShape.a_enum at tag from enumerators last to) names = sym (ap (λ f. names_one (f names).0) (specifier_level-Enum at tag from enumerators last to))
shape_types (SpecifierShape.a_typedef_name id) names = sym (ap (λ f. names_one (f names).0) (specifier_level-TypedefName id))

pub type_is : (x : Specifier) (names : Names) → is_type x ≡ names_one (specifier_level x names).0
type_is x names = shape_types (specifier_shape x) names

by_kind : (kind : SpecifierKind) (kinds : List SpecifierKind) → names_type (kind ∷ kinds) ≡ (names_one kind || names_type kinds)
by_kind (Storing is_typedef) kinds = refl
by_kind Qualifying kinds = refl
by_kind Voiding kinds = refl
by_kind (Typing good) kinds = refl
by_kind (Naming visible) kinds = refl

-- the specifiers name a type
pub types_are : (xs : List Specifier) (names : Names) → name_type xs ≡ names_type (in_row (map specifier_level xs) names).0
types_are [] names = refl
types_are (x ∷ xs) names =
    ap (λ b. b || name_type xs) (type_is x names) ∙ ap (λ b. names_one (specifier_level x names).0 || b) (types_are xs (names ++ (specifier_level x names).1))
    ∙ sym (by_kind (specifier_level x names).0 (in_row (map specifier_level xs) (names ++ (specifier_level x names).1)).0)

-- ---- when specifiers are as the grammar has them

or_true : (b : Bool) → (b || true) ≡ true
or_true true = refl
or_true false = refl

or_false : (b : Bool) → (b || false) ≡ b
or_false true = refl
or_false false = refl

specify_one : (typed : Bool) (kind : SpecifierKind) (kinds : List SpecifierKind) → specify typed (kind ∷ kinds) ≡ true → (kind_good typed kind ≡ true) × (specify (typed || names_one kind) kinds ≡ true)
specify_one typed (Storing is_typedef) kinds h = (refl, ap (λ b. specify b kinds) (or_false typed) ∙ h)
specify_one typed Qualifying kinds h = (refl, ap (λ b. specify b kinds) (or_false typed) ∙ h)
specify_one typed Voiding kinds h = (refl, ap (λ b. specify b kinds) (or_true typed) ∙ h)
specify_one typed (Typing good) kinds h = let b = both_true good _ h in (b.0, ap (λ b. specify b kinds) (or_true typed) ∙ b.1)
specify_one typed (Naming visible) kinds h = let b = both_true visible _ h in let c = both_true (not typed) _ b.1 in (both_are visible (not typed) b.0 c.0, ap (λ b. specify b kinds) (or_true typed) ∙ c.1)

one_specified : (typed : Bool) (kind : SpecifierKind) (kinds : List SpecifierKind) → kind_good typed kind ≡ true → specify (typed || names_one kind) kinds ≡ true → specify typed (kind ∷ kinds) ≡ true
one_specified typed (Storing is_typedef) kinds g h = sym (ap (λ b. specify b kinds) (or_false typed)) ∙ h
one_specified typed Qualifying kinds g h = sym (ap (λ b. specify b kinds) (or_false typed)) ∙ h
one_specified typed Voiding kinds g h = sym (ap (λ b. specify b kinds) (or_true typed)) ∙ h
one_specified typed (Typing good) kinds g h = both_are good _ g (sym (ap (λ b. specify b kinds) (or_true typed)) ∙ h)
one_specified typed (Naming visible) kinds g h =
    let b = both_true visible (not typed) g in both_are visible _ b.0 (both_are (not typed) _ b.1 (sym (ap (λ b. specify b kinds) (or_true typed)) ∙ h))

no_storing : (kind : SpecifierKind) (kinds : List SpecifierKind) → not (has_storage (kind ∷ kinds)) ≡ (not (is_storing kind) && not (has_storage kinds))
no_storing (Storing is_typedef) kinds = refl
no_storing Qualifying kinds = refl
no_storing Voiding kinds = refl
no_storing (Typing good) kinds = refl
no_storing (Naming visible) kinds = refl

allowed : (w b : Bool) (c : Bool) → (w || (b && c)) ≡ true → ((w || b) ≡ true) × ((w || c) ≡ true)
allowed true b c h = (refl, refl)
allowed false b c h = both_true b c h

allows : (w b : Bool) (c : Bool) → (w || b) ≡ true → (w || c) ≡ true → (w || (b && c)) ≡ true
allows true b c h g = refl
allows false b c h g = both_are b c h g

-- as the levels tell it
abbrev pub SpecifiersTold : Bool → Bool → Names → List Specifier → Type 0
SpecifiersTold w typed names xs = (specify typed (in_row (map specifier_level xs) names).0 ≡ true) × ((w || not (has_storage (in_row (map specifier_level xs) names).0)) ≡ true)

pub specifiers_are : (w typed : Bool) (names : Names) (xs : List Specifier) → SpecifiersTold w typed names xs → all_good (specifier_items w) typed names xs
specifiers_are w typed names [] h = tt
specifiers_are w typed names (x ∷ xs) h =
    let names1 : Names = names ++ (specifier_level x names).1 in
    let kinds : List SpecifierKind = (in_row (map specifier_level xs) names1).0 in
    let a = specify_one typed (specifier_level x names).0 kinds h.0 in
    let b = allowed w (not (is_storing (specifier_level x names).0)) (not (has_storage kinds)) (sym (ap (λ b. w || b) (no_storing (specifier_level x names).0 kinds)) ∙ h.1) in
    ((a.0, b.0), specifiers_are w (typed || is_type x) names1 xs (subst (λ b. specify (typed || b) kinds ≡ true) (sym (type_is x names)) a.1, b.1))

pub specifiers_told : (w typed : Bool) (names : Names) (xs : List Specifier) → all_good (specifier_items w) typed names xs → SpecifiersTold w typed names xs
specifiers_told w typed names [] g = (refl, or_true w)
specifiers_told w typed names (x ∷ xs) g =
    let names1 : Names = names ++ (specifier_level x names).1 in
    let kinds : List SpecifierKind = (in_row (map specifier_level xs) names1).0 in
    let r = specifiers_told w (typed || is_type x) names1 xs g.1 in (
      one_specified typed (specifier_level x names).0 kinds g.0.0 (subst (λ b. specify (typed || b) kinds ≡ true) (type_is x names) r.0),
      ap (λ b. w || b) (no_storing (specifier_level x names).0 kinds) ∙ allows w (not (is_storing (specifier_level x names).0)) (not (has_storage kinds)) g.0.1 r.1,
    )

some_kinds : (xs : List Specifier) (names : Names) → filled (in_row (map specifier_level xs) names).0 ≡ true → xs ≡ [] → ⊥
some_kinds [] names h e = absurd cc
some_kinds (x ∷ xs) names h e = absurd cc

kinds_some : (xs : List Specifier) (names : Names) → (xs ≡ [] → ⊥) → filled (in_row (map specifier_level xs) names).0 ≡ true
kinds_some [] names h = absurd (h refl)
kinds_some (x ∷ xs) names h = refl

-- the specifiers of the form are those that the levels call good, with storage words or without
pub form_told : (w : Bool) (names : Names) (xs : List Specifier) → (specifiers_form w).good names xs
    → ((facts_of_specifiers (in_row (map specifier_level xs) names).0).good ≡ true) × ((w || not (has_storage (in_row (map specifier_level xs) names).0)) ≡ true)
form_told w names xs g = let t = specifiers_told w false names xs g.1 in (both_are _ _ (kinds_some xs names g.0) t.0, t.1)

pub form_is : (w : Bool) (names : Names) (xs : List Specifier) → (facts_of_specifiers (in_row (map specifier_level xs) names).0).good ≡ true → (w || not (has_storage (in_row (map specifier_level xs) names).0)) ≡ true → (specifiers_form w).good names xs
form_is w names xs g h = let b = both_true (filled (in_row (map specifier_level xs) names).0) _ g in (some_kinds xs names b.0, specifiers_are w false names xs (b.1, h))

-- ---- what does not go on with specifiers and declarators

-- a mark that goes on with no specifier and no declarator
pub record Ending (op : Punct) : Type 0 where
  pub brace : same_mark op p.LeftBrace ≡ false
  pub paren : same_mark op p.LeftParen ≡ false
  pub bracket : same_mark op p.LeftBracket ≡ false
  pub star : same_mark op p.Star ≡ false

pub unlike : (op other : Punct) (at : Pos) (rest : Tokens) → same_mark op other ≡ false → is_mark other (peek (punct op at ∷ rest)) ≡ false
unlike op other at rest e = ap (is_mark other) (peek_mark op at rest) ∙ e

specifiers_end : (w typed : Bool) (xs : List Specifier) (names : Names) (op : Punct) (at : Pos) (rest : Tokens) → same_mark op p.LeftBrace ≡ false → all_stop (specifier_items w) typed xs names (punct op at ∷ rest)
specifiers_end w typed [] names op at rest e = ap (begins_specifier w typed names) (peek_mark op at rest)
specifiers_end w typed (x ∷ xs) names op at rest e = (last_end xs, specifiers_end w (typed || is_type x) xs names op at rest e)
  where
    last_end : (xs : List Specifier) → last_stop (specifier_items w) x xs names (punct op at ∷ rest)
    last_end [] = ap (λ b. is_tag x && b) (unlike op p.LeftBrace at rest e) ∙ and_false (is_tag x)
    last_end (y ∷ ys) = tt

pub specifiers_before : (w : Bool) (xs : List Specifier) (names : Names) (op : Punct) (at : Pos) (rest : Tokens) → Ending op → (specifiers_form w).stop xs names (punct op at ∷ rest)
specifiers_before w xs names op at rest e = specifiers_end w false xs names op at rest e.brace

stars_before : (stars : List Pointer) (names : Names) (op : Punct) (at : Pos) (rest : Tokens) → Ending op → all_stop pointer_items tt stars names (punct op at ∷ rest)
stars_before [] names op at rest e = unlike op p.Star at rest e.star
stars_before (q ∷ qs) names op at rest e = stop_made pointer_items tt q qs names (punct op at ∷ rest) (ap is_const (peek_mark op at rest)) (unlike op p.Star at rest e.star)

takes_no_mark : (purpose : Use) (typed : Bool) (names : Names) (op : Punct) (at : Pos) (rest : Tokens) → takes_name purpose typed names (peek (punct op at ∷ rest)) ≡ false
takes_no_mark Declaring typed names op at rest = ap (takes_name Declaring typed names) (peek_mark op at rest)
takes_no_mark Abstract typed names op at rest = refl
takes_no_mark Parameter typed names op at rest = ap (takes_name Parameter typed names) (peek_mark op at rest)

middle_before : (b : Bool) (purpose : Use) (typed : Bool) (names : Names) (op : Punct) (at : Pos) (rest : Tokens) → Ending op → nothing_stop b purpose typed names (punct op at ∷ rest)
middle_before true purpose typed names op at rest e =
    (ap (λ b. b && opens_declarator purpose names (peek (behind (punct op at ∷ rest)))) (unlike op p.LeftParen at rest e.paren), takes_no_mark purpose typed names op at rest)
middle_before false purpose typed names op at rest e = tt

pub parts_before : (purpose : Use) (typed : Bool) (stars : List Pointer) (d : Direct) (xs : List DeclaratorSuffix) (names : Names) (op : Punct) (at : Pos) (rest : Tokens) → Ending op
    → (parts_form purpose typed).stop ((stars, d), xs) names (punct op at ∷ rest)
parts_before purpose typed stars d [] names op at rest e =
    ((middle_before (is_no_name d) purpose typed names op at rest e, λ _. stars_before stars names op at rest e), no_suffix op at rest e)
  where
    no_suffix : (op : Punct) (at : Pos) (rest : Tokens) → Ending op → (is_mark p.LeftBracket (peek (punct op at ∷ rest)) || is_mark p.LeftParen (peek (punct op at ∷ rest))) ≡ false
    no_suffix op at rest e = ap (λ b. b || is_mark p.LeftParen (peek (punct op at ∷ rest))) (unlike op p.LeftBracket at rest e.bracket) ∙ unlike op p.LeftParen at rest e.paren
parts_before purpose typed stars d (x ∷ xs) names op at rest e = stop_made behind_items tt x xs names (punct op at ∷ rest) tt (no_suffix op at rest e)
  where
    no_suffix : (op : Punct) (at : Pos) (rest : Tokens) → Ending op → (is_mark p.LeftBracket (peek (punct op at ∷ rest)) || is_mark p.LeftParen (peek (punct op at ∷ rest))) ≡ false
    no_suffix op at rest e = ap (λ b. b || is_mark p.LeftParen (peek (punct op at ∷ rest))) (unlike op p.LeftBracket at rest e.bracket) ∙ unlike op p.LeftParen at rest e.paren

pub declarator_before : (purpose : Use) (typed : Bool) (d : Declarator) (names : Names) (op : Punct) (at : Pos) (rest : Tokens) → Ending op → (declarator_form purpose typed).stop d names (punct op at ∷ rest)
declarator_before purpose typed d names op at rest e = parts_before purpose typed (parts_of d).0.0 (parts_of d).0.1 (parts_of d).1 names op at rest e

pub close_ends : Ending p.RightParen
close_ends = record { brace = refl; paren = refl; bracket = refl; star = refl }

pub type_closes : Closes (deeper type_form) p.RightParen
type_closes names t at rest g =
    let d = out-TypeName t in
    (declarator_before Abstract (name_type d.specifiers) d.declarator _ p.RightParen at rest close_ends, λ _. specifiers_before false d.specifiers _ p.RightParen at rest close_ends)

-- ---- a type name and its parts

abbrev pub type_of_parts : List Specifier × Declarator → TypeName
type_of_parts t = roll-TypeName (record { specifiers = t.0; declarator = t.1 })

abbrev pub parts_of_type : TypeName → List Specifier × Declarator
parts_of_type t = ((out-TypeName t).specifiers, (out-TypeName t).declarator)

pub type_parts_good : (names : Names) (t : TypeName) → (type_name_level t names).0 ≡ true → type_parts.good names (parts_of_type t)
type_parts_good names t h =
    let specifiers : List Specifier = (out-TypeName t).specifiers in
    let d : Declarator = (out-TypeName t).declarator in
    let r = in_row (map specifier_level specifiers) names in
    let h1 = sym (ap (λ f. (f names).0) (type_name_level-is t)) ∙ h in
    let b = both_true (facts_of_specifiers r.0).good _ h1 in
    let c = both_true (not (has_storage r.0)) _ b.1 in
    (form_is false names specifiers b.0 c.0, subst (λ b. declares Abstract b (declarator_level d (names ++ r.1)).0 ≡ true) (sym (types_are specifiers names)) c.1)

pub type_good : (names : Names) (t : List Specifier × Declarator) → type_parts.good names t → (type_name_level (type_of_parts t) names).0 ≡ true
type_good names t g =
    let r = in_row (map specifier_level t.0) names in
    let f = form_told false names t.0 g.0 in
    ap (λ f. (f names).0) (type_name_level-is (type_of_parts t))
    ∙ both_are _ _ f.0 (both_are _ _ f.1 (subst (λ b. declares Abstract b (declarator_level t.1 (names ++ r.1)).0 ≡ true) (types_are t.0 names) g.1))

type_node : Node type_parts type_of_parts type_form
type_node = record {
  good = type_good;
  parts = λ names t g. type_parts_good names (type_of_parts t) g;
  nested = λ t. type_name_nesting-is (type_of_parts t);
  spelt = λ t. type_name_spelling-is (type_of_parts t);
  seen = λ names t. ap (λ f. (f names).1) (type_name_level-is (type_of_parts t));
  stop = λ names t behind rest g h. h;
  from_stop = λ names t behind rest g h. h;
}

-- a type name begins with a specifier that is no storage word
pub type_starts : (names : Names) (t : TypeName) → (type_name_level t names).0 ≡ true → StartsSpecifier false false names (type_name_spelling t)
type_starts names t h =
    let g = type_parts_good names t h in
    let s = specifiers_start false names (out-TypeName t).specifiers g.0 in
    record { first = s.first; others = s.others ++ declarator_spelling (out-TypeName t).declarator; spelt = type_name_spelling-is t ∙ ap (λ l. l ++ declarator_spelling (out-TypeName t).declarator) s.spelt; good = s.good }
