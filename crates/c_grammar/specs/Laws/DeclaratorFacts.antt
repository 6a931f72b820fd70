-- The first token of a declarator, and what is told of it.
use Rattle.std.specs.Prelude.{◌≡◌, ℕ, Bool, true, false, not, ◌&&◌, List, [], ◌∷◌, ◌++◌, map, Some, is_some, is_none, refl}
use Rattle.std.proofs.Common.{ap, sym, ◌∙◌, subst, append-nil}
use denote.Hole.Carrier.{out}
use Rattle.c_tree.specs.declared.token.Punct.{Punct}
use Rattle.c_tree.specs.declared.token.Punct.TheVariants as p
use Rattle.c_tree.specs.declared.token.Token.{Token}
use Rattle.c_tree.specs.declared.token.TokenKind.{TokenKind}
use Rattle.c_tree.specs.declared.token.TokenKind.TheVariants as k
use Rattle.c_tree.specs.declared.declarator.Pointer.{Pointer}
use Rattle.c_tree.specs.declared.declarator.Declarator.{Declarator, out-Declarator}
use Rattle.c_tree.specs.declared.declarator.Direct.{Direct, out-Direct}
use Rattle.c_tree.specs.declared.declarator.Direct.TheVariants as direct
use Rattle.c_tree.specs.declared.declarator.DeclaratorSuffix.{DeclaratorSuffix}
use Rattle.c_tree.specs.Spelling.Tokens.{punct, name as name_token, joined}
use Rattle.c_grammar.specs.Laws.Tests.{and_false}
use Rattle.c_grammar.specs.Laws.Spelled.{pointers as pointers_spelling}
use Rattle.c_tree.specs.Spelling.Trees.{declarator_spelling, direct_spelling, declarator_suffix_spelling, declarator_spelling-is, direct_spelling-Nothing, direct_spelling-Named, direct_spelling-Grouped, declarator_suffix_spelling-Array, declarator_suffix_spelling-ArrayOf, declarator_suffix_spelling-Empty, declarator_suffix_spelling-Void, declarator_suffix_spelling-Parameters}
use Rattle.c_tree.specs.Levels.Names.{Names, is_typedef_name, in_row}
use Rattle.c_tree.specs.Levels.Facts.{filled, Use, Declaring, Abstract, Parameter, declares, suffixes_good}
use Rattle.c_tree.specs.Levels.Trees.{declarator_level, direct_level, declarator_suffix_level}
use Rattle.c_grammar.specs.Laws.Told.{declarator_level-is, direct_level-Nothing, direct_level-Named, direct_level-Grouped}
use Rattle.c_grammar.specs.Input.{Tokens, peek}
use Rattle.c_grammar.specs.Read.Nodes.{is_nothing}
use Rattle.c_grammar.specs.Read.Inner.{begins_parameters}
use Rattle.c_grammar.specs.Laws.Cases.{DirectShape, direct_shape, DeclaratorSuffixShape, declarator_suffix_shape}
use Rattle.c_grammar.specs.Laws.Behind.{both_true}
use Rattle.c_grammar.specs.Laws.Starts.{Begins, peek_first}
use Rattle.c_grammar.specs.Laws.Forms.{is_no_name}

-- ---- suffixes

-- `[` or `(`
abbrev pub suffix_mark : {x : DeclaratorSuffix} → DeclaratorSuffixShape x → Punct
suffix_mark (DeclaratorSuffixShape.a_array from to) = p.LeftBracket
suffix_mark (DeclaratorSuffixShape.a_array_of from size to) = p.LeftBracket
suffix_mark _ = p.LeftParen

pub suffix_begins : {x : DeclaratorSuffix} (s : DeclaratorSuffixShape x) → Begins (suffix_mark s) (declarator_suffix_spelling x)
suffix_begins (DeclaratorSuffixShape.a_array from to) = record { at = from; others = _; spelt = declarator_suffix_spelling-Array from to }
suffix_begins (DeclaratorSuffixShape.a_array_of from size to) = record { at = from; others = _; spelt = declarator_suffix_spelling-ArrayOf from size to }
suffix_begins (DeclaratorSuffixShape.a_empty from to) = record { at = from; others = _; spelt = declarator_suffix_spelling-Empty from to }
suffix_begins (DeclaratorSuffixShape.a_void from at to) = record { at = from; others = _; spelt = declarator_suffix_spelling-Void from at to }
suffix_begins (DeclaratorSuffixShape.a_parameters from all to) = record { at = from; others = _; spelt = declarator_suffix_spelling-Parameters from all to }

-- ---- the first token of a declarator

-- a mark, or the name that is declared, which is told to begin it where it is a typedef name
pub data FirstToken (typed : Bool) (names : Names) : TokenKind → Type 0 where
  star : typed ≡ false → FirstToken typed names (k.Punct p.Star)
  paren : typed ≡ false → FirstToken typed names (k.Punct p.LeftParen)
  bracket : typed ≡ false → FirstToken typed names (k.Punct p.LeftBracket)
  a_name : (text : List ℕ) → typed ≡ is_typedef_name names text → FirstToken typed names (k.Name text)

pub record First (typed : Bool) (names : Names) (ts : Tokens) : Type 0 where
  pub first : Token
  pub others : Tokens
  pub spelt : ts ≡ first ∷ others
  pub kind : FirstToken typed names first.kind

suffix_first : {x : DeclaratorSuffix} (s : DeclaratorSuffixShape x) (names : Names) (xs : Tokens) → First false names (declarator_suffix_spelling x ++ xs)
suffix_first (DeclaratorSuffixShape.a_array from to) names xs = record { first = punct p.LeftBracket from; others = _; spelt = ap (λ l. l ++ xs) (declarator_suffix_spelling-Array from to); kind = FirstToken.bracket refl }
suffix_first (DeclaratorSuffixShape.a_array_of from size to) names xs = record { first = punct p.LeftBracket from; others = _; spelt = ap (λ l. l ++ xs) (declarator_suffix_spelling-ArrayOf from size to); kind = FirstToken.bracket refl }
suffix_first (DeclaratorSuffixShape.a_empty from to) names xs = record { first = punct p.LeftParen from; others = _; spelt = ap (λ l. l ++ xs) (declarator_suffix_spelling-Empty from to); kind = FirstToken.paren refl }
suffix_first (DeclaratorSuffixShape.a_void from at to) names xs = record { first = punct p.LeftParen from; others = _; spelt = ap (λ l. l ++ xs) (declarator_suffix_spelling-Void from at to); kind = FirstToken.paren refl }
suffix_first (DeclaratorSuffixShape.a_parameters from all to) names xs = record { first = punct p.LeftParen from; others = _; spelt = ap (λ l. l ++ xs) (declarator_suffix_spelling-Parameters from all to); kind = FirstToken.paren refl }

direct_first : {d : Direct} → DirectShape d → (names : Names) (xs : List DeclaratorSuffix) → (is_no_name d && not (filled xs)) ≡ false → First (direct_level d names).0.begins_typed names (direct_spelling d ++ joined (map declarator_suffix_spelling xs))
unfolding is_no_name out-Direct out
direct_first DirectShape.a_nothing names [] h = absurd cc
direct_first DirectShape.a_nothing names (x ∷ xs) h =
    subst (λ b. First b names (direct_spelling direct.Nothing ++ joined (map declarator_suffix_spelling (x ∷ xs)))) (sym (ap (λ f. (f names).0.begins_typed) direct_level-Nothing))
    (subst (First false names) (sym (ap (λ l. l ++ joined (map declarator_suffix_spelling (x ∷ xs))) direct_spelling-Nothing)) (suffix_first (declarator_suffix_shape x) names (joined (map declarator_suffix_spelling xs))))
direct_first (DirectShape.a_named id) names xs h =
    record {
      first = name_token id;
      others = joined (map declarator_suffix_spelling xs);
      spelt = ap (λ l. l ++ joined (map declarator_suffix_spelling xs)) (direct_spelling-Named id);
      kind = FirstToken.a_name id.text (ap (λ f. (f names).0.begins_typed) (direct_level-Named id));
    }
direct_first (DirectShape.a_grouped from d to) names xs h =
    record {
      first = punct p.LeftParen from;
      others = _;
      spelt = ap (λ l. l ++ joined (map declarator_suffix_spelling xs)) (direct_spelling-Grouped from d to);
      kind = FirstToken.paren (ap (λ f. (f names).0.begins_typed) (direct_level-Grouped from d to));
    }

-- with pointers or without
pub parts_first : (names : Names) (qs : List Pointer) (d : Direct) (xs : List DeclaratorSuffix) → (not (filled qs) && (is_no_name d && not (filled xs))) ≡ false
    → First (not (filled qs) && (direct_level d names).0.begins_typed) names (pointers_spelling qs ++ (direct_spelling d ++ joined (map declarator_suffix_spelling xs)))
parts_first names [] d xs h = direct_first (direct_shape d) names xs h
parts_first names (q ∷ qs) d xs h = record { first = punct p.Star q.star; others = _; spelt = refl; kind = FirstToken.star refl }

pub nothing_parts : (d : Declarator) → is_nothing d ≡ (not (filled (out-Declarator d).pointers) && (is_no_name (out-Declarator d).direct && not (filled (out-Declarator d).suffixes)))
unfolding is_nothing is_no_name
nothing_parts d = refl

-- a declarator that is not nothing
pub declarator_first : (names : Names) (d : Declarator) → is_nothing d ≡ false → First (declarator_level d names).0.begins_typed names (declarator_spelling d)
declarator_first names d h =
    let q = out-Declarator d in
    subst (λ b. First b names (declarator_spelling d)) (sym (ap (λ f. (f names).0.begins_typed) (declarator_level-is d)))
    (subst (First (not (filled q.pointers) && (direct_level q.direct names).0.begins_typed) names) (sym (declarator_spelling-is d)) (parts_first names q.pointers q.direct q.suffixes (sym (nothing_parts d) ∙ h)))

not_first : (typed : Bool) (names : Names) (kind : TokenKind) → FirstToken typed names kind → begins_parameters names (Some kind) ≡ typed
not_first typed names _ (FirstToken.star e) = sym e
not_first typed names _ (FirstToken.paren e) = sym e
not_first typed names _ (FirstToken.bracket e) = sym e
not_first typed names _ (FirstToken.a_name text e) = sym e

-- so the token behind a bracket tells a declarator from parameters
pub first_begins : (typed : Bool) (names : Names) (ts rest : Tokens) → First typed names ts → begins_parameters names (peek (ts ++ rest)) ≡ typed
first_begins typed names ts rest f = ap (λ l. begins_parameters names (peek (l ++ rest))) f.spelt ∙ ap (begins_parameters names) (peek_first f.first (f.others ++ rest)) ∙ not_first typed names f.first.kind f.kind

-- ---- what is told of a declarator, by its parts

kinds_filled : (names : Names) (xs : List DeclaratorSuffix) → filled (in_row (map declarator_suffix_level xs) names).0 ≡ filled xs
kinds_filled names [] = refl
kinds_filled names (x ∷ xs) = refl

direct_nothing : {d : Direct} → DirectShape d → (names : Names) → (direct_level d names).0.is_nothing ≡ is_no_name d
unfolding is_no_name out-Direct out
direct_nothing DirectShape.a_nothing names = ap (λ f. (f names).0.is_nothing) direct_level-Nothing
direct_nothing (DirectShape.a_named id) names = ap (λ f. (f names).0.is_nothing) (direct_level-Named id)
direct_nothing (DirectShape.a_grouped from d to) names = ap (λ f. (f names).0.is_nothing) (direct_level-Grouped from d to)

pub nothing_is : (d : Declarator) (names : Names) → (declarator_level d names).0.is_nothing ≡ is_nothing d
nothing_is d names =
    let q = out-Declarator d in
    ap (λ f. (f names).0.is_nothing) (declarator_level-is d)
    ∙ ap (λ b. not (filled q.pointers) && (b && not (filled (in_row (map declarator_suffix_level q.suffixes) (names ++ (direct_level q.direct names).1)).0))) (direct_nothing (direct_shape q.direct) names)
    ∙ ap (λ b. not (filled q.pointers) && (is_no_name q.direct && not b)) (kinds_filled (names ++ (direct_level q.direct names).1) q.suffixes)
    ∙ sym (nothing_parts d)

-- a declarator without a name does not begin with one
no_name_typed : {d : Direct} → DirectShape d → (names : Names) → is_none (direct_level d names).0.name ≡ true → (direct_level d names).0.begins_typed ≡ false
no_name_typed DirectShape.a_nothing names h = ap (λ f. (f names).0.begins_typed) direct_level-Nothing
no_name_typed (DirectShape.a_named id) names h = absurd (let e : false ≡ true = sym (ap (λ f. is_none (f names).0.name) (direct_level-Named id)) ∙ h in cc)
no_name_typed (DirectShape.a_grouped from d to) names h = ap (λ f. (f names).0.begins_typed) (direct_level-Grouped from d to)

pub unnamed_untyped : (d : Declarator) (names : Names) → is_none (declarator_level d names).0.name ≡ true → (declarator_level d names).0.begins_typed ≡ false
unnamed_untyped d names h =
    let q = out-Declarator d in
    ap (λ f. (f names).0.begins_typed) (declarator_level-is d)
    ∙ ap (λ b. not (filled q.pointers) && b) (no_name_typed (direct_shape q.direct) names (sym (ap (λ f. is_none (f names).0.name) (declarator_level-is d)) ∙ h)) ∙ and_false (not (filled q.pointers))

-- a declarator with a name is not nothing in the middle
named_middle : {d : Direct} → DirectShape d → (names : Names) → is_some (direct_level d names).0.name ≡ true → is_no_name d ≡ false
unfolding is_no_name out-Direct out
named_middle DirectShape.a_nothing names h = absurd (let e : false ≡ true = sym (ap (λ f. is_some (f names).0.name) direct_level-Nothing) ∙ h in cc)
named_middle (DirectShape.a_named id) names h = refl
named_middle (DirectShape.a_grouped from d to) names h = refl

pub named_is : (d : Declarator) (names : Names) → is_some (declarator_level d names).0.name ≡ true → is_no_name (out-Declarator d).direct ≡ false
named_is d names h = named_middle (direct_shape (out-Declarator d).direct) names (sym (ap (λ f. is_some (f names).0.name) (declarator_level-is d)) ∙ h)

-- what is told of a use, by the middle and the suffixes
parted : (a b c : Bool) → ((a && b) && c) ≡ true → ((a && c) ≡ true) × (b ≡ true)
parted true true c h = (h, refl)
parted true false c h = absurd cc
parted false b c h = absurd cc

joined_all : (a b c : Bool) → (a && c) ≡ true → b ≡ true → ((a && b) && c) ≡ true
joined_all true true c h e = h
joined_all true false c h e = absurd cc
joined_all false b c h e = absurd cc

pub declares_parts : (purpose : Use) (typed : Bool) (d : Declarator) (names : Names) → declares purpose typed (declarator_level d names).0 ≡ true
    → (declares purpose typed (direct_level (out-Declarator d).direct names).0 ≡ true) × (suffixes_good (in_row (map declarator_suffix_level (out-Declarator d).suffixes) (names ++ (direct_level (out-Declarator d).direct names).1)).0 ≡ true)
declares_parts Declaring typed d names h =
    let h1 = sym (ap (λ f. declares Declaring typed (f names).0) (declarator_level-is d)) ∙ h in
    parted (direct_level (out-Declarator d).direct names).0.good (suffixes_good (in_row (map declarator_suffix_level (out-Declarator d).suffixes) (names ++ (direct_level (out-Declarator d).direct names).1)).0) _ h1
declares_parts Abstract typed d names h =
    let h1 = sym (ap (λ f. declares Abstract typed (f names).0) (declarator_level-is d)) ∙ h in
    parted (direct_level (out-Declarator d).direct names).0.good (suffixes_good (in_row (map declarator_suffix_level (out-Declarator d).suffixes) (names ++ (direct_level (out-Declarator d).direct names).1)).0) _ h1
declares_parts Parameter typed d names h =
    let h1 = sym (ap (λ f. declares Parameter typed (f names).0) (declarator_level-is d)) ∙ h in
    parted (direct_level (out-Declarator d).direct names).0.good (suffixes_good (in_row (map declarator_suffix_level (out-Declarator d).suffixes) (names ++ (direct_level (out-Declarator d).direct names).1)).0) _ h1

pub parts_declare : (purpose : Use) (typed : Bool) (d : Declarator) (names : Names) → declares purpose typed (direct_level (out-Declarator d).direct names).0 ≡ true
    → suffixes_good (in_row (map declarator_suffix_level (out-Declarator d).suffixes) (names ++ (direct_level (out-Declarator d).direct names).1)).0 ≡ true → declares purpose typed (declarator_level d names).0 ≡ true
parts_declare Declaring typed d names g h =
    ap (λ f. declares Declaring typed (f names).0) (declarator_level-is d)
    ∙ joined_all (direct_level (out-Declarator d).direct names).0.good (suffixes_good (in_row (map declarator_suffix_level (out-Declarator d).suffixes) (names ++ (direct_level (out-Declarator d).direct names).1)).0) _ g h
parts_declare Abstract typed d names g h =
    ap (λ f. declares Abstract typed (f names).0) (declarator_level-is d)
    ∙ joined_all (direct_level (out-Declarator d).direct names).0.good (suffixes_good (in_row (map declarator_suffix_level (out-Declarator d).suffixes) (names ++ (direct_level (out-Declarator d).direct names).1)).0) _ g h
parts_declare Parameter typed d names g h =
    ap (λ f. declares Parameter typed (f names).0) (declarator_level-is d)
    ∙ joined_all (direct_level (out-Declarator d).direct names).0.good (suffixes_good (in_row (map declarator_suffix_level (out-Declarator d).suffixes) (names ++ (direct_level (out-Declarator d).direct names).1)).0) _ g h

-- ---- nothing has no token and tells nothing

direct_none : {x : Direct} → DirectShape x → is_no_name x ≡ true → direct_spelling x ≡ []
unfolding is_no_name out-Direct out
direct_none DirectShape.a_nothing h = direct_spelling-Nothing
direct_none (DirectShape.a_named id) h = absurd cc
direct_none (DirectShape.a_grouped from d to) h = absurd cc

direct_adds : {x : Direct} → DirectShape x → (names : Names) → is_no_name x ≡ true → (direct_level x names).1 ≡ []
unfolding is_no_name out-Direct out
direct_adds DirectShape.a_nothing names h = ap (λ f. (f names).1) direct_level-Nothing
direct_adds (DirectShape.a_named id) names h = absurd cc
direct_adds (DirectShape.a_grouped from d to) names h = absurd cc

parts_none : (qs : List Pointer) (x : Direct) (xs : List DeclaratorSuffix) → (not (filled qs) && (is_no_name x && not (filled xs))) ≡ true
    → pointers_spelling qs ++ (direct_spelling x ++ joined (map declarator_suffix_spelling xs)) ≡ []
parts_none (q ∷ qs) x xs h = absurd cc
parts_none [] x (y ∷ ys) h = absurd (let e : false ≡ true = (both_true (is_no_name x) false h).1 in cc)
parts_none [] x [] h = ap (λ l. l ++ []) (direct_none (direct_shape x) (both_true (is_no_name x) true h).0)

parts_add : (qs : List Pointer) (x : Direct) (xs : List DeclaratorSuffix) (names : Names) → (not (filled qs) && (is_no_name x && not (filled xs))) ≡ true
    → (direct_level x names).1 ++ (in_row (map declarator_suffix_level xs) (names ++ (direct_level x names).1)).1 ≡ []
parts_add (q ∷ qs) x xs names h = absurd cc
parts_add [] x (y ∷ ys) names h = absurd (let e : false ≡ true = (both_true (is_no_name x) false h).1 in cc)
parts_add [] x [] names h = append-nil (direct_level x names).1 ∙ direct_adds (direct_shape x) names (both_true (is_no_name x) true h).0

pub nothing_spelling : (d : Declarator) → is_nothing d ≡ true → declarator_spelling d ≡ []
nothing_spelling d h = let q = out-Declarator d in declarator_spelling-is d ∙ parts_none q.pointers q.direct q.suffixes (sym (nothing_parts d) ∙ h)

pub nothing_adds : (d : Declarator) (names : Names) → is_nothing d ≡ true → (declarator_level d names).1 ≡ []
nothing_adds d names h = let q = out-Declarator d in ap (λ f. (f names).1) (declarator_level-is d) ∙ parts_add q.pointers q.direct q.suffixes names (sym (nothing_parts d) ∙ h)

no_name_of : (qs : List Pointer) (x : Direct) (xs : List DeclaratorSuffix) → (not (filled qs) && (is_no_name x && not (filled xs))) ≡ true → is_no_name x ≡ true
no_name_of (q ∷ qs) x xs h = absurd cc
no_name_of [] x xs h = (both_true (is_no_name x) _ h).0

pub nothing_middle : (d : Declarator) → is_nothing d ≡ true → is_no_name (out-Declarator d).direct ≡ true
nothing_middle d h = let q = out-Declarator d in no_name_of q.pointers q.direct q.suffixes (sym (nothing_parts d) ∙ h)

spelt_by : (d : Declarator) (b : Bool) → is_nothing d ≡ b → (t : Token) (ts : Tokens) → declarator_spelling d ≡ t ∷ ts → is_nothing d ≡ false
spelt_by d true e t ts h = absurd (let n : ◌≡◌ {A = Tokens} [] (t ∷ ts) = sym (nothing_spelling d e) ∙ h in cc)
spelt_by d false e t ts h = e

-- a declarator with tokens is not nothing, and one without is
pub spelt_something : (d : Declarator) (t : Token) (ts : Tokens) → declarator_spelling d ≡ t ∷ ts → is_nothing d ≡ false
spelt_something d t ts h = spelt_by d (is_nothing d) refl t ts h

spelt_none_by : (d : Declarator) (b : Bool) → is_nothing d ≡ b → declarator_spelling d ≡ [] → is_nothing d ≡ true
spelt_none_by d true e h = e
spelt_none_by d false e h = let f = declarator_first [] d e in absurd (let n : ◌≡◌ {A = Tokens} [] (f.first ∷ f.others) = sym h ∙ f.spelt in cc)

pub spelt_none : (d : Declarator) → declarator_spelling d ≡ [] → is_nothing d ≡ true
spelt_none d h = spelt_none_by d (is_nothing d) refl h

-- the first token is that of any spelling
pub first_of : (typed : Bool) (names : Names) (d t : Token) (ts os : Tokens) → ◌≡◌ {A = Tokens} (d ∷ os) (t ∷ ts) → FirstToken typed names d.kind → FirstToken typed names t.kind
first_of typed names d t ts os e f = let h : d ≡ t = cc in subst (λ (u : Token). FirstToken typed names u.kind) h f
