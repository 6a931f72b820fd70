-- What `parse` gives: Ok exactly where the tokens are the spelling of a unit within the limit, and that unit (C11 6.9).
use Rattle.std.specs.Prelude.{◌≡◌, ℕ, ◌+◌, ◌≤◌, ◌<◌, true, false, ◌&&◌, List, [], ◌∷◌, ◌++◌, length, map, is_some, Result, Ok, Err, refl}
use Rattle.std.proofs.Common.{ap, sym, ◌∙◌, subst, arith, append-nil}
use Rattle.c_tree.specs.declared.token.Pos.{Pos}
use Rattle.c_tree.specs.declared.token.Token.{Token}
use Rattle.c_tree.specs.declared.unit.External.{External}
use Rattle.c_tree.specs.declared.unit.External.TheVariants as external
use Rattle.c_tree.specs.declared.unit.Unit as tree
use Rattle.c_tree.specs.Spelling.Tokens.{joined}
use Rattle.c_tree.specs.Spelling.Trees.{declarator_spelling}
use Rattle.c_tree.specs.Spelling.Statements.{block_spelling}
use Rattle.c_tree.specs.Spelling.Units.{external_spelling}
use Rattle.c_tree.specs.Levels.Names.{Names, in_row}
use Rattle.c_tree.specs.Levels.Facts.{filled, all_good as all_true, facts_of_specifiers}
use Rattle.c_tree.specs.Levels.Trees.{specifier_level}
use Rattle.c_tree.specs.Levels.Units.{external_level}
use Rattle.c_tree.specs.Levelled.{nesting_limit, IsLevelled}
use Rattle.c_tree.specs.Nesting.OfTrees.{deepest}
use Rattle.c_tree.specs.Nesting.Units.{external_nesting, unit_nesting}
use Rattle.c_grammar.specs.Input.{Tokens, State, Fault, Outcome, peek, many}
use Rattle.c_grammar.specs.Laws.Form.{Form, Exact, Node, Image, only, ok_pair, node_exact, same_exact, whole_exact, two}
use Rattle.c_grammar.specs.Laws.Lists.{Items, Kept, all_good, chain, chain_exact, stop_goes, stop_made, added_in_row}
use Rattle.c_grammar.specs.Laws.Behind.{both_true, both_are}
use Rattle.c_grammar.specs.Laws.Starts.{peek_first}
use Rattle.c_grammar.specs.Laws.SpecifierStarts.{specifiers_start}
use Rattle.c_grammar.specs.Laws.TypeNames.{form_is}
use Rattle.c_unit_grammar.specs.Read.Units.{one_external, goes_external, externals, unit_of, parse}
use Rattle.c_unit_grammar.specs.Sentences.{Spells, OkAtUnits, UnitsAreUnique}
use Rattle.c_unit_grammar.specs.Laws.Conditions.{declaration_starts}
use Rattle.c_unit_grammar.specs.Laws.Externals.{external_form, external_exact}

-- ---- declarations and definitions in a row

abbrev items : Items (Unit {0}) External
items = record {
  spell = external_spelling;
  good = λ s names e. (external_level e names).0 ≡ true;
  adds = λ names e. (external_level e names).1;
  nest = external_nesting;
  stop = λ e names rest. Unit {0};
  goes = λ s. goes_external;
  step = λ s e. tt;
}

-- each has tokens
external_starts : (e : External) (names : Names) → (external_level e names).0 ≡ true → (t : Token) × (ts : Tokens) × (external_spelling e ≡ t ∷ ts)
external_starts (external.Declaration d) names h = let s = declaration_starts d names h in (s.first, s.others, s.spelt)
external_starts (external.Definition d) names h =
    let g = both_true (facts_of_specifiers (in_row (map specifier_level d.specifiers) names).0).good _ h in
    let s = specifiers_start true names d.specifiers (form_is true names d.specifiers g.0 refl) in
    (s.first, s.others ++ (declarator_spelling d.declarator ++ block_spelling d.body), ap (λ l. l ++ (declarator_spelling d.declarator ++ block_spelling d.body)) s.spelt)

no_external : (names : Names) → goes_external (names, []) ≡ false
unfolding peek
no_external names = refl

items_kept : (more : ℕ) → Kept items more (λ s. one_external more)
items_kept more = record {
  sound = λ s names ts x end go h. (external_exact more).sound names ts x end h;
  complete = λ s names x rest g n st. (external_exact more).complete names x rest g n st;
  starts = λ s names x rest g st. let w = external_starts x names g in ap (λ l. goes_external (names, l ++ rest)) w.2 ∙ ap is_some (peek_first w.0 (w.1 ++ rest));
  ends = λ s names. no_external names;
  follows = λ s names x y rest g h st. tt;
  some = λ s names x g. let w = external_starts x names g in subst (λ l. 0 < length l) (sym w.2) (omega arith);
}

abbrev row_form : Form (External × List External)
row_form = chain external_form items (λ e. tt)

abbrev row_of : External × List External → List External
row_of t = t.0 ∷ t.1

abbrev row_stop : List External → Names → Tokens → Type 0
row_stop [] names rest = Unit {0}
row_stop (e ∷ es) names rest = row_form.stop (e, es) names rest

abbrev pub externals_form : Form (List External)
externals_form = record {
  spell = λ es. joined (map external_spelling es);
  good = λ names es. (filled (in_row (map external_level es) names).0 && all_true (in_row (map external_level es) names).0) ≡ true;
  adds = λ names es. (in_row (map external_level es) names).1;
  nest = λ es. deepest (map external_nesting es);
  stop = row_stop;
}

rest_told : (names : Names) (es : List External) → all_good items tt names es → all_true (in_row (map external_level es) names).0 ≡ true
rest_told names [] g = refl
rest_told names (e ∷ es) g = both_are _ _ g.0 (rest_told (names ++ (external_level e names).1) es g.1)

rest_are : (names : Names) (es : List External) → all_true (in_row (map external_level es) names).0 ≡ true → all_good items tt names es
rest_are names [] h = tt
rest_are names (e ∷ es) h = let b = both_true (external_level e names).0 _ h in (b.0, rest_are (names ++ (external_level e names).1) es b.1)

row_node : Node row_form row_of externals_form
row_node = record {
  good = λ names t g. both_are _ _ g.0 (rest_told (names ++ (external_level t.0 names).1) t.1 g.1);
  parts = λ names t h. let b = both_true (external_level t.0 names).0 _ h in (b.0, rest_are (names ++ (external_level t.0 names).1) t.1 b.1);
  nested = λ t. refl;
  spelt = λ t. refl;
  seen = λ names t. ap (λ l. (external_level t.0 names).1 ++ l) (sym (added_in_row items external_level (λ names e. refl) (names ++ (external_level t.0 names).1) t.1));
  stop = λ names t behind rest g h. h;
  from_stop = λ names t behind rest g h. h;
}

row_image : (names : Names) (es : List External) → externals_form.good names es → Image row_of es
row_image names [] g = absurd cc
row_image names (e ∷ es) g = ((e, es), refl)

pub externals_exact : (more : ℕ) → Exact externals_form more (externals more)
unfolding externals
externals_exact more =
    whole_exact (Image row_of) externals_form more _ row_image
    (same_exact (only (Image row_of) externals_form) more _ _ (two (one_external more) (λ e. many goes_external (one_external more)) (λ e es. e ∷ es))
    (node_exact row_form row_of externals_form more _
    (chain_exact external_form items (λ e. tt) more (one_external more) (λ s. one_external more) (external_exact more) (items_kept more) (λ names e f rest g h st. tt)) row_node))

-- ---- they end with the tokens

nothing_left : (rest : Tokens) → is_some (peek rest) ≡ false → rest ≡ []
nothing_left [] h = refl
nothing_left (t ∷ ts) h = absurd (let z : true ≡ false = sym (ap is_some (peek_first t ts)) ∙ h in cc)

row_ends : (es : List External) (before names : Names) (rest : Tokens) → externals_form.good before es → row_stop es names rest → rest ≡ []
row_ends [] before names rest g h = absurd cc
row_ends (e ∷ []) before names rest g h = nothing_left rest h.1
row_ends (e ∷ f ∷ es) before names rest g h = nothing_left rest (stop_goes items tt (f ∷ es) names rest h)

row_at_end : (es : List External) (names : Names) → row_stop es names []
row_at_end [] names = tt
row_at_end (e ∷ []) names = (tt, no_external names)
row_at_end (e ∷ f ∷ es) names = stop_made items tt f es names [] tt (no_external names)

-- all the tokens of a row
row_comes : (more : ℕ) (es : List External) → externals_form.good [] es → deepest (map external_nesting es) ≤ more → externals more ([], joined (map external_spelling es)) ≡ Ok (es, (externals_form.adds [] es, []))
row_comes more es g n =
    ap (λ l. externals more ([], l)) (sym (append-nil (joined (map external_spelling es)))) ∙ (externals_exact more).complete [] es [] g n (row_at_end es _)

row_found : (more : ℕ) (tokens : Tokens) (es : List External) (s : State) → externals more ([], tokens) ≡ Ok (es, s) → externals_form.good [] es × (deepest (map external_nesting es) ≤ more) × (joined (map external_spelling es) ≡ tokens)
row_found more tokens es s h =
    let g = (externals_exact more).sound [] tokens es s h in
    (g.good, g.nested, sym (append-nil (joined (map external_spelling es))) ∙ ap (λ l. joined (map external_spelling es) ++ l) (sym (row_ends es [] s.0 s.1 g.good g.stops)) ∙ sym g.spelt)

-- ---- units

unit_by : (end : Pos) (o : Outcome (List External)) (unit : tree.Unit) → unit_of end o ≡ Ok unit → (s : State) × (o ≡ Ok (unit.items, s)) × (unit.end ≡ end)
unit_by end (Ok r) unit h =
    let e : record { items = r.0; end = end } ≡ unit = cc in
    (r.1, ap (λ (es : List External). Ok (es, r.1)) (ap (λ (u : tree.Unit). u.items) e), sym (ap (λ (u : tree.Unit). u.end) e))
unit_by end (Err x) unit h = absurd cc

unit_comes : (tokens : Tokens) (end : Pos) (unit : tree.Unit) → IsLevelled unit → Spells tokens end unit → parse tokens end ≡ Ok unit
unfolding parse
unit_comes tokens end unit l s =
    ap (λ ts. unit_of end (externals nesting_limit ([], ts))) (sym s.spelt) ∙ ap (unit_of end) (row_comes nesting_limit unit.items l.parts l.nesting)
    ∙ ap (λ (at : Pos). Ok (record { items = unit.items; end = at })) (sym s.ends)

unit_found : (tokens : Tokens) (end : Pos) (unit : tree.Unit) → parse tokens end ≡ Ok unit → IsLevelled unit × Spells tokens end unit
unfolding parse
unit_found tokens end unit h =
    let b = unit_by end (externals nesting_limit ([], tokens)) unit h in
    let g = row_found nesting_limit tokens unit.items b.0 b.1 in
    (record { parts = g.0; nesting = g.1 }, record { spelt = g.2; ends = b.2 })

pub ok_at_units : OkAtUnits
ok_at_units = record {
  comes = unit_comes;
  found = unit_found;
  refused = λ tokens end fault h unit l s. let e : ◌≡◌ {A = Result tree.Unit Fault} (Err fault) (Ok unit) = sym h ∙ unit_comes tokens end unit l s in cc;
}

pub units_are_unique : UnitsAreUnique
units_are_unique tokens end a b ga gb sa sb =
    let deep : ℕ = unit_nesting a + unit_nesting b in
    let x = row_comes deep a.items ga (omega arith) in
    let y = row_comes deep b.items gb (omega arith) in
    let same : joined (map external_spelling a.items) ≡ joined (map external_spelling b.items) = sa.spelt ∙ sym sb.spelt in
    let e = ok_pair {A = List External} a.items b.items (externals_form.adds [] a.items, []) (externals_form.adds [] b.items, []) (sym x ∙ ap (λ ts. externals deep ([], ts)) same ∙ y) in
    ap (λ (es : List External). record { items = es; end = a.end }) e.0 ∙ ap (λ (at : Pos). record { items = b.items; end = at }) (sa.ends ∙ sym sb.ends)
