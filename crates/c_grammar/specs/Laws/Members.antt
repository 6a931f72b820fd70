-- The members of a struct are read exactly (C11 6.7.2.1).
use Rattle.std.specs.Prelude.{◌≡◌, ℕ, zero, suc, ◌+◌, ◌<◌, max, Bool, true, false, not, List, [], ◌∷◌, ◌++◌, length, map, Option, Some, None, is_some, Ok, Err, refl}
use Rattle.std.proofs.Common.{ap, sym, ◌∙◌, subst, cond, arith, append_assoc}
use Rattle.c_tree.specs.declared.token.Pos.{Pos}
use Rattle.c_tree.specs.declared.token.Punct.TheVariants as p
use Rattle.c_tree.specs.declared.token.Token.{Token}
use Rattle.c_tree.specs.declared.specifier.Specifier.{Specifier}
use Rattle.c_tree.specs.declared.specifier.Member.{Member, out-Member, roll-Member, roll-out-Member, out-roll-Member}
use Rattle.c_tree.specs.declared.specifier.MemberDeclarator.{MemberDeclarator, out-MemberDeclarator, roll-MemberDeclarator, roll-out-MemberDeclarator}
use Rattle.c_tree.specs.declared.declarator.Pointer.{Pointer}
use Rattle.c_tree.specs.declared.declarator.Declarator.{Declarator, out-Declarator}
use Rattle.c_tree.specs.declared.declarator.Direct.{Direct}
use Rattle.c_tree.specs.declared.declarator.DeclaratorSuffix.{DeclaratorSuffix}
use Rattle.c_tree.specs.Layers.{MemberLayer}
use Rattle.c_tree.specs.Levels.OfTrees.{level_of_member}
use Rattle.c_tree.specs.Spelling.Tokens.{punct, comma_at, joined}
use Rattle.c_tree.specs.Spelling.Trees.{specifier_spelling, declarator_spelling, member_spelling, member_declarator_spelling, member_spelling-is, member_declarator_spelling-is}
use Rattle.c_tree.specs.Levels.Names.{Names, in_row}
use Rattle.c_tree.specs.Levels.Facts.{filled, has_storage, facts_of_specifiers, Use, Declaring, declares, MemberDeclaratorFacts, listed, rest_listed, listed_members}
use Rattle.c_tree.specs.Levels.Trees.{specifier_level, declarator_level, member_level, member_declarator_level}
use Rattle.c_grammar.specs.Laws.Told.{member_level-is, member_declarator_level-is}
use Rattle.c_tree.specs.Nesting.OfTrees.{deepest}
use Rattle.c_tree.specs.Nesting.Trees.{specifier_nesting, member_nesting, member_declarator_nesting, member_nesting-is, member_declarator_nesting-is}
use Rattle.c_grammar.specs.Input.{Tokens, State, Outcome, Parser, and_then, ◌>>=◌, pure, peek, sees, expect, opening, loop, many, many_by}
use Rattle.c_grammar.specs.Read.Nodes.{name_type, is_nothing}
use Rattle.c_grammar.specs.Read.Inner.{Inner, begins_specifier}
use Rattle.c_grammar.specs.Read.Specifiers.{first_member_declarator, next_member_declarator, member, goes_member}
use Rattle.c_grammar.specs.Laws.Form.{Form, Exact, Node, Image, only, both, map_to, node_exact, same_exact, whole_exact, two, four, bind_same, seq, seq_exact}
use Rattle.c_grammar.specs.Laws.Lists.{Items, Kept, all_good, chain, chain_exact, chain_stop, last_of, stop_made, added_in_row}
use Rattle.c_grammar.specs.Laws.Single.{mark_form, expect_exact, opening_form, opening_exact}
use Rattle.c_grammar.specs.Laws.Rows.{pre, pre_exact, deeper, closed, closed_exact}
use Rattle.c_grammar.specs.Laws.Behind.{both_true, both_are, peek_mark}
use Rattle.c_grammar.specs.Laws.Starts.{Begins, begins_seen}
use Rattle.c_grammar.specs.Laws.SpecifierStarts.{StartsSpecifier, specifiers_start, starts_seen}
use Rattle.c_grammar.specs.Laws.Postfix.{deep_list}
use Rattle.c_grammar.specs.Laws.Forms.{specifiers_form, nothing_stop, is_no_name, parts_form, parts_of, declarator_form}
use Rattle.c_grammar.specs.Laws.TypeNames.{form_told, form_is, types_are, Ending, unlike, declarator_before}
use Rattle.c_grammar.specs.Laws.DeclaratorFacts.{declarator_first, named_is, nothing_middle}
use Rattle.c_grammar.specs.Laws.Parameters.{specifiers_follow}

-- ---- a member's declarator has a name, so what stands behind it does not depend on the specifiers

parts_typed : (a b : Bool) (stars : List Pointer) (d : Direct) (xs : List DeclaratorSuffix) (names : Names) (rest : Tokens) → is_no_name d ≡ false
    → (parts_form Declaring a).stop ((stars, d), xs) names rest → (parts_form Declaring b).stop ((stars, d), xs) names rest
parts_typed a b stars d [] names rest e h = ((subst (λ c. nothing_stop c Declaring b names rest) (sym e) tt, h.0.1), h.1)
parts_typed a b stars d (x ∷ xs) names rest e h = h

declares_name : (typed : Bool) (d : Declarator) (names : Names) → declares Declaring typed (declarator_level d names).0 ≡ true → is_no_name (out-Declarator d).direct ≡ false
declares_name typed d names g = named_is d names (both_true (is_some (declarator_level d names).0.name) _ (both_true (declarator_level d names).0.good _ g).1).0

stop_typed : (a b : Bool) (d : Declarator) (names before : Names) (rest : Tokens) → declares Declaring a (declarator_level d before).0 ≡ true → (declarator_form Declaring a).stop d names rest → (declarator_form Declaring b).stop d names rest
stop_typed a b d names before rest g h = parts_typed a b (parts_of d).0.0 (parts_of d).0.1 (parts_of d).1 names rest (declares_name a d before g) h

from_typed : (a b : Bool) (d : Declarator) (names before : Names) (rest : Tokens) → declares Declaring b (declarator_level d before).0 ≡ true → (declarator_form Declaring a).stop d names rest → (declarator_form Declaring b).stop d names rest
from_typed a b d names before rest g h = parts_typed a b (parts_of d).0.0 (parts_of d).0.1 (parts_of d).1 names rest (declares_name b d before g) h

-- ---- a member's declarator

abbrev pub declarator_in : MemberDeclarator → Declarator
declarator_in x = (out-MemberDeclarator x).declarator

abbrev pub item_form : (Option Pos → Type 0) → Bool → Form MemberDeclarator
item_form comma typed = record {
  spell = member_declarator_spelling;
  good = λ names x. comma (out-MemberDeclarator x).comma × (declares Declaring typed (declarator_level (declarator_in x) names).0 ≡ true);
  adds = λ names x. (member_declarator_level x names).1;
  nest = λ x. member_declarator_nesting x + 1;
  stop = λ x names rest. (declarator_form Declaring true).stop (declarator_in x) names rest;
}

abbrev pub IsNone : Option Pos → Type 0
IsNone c = c ≡ None

abbrev pub IsComma : Option Pos → Type 0
IsComma c = is_some c ≡ true

abbrev first_of : Declarator → MemberDeclarator
first_of d = roll-MemberDeclarator (record { comma = None; declarator = d })

abbrev next_of : Pos × Declarator → MemberDeclarator
next_of t = roll-MemberDeclarator (record { comma = Some t.0; declarator = t.1 })

first_node : (typed : Bool) → Node (deeper (declarator_form Declaring typed)) first_of (item_form IsNone typed)
first_node typed = record {
  good = λ names d g. (refl, g);
  parts = λ names d g. g.1;
  nested = λ d. ap (λ n. n + 1) (member_declarator_nesting-is (first_of d));
  spelt = λ d. member_declarator_spelling-is (first_of d);
  seen = λ names d. ap (λ f. (f names).1) (member_declarator_level-is (first_of d));
  stop = λ names d behind rest g h. stop_typed typed true d behind names rest g h;
  from_stop = λ names d behind rest g h. from_typed true typed d behind names rest g h;
}

next_node : (typed : Bool) → Node (pre (mark_form p.Comma) (λ _. deeper (declarator_form Declaring typed))) next_of (item_form IsComma typed)
next_node typed = record {
  good = λ names t g. (refl, g.1);
  parts = λ names t g. (tt, g.1);
  nested = λ t. ap (λ n. n + 1) (member_declarator_nesting-is (next_of t)) ∙ omega arith;
  spelt = λ t. member_declarator_spelling-is (next_of t);
  seen = λ names t. ap (λ f. (f names).1) (member_declarator_level-is (next_of t));
  stop = λ names t behind rest g h. stop_typed typed true t.1 behind names rest g.1 h;
  from_stop = λ names t behind rest g h. from_typed true typed t.1 behind names rest g.1 h;
}

first_is : (x : MemberDeclarator) → (out-MemberDeclarator x).comma ≡ None → Image first_of x
first_is x e = (declarator_in x, ap (λ c. roll-MemberDeclarator (record { comma = c; declarator = declarator_in x })) (sym e) ∙ roll-out-MemberDeclarator x)

next_is : (x : MemberDeclarator) (c : Option Pos) → (out-MemberDeclarator x).comma ≡ c → is_some c ≡ true → Image next_of x
next_is x None e h = absurd cc
next_is x (Some at) e h = ((at, declarator_in x), ap (λ c. roll-MemberDeclarator (record { comma = c; declarator = declarator_in x })) (sym e) ∙ roll-out-MemberDeclarator x)

abbrev Declarators : ℕ → Inner → Type 0
Declarators more inner = (purpose : Use) (typed : Bool) → Exact (deeper (declarator_form purpose typed)) more (inner.declarator purpose typed)

first_exact : (more : ℕ) (inner : Inner) (typed : Bool) → Declarators more inner → Exact (item_form IsNone typed) more (first_member_declarator more inner typed)
first_exact more inner typed declarators =
    whole_exact (Image first_of) (item_form IsNone typed) more _ (λ names x g. first_is x g.0)
    (node_exact (deeper (declarator_form Declaring typed)) first_of (item_form IsNone typed) more (inner.declarator Declaring typed) (declarators Declaring typed) (first_node typed))

next_exact : (more : ℕ) (inner : Inner) (typed : Bool) → Declarators more inner → Exact (item_form IsComma typed) more (next_member_declarator more inner typed)
next_exact more inner typed declarators =
    whole_exact (Image next_of) (item_form IsComma typed) more _ (λ names x g. next_is x (out-MemberDeclarator x).comma refl g.0)
    (same_exact (only (Image next_of) (item_form IsComma typed)) more _ _ (two (expect p.Comma) (λ c. inner.declarator Declaring typed) (λ c d. roll-MemberDeclarator (record { comma = Some c; declarator = d })))
    (node_exact (pre (mark_form p.Comma) (λ _. deeper (declarator_form Declaring typed))) next_of (item_form IsComma typed) more _
    (pre_exact (mark_form p.Comma) (λ _. deeper (declarator_form Declaring typed)) more (expect p.Comma) (λ c. inner.declarator Declaring typed) (λ names a. refl) (expect_exact p.Comma more) (λ _. declarators Declaring typed) (λ names a b rest g h s. tt)) (next_node typed)))

-- ---- declarators with commas between

abbrev pub declarator_items : Items Bool MemberDeclarator
declarator_items = record {
  spell = member_declarator_spelling;
  good = λ typed. (item_form IsComma typed).good;
  adds = λ names x. (member_declarator_level x names).1;
  nest = λ x. member_declarator_nesting x + 1;
  stop = λ x names rest. (declarator_form Declaring true).stop (declarator_in x) names rest;
  goes = λ typed. sees p.Comma;
  step = λ typed x. typed;
}

comma_begins : (x : MemberDeclarator) (c : Option Pos) → (out-MemberDeclarator x).comma ≡ c → is_some c ≡ true → Begins p.Comma (member_declarator_spelling x)
comma_begins x None e h = absurd cc
comma_begins x (Some at) e h = record { at = at; others = declarator_spelling (declarator_in x); spelt = member_declarator_spelling-is x ∙ ap (λ c. comma_at c ++ declarator_spelling (declarator_in x)) e }

comma_ends : Ending p.Comma
comma_ends = record { brace = refl; paren = refl; bracket = refl; star = refl }

semicolon_ends : Ending p.Semicolon
semicolon_ends = record { brace = refl; paren = refl; bracket = refl; star = refl }

item_then : (x y : MemberDeclarator) (names : Names) (rest : Tokens) → is_some (out-MemberDeclarator y).comma ≡ true → (declarator_form Declaring true).stop (declarator_in x) names (member_declarator_spelling y ++ rest)
item_then x y names rest h =
    let b = comma_begins y (out-MemberDeclarator y).comma refl h in
    subst (λ l. (declarator_form Declaring true).stop (declarator_in x) names (l ++ rest)) (sym b.spelt) (declarator_before Declaring true (declarator_in x) names p.Comma b.at (b.others ++ rest) comma_ends)

no_comma : (names : Names) → sees p.Comma (names, []) ≡ false
unfolding peek
no_comma names = refl

declarators_kept : (more : ℕ) (inner : Inner) → Declarators more inner → Kept declarator_items more (λ typed. next_member_declarator more inner typed)
declarators_kept more inner declarators = record {
  sound = λ s names ts x end go h. (next_exact more inner s declarators).sound names ts x end h;
  complete = λ s names x rest g n st. (next_exact more inner s declarators).complete names x rest g n st;
  starts = λ s names x rest g st. begins_seen p.Comma p.Comma names _ rest true (comma_begins x (out-MemberDeclarator x).comma refl g.0) refl;
  ends = λ s names. no_comma names;
  follows = λ s names x y rest g h st. item_then x y _ rest h.0;
  some = λ s names x g. let b = comma_begins x (out-MemberDeclarator x).comma refl g.0 in subst (λ l. 0 < length l) (sym b.spelt) (omega arith);
}

-- a list whose items do not depend on what was read before
module _ {S X : Type 0} (goes : State → Bool) (item : S → Parser X) (s : S) where
  by_test : (n : ℕ) (found : List X) (i : State) → ((found : List X) (i : State) → loop {S = Unit {0}} (λ u. goes) (λ u. item s) (λ u x. tt) n tt found i ≡ loop (λ s. goes) item (λ s x. s) n s found i)
      → (b : Bool) (o : Outcome X) → cond b (and_then o (λ x. loop {S = Unit {0}} (λ u. goes) (λ u. item s) (λ u x. tt) n tt (found ++ x ∷ []))) (Ok (found, i))
      ≡ cond b (and_then o (λ x. loop (λ s. goes) item (λ s x. s) n s (found ++ x ∷ []))) (Ok (found, i))
  by_test n found i ih true (Ok r) = ih (found ++ r.0 ∷ []) r.1
  by_test n found i ih true (Err e) = refl
  by_test n found i ih false o = refl

  same_loop : (n : ℕ) (found : List X) (i : State) → loop {S = Unit {0}} (λ u. goes) (λ u. item s) (λ u x. tt) n tt found i ≡ loop (λ s. goes) item (λ s x. s) n s found i
  unfolding loop
  same_loop zero found i = refl
  same_loop (suc n) found i = by_test n found i (same_loop n) (goes i) (item s i)

  pub same_many : (i : State) → many goes (item s) i ≡ many_by (λ s. goes) item (λ s x. s) s i
  same_many i = same_loop (length i.1) [] i

-- ---- a member

abbrev pub member_chain : Form ((List Specifier × MemberDeclarator) × List MemberDeclarator)
member_chain = chain (seq (deeper (specifiers_form false)) (λ specifiers. item_form IsNone (name_type specifiers))) declarator_items (λ t. name_type t.0)

abbrev pub member_parts : Form (((List Specifier × MemberDeclarator) × List MemberDeclarator) × Pos)
member_parts = closed member_chain p.Semicolon

abbrev pub node_of : ((List Specifier × MemberDeclarator) × List MemberDeclarator) × Pos → MemberLayer
node_of t = record { specifiers = t.0.0.0; declarators = t.0.0.1 ∷ t.0.1; semicolon = t.1 }

abbrev pub member_of : ((List Specifier × MemberDeclarator) × List MemberDeclarator) × Pos → Member
member_of t = roll-Member (node_of t)

member_level_is : (t : ((List Specifier × MemberDeclarator) × List MemberDeclarator) × Pos)
    → member_level (member_of t) ≡ level_of_member (record { specifiers = map specifier_level t.0.0.0; declarators = map member_declarator_level (t.0.0.1 ∷ t.0.1); semicolon = t.1 })
member_level_is t =
    member_level-is (member_of t) ∙ ap (λ (n : MemberLayer). level_of_member (record { specifiers = map specifier_level n.specifiers; declarators = map member_declarator_level n.declarators; semicolon = n.semicolon })) (out-roll-Member (node_of t))

member_spelling_is : (t : ((List Specifier × MemberDeclarator) × List MemberDeclarator) × Pos)
    → member_spelling (member_of t) ≡ joined (map specifier_spelling t.0.0.0) ++ (joined (map member_declarator_spelling (t.0.0.1 ∷ t.0.1)) ++ punct p.Semicolon t.1 ∷ [])
member_spelling_is t =
    member_spelling-is (member_of t) ∙ ap (λ (n : MemberLayer). joined (map specifier_spelling n.specifiers) ++ (joined (map member_declarator_spelling n.declarators) ++ punct p.Semicolon n.semicolon ∷ [])) (out-roll-Member (node_of t))

member_nesting_is : (t : ((List Specifier × MemberDeclarator) × List MemberDeclarator) × Pos)
    → member_nesting (member_of t) ≡ max (deepest (map specifier_nesting t.0.0.0)) (deepest (map member_declarator_nesting (t.0.0.1 ∷ t.0.1)))
member_nesting_is t =
    member_nesting-is (member_of t) ∙ ap (λ (n : MemberLayer). max (deepest (map specifier_nesting n.specifiers)) (deepest (map member_declarator_nesting n.declarators))) (out-roll-Member (node_of t))

abbrev pub member_form : Form Member
member_form = record {
  spell = member_spelling;
  good = λ names m. (member_level m names).0 ≡ true;
  adds = λ names m. (member_level m names).1;
  nest = λ m. member_nesting m + 1;
  stop = λ m names rest. Unit {0};
}

item_told : (names : Names) (x : MemberDeclarator) → (member_declarator_level x names).0 ≡ record { comma = is_some (out-MemberDeclarator x).comma; declarator = (declarator_level (declarator_in x) names).0 }
item_told names x = ap (λ f. (f names).0) (member_declarator_level-is x)

rest_told : (typed : Bool) (names : Names) (xs : List MemberDeclarator) → all_good declarator_items typed names xs → rest_listed (listed_members typed (in_row (map member_declarator_level xs) names).0) ≡ true
rest_told typed names [] g = refl
rest_told typed names (x ∷ xs) g =
    both_are _ _ (ap (λ (f : MemberDeclaratorFacts). f.comma) (item_told names x) ∙ g.0.0)
    (both_are _ _ (ap (λ (f : MemberDeclaratorFacts). declares Declaring typed f.declarator) (item_told names x) ∙ g.0.1) (rest_told typed (names ++ (member_declarator_level x names).1) xs g.1))

rest_are : (typed : Bool) (names : Names) (xs : List MemberDeclarator) → rest_listed (listed_members typed (in_row (map member_declarator_level xs) names).0) ≡ true → all_good declarator_items typed names xs
rest_are typed names [] h = tt
rest_are typed names (x ∷ xs) h =
    let b = both_true (member_declarator_level x names).0.comma _ h in
    let c = both_true (declares Declaring typed (member_declarator_level x names).0.declarator) _ b.1 in (
      (sym (ap (λ (f : MemberDeclaratorFacts). f.comma) (item_told names x)) ∙ b.0, sym (ap (λ (f : MemberDeclaratorFacts). declares Declaring typed f.declarator) (item_told names x)) ∙ c.0),
      rest_are typed (names ++ (member_declarator_level x names).1) xs c.1,
    )

no_first_comma : (c : Option Pos) → not (is_some c) ≡ true → c ≡ None
no_first_comma None h = refl
no_first_comma (Some at) h = absurd cc

pub member_good : (names : Names) (t : ((List Specifier × MemberDeclarator) × List MemberDeclarator) × Pos) → member_parts.good names t → (member_level (member_of t) names).0 ≡ true
member_good names t g =
    let r = in_row (map specifier_level t.0.0.0) names in
    let x : MemberDeclarator = t.0.0.1 in
    let names1 : Names = names ++ r.1 in
    let f = form_told false names t.0.0.0 g.0.0.0 in
    let e = types_are t.0.0.0 names in
    let names2 : Names = names1 ++ (member_declarator_level x names1).1 in
    let tail : all_good declarator_items (name_type t.0.0.0) names2 t.0.1 =
    subst (λ n. all_good declarator_items (name_type t.0.0.0) n t.0.1) (sym (append_assoc names r.1 (member_declarator_level x names1).1)) g.0.1 in
    ap (λ f. (f names).0) (member_level_is t)
    ∙ both_are _ _ f.0 (both_are _ _ f.1 (subst (λ b. listed (listed_members b (in_row (map member_declarator_level (x ∷ t.0.1)) names1).0) ≡ true) e
    (both_are _ _ (ap (λ (f : MemberDeclaratorFacts). not f.comma) (item_told names1 x) ∙ ap (λ c. not (is_some c)) g.0.0.1.0)
    (both_are _ _ (ap (λ (f : MemberDeclaratorFacts). declares Declaring (name_type t.0.0.0) f.declarator) (item_told names1 x) ∙ g.0.0.1.1) (rest_told (name_type t.0.0.0) names2 t.0.1 tail)))))

good_member : (names : Names) (t : ((List Specifier × MemberDeclarator) × List MemberDeclarator) × Pos) → (member_level (member_of t) names).0 ≡ true → member_parts.good names t
good_member names t h =
    let r = in_row (map specifier_level t.0.0.0) names in
    let x : MemberDeclarator = t.0.0.1 in
    let names1 : Names = names ++ r.1 in
    let names2 : Names = names1 ++ (member_declarator_level x names1).1 in
    let e = types_are t.0.0.0 names in
    let a = both_true (facts_of_specifiers r.0).good _ (sym (ap (λ f. (f names).0) (member_level_is t)) ∙ h) in
    let b = both_true (not (has_storage r.0)) _ a.1 in
    let c = subst (λ b. listed (listed_members b (in_row (map member_declarator_level (x ∷ t.0.1)) names1).0) ≡ true) (sym e) b.1 in
    let d = both_true (not (member_declarator_level x names1).0.comma) _ c in
    let f = both_true (declares Declaring (name_type t.0.0.0) (member_declarator_level x names1).0.declarator) _ d.1 in (
      (
        (
          form_is false names t.0.0.0 a.0 b.0,
          (no_first_comma (out-MemberDeclarator x).comma (sym (ap (λ (f : MemberDeclaratorFacts). not f.comma) (item_told names1 x)) ∙ d.0), sym (ap (λ (f : MemberDeclaratorFacts). declares Declaring (name_type t.0.0.0) f.declarator) (item_told names1 x)) ∙ f.0),
        ),
        subst (λ n. all_good declarator_items (name_type t.0.0.0) n t.0.1) (append_assoc names r.1 (member_declarator_level x names1).1) (rest_are (name_type t.0.0.0) names2 t.0.1 f.1),
      ),
      tt,
    )

member_seen : (names : Names) (t : ((List Specifier × MemberDeclarator) × List MemberDeclarator) × Pos) → (member_level (member_of t) names).1 ≡ member_parts.adds names t
member_seen names t =
    let r = in_row (map specifier_level t.0.0.0) names in
    let names1 : Names = names ++ r.1 in
    let y = (member_declarator_level t.0.0.1 names1).1 in
    ap (λ f. (f names).1) (member_level_is t)
    ∙ sym (append_assoc r.1 y (in_row (map member_declarator_level t.0.1) (names1 ++ y)).1)
    ∙ ap (λ n. (r.1 ++ y) ++ (in_row (map member_declarator_level t.0.1) n).1) (append_assoc names r.1 y)
    ∙ ap (λ l. (r.1 ++ y) ++ l) (sym (added_in_row declarator_items member_declarator_level (λ names x. refl) (names ++ (r.1 ++ y)) t.0.1))

member_flat : (t : ((List Specifier × MemberDeclarator) × List MemberDeclarator) × Pos) → member_nesting (member_of t) + 1 ≡ member_parts.nest t
member_flat t =
    ap (λ n. n + 1) (member_nesting_is t) ∙ (let e = deep_list member_declarator_nesting (member_declarator_nesting t.0.0.1) t.0.1 in omega arith)

member_spelt : (t : ((List Specifier × MemberDeclarator) × List MemberDeclarator) × Pos) → member_spelling (member_of t) ≡ member_parts.spell t
member_spelt t =
    member_spelling_is t
    ∙ sym (append_assoc (joined (map specifier_spelling t.0.0.0)) (member_declarator_spelling t.0.0.1 ++ joined (map member_declarator_spelling t.0.1)) (punct p.Semicolon t.1 ∷ []))
    ∙ ap (λ l. l ++ punct p.Semicolon t.1 ∷ []) (sym (append_assoc (joined (map specifier_spelling t.0.0.0)) (member_declarator_spelling t.0.0.1) (joined (map member_declarator_spelling t.0.1))))

member_node : Node member_parts member_of member_form
member_node = record {
  good = member_good;
  parts = good_member;
  nested = member_flat;
  spelt = member_spelt;
  seen = member_seen;
  stop = λ names t behind rest g h. tt;
  from_stop = λ names t behind rest g h. tt;
}

-- a declarator with a name has tokens
named_tokens : (typed : Bool) (d : Declarator) (names : Names) → declares Declaring typed (declarator_level d names).0 ≡ true → (t : Token) × (ts : Tokens) × (declarator_spelling d ≡ t ∷ ts)
named_tokens typed d names g = by (is_nothing d) refl where
  by : (b : Bool) → is_nothing d ≡ b → (t : Token) × (ts : Tokens) × (declarator_spelling d ≡ t ∷ ts)
  by true e = absurd (let a = declares_name typed d names g in let b = nothing_middle d e in let z : true ≡ false = sym b ∙ a in cc)
  by false e = let f = declarator_first names d e in (f.first, f.others, f.spelt)

member_specifiers : (names : Names) (specifiers : List Specifier) (x : MemberDeclarator) (rest : Tokens) → (out-MemberDeclarator x).comma ≡ None → declares Declaring (name_type specifiers) (declarator_level (declarator_in x) names).0 ≡ true
    → (specifiers_form false).stop specifiers names (member_declarator_spelling x ++ rest)
member_specifiers names specifiers x rest c g =
    let w = named_tokens (name_type specifiers) (declarator_in x) names g in
    let e : member_declarator_spelling x ≡ w.0 ∷ w.1 = member_declarator_spelling-is x ∙ ap (λ c. comma_at c ++ declarator_spelling (declarator_in x)) c ∙ w.2 in
    subst (λ l. (specifiers_form false).stop specifiers names (l ++ rest)) (sym e) (specifiers_follow false Declaring specifiers names (declarator_in x) w.0 w.1 rest g w.2)

member_closes : (names : Names) (t : (List Specifier × MemberDeclarator) × List MemberDeclarator) (at : Pos) (rest : Tokens) → member_chain.good names t → member_chain.stop t (names ++ member_chain.adds names t) (punct p.Semicolon at ∷ rest)
member_closes names t at rest g = by t.0 t.1 (names ++ member_chain.adds names t) where
  no_more : sees p.Comma (names, punct p.Semicolon at ∷ rest) ≡ false
  no_more = unlike p.Semicolon p.Comma at rest refl

  by : (a : List Specifier × MemberDeclarator) (xs : List MemberDeclarator) (n : Names) → member_chain.stop (a, xs) n (punct p.Semicolon at ∷ rest)
  by a [] n = (declarator_before Declaring true (declarator_in a.1) n p.Semicolon at rest semicolon_ends, no_more)
  by a (x ∷ xs) n = stop_made declarator_items (name_type a.0) x xs n (punct p.Semicolon at ∷ rest) (declarator_before Declaring true (declarator_in (last_of declarator_items x xs)) n p.Semicolon at rest semicolon_ends) no_more

abbrev member_reader : ℕ → Inner → Parser (((List Specifier × MemberDeclarator) × List MemberDeclarator) × Pos)
member_reader more inner = both (both (both (inner.specifiers false) (λ specifiers. first_member_declarator more inner (name_type specifiers)))
    (λ t. many_by (λ typed. sees p.Comma) (next_member_declarator more inner) (λ typed x. typed) (name_type t.0))) (λ t. expect p.Semicolon)

member_is : (more : ℕ) (inner : Inner) (i : State) → member more inner i ≡ map_to (member_reader more inner) member_of i
unfolding member
member_is more inner i =
    bind_same (inner.specifiers false)
    (λ s. first_member_declarator more inner (name_type s) >>= (λ first. many (sees p.Comma) (next_member_declarator more inner (name_type s)) >>= (λ rest. expect p.Semicolon >>= (λ semicolon. pure (roll-Member (record { specifiers = s; declarators = first ∷ rest; semicolon = semicolon }))))))
    (λ s. first_member_declarator more inner (name_type s) >>= (λ first. many_by (λ typed. sees p.Comma) (next_member_declarator more inner) (λ typed x. typed) (name_type s) >>= (λ rest. expect p.Semicolon >>= (λ semicolon. pure (roll-Member (record { specifiers = s; declarators = first ∷ rest; semicolon = semicolon }))))))
    (λ s j. bind_same (first_member_declarator more inner (name_type s)) _ _
    (λ first k. ap (λ o. and_then o (λ rest. expect p.Semicolon >>= (λ semicolon. pure (roll-Member (record { specifiers = s; declarators = first ∷ rest; semicolon = semicolon }))))) (same_many (sees p.Comma) (next_member_declarator more inner) (name_type s) k)) j) i
    ∙ four (inner.specifiers false) (λ s. first_member_declarator more inner (name_type s)) (λ s first. many_by (λ typed. sees p.Comma) (next_member_declarator more inner) (λ typed x. typed) (name_type s)) (λ s first rest. expect p.Semicolon)
    (λ s first rest semicolon. roll-Member (record { specifiers = s; declarators = first ∷ rest; semicolon = semicolon })) i

member_image : (m : Member) (xs : List MemberDeclarator) → (out-Member m).declarators ≡ xs → (xs ≡ [] → ⊥) → Image member_of m
member_image m [] e n = absurd (n refl)
member_image m (x ∷ xs) e n =
    (((((out-Member m).specifiers, x), xs), (out-Member m).semicolon), ap (λ l. roll-Member (record { specifiers = (out-Member m).specifiers; declarators = l; semicolon = (out-Member m).semicolon })) (sym e) ∙ roll-out-Member m)

-- a member has a declarator
some_declarators : (names : Names) (m : Member) → (member_level m names).0 ≡ true → (out-Member m).declarators ≡ [] → ⊥
some_declarators names m h e =
    let r = in_row (map specifier_level (out-Member m).specifiers) names in
    let a = both_true (facts_of_specifiers r.0).good _ (sym (ap (λ f. (f names).0) (member_level-is m)) ∙ h) in
    let b = both_true (not (has_storage r.0)) _ a.1 in
    let c = (both_true (filled (in_row (map member_declarator_level (out-Member m).declarators) (names ++ r.1)).0) _ b.1).0 in
    let z : false ≡ true = subst (λ l. filled (in_row (map member_declarator_level l) (names ++ r.1)).0 ≡ true) e c in absurd cc

pub member_exact : (more : ℕ) (inner : Inner) → ((w : Bool) → Exact (deeper (specifiers_form w)) more (inner.specifiers w)) → Declarators more inner → Exact member_form more (member more inner)
member_exact more inner specs declarators =
    whole_exact (Image member_of) member_form more _ (λ names m g. member_image m (out-Member m).declarators refl (some_declarators names m g))
    (same_exact (only (Image member_of) member_form) more _ _ (member_is more inner) (node_exact member_parts member_of member_form more _
    (closed_exact member_chain p.Semicolon more _
    (chain_exact (seq (deeper (specifiers_form false)) (λ specifiers. item_form IsNone (name_type specifiers))) declarator_items (λ t. name_type t.0) more _ (λ typed. next_member_declarator more inner typed)
    (seq_exact (deeper (specifiers_form false)) (λ specifiers. item_form IsNone (name_type specifiers)) more (inner.specifiers false) _ (specs false) (λ specifiers. first_exact more inner (name_type specifiers) declarators)
    (λ names specifiers x rest g h st. member_specifiers _ specifiers x rest h.0 h.1))
    (declarators_kept more inner declarators)
    (λ names t y rest g h st. item_then t.1 y _ rest h.0)) member_closes) member_node))

-- ---- members in braces

abbrev pub member_items : Items (Unit {0}) Member
member_items = record { spell = member_spelling; good = λ s. member_form.good; adds = member_form.adds; nest = member_form.nest; stop = member_form.stop; goes = λ s i. begins_specifier false false i.0 (peek i.1); step = λ s x. tt }

-- a member begins with a specifier
member_starts : (names : Names) (m : Member) → (member_level m names).0 ≡ true → StartsSpecifier false false names (member_spelling m)
member_starts names m h =
    let r = in_row (map specifier_level (out-Member m).specifiers) names in
    let a = both_true (facts_of_specifiers r.0).good _ (sym (ap (λ f. (f names).0) (member_level-is m)) ∙ h) in
    let b = both_true (not (has_storage r.0)) _ a.1 in
    let s = specifiers_start false names (out-Member m).specifiers (form_is false names (out-Member m).specifiers a.0 b.0) in
    let tail : Tokens = joined (map member_declarator_spelling (out-Member m).declarators) ++ punct p.Semicolon (out-Member m).semicolon ∷ [] in
    record { first = s.first; others = s.others ++ tail; spelt = member_spelling-is m ∙ ap (λ l. l ++ tail) s.spelt; good = s.good }

no_member : (names : Names) → begins_specifier false false names (peek []) ≡ false
unfolding peek
no_member names = refl

abbrev pub struct_body_form : Form (((Pos × Member) × List Member) × Pos)
struct_body_form = closed (chain (pre (opening_form p.LeftBrace) (λ _. member_form)) member_items (λ t. tt)) p.RightBrace

pub struct_body_exact : (more : ℕ) (inner : Inner) → ((w : Bool) → Exact (deeper (specifiers_form w)) more (inner.specifiers w)) → Declarators more inner
    → Exact struct_body_form more (both (both (both (opening more p.LeftBrace) (λ from. member more inner)) (λ t. many (goes_member more inner) (member more inner))) (λ t. expect p.RightBrace))
struct_body_exact more inner specs declarators =
    let exact = member_exact more inner specs declarators in
    closed_exact (chain (pre (opening_form p.LeftBrace) (λ _. member_form)) member_items (λ t. tt)) p.RightBrace more _
    (chain_exact (pre (opening_form p.LeftBrace) (λ _. member_form)) member_items (λ t. tt) more _ (λ s. member more inner)
    (pre_exact (opening_form p.LeftBrace) (λ _. member_form) more (opening more p.LeftBrace) (λ from. member more inner) (λ names a. refl) (opening_exact p.LeftBrace more) (λ _. exact) (λ names a b rest g h s. tt))
    (record {
      sound = λ s names ts x end go h. exact.sound names ts x end h;
      complete = λ s names x rest g n st. exact.complete names x rest g n st;
      starts = λ s names x rest g st. starts_seen false false names (member_spelling x) rest (member_starts names x g);
      ends = λ s names. no_member names;
      follows = λ s names x y rest g h st. tt;
      some = λ s names x g. subst (λ l. 0 < length l) (sym (member_starts names x g).spelt) (omega arith);
    })
    (λ names a y rest g h st. tt))
    (λ names t at rest g. closes t.0 t.1 _ at rest)
  where
    no_more : (names : Names) (at : Pos) (rest : Tokens) → begins_specifier false false names (peek (punct p.RightBrace at ∷ rest)) ≡ false
    no_more names at rest = ap (begins_specifier false false names) (peek_mark p.RightBrace at rest)

    closes : (a : Pos × Member) (xs : List Member) (names : Names) (at : Pos) (rest : Tokens) → chain_stop (pre (opening_form p.LeftBrace) (λ _. member_form)) member_items (λ t. tt) a xs names (punct p.RightBrace at ∷ rest)
    closes a [] names at rest = (tt, no_more names at rest)
    closes a (x ∷ xs) names at rest = stop_made member_items tt x xs names (punct p.RightBrace at ∷ rest) tt (no_more names at rest)
