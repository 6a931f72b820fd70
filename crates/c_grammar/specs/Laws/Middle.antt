-- The middle of a declarator is read exactly: the token behind a bracket tells a declarator from parameters.
use Rattle.std.specs.Prelude.{◌≡◌, ℕ, ◌≤◌, Bool, true, false, not, ◌&&◌, ◌||◌, if◌then◌else◌, [], ◌∷◌, ◌++◌, Some, Ok, refl}
use Rattle.std.proofs.Common.{ap, sym, ◌∙◌, subst, cond, arith, append_assoc, append-nil, ◌⊎◌, inl, inr}
use denote.Hole.Carrier.{out}
use Rattle.c_tree.specs.declared.token.Pos.{Pos}
use Rattle.c_tree.specs.declared.token.Punct.TheVariants as p
use Rattle.c_tree.specs.declared.token.Token.{Token}
use Rattle.c_tree.specs.declared.token.TokenKind.TheVariants as k
use Rattle.c_tree.specs.declared.expression.Identifier.{Identifier}
use Rattle.c_tree.specs.declared.declarator.Declarator.{Declarator}
use Rattle.c_tree.specs.declared.declarator.Direct.{Direct, out-Direct}
use Rattle.c_tree.specs.declared.declarator.Direct.TheVariants as direct
use Rattle.c_tree.specs.Spelling.Tokens.{punct, name as name_token}
use Rattle.c_tree.specs.Spelling.Trees.{declarator_spelling, direct_spelling, direct_spelling-Nothing, direct_spelling-Named, direct_spelling-Grouped}
use Rattle.c_tree.specs.Levels.Names.{Names}
use Rattle.c_tree.specs.Levels.Facts.{Use, Declaring, Abstract, Parameter, declares}
use Rattle.c_tree.specs.Levels.Trees.{declarator_level, direct_level}
use Rattle.c_grammar.specs.Laws.Told.{direct_level-Nothing, direct_level-Named, direct_level-Grouped}
use Rattle.c_tree.specs.Nesting.Trees.{direct_nesting-Nothing, direct_nesting-Named, direct_nesting-Grouped}
use Rattle.c_grammar.specs.Input.{Tokens, State, Outcome, ◌>>=◌, pure, refuse, peek, behind, is_mark, sees, expect, identifier, opening}
use Rattle.c_grammar.specs.Read.Nodes.{is_nothing}
use Rattle.c_grammar.specs.Read.Inner.{Inner, begins_parameters}
use Rattle.c_grammar.specs.Read.Declarators.{takes_name, opens_declarator, has_name, named, no_name, closed as read_closed, grouped, middle}
use Rattle.c_grammar.specs.Laws.Form.{Form, Got, Exact, Image, only, both, map_to, three, bind_same, dropping, sparing, dropping_is, dropping_exact, Guarded, guarded_exact, same_guarded, GuardedNode, guarded_node, choose_guarded, whole_exact, ok_pair}
use Rattle.c_grammar.specs.Laws.Single.{name_form, identifier_exact, sees_mark}
use Rattle.c_grammar.specs.Laws.Rows.{deeper, bracketed, bracketed_exact}
use Rattle.c_grammar.specs.Laws.Cases.{DirectShape, direct_shape}
use Rattle.c_grammar.specs.Laws.Behind.{both_true, both_are}
use Rattle.c_grammar.specs.Laws.Starts.{peek_first}
use Rattle.c_grammar.specs.Laws.Forms.{is_no_name, nothing_stop, middle_form, declarator_form}
use Rattle.c_grammar.specs.Laws.TypeNames.{declarator_before, close_ends}
use Rattle.c_grammar.specs.Laws.DeclaratorFacts.{declarator_first, first_begins, nothing_is, unnamed_untyped}

-- ---- a declarator in brackets

abbrev grouped_of : (Pos × Declarator) × Pos → Direct
grouped_of t = direct.Grouped t.0.0 t.0.1 t.1

abbrev grouped_form : Use → Bool → Form ((Pos × Declarator) × Pos)
grouped_form purpose typed = bracketed p.LeftParen (deeper (sparing is_nothing (declarator_form purpose typed))) p.RightParen

abbrev opens : Use → State → Bool
opens purpose i = sees p.LeftParen i && opens_declarator purpose i.0 (peek (behind i.1))

-- what is told of a declarator in brackets, from what is told of it
not_nothing : (good nothing : Bool) → (good && not nothing) ≡ true → (good ≡ true) × (nothing ≡ false)
not_nothing true false h = (refl, refl)
not_nothing true true h = absurd cc
not_nothing false b h = absurd cc

nor : (a b : Bool) → not (a || b) ≡ true → (a ≡ false) × (not b ≡ true)
nor false b h = (refl, h)
nor true b h = absurd cc

group_parts : (purpose : Use) (typed : Bool) (names : Names) (from : Pos) (d : Declarator) (to : Pos) → declares purpose typed (direct_level (direct.Grouped from d to) names).0 ≡ true
    → (is_nothing d ≡ false) × (declares purpose typed (declarator_level d names).0 ≡ true)
group_parts Declaring typed names from d to h =
    let b = both_true ((declarator_level d names).0.good && not (declarator_level d names).0.is_nothing) _ (sym (ap (λ f. declares Declaring typed (f names).0) (direct_level-Grouped from d to)) ∙ h) in
    let c = not_nothing (declarator_level d names).0.good (declarator_level d names).0.is_nothing b.0 in
    (sym (nothing_is d names) ∙ c.1, both_are _ _ c.0 b.1)
group_parts Abstract typed names from d to h =
    let b = both_true ((declarator_level d names).0.good && not (declarator_level d names).0.is_nothing) _ (sym (ap (λ f. declares Abstract typed (f names).0) (direct_level-Grouped from d to)) ∙ h) in
    let c = not_nothing (declarator_level d names).0.good (declarator_level d names).0.is_nothing b.0 in
    (sym (nothing_is d names) ∙ c.1, both_are _ _ c.0 b.1)
group_parts Parameter typed names from d to h =
    let b = both_true ((declarator_level d names).0.good && not (declarator_level d names).0.is_nothing) _ (sym (ap (λ f. declares Parameter typed (f names).0) (direct_level-Grouped from d to)) ∙ h) in
    let c = not_nothing (declarator_level d names).0.good (declarator_level d names).0.is_nothing b.0 in
    let e = both_true (not ((declarator_level d names).0.begins_typed || (declarator_level d names).0.may_be_parameters)) _ b.1 in
    (sym (nothing_is d names) ∙ c.1, both_are _ _ c.0 (both_are _ _ (nor (declarator_level d names).0.begins_typed (declarator_level d names).0.may_be_parameters e.0).1 e.1))

-- a bracket that opens a declarator is not followed by what begins parameters
group_untyped : (purpose : Use) (typed : Bool) (names : Names) (from : Pos) (d : Declarator) (to : Pos) → declares purpose typed (direct_level (direct.Grouped from d to) names).0 ≡ true
    → (purpose ≡ Declaring) ⊎ ((declarator_level d names).0.begins_typed ≡ false)
group_untyped Declaring typed names from d to h = inl refl
group_untyped Abstract typed names from d to h =
    let g = (group_parts Abstract typed names from d to h).1 in
    inr (unnamed_untyped d names (both_true (declarator_level d names).0.good _ g).1)
group_untyped Parameter typed names from d to h =
    let b = both_true ((declarator_level d names).0.good && not (declarator_level d names).0.is_nothing) _ (sym (ap (λ f. declares Parameter typed (f names).0) (direct_level-Grouped from d to)) ∙ h) in
    let e = both_true (not ((declarator_level d names).0.begins_typed || (declarator_level d names).0.may_be_parameters)) _ b.1 in
    inr (nor (declarator_level d names).0.begins_typed (declarator_level d names).0.may_be_parameters e.0).0

or_is : (a b : Bool) → a ≡ false → not b ≡ true → not (a || b) ≡ true
or_is a b e h = rw e h

group_good : (purpose : Use) (typed : Bool) (names : Names) (from : Pos) (d : Declarator) (to : Pos) → is_nothing d ≡ false → declares purpose typed (declarator_level d names).0 ≡ true
    → (purpose ≡ Declaring) ⊎ ((declarator_level d names).0.begins_typed ≡ false) → declares purpose typed (direct_level (direct.Grouped from d to) names).0 ≡ true
group_good Declaring typed names from d to n h u =
    let b = both_true (declarator_level d names).0.good _ h in
    ap (λ f. declares Declaring typed (f names).0) (direct_level-Grouped from d to) ∙ both_are _ _ (both_are _ _ b.0 (ap not (nothing_is d names ∙ n))) b.1
group_good Abstract typed names from d to n h u =
    let b = both_true (declarator_level d names).0.good _ h in
    ap (λ f. declares Abstract typed (f names).0) (direct_level-Grouped from d to) ∙ both_are _ _ (both_are _ _ b.0 (ap not (nothing_is d names ∙ n))) b.1
group_good Parameter typed names from d to n h (inl e) = absurd (apart e) where
  declaring : Use → Type 0
  declaring Declaring = Unit {0}
  declaring Abstract = ⊥
  declaring Parameter = ⊥

  apart : Parameter ≡ Declaring → ⊥
  apart e = subst declaring (sym e) tt
group_good Parameter typed names from d to n h (inr u) =
    let b = both_true (declarator_level d names).0.good _ h in
    let c = both_true (not (declarator_level d names).0.may_be_parameters) _ b.1 in
    ap (λ f. declares Parameter typed (f names).0) (direct_level-Grouped from d to)
    ∙ both_are _ _ (both_are _ _ b.0 (ap not (nothing_is d names ∙ n))) (both_are _ _ (or_is (declarator_level d names).0.begins_typed (declarator_level d names).0.may_be_parameters u c.0) c.1)

behind_first : (t : Token) (ts : Tokens) → behind (t ∷ ts) ≡ ts
unfolding behind
behind_first t ts = refl

-- the token behind the bracket is that of the declarator
opens_first : (purpose : Use) (names : Names) (from : Pos) (d : Declarator) (tail : Tokens) → is_nothing d ≡ false
    → opens purpose (names, punct p.LeftParen from ∷ (declarator_spelling d ++ tail)) ≡ opens_declarator purpose names (peek (declarator_spelling d ++ tail))
opens_first purpose names from d tail n =
    ap (λ b. b && opens_declarator purpose names (peek (behind (punct p.LeftParen from ∷ (declarator_spelling d ++ tail))))) (sees_mark p.LeftParen names from (declarator_spelling d ++ tail))
    ∙ ap (λ l. opens_declarator purpose names (peek l)) (behind_first (punct p.LeftParen from) (declarator_spelling d ++ tail))

opened_untyped : (purpose : Use) (names : Names) (d : Declarator) (tail : Tokens) → is_nothing d ≡ false → opens_declarator purpose names (peek (declarator_spelling d ++ tail)) ≡ true
    → (purpose ≡ Declaring) ⊎ ((declarator_level d names).0.begins_typed ≡ false)
opened_untyped Declaring names d tail n h = inl refl
opened_untyped Abstract names d tail n h = inr (sym (first_begins _ names (declarator_spelling d) tail (declarator_first names d n)) ∙ flipped (begins_parameters names (peek (declarator_spelling d ++ tail))) h) where
  flipped : (b : Bool) → not b ≡ true → b ≡ false
  flipped true h = absurd cc
  flipped false h = refl
opened_untyped Parameter names d tail n h = inr (sym (first_begins _ names (declarator_spelling d) tail (declarator_first names d n)) ∙ flipped (begins_parameters names (peek (declarator_spelling d ++ tail))) h) where
  flipped : (b : Bool) → not b ≡ true → b ≡ false
  flipped true h = absurd cc
  flipped false h = refl

untyped_opened : (purpose : Use) (names : Names) (d : Declarator) (tail : Tokens) → is_nothing d ≡ false → (purpose ≡ Declaring) ⊎ ((declarator_level d names).0.begins_typed ≡ false)
    → opens_declarator purpose names (peek (declarator_spelling d ++ tail)) ≡ true
untyped_opened Declaring names d tail n u = refl
untyped_opened Abstract names d tail n (inr u) = ap not (first_begins _ names (declarator_spelling d) tail (declarator_first names d n) ∙ u)
untyped_opened Parameter names d tail n (inr u) = ap not (first_begins _ names (declarator_spelling d) tail (declarator_first names d n) ∙ u)
untyped_opened Abstract names d tail n (inl e) = absurd (apart e) where
  declaring : Use → Type 0
  declaring Declaring = Unit {0}
  declaring Abstract = ⊥
  declaring Parameter = ⊥

  apart : Abstract ≡ Declaring → ⊥
  apart e = subst declaring (sym e) tt
untyped_opened Parameter names d tail n (inl e) = absurd (apart e) where
  declaring : Use → Type 0
  declaring Declaring = Unit {0}
  declaring Abstract = ⊥
  declaring Parameter = ⊥

  apart : Parameter ≡ Declaring → ⊥
  apart e = subst declaring (sym e) tt

flat : (from : Pos) (inner : Tokens) (to : Pos) (rest : Tokens) → ((punct p.LeftParen from ∷ inner) ++ punct p.RightParen to ∷ []) ++ rest ≡ punct p.LeftParen from ∷ (inner ++ (punct p.RightParen to ∷ rest))
flat from inner to rest = ap (λ l. punct p.LeftParen from ∷ l) (append_assoc inner (punct p.RightParen to ∷ []) rest)

grouped_name : (from : Pos) (d : Declarator) (to : Pos) → is_no_name (direct.Grouped from d to) ≡ false
unfolding is_no_name out-Direct out
grouped_name from d to = refl

grouped_node : (purpose : Use) (typed : Bool) → GuardedNode (λ i. Unit {0} × (opens purpose i ≡ true)) (grouped_form purpose typed) grouped_of (middle_form purpose typed)
grouped_node purpose typed = record {
  good = λ names t rest g known.
      let d : Declarator = t.0.1 in
      let e : opens purpose (names, punct p.LeftParen t.0.0 ∷ (declarator_spelling d ++ (punct p.RightParen t.1 ∷ rest))) ≡ true =
      subst (λ l. opens purpose (names, l) ≡ true) (flat t.0.0 (declarator_spelling d) t.1 rest) known.1 in
      group_good purpose typed names t.0.0 d t.1 g.0.1.0 g.0.1.1
      (opened_untyped purpose names d (punct p.RightParen t.1 ∷ rest) g.0.1.0 (sym (opens_first purpose names t.0.0 d (punct p.RightParen t.1 ∷ rest) g.0.1.0) ∙ e));
  parts = λ names t g. ((tt, group_parts purpose typed names t.0.0 t.0.1 t.1 g), tt);
  nested = λ t. direct_nesting-Grouped t.0.0 t.0.1 t.1 ∙ omega arith;
  spelt = λ t. direct_spelling-Grouped t.0.0 t.0.1 t.1;
  seen = λ names t. ap (λ f. (f names).1) (direct_level-Grouped t.0.0 t.0.1 t.1);
  stop = λ names t behind rest g h. subst (λ b. nothing_stop b purpose typed behind rest) (sym (grouped_name t.0.0 t.0.1 t.1)) tt;
  from_stop = λ names t behind rest g h. tt;
}

grouped_is : (more : ℕ) (inner : Inner) (purpose : Use) (typed : Bool) (i : State) → grouped more inner purpose typed i
    ≡ map_to (both (both (opening more p.LeftParen) (λ from. dropping is_nothing (inner.declarator purpose typed))) (λ t. expect p.RightParen)) grouped_of i
unfolding grouped
grouped_is more inner purpose typed i =
    bind_same (opening more p.LeftParen) (λ from. inner.declarator purpose typed >>= (λ d. if is_nothing d then refuse else read_closed more inner from d))
    (λ from. dropping is_nothing (inner.declarator purpose typed) >>= (λ d. expect p.RightParen >>= (λ to. pure (direct.Grouped from d to))))
    (λ from j. dropping_is is_nothing (inner.declarator purpose typed) (read_closed more inner from) j) i
    ∙ three (opening more p.LeftParen) (λ from. dropping is_nothing (inner.declarator purpose typed)) (λ from d. expect p.RightParen) direct.Grouped i

grouped_exact : (more : ℕ) (inner : Inner) (purpose : Use) (typed : Bool) → Exact (deeper (declarator_form purpose typed)) more (inner.declarator purpose typed)
    → Guarded (λ i. Unit {0} × (opens purpose i ≡ true)) (only (Image grouped_of) (middle_form purpose typed)) more (grouped more inner purpose typed)
grouped_exact more inner purpose typed exact =
    same_guarded _ (only (Image grouped_of) (middle_form purpose typed)) more _ (grouped more inner purpose typed) (grouped_is more inner purpose typed)
    (guarded_node _ (grouped_form purpose typed) grouped_of (middle_form purpose typed) more _
    (bracketed_exact p.LeftParen (deeper (sparing is_nothing (declarator_form purpose typed))) p.RightParen more _
    (dropping_exact is_nothing (deeper (declarator_form purpose typed)) more (inner.declarator purpose typed) exact)
    (λ names d at rest g. declarator_before purpose typed d _ p.RightParen at rest close_ends)) (grouped_node purpose typed))

-- ---- a name

pub name_seen : (purpose : Use) (typed : Bool) (names : Names) (id : Identifier) → takes_name purpose typed names (Some (k.Name id.text)) ≡ true → declares purpose typed (direct_level (direct.Named id) names).0 ≡ true
name_seen Declaring typed names id h = ap (λ f. declares Declaring typed (f names).0) (direct_level-Named id) ∙ h
name_seen Abstract typed names id h = absurd cc
name_seen Parameter typed names id h = ap (λ f. declares Parameter typed (f names).0) (direct_level-Named id) ∙ h

seen_name : (purpose : Use) (typed : Bool) (names : Names) (id : Identifier) → declares purpose typed (direct_level (direct.Named id) names).0 ≡ true → takes_name purpose typed names (Some (k.Name id.text)) ≡ true
seen_name Declaring typed names id h = sym (ap (λ f. declares Declaring typed (f names).0) (direct_level-Named id)) ∙ h
seen_name Abstract typed names id h = absurd (let e : false ≡ true = sym (ap (λ f. declares Abstract typed (f names).0) (direct_level-Named id)) ∙ h in cc)
seen_name Parameter typed names id h = sym (ap (λ f. declares Parameter typed (f names).0) (direct_level-Named id)) ∙ h

abbrev takes : Use → Bool → State → Bool
takes purpose typed i = takes_name purpose typed i.0 (peek i.1)

named_has : (id : Identifier) → is_no_name (direct.Named id) ≡ false
unfolding is_no_name out-Direct out
named_has id = refl

abbrev Known : Use → State → Type 0
Known purpose i = Unit {0} × (opens purpose i ≡ false)

named_node : (purpose : Use) (typed : Bool) → GuardedNode (λ i. Known purpose i × (takes purpose typed i ≡ true)) name_form direct.Named (middle_form purpose typed)
named_node purpose typed = record {
  good = λ names id rest g known. name_seen purpose typed names id (sym (ap (takes_name purpose typed names) (peek_first (name_token id) rest)) ∙ known.1);
  parts = λ names id g. tt;
  nested = λ id. direct_nesting-Named id;
  spelt = λ id. direct_spelling-Named id;
  seen = λ names id. ap (λ f. (f names).1) (direct_level-Named id);
  stop = λ names id behind rest g h. subst (λ b. nothing_stop b purpose typed behind rest) (sym (named_has id)) tt;
  from_stop = λ names id behind rest g h. tt;
}

named_exact : (more : ℕ) (purpose : Use) (typed : Bool) → Guarded (λ i. Known purpose i × (takes purpose typed i ≡ true)) (only (Image direct.Named) (middle_form purpose typed)) more named
named_exact more purpose typed = guarded_node _ name_form direct.Named (middle_form purpose typed) more identifier (identifier_exact more) (named_node purpose typed)

-- ---- no name

abbrev IsNothing : Direct → Type 0
IsNothing x = direct.Nothing ≡ x

nothing_none : is_no_name direct.Nothing ≡ true
unfolding is_no_name out-Direct out
nothing_none = refl

nothing_good : (purpose : Use) (typed : Bool) (names : Names) → has_name purpose ≡ false → declares purpose typed (direct_level direct.Nothing names).0 ≡ true
nothing_good Declaring typed names h = absurd cc
nothing_good Abstract typed names h = ap (λ f. declares Abstract typed (f names).0) direct_level-Nothing
nothing_good Parameter typed names h = ap (λ f. declares Parameter typed (f names).0) direct_level-Nothing ∙ or_true typed where
  or_true : (b : Bool) → (b || true) ≡ true
  or_true true = refl
  or_true false = refl

good_nothing : (purpose : Use) (typed : Bool) (names : Names) → declares purpose typed (direct_level direct.Nothing names).0 ≡ true → has_name purpose ≡ false
good_nothing Declaring typed names h = absurd (let e : false ≡ true = sym (ap (λ f. declares Declaring typed (f names).0) direct_level-Nothing) ∙ h in cc)
good_nothing Abstract typed names h = refl
good_nothing Parameter typed names h = refl

module _ (more : ℕ) (purpose : Use) (typed : Bool) where
  nothing_sound : (b : Bool) (names : Names) (ts : Tokens) (x : Direct) (s : State) → has_name purpose ≡ b → Known purpose (names, ts) × (takes purpose typed (names, ts) ≡ false)
      → cond b refuse (pure direct.Nothing) (names, ts) ≡ Ok (x, s) → Got (only IsNothing (middle_form purpose typed)) more names ts x s
  nothing_sound true names ts x s e known h = absurd cc
  nothing_sound false names ts x s e known h =
      let w = ok_pair {A = Direct} direct.Nothing x (names, ts) s h in
      let whole : Got (only IsNothing (middle_form purpose typed)) more names ts direct.Nothing (names, ts) = record {
        good = (refl, nothing_good purpose typed names e);
        nested = subst (λ n. n ≤ more) (sym direct_nesting-Nothing) (omega arith);
        spelt = ap (λ l. l ++ ts) (sym direct_spelling-Nothing);
        seen = sym (append-nil names) ∙ ap (λ f. names ++ (f names).1) (sym direct_level-Nothing);
        stops = subst (λ b. nothing_stop b purpose typed names ts) (sym nothing_none) (known.0.1, known.1);
      } in
      subst (λ (s : State). Got (only IsNothing (middle_form purpose typed)) more names ts x s) w.1 (subst (λ (x : Direct). Got (only IsNothing (middle_form purpose typed)) more names ts x (names, ts)) w.0 whole)

  nothing_at : (names : Names) (rest : Tokens) → declares purpose typed (direct_level direct.Nothing names).0 ≡ true
      → no_name purpose (names, direct_spelling direct.Nothing ++ rest) ≡ Ok (direct.Nothing, (names ++ (direct_level direct.Nothing names).1, rest))
  nothing_at names rest g =
      let end : Names → Tokens → Outcome Direct = λ n l. Ok (direct.Nothing, (n, l)) in
      ap (λ b. cond b refuse (pure direct.Nothing) (names, direct_spelling direct.Nothing ++ rest)) (good_nothing purpose typed names g)
      ∙ ap (λ l. end names (l ++ rest)) direct_spelling-Nothing ∙ ap (λ n. end n rest) (sym (ap (λ f. names ++ (f names).1) direct_level-Nothing ∙ append-nil names))

  nothing_exact : Guarded (λ i. Known purpose i × (takes purpose typed i ≡ false)) (only IsNothing (middle_form purpose typed)) more (no_name purpose)
  nothing_exact = record {
    sound = λ names ts x s known h. nothing_sound (has_name purpose) names ts x s refl known h;
    complete = λ names x rest g n st.
        subst (λ x. declares purpose typed (direct_level x names).0 ≡ true → no_name purpose (names, direct_spelling x ++ rest) ≡ Ok (x, (names ++ (direct_level x names).1, rest))) g.0 (nothing_at names rest) g.1;
  }

-- ---- which it is

middle_is : {x : Direct} → DirectShape x → Image grouped_of x ⊎ (Image direct.Named x ⊎ IsNothing x)
middle_is DirectShape.a_nothing = inr (inr refl)
middle_is (DirectShape.a_named id) = inr (inl (id, refl))
middle_is (DirectShape.a_grouped from d to) = inl (((from, d), to), refl)

group_taken : (purpose : Use) (typed : Bool) (names : Names) (from : Pos) (d : Declarator) (to : Pos) (rest : Tokens) → declares purpose typed (direct_level (direct.Grouped from d to) names).0 ≡ true
    → opens purpose (names, direct_spelling (direct.Grouped from d to) ++ rest) ≡ true
group_taken purpose typed names from d to rest g =
    let w = group_parts purpose typed names from d to g in
    let u = group_untyped purpose typed names from d to g in
    ap (λ l. opens purpose (names, l ++ rest)) (direct_spelling-Grouped from d to) ∙ ap (λ l. opens purpose (names, l)) (flat from (declarator_spelling d) to rest)
    ∙ opens_first purpose names from d (punct p.RightParen to ∷ rest) w.0 ∙ untyped_opened purpose names d (punct p.RightParen to ∷ rest) w.0 u

nothing_stops : (purpose : Use) (typed : Bool) (names : Names) (rest : Tokens) → (middle_form purpose typed).stop direct.Nothing (names ++ (direct_level direct.Nothing names).1) rest
    → (opens purpose (names, direct_spelling direct.Nothing ++ rest) ≡ false) × (takes purpose typed (names, direct_spelling direct.Nothing ++ rest) ≡ false)
nothing_stops purpose typed names rest st =
    let n : names ++ (direct_level direct.Nothing names).1 ≡ names = ap (λ f. names ++ (f names).1) direct_level-Nothing ∙ append-nil names in
    let s : nothing_stop true purpose typed names rest = subst (λ m. nothing_stop true purpose typed m rest) n (subst (λ b. nothing_stop b purpose typed (names ++ (direct_level direct.Nothing names).1) rest) nothing_none st) in
    (ap (λ l. opens purpose (names, l ++ rest)) direct_spelling-Nothing ∙ s.0, ap (λ l. takes purpose typed (names, l ++ rest)) direct_spelling-Nothing ∙ s.1)

not_opened : (purpose : Use) (typed : Bool) (names : Names) (x : Direct) (rest : Tokens) → Image direct.Named x ⊎ IsNothing x → (middle_form purpose typed).stop x (names ++ (direct_level x names).1) rest
    → opens purpose (names, direct_spelling x ++ rest) ≡ false
not_opened purpose typed names x rest (inl i) st =
    subst (λ x. opens purpose (names, direct_spelling x ++ rest) ≡ false) i.1
    (ap (λ l. opens purpose (names, l ++ rest)) (direct_spelling-Named i.0) ∙ ap (λ o. is_mark p.LeftParen o && opens_declarator purpose names (peek (behind (name_token i.0 ∷ rest)))) (peek_first (name_token i.0) rest))
not_opened purpose typed names x rest (inr i) st =
    subst (λ x. (middle_form purpose typed).stop x (names ++ (direct_level x names).1) rest → opens purpose (names, direct_spelling x ++ rest) ≡ false) i (λ st. (nothing_stops purpose typed names rest st).0) st

pub middle_exact : (more : ℕ) (inner : Inner) (purpose : Use) (typed : Bool) → Exact (deeper (declarator_form purpose typed)) more (inner.declarator purpose typed) → Exact (middle_form purpose typed) more (middle more inner purpose typed)
unfolding middle
middle_exact more inner purpose typed exact =
    whole_exact (λ x. Image grouped_of x ⊎ (Image direct.Named x ⊎ IsNothing x)) (middle_form purpose typed) more _ (λ names x g. middle_is (direct_shape x))
    (guarded_exact _ more _ (choose_guarded (λ i. Unit {0}) (Image grouped_of) (λ x. Image direct.Named x ⊎ IsNothing x) (middle_form purpose typed) more (opens purpose) (grouped more inner purpose typed) _
    (grouped_exact more inner purpose typed exact)
    (choose_guarded (Known purpose) (Image direct.Named) IsNothing (middle_form purpose typed) more (takes purpose typed) named (no_name purpose) (named_exact more purpose typed) (nothing_exact more purpose typed)
    (λ names x rest i g s. subst (λ x. declares purpose typed (direct_level x names).0 ≡ true → takes purpose typed (names, direct_spelling x ++ rest) ≡ true) i.1
    (λ g. ap (λ l. takes purpose typed (names, l ++ rest)) (direct_spelling-Named i.0) ∙ ap (takes_name purpose typed names) (peek_first (name_token i.0) rest) ∙ seen_name purpose typed names i.0 g) g)
    (λ names x rest i g s. subst (λ x. (middle_form purpose typed).stop x (names ++ (direct_level x names).1) rest → takes purpose typed (names, direct_spelling x ++ rest) ≡ false) i (λ s. (nothing_stops purpose typed names rest s).1) s))
    (λ names x rest i g s. subst (λ x. declares purpose typed (direct_level x names).0 ≡ true → opens purpose (names, direct_spelling x ++ rest) ≡ true) i.1 (group_taken purpose typed names i.0.0.0 i.0.0.1 i.0.1 rest) g)
    (λ names x rest i g s. not_opened purpose typed names x rest i s)))
