-- Declarations and definitions of a unit are read exactly (C11 6.9).
use Rattle.std.specs.Prelude.{◌≡◌, ℕ, ◌≤◌, ◌<◌, Bool, true, false, not, ◌&&◌, List, [], ◌∷◌, ◌++◌, map, Option, Some, None, is_some, Ok, refl}
use Rattle.std.proofs.Common.{ap, sym, ◌∙◌, subst, cond, arith, append_assoc, append-nil, ◌⊎◌, inl, inr}
use Rattle.c_tree.specs.declared.token.Pos.{Pos}
use Rattle.c_tree.specs.declared.token.Punct.{Punct}
use Rattle.c_tree.specs.declared.token.Punct.TheVariants as p
use Rattle.c_tree.specs.declared.token.Token.{Token}
use Rattle.c_tree.specs.declared.specifier.Specifier.{Specifier}
use Rattle.c_tree.specs.declared.declarator.Declarator.{Declarator}
use Rattle.c_tree.specs.declared.declaration.Start.{Start}
use Rattle.c_tree.specs.declared.declaration.InitDeclarator.{InitDeclarator}
use Rattle.c_tree.specs.declared.statement.Block.{Block, out-Block}
use Rattle.c_tree.specs.declared.unit.External.{External}
use Rattle.c_tree.specs.declared.unit.External.TheVariants as external
use Rattle.c_tree.specs.Spelling.Tokens.{punct, joined}
use Rattle.c_tree.specs.Spelling.Trees.{specifier_spelling, declarator_spelling}
use Rattle.c_tree.specs.Spelling.Declarations.{start_spelling, init_declarator_spelling}
use Rattle.c_tree.specs.Spelling.Statements.{block_spelling, block_spelling-is}
use Rattle.c_tree.specs.Spelling.Units.{external_spelling}
use Rattle.c_tree.specs.Levels.Names.{Names, With as Told, by, leads_to, in_row, declaring}
use Rattle.c_tree.specs.Levels.Productions.{assignment, joins}
use Rattle.c_tree.specs.Levels.Facts.{SpecifiersFacts, names_type, Beside, Declaring, declares, declared}
use Rattle.c_tree.specs.Levels.Trees.{specifier_level, declarator_level}
use Rattle.c_tree.specs.Levels.Declarations.{start_level}
use Rattle.c_tree.specs.Levels.Statements.{block_level}
use Rattle.c_tree.specs.Levels.Units.{is_listing, parameters_of, body_level, external_level}
use Rattle.c_tree.specs.Nesting.Statements.{block_nesting}
use Rattle.c_tree.specs.Nesting.Units.{external_nesting}
use Rattle.c_grammar.specs.Punctuators.{same_mark}
use Rattle.c_grammar.specs.Input.{Tokens, State, Outcome, Parser, and_then, ◌>>=◌, pure, choose, peek, is_mark, sees, expect, many}
use Rattle.c_grammar.specs.Read.Nodes.{name_type, have_typedef}
use Rattle.c_grammar.specs.Read.Depth as depth
use Rattle.c_grammar.specs.Laws.Form.{Form, Got, Exact, Guarded, Split, Joint, bind_ok, ok_pair, subst2, both, map_to, joint_exact, same_exact, two, three, bind_same, choose_same, choose_map, either, either_exact, seq, seq_exact}
use Rattle.c_grammar.specs.Laws.Lists.{all_good, all_added, chain, chain_exact, chain_stop, last_of, stop_made}
use Rattle.c_grammar.specs.Laws.Single.{mark_form, expect_exact, sees_mark}
use Rattle.c_grammar.specs.Laws.Rows.{closed, closed_exact}
use Rattle.c_grammar.specs.Laws.Behind.{both_true, both_are}
use Rattle.c_grammar.specs.Laws.Starts.{peek_first}
use Rattle.c_grammar.specs.Laws.Forms.{specifiers_form, declarator_form}
use Rattle.c_grammar.specs.Laws.TypeNames.{unlike, specifiers_before, form_told, form_is, types_are}
use Rattle.c_grammar.specs.Laws.Parameters.{typedef_is, specifiers_follow}
use Rattle.c_grammar.specs.Laws.Depth.{specifiers_read}
use Rattle.c_unit_grammar.specs.Read.Declarations.{named, start, next_declarator}
use Rattle.c_unit_grammar.specs.Read.Statements.{within, block}
use Rattle.c_unit_grammar.specs.Read.Units.{function_body, definition, declaration_from, no_declarators, begins_body, with_declarator, one_external}
use Rattle.c_unit_grammar.specs.Laws.Common.{known_exact}
use Rattle.c_unit_grammar.specs.Laws.Initialisers.{initialiser_before}
use Rattle.c_unit_grammar.specs.Laws.Declarations.{named_form, named_exact, declares_name, Apart, comma_apart, assign_apart, semicolon_apart, brace_apart, named_before, start_stop, start_form, start_exact, level, items, items_kept, item_before, good_declares, comma_begins, next_exact, first_token, row_node, rows, declared_by, declaration_node, facts}
use Rattle.c_unit_grammar.specs.Laws.Bodies.{block_form, block_exact}
use Rattle.c_unit_grammar.specs.Laws.Statements.{within_exact}

-- ---- the block of a definition

abbrev body_form : Beside → Form Block
body_form beside = record {
  spell = block_spelling;
  good = λ names b. (block_form false).good (names ++ parameters_of beside) b;
  adds = λ names b. [];
  nest = block_nesting;
  stop = λ b names rest. Unit {0};
}

body_exact : (more : ℕ) (beside : Beside) → Exact (body_form beside) more (function_body more beside)
unfolding function_body
body_exact more beside =
    let exact = block_exact more (within more) (within_exact more) false in
    record {
      sound = λ names ts x s h.
          let b = bind_ok (block more (within more) false (names ++ parameters_of beside, ts)) (λ b j. Ok (b, (names, j.1))) (x, s) h in
          let g = exact.sound (names ++ parameters_of beside) ts b.0.0 b.0.1 b.1 in
          let w = ok_pair {A = Block} b.0.0 x (names, b.0.1.1) s b.2 in
          subst2 (λ (x : Block) (s : State). Got (body_form beside) more names ts x s) w.0 w.1 (record { good = g.good; nested = g.nested; spelt = g.spelt; seen = sym (append-nil names); stops = tt });
      complete = λ names x rest g n s.
          let end : Names → Outcome Block = λ m. Ok (x, (m, rest)) in
          ap (λ o. and_then o (λ b j. Ok (b, (names, j.1)))) (exact.complete (names ++ parameters_of beside) x rest g n tt) ∙ ap end (sym (append-nil names));
    }

-- ---- one form or the other, each read only where the test tells so

module _ {A B : Type 0} (F : Form A) (G : Form B) (more : ℕ) (test : State → Bool) (p : Parser A) (q : Parser B) (first : Guarded (λ i. test i ≡ true) F more p) (second : Guarded (λ i. test i ≡ false) G more q)
    (takes : (names : Names) (a : A) (rest : Tokens) → F.good names a → F.stop a (names ++ F.adds names a) rest → test (names, F.spell a ++ rest) ≡ true)
    (leaves : (names : Names) (b : B) (rest : Tokens) → G.good names b → G.stop b (names ++ G.adds names b) rest → test (names, G.spell b ++ rest) ≡ false) where
  told_by : (b : Bool) (names : Names) (ts : Tokens) (x : A ⊎ B) (s : State) → test (names, ts) ≡ b → cond b (map_to p inl (names, ts)) (map_to q inr (names, ts)) ≡ Ok (x, s) → Got (either F G) more names ts x s
  told_by true names ts x s e h =
      let b = bind_ok (p (names, ts)) _ _ h in
      let g = first.sound names ts b.0.0 b.0.1 e b.1 in
      let w = ok_pair {A = A ⊎ B} (inl b.0.0) x b.0.1 s b.2 in
      subst2 (λ (x : A ⊎ B) (s : State). Got (either F G) more names ts x s) w.0 w.1 (record { good = g.good; nested = g.nested; spelt = g.spelt; seen = g.seen; stops = g.stops })
  told_by false names ts x s e h =
      let b = bind_ok (q (names, ts)) _ _ h in
      let g = second.sound names ts b.0.0 b.0.1 e b.1 in
      let w = ok_pair {A = A ⊎ B} (inr b.0.0) x b.0.1 s b.2 in
      subst2 (λ (x : A ⊎ B) (s : State). Got (either F G) more names ts x s) w.0 w.1 (record { good = g.good; nested = g.nested; spelt = g.spelt; seen = g.seen; stops = g.stops })

  told_of : (names : Names) (x : A ⊎ B) (rest : Tokens) → (either F G).good names x → (either F G).nest x ≤ more → (either F G).stop x (names ++ (either F G).adds names x) rest
      → choose test (map_to p inl) (map_to q inr) (names, (either F G).spell x ++ rest) ≡ Ok (x, (names ++ (either F G).adds names x, rest))
  told_of names (inl a) rest g n s =
      ap (λ b. cond b (map_to p inl (names, F.spell a ++ rest)) (map_to q inr (names, F.spell a ++ rest))) (takes names a rest g s) ∙ ap (λ o. and_then o (λ a. pure (inl a))) (first.complete names a rest g n s)
  told_of names (inr b) rest g n s =
      ap (λ c. cond c (map_to p inl (names, G.spell b ++ rest)) (map_to q inr (names, G.spell b ++ rest))) (leaves names b rest g s) ∙ ap (λ o. and_then o (λ b. pure (inr b))) (second.complete names b rest g n s)

  either_told : Exact (either F G) more (choose test (map_to p inl) (map_to q inr))
  either_told = record { sound = λ names ts x s h. told_by (test (names, ts)) names ts x s refl h; complete = told_of }

-- ---- what stands behind the first declarator of a declaration

abbrev Rest : Type 0
Rest = (Option Start × List InitDeclarator) × Pos

module _ (typed typedef : Bool) where
  abbrev rest_form : Form Rest
  rest_form = closed (chain start_form (items typed typedef) (λ s. tt)) p.Semicolon

  start_before : (s : Option Start) (names : Names) (op : Punct) (at : Pos) (rest : Tokens) → same_mark op p.Assign ≡ false → assignment < joins op → start_stop s names (punct op at ∷ rest)
  start_before None names op at rest e j = unlike op p.Assign at rest e
  start_before (Some s) names op at rest e j = initialiser_before op s.value at rest j

  start_then : (s : Option Start) (x : InitDeclarator) (names : Names) (rest : Tokens) → is_some x.comma ≡ true → start_stop s names (init_declarator_spelling x ++ rest)
  start_then s x names rest h =
      let b = comma_begins typed typedef x x.comma refl h in
      subst (λ l. start_stop s names (l ++ rest)) (sym b.spelt) (start_before s names p.Comma b.at (b.others ++ rest) refl (omega arith))

  last_stops : (x : InitDeclarator) (xs : List InitDeclarator) (names behind : Names) (at : Pos) (rest : Tokens) → all_good (items typed typedef) tt names (x ∷ xs) → (items typed typedef).stop (last_of (items typed typedef) x xs) behind (punct p.Semicolon at ∷ rest)
  last_stops x [] names behind at rest g = item_before typed typedef x behind names p.Semicolon at rest (good_declares typed typedef x names g.0.1) semicolon_apart refl (omega arith)
  last_stops x (y ∷ ys) names behind at rest g = last_stops y ys (names ++ (level typed typedef x names).1) behind at rest g.1

  rest_closes : (s : Option Start) (xs : List InitDeclarator) (names behind : Names) (at : Pos) (rest : Tokens) → all_good (items typed typedef) tt names xs → chain_stop start_form (items typed typedef) (λ s. tt) s xs behind (punct p.Semicolon at ∷ rest)
  rest_closes s [] names behind at rest g = (start_before s behind p.Semicolon at rest refl (omega arith), unlike p.Semicolon p.Comma at rest refl)
  rest_closes s (x ∷ xs) names behind at rest g = stop_made (items typed typedef) tt x xs behind (punct p.Semicolon at ∷ rest) (last_stops x xs names behind at rest g) (unlike p.Semicolon p.Comma at rest refl)

  -- it begins with a mark that goes on with no declarator
  record Mark (ts : Tokens) : Type 0 where
    op : Punct
    at : Pos
    others : Tokens
    spelt : ts ≡ punct op at ∷ others
    apart : Apart op
    no_brace : same_mark op p.LeftBrace ≡ false

  rest_first : (s : Option Start) (xs : List InitDeclarator) (e : Pos) (names : Names) → all_good (items typed typedef) tt names xs → Mark (rest_form.spell ((s, xs), e))
  rest_first (Some s) xs e names g = record { op = p.Assign; at = s.equals; others = _; spelt = refl; apart = assign_apart; no_brace = refl }
  rest_first None [] e names g = record { op = p.Semicolon; at = e; others = []; spelt = refl; apart = semicolon_apart; no_brace = refl }
  rest_first None (x ∷ xs) e names g =
      let b = comma_begins typed typedef x x.comma refl g.0.0 in
      record { op = p.Comma; at = b.at; others = _; spelt = ap (λ l. (l ++ joined (map init_declarator_spelling xs)) ++ punct p.Semicolon e ∷ []) b.spelt; apart = comma_apart; no_brace = refl }

abbrev rest_reader : ℕ → List Specifier → Parser Rest
rest_reader more specifiers = both (both (start more) (λ s. many (sees p.Comma) (next_declarator more specifiers))) (λ t. expect p.Semicolon)

rest_exact : (more : ℕ) (specifiers : List Specifier) → Exact (rest_form (name_type specifiers) (have_typedef specifiers)) more (rest_reader more specifiers)
rest_exact more specifiers =
    let ty : Bool = name_type specifiers in
    let td : Bool = have_typedef specifiers in
    closed_exact (chain start_form (items ty td) (λ s. tt)) p.Semicolon more _
    (chain_exact start_form (items ty td) (λ s. tt) more (start more) (λ s. next_declarator more specifiers) (start_exact more) (items_kept ty td more (next_declarator more specifiers) (next_exact more specifiers))
    (λ names s x rest g h st. start_then ty td s x _ rest h.0))
    (λ names t at rest g. rest_closes ty td t.0 t.1 _ _ at rest g.1)

-- ---- what stands behind the first declarator

abbrev listed_body : Beside → Form Block
listed_body beside = record { spell = block_spelling; good = λ names b. (is_listing beside ≡ true) × (body_form beside).good names b; adds = (body_form beside).adds; nest = block_nesting; stop = (body_form beside).stop }

abbrev behind_form : Bool → Bool → Declarator × Beside → Form (Block ⊎ Rest)
behind_form typed typedef d = either (listed_body d.1) (rest_form typed typedef)

listed_exact : (more : ℕ) (beside : Beside) → Guarded (λ i. begins_body more beside i ≡ true) (listed_body beside) more (function_body more beside)
listed_exact more beside = record {
  sound = λ names ts x s known h.
      let g = (body_exact more beside).sound names ts x s h in
      record { good = ((both_true (sees p.LeftBrace (names, ts)) (is_listing beside) known).1, g.good); nested = g.nested; spelt = g.spelt; seen = g.seen; stops = g.stops };
  complete = λ names x rest g n s. (body_exact more beside).complete names x rest g.1 n s;
}

block_first : (b : Block) (names : Names) (rest : Tokens) → sees p.LeftBrace (names, block_spelling b ++ rest) ≡ true
block_first b names rest = ap (λ l. sees p.LeftBrace (names, l ++ rest)) (block_spelling-is b) ∙ sees_mark p.LeftBrace names (out-Block b).opening _

no_body : (typed typedef : Bool) (t : Rest) (beside : Beside) (names : Names) (rest : Tokens) → (rest_form typed typedef).good names t → (sees p.LeftBrace (names, (rest_form typed typedef).spell t ++ rest) && is_listing beside) ≡ false
no_body typed typedef t beside names rest g =
    let w = rest_first typed typedef t.0.0 t.0.1 t.1 _ g.0.1 in
    ap (λ l. is_mark p.LeftBrace (peek (l ++ rest)) && is_listing beside) w.spelt ∙ ap (λ b. b && is_listing beside) (unlike w.op p.LeftBrace w.at (w.others ++ rest) w.no_brace)

abbrev behind_reader : ℕ → List Specifier → Declarator × Beside → Parser (Block ⊎ Rest)
behind_reader more specifiers d = choose (begins_body more d.1) (map_to (function_body more d.1) inl) (map_to (rest_reader more specifiers) inr)

behind_exact : (more : ℕ) (specifiers : List Specifier) (d : Declarator × Beside) → Exact (behind_form (name_type specifiers) (have_typedef specifiers) d) more (behind_reader more specifiers d)
behind_exact more specifiers d =
    let ty : Bool = name_type specifiers in
    let td : Bool = have_typedef specifiers in
    either_told (listed_body d.1) (rest_form ty td) more (begins_body more d.1) (function_body more d.1) (rest_reader more specifiers) (listed_exact more d.1)
    (known_exact (λ i. begins_body more d.1 i ≡ false) (rest_form ty td) more (rest_reader more specifiers) (rest_exact more specifiers))
    (λ names b rest g s. both_are _ _ (block_first b names rest) g.0)
    (λ names t rest g s. no_body ty td t d.1 names rest g)

-- a declarator before what stands behind it
behind_follows : (typed typedef : Bool) (d : Declarator × Beside) (u : Block ⊎ Rest) (names before behind : Names) (rest : Tokens) → declares Declaring typed (declarator_level d.0 before).0 ≡ true → (behind_form typed typedef d).good names u
    → (declarator_form Declaring typed).stop d.0 behind ((behind_form typed typedef d).spell u ++ rest)
behind_follows typed typedef d (inl b) names before behind rest g h =
    subst (λ l. (declarator_form Declaring typed).stop d.0 behind (l ++ rest)) (sym (block_spelling-is b)) (named_before typed d.0 behind p.LeftBrace (out-Block b).opening _ brace_apart (declares_name typed d.0 before g))
behind_follows typed typedef d (inr t) names before behind rest g h =
    let w = rest_first typed typedef t.0.0 t.0.1 t.1 _ h.0.1 in
    subst (λ l. (declarator_form Declaring typed).stop d.0 behind (l ++ rest)) (sym w.spelt) (named_before typed d.0 behind w.op w.at (w.others ++ rest) w.apart (declares_name typed d.0 before g))

-- ---- what stands behind the specifiers

abbrev With : Type 0
With = (Declarator × Beside) × (Block ⊎ Rest)

abbrev with_form : List Specifier → Form With
with_form specifiers = seq (named_form (name_type specifiers) (have_typedef specifiers)) (λ d. behind_form (name_type specifiers) (have_typedef specifiers) d)

abbrev tail_form : List Specifier → Form (Pos ⊎ With)
tail_form specifiers = either (mark_form p.Semicolon) (with_form specifiers)

abbrev with_reader : ℕ → List Specifier → Parser With
with_reader more specifiers = both (named more specifiers) (λ d. behind_reader more specifiers d)

abbrev tail_reader : ℕ → List Specifier → Parser (Pos ⊎ With)
tail_reader more specifiers = choose (sees p.Semicolon) (map_to (expect p.Semicolon) inl) (map_to (with_reader more specifiers) inr)

-- the first token of a declarator with a name
first_of : (typed : Bool) (d : Declarator) (names : Names) → declares Declaring typed (declarator_level d names).0 ≡ true → (t : Token) × (ts : Tokens) × (declarator_spelling d ≡ t ∷ ts) × (is_mark p.Semicolon (Some t.kind) ≡ false)
first_of typed d names g = let w = first_token typed false (record { comma = None; declarator = d; start = None }) [] names refl g in (w.0, w.1, w.2, w.4)

tail_exact : (more : ℕ) (specifiers : List Specifier) → Exact (tail_form specifiers) more (tail_reader more specifiers)
tail_exact more specifiers =
    let ty : Bool = name_type specifiers in
    let td : Bool = have_typedef specifiers in
    either_exact (mark_form p.Semicolon) (with_form specifiers) more (sees p.Semicolon) (expect p.Semicolon) (with_reader more specifiers) (expect_exact p.Semicolon more)
    (seq_exact (named_form ty td) (λ d. behind_form ty td d) more (named more specifiers) (λ d. behind_reader more specifiers d) (named_exact more specifiers) (λ d. behind_exact more specifiers d)
    (λ names d u rest g h st. behind_follows ty td d u _ names _ rest g.0 h))
    (λ names at rest g s. sees_mark p.Semicolon names at rest)
    (λ names t rest g s.
    let w = first_of ty t.0.0 names g.0.0 in
    ap (λ l. is_mark p.Semicolon (peek ((l ++ (behind_form ty td t.0).spell t.1) ++ rest))) w.2 ∙ ap (is_mark p.Semicolon) (peek_first w.0 _) ∙ w.3)

-- specifiers before what stands behind them
tail_follows : (specifiers : List Specifier) (names : Names) (u : Pos ⊎ With) (rest : Tokens) → (tail_form specifiers).good names u → (specifiers_form true).stop specifiers names ((tail_form specifiers).spell u ++ rest)
tail_follows specifiers names (inl at) rest g = specifiers_before true specifiers names p.Semicolon at rest (record { brace = refl; paren = refl; bracket = refl; star = refl })
tail_follows specifiers names (inr t) rest g =
    let ty : Bool = name_type specifiers in
    let td : Bool = have_typedef specifiers in
    let w = first_of ty t.0.0 names g.0.0 in
    let more : Tokens = (behind_form ty td t.0).spell t.1 in
    subst (λ l. (specifiers_form true).stop specifiers names ((l ++ more) ++ rest)) (sym w.2)
    (subst (λ l. (specifiers_form true).stop specifiers names (w.0 ∷ l)) (sym (append_assoc w.1 more rest)) (specifiers_follow true Declaring specifiers names t.0.0 w.0 w.1 (more ++ rest) g.0.0 w.2))

abbrev parts_form : Form (List Specifier × (Pos ⊎ With))
parts_form = seq (specifiers_form true) tail_form

parts_exact : (more : ℕ) → Exact parts_form more (both (depth.specifiers more true) (λ specifiers. tail_reader more specifiers))
parts_exact more = seq_exact (specifiers_form true) tail_form more (depth.specifiers more true) (λ specifiers. tail_reader more specifiers) (specifiers_read more true) (λ specifiers. tail_exact more specifiers) (λ names specifiers u rest g h st. tail_follows specifiers _ u rest h)

-- ---- declarations and definitions

abbrev pub external_form : Form External
external_form = record {
  spell = external_spelling;
  good = λ names e. (external_level e names).0 ≡ true;
  adds = λ names e. (external_level e names).1;
  nest = external_nesting;
  stop = λ e names rest. Unit {0};
}

abbrev external_by : List Specifier → Pos ⊎ With → External
external_by specifiers (inl at) = external.Declaration (record { specifiers = specifiers; declarators = []; semicolon = at })
external_by specifiers (inr (d, inl body)) = external.Definition (record { specifiers = specifiers; declarator = d.0; body = body })
external_by specifiers (inr (d, inr t)) = external.Declaration (record { specifiers = specifiers; declarators = record { comma = None; declarator = d.0; start = t.0.0 } ∷ t.0.1; semicolon = t.1 })

abbrev external_of : List Specifier × (Pos ⊎ With) → External
external_of t = external_by t.0 t.1

-- ---- what is told of a definition depends on the specifiers by three facts alone

abbrev told_with : Bool → Bool → Bool → SpecifiersFacts
told_with good typed typedef = record { good = good; names_type = typed; has_storage = false; has_typedef = typedef; is_void = false }

abbrev function_level : SpecifiersFacts → Declarator → Block → Told Bool
function_level s d body = leads_to (declaring (declared s.has_typedef) (declarator_level d)) (λ f. by (λ b. s.good && (declares Declaring s.names_type f && (is_listing f.beside && (b.good && not b.has_label)))) (body_level f (block_level body)))

function_told : (names before : Names) (specifiers : List Specifier) (d : Declarator) (body : Block)
    → function_level (told_with (facts before specifiers).good (name_type specifiers) (have_typedef specifiers)) d body names ≡ function_level (facts before specifiers) d body names
function_told names before specifiers d body =
    ap (λ b. function_level (told_with (facts before specifiers).good b (have_typedef specifiers)) d body names) (types_are specifiers before)
    ∙ ap (λ b. function_level (told_with (facts before specifiers).good (names_type (in_row (map specifier_level specifiers) before).0) b) d body names) (typedef_is specifiers before)

abbrev names_behind : Names → List Specifier → Names
names_behind names specifiers = names ++ (in_row (map specifier_level specifiers) names).1

-- ---- a declaration by its first declarator

abbrev first_item : Declarator → Option Start → InitDeclarator
first_item d s = record { comma = None; declarator = d; start = s }

row_good : (specifiers : List Specifier) (names : Names) (d : Declarator × Beside) (t : Rest) → (with_form specifiers).good names (d, inr t) → (rows specifiers).good names (first_item d.0 t.0.0 ∷ t.0.1)
row_good specifiers names d t g =
    let ty : Bool = name_type specifiers in
    let td : Bool = have_typedef specifiers in
    let a : Names = (declarator_level d.0 names).1 ++ declared_by td names d.0 in
    (row_node ty td).good names (first_item d.0 t.0.0, t.0.1)
    ((refl, both_are _ _ g.0.0 g.1.0.0), subst (λ n. all_good (items ty td) tt n t.0.1) (append_assoc names a (start_level t.0.0 (names ++ a)).1) g.1.0.1)

good_row : (specifiers : List Specifier) (names : Names) (d : Declarator) (s : Option Start) (xs : List InitDeclarator) (e : Pos) → (rows specifiers).good names (first_item d s ∷ xs) → (with_form specifiers).good names ((d, (declarator_level d names).0.beside), inr ((s, xs), e))
good_row specifiers names d s xs e h =
    let ty : Bool = name_type specifiers in
    let td : Bool = have_typedef specifiers in
    let a : Names = (declarator_level d names).1 ++ declared_by td names d in
    let g = (row_node ty td).parts names (first_item d s, xs) h in
    let b = both_true (declares Declaring ty (declarator_level d names).0) _ g.0.1 in
    ((b.0, refl), ((b.1, subst (λ n. all_good (items ty td) tt n xs) (sym (append_assoc names a (start_level s (names ++ a)).1)) g.1), tt))

row_seen : (specifiers : List Specifier) (names : Names) (d : Declarator × Beside) (t : Rest) → (rows specifiers).adds names (first_item d.0 t.0.0 ∷ t.0.1) ≡ (with_form specifiers).adds names (d, inr t)
row_seen specifiers names d t =
    let ty : Bool = name_type specifiers in
    let td : Bool = have_typedef specifiers in
    let a : Names = (declarator_level d.0 names).1 ++ declared_by td names d.0 in
    let b : Names = (start_level t.0.0 (names ++ a)).1 in
    (row_node ty td).seen names (first_item d.0 t.0.0, t.0.1)
    ∙ append_assoc a b (all_added (items ty td) (names ++ (a ++ b)) t.0.1)
    ∙ ap (λ n. a ++ (b ++ all_added (items ty td) n t.0.1)) (sym (append_assoc names a b))

rest_spelt : (a b c e : Tokens) → ((a ++ b) ++ c) ++ e ≡ a ++ ((b ++ c) ++ e)
rest_spelt a b c e = ap (λ l. l ++ e) (append_assoc a b c) ∙ append_assoc a (b ++ c) e

-- ---- the parts and the whole

by_good : (names : Names) (specifiers : List Specifier) (u : Pos ⊎ With) → parts_form.good names (specifiers, u) → (external_level (external_by specifiers u) names).0 ≡ true
by_good names specifiers (inl at) g = declaration_node.good names ((specifiers, []), at) ((g.0, refl), tt)
by_good names specifiers (inr (d, inl body)) g =
    let names1 : Names = names_behind names specifiers in
    let f = form_told true names specifiers g.0 in
    let b = g.1.1 in
    sym (ap (λ r. r.0) (function_told names1 names specifiers d.0 body))
    ∙ both_are _ _ f.0 (both_are _ _ g.1.0.0 (both_are _ _ (sym (ap is_listing g.1.0.1) ∙ b.0)
    (subst (λ n. ((block_level body n).0.good && not (block_level body n).0.has_label) ≡ true)
    (ap (λ w. (names1 ++ ((declarator_level d.0 names1).1 ++ declared_by (have_typedef specifiers) names1 d.0)) ++ parameters_of w) g.1.0.1)
    (both_are _ _ b.1.0 b.1.1))))
by_good names specifiers (inr (d, inr t)) g = declaration_node.good names ((specifiers, first_item d.0 t.0.0 ∷ t.0.1), t.1) ((g.0, row_good specifiers (names_behind names specifiers) d t g.1), tt)

-- each is made of parts
by_split : (names : Names) (e : External) → (external_level e names).0 ≡ true → Split parts_form external_of external_form names e
by_split names (external.Declaration d) h = from d.declarators refl where
  from : (ds : List InitDeclarator) → d.declarators ≡ ds → Split parts_form external_of external_form names (external.Declaration d)
  from [] q =
      let g = declaration_node.parts names ((d.specifiers, d.declarators), d.semicolon) h in
      record { tuple = (d.specifiers, inl d.semicolon); whole = ap (λ ds. external.Declaration (record { specifiers = d.specifiers; declarators = ds; semicolon = d.semicolon })) (sym q); good = (g.0.0, tt) }
  from (x ∷ xs) q =
      let ty : Bool = name_type d.specifiers in
      let td : Bool = have_typedef d.specifiers in
      let names1 : Names = names_behind names d.specifiers in
      let g = declaration_node.parts names ((d.specifiers, d.declarators), d.semicolon) h in
      let r : (rows d.specifiers).good names1 (x ∷ xs) = subst (λ ds. (rows d.specifiers).good names1 ds) q g.0.1 in
      let n = (row_node ty td).parts names1 (x, xs) r in
      let c : None ≡ x.comma = sym n.0.0 in
      record {
        tuple = (d.specifiers, inr ((x.declarator, (declarator_level x.declarator names1).0.beside), inr ((x.start, xs), d.semicolon)));
        whole =
            ap (λ c. external.Declaration (record { specifiers = d.specifiers; declarators = record { comma = c; declarator = x.declarator; start = x.start } ∷ xs; semicolon = d.semicolon })) c
            ∙ ap (λ ds. external.Declaration (record { specifiers = d.specifiers; declarators = ds; semicolon = d.semicolon })) (sym q);
        good = (g.0.0, good_row d.specifiers names1 x.declarator x.start xs d.semicolon (subst (λ c. (rows d.specifiers).good names1 (record { comma = c; declarator = x.declarator; start = x.start } ∷ xs)) (sym c) r));
      }
by_split names (external.Definition d) h =
    let names1 : Names = names_behind names d.specifiers in
    let a = both_true (facts names d.specifiers).good _ (ap (λ r. r.0) (function_told names1 names d.specifiers d.declarator d.body) ∙ h) in
    let b = both_true (declares Declaring (name_type d.specifiers) (declarator_level d.declarator names1).0) _ a.1 in
    let c = both_true (is_listing (declarator_level d.declarator names1).0.beside) _ b.1 in
    record {
      tuple = (d.specifiers, inr ((d.declarator, (declarator_level d.declarator names1).0.beside), inl d.body));
      whole = refl;
      good = (form_is true names d.specifiers a.0 refl, ((b.0, refl), (c.0, both_true _ _ c.1)));
    }

by_nested : (specifiers : List Specifier) (u : Pos ⊎ With) → external_nesting (external_by specifiers u) ≡ parts_form.nest (specifiers, u)
by_nested specifiers (inl at) = omega arith
by_nested specifiers (inr (d, inl body)) = omega arith
by_nested specifiers (inr (d, inr t)) = omega arith

by_spelt : (specifiers : List Specifier) (u : Pos ⊎ With) → external_spelling (external_by specifiers u) ≡ parts_form.spell (specifiers, u)
by_spelt specifiers (inl at) = refl
by_spelt specifiers (inr (d, inl body)) = refl
by_spelt specifiers (inr (d, inr t)) =
    ap (λ l. joined (map specifier_spelling specifiers) ++ l) (rest_spelt (declarator_spelling d.0) (start_spelling t.0.0) (joined (map init_declarator_spelling t.0.1)) (punct p.Semicolon t.1 ∷ []))

by_seen : (names : Names) (specifiers : List Specifier) (u : Pos ⊎ With) → (external_level (external_by specifiers u) names).1 ≡ parts_form.adds names (specifiers, u)
by_seen names specifiers (inl at) = declaration_node.seen names ((specifiers, []), at)
by_seen names specifiers (inr (d, inl body)) =
    ap (λ r. (in_row (map specifier_level specifiers) names).1 ++ r.1) (sym (function_told (names_behind names specifiers) names specifiers d.0 body))
by_seen names specifiers (inr (d, inr t)) =
    declaration_node.seen names ((specifiers, first_item d.0 t.0.0 ∷ t.0.1), t.1) ∙ ap (λ l. (in_row (map specifier_level specifiers) names).1 ++ l) (row_seen specifiers (names_behind names specifiers) d t)

stop_by : (specifiers : List Specifier) (u : Pos ⊎ With) (behind : Names) (rest : Tokens) → parts_form.stop (specifiers, u) behind rest
stop_by specifiers (inl at) behind rest = tt
stop_by specifiers (inr (d, inl body)) behind rest = tt
stop_by specifiers (inr (d, inr t)) behind rest = tt

external_joint : Joint parts_form external_of external_form
external_joint = record {
  good = λ names t g. by_good names t.0 t.1 g;
  split = by_split;
  nested = λ t. by_nested t.0 t.1;
  spelt = λ t. by_spelt t.0 t.1;
  seen = λ names t. by_seen names t.0 t.1;
  stop = λ names t behind rest g h. tt;
  from_stop = λ names t behind rest g h. stop_by t.0 t.1 behind rest;
}

-- ---- the parser reads the parts

with_made : (more : ℕ) (specifiers : List Specifier) (i : State) → with_declarator more specifiers i ≡ (with_reader more specifiers >>= (λ t. pure (external_by specifiers (inr t)))) i
with_made more specifiers i =
    bind_same (named more specifiers) (λ d. choose (begins_body more d.1) (definition more specifiers d.0 d.1) (declaration_from more specifiers d.0)) (λ d. behind_reader more specifiers d >>= (λ u. pure (external_by specifiers (inr (d, u)))))
    (λ d j. choose_same (begins_body more d.1) (definition more specifiers d.0 d.1) (declaration_from more specifiers d.0)
    (function_body more d.1 >>= (λ b. pure (external_by specifiers (inr (d, inl b))))) (rest_reader more specifiers >>= (λ t. pure (external_by specifiers (inr (d, inr t)))))
    (λ j. refl)
    (λ j. three (start more) (λ s. many (sees p.Comma) (next_declarator more specifiers)) (λ s rest. expect p.Semicolon) (λ s rest e. external.Declaration (record { specifiers = specifiers; declarators = first_item d.0 s ∷ rest; semicolon = e })) j) j
    ∙ choose_map (begins_body more d.1) (function_body more d.1) (rest_reader more specifiers) (λ u. external_by specifiers (inr (d, u))) j) i
    ∙ two (named more specifiers) (λ d. behind_reader more specifiers d) (λ d u. external_by specifiers (inr (d, u))) i

external_reads : (more : ℕ) (i : State) → one_external more i ≡ map_to (both (depth.specifiers more true) (λ specifiers. tail_reader more specifiers)) external_of i
unfolding one_external
external_reads more i =
    bind_same (depth.specifiers more true) (λ specifiers. choose (sees p.Semicolon) (no_declarators more specifiers) (with_declarator more specifiers)) (λ specifiers. tail_reader more specifiers >>= (λ u. pure (external_by specifiers u)))
    (λ specifiers j. choose_same (sees p.Semicolon) (no_declarators more specifiers) (with_declarator more specifiers)
    (expect p.Semicolon >>= (λ at. pure (external_by specifiers (inl at)))) (with_reader more specifiers >>= (λ t. pure (external_by specifiers (inr t))))
    (λ j. refl) (λ j. with_made more specifiers j) j
    ∙ choose_map (sees p.Semicolon) (expect p.Semicolon) (with_reader more specifiers) (external_by specifiers) j) i
    ∙ two (depth.specifiers more true) (λ specifiers. tail_reader more specifiers) (λ specifiers u. external_by specifiers u) i

pub external_exact : (more : ℕ) → Exact external_form more (one_external more)
external_exact more = same_exact external_form more _ _ (external_reads more) (joint_exact parts_form external_of external_form more _ (parts_exact more) external_joint)
