-- One token is read exactly where it is picked.
use Rattle.std.specs.Prelude.{◌≡◌, ℕ, zero, suc, ◌≤◌, ◌<◌, Bool, true, false, ◌&&◌, ◌==◌, [], ◌∷◌, ◌++◌, Option, Some, None, Ok, refl}
use Rattle.std.proofs.Common.{ap, sym, ◌∙◌, subst, cond, arith, append-nil}
use Rattle.std.proofs.lemmas.Bool.Decides.{nat_tests}
use Rattle.c_tree.specs.declared.token.Pos.{Pos}
use Rattle.c_tree.specs.declared.token.Punct.{Punct}
use Rattle.c_tree.specs.declared.token.TokenKind.{TokenKind}
use Rattle.c_tree.specs.declared.token.TokenKind.TheVariants as k
use Rattle.c_tree.specs.declared.token.Token.{Token}
use Rattle.c_tree.specs.declared.expression.Identifier.{Identifier}
use Rattle.c_tree.specs.Spelling.Tokens.{token, punct, name as name_token}
use Rattle.c_tree.specs.Levels.Names.{Names}
use Rattle.c_grammar.specs.Punctuators.{same_mark, same_mark-true, same_mark-itself}
use Rattle.c_grammar.specs.Input.{Tokens, State, Outcome, peek, sees, too_deep, took, one, mark_at, identifier_at, expect, identifier, opening}
use Rattle.c_grammar.specs.Laws.Tests.{and_false}
use Rattle.c_grammar.specs.Laws.Form.{Form, Got, Exact, only, ok_pair}

-- one token, which declares nothing and with which nothing goes on
abbrev pub single : {A : Type 0} → (A → Token) → (Names → A → Type 0) → Form A
single sp good = record { spell = λ a. sp a ∷ []; good = good; adds = λ _ _. []; nest = λ _. 0; stop = λ _ _ _. Unit {0} }

-- what is picked is the token, and is good
abbrev pub Picks : {A : Type 0} → (A → Token) → (Names → A → Type 0) → (Names → TokenKind → Pos → Option A) → Type 0
Picks {A} sp good pick = (names : Names) (kind : TokenKind) (place : Pos) (a : A) → pick names kind place ≡ Some a → (sp a ≡ token kind place) × good names a

abbrev pub Picked : {A : Type 0} → (A → Token) → (Names → A → Type 0) → (Names → TokenKind → Pos → Option A) → Type 0
Picked {A} sp good pick = (names : Names) (a : A) → good names a → pick names (sp a).kind (sp a).place ≡ Some a

module _ {A : Type 0} (sp : A → Token) (good : Names → A → Type 0) (pick : Names → TokenKind → Pos → Option A) (picks : Picks sp good pick) (picked : Picked sp good pick) (more : ℕ) where
  by_pick : (names : Names) (t : Token) (ts : Tokens) (x : A) (s : State) (o : Option A) → pick names t.kind t.place ≡ o → took o names t ts ≡ Ok (x, s) → Got (single sp good) more names (t ∷ ts) x s
  by_pick names t ts x s None e h = absurd cc
  by_pick names t ts x s (Some a) e h =
      let w = ok_pair {A = A} a x (names, ts) s h in
      let g = picks names t.kind t.place a e in
      let whole : Got (single sp good) more names (t ∷ ts) a (names, ts) = record {
        good = g.1;
        nested = omega arith;
        spelt = ap (λ (u : Token). u ∷ ts) (sym g.0);
        seen = sym (append-nil names);
        stops = tt;
      } in
      subst (λ (s : State). Got (single sp good) more names (t ∷ ts) x s) w.1 (subst (λ (x : A). Got (single sp good) more names (t ∷ ts) x (names, ts)) w.0 whole)

  one_sound : (names : Names) (ts : Tokens) (x : A) (s : State) → one pick (names, ts) ≡ Ok (x, s) → Got (single sp good) more names ts x s
  unfolding one
  one_sound names [] x s h = absurd cc
  one_sound names (t ∷ ts) x s h = by_pick names t ts x s (pick names t.kind t.place) refl h

  one_complete : (names : Names) (x : A) (rest : Tokens) → good names x → one pick (names, sp x ∷ rest) ≡ Ok (x, (names ++ [], rest))
  unfolding one
  one_complete names x rest g =
      let end : Names → Outcome A = λ n. Ok (x, (n, rest)) in
      ap (λ o. took o names (sp x) rest) (picked names x g) ∙ ap end (sym (append-nil names))

  pub one_exact : Exact (single sp good) more (one pick)
  one_exact = record { sound = one_sound; complete = λ names x rest g n s. one_complete names x rest g }

-- ---- one token, of which a tree is made

-- `a` is made of the token, and any token may stand behind it
pub record MadeOf {A : Type 0} (H : Form A) (names : Names) (kind : TokenKind) (place : Pos) (a : A) : Type 0 where
  pub good : H.good names a
  pub spelt : H.spell a ≡ token kind place ∷ []
  pub seen : H.adds names a ≡ []
  pub nested : H.nest a ≡ 0
  pub stops : (behind : Names) (rest : Tokens) → H.stop a behind rest

-- a tree is made of one token
pub record OneToken {A : Type 0} (H : Form A) (pick : Names → TokenKind → Pos → Option A) (names : Names) (a : A) : Type 0 where
  pub kind : TokenKind
  pub place : Pos
  pub spelt : H.spell a ≡ token kind place ∷ []
  pub seen : H.adds names a ≡ []
  pub picked : pick names kind place ≡ Some a

module _ {A : Type 0} (H : Form A) (w : A → Type 0) (pick : Names → TokenKind → Pos → Option A)
    (made : (names : Names) (kind : TokenKind) (place : Pos) (a : A) → pick names kind place ≡ Some a → w a × MadeOf H names kind place a)
    (taken : (names : Names) (a : A) → w a → H.good names a → OneToken H pick names a) (more : ℕ) where
  from_pick : (names : Names) (t : Token) (ts : Tokens) (x : A) (s : State) (o : Option A) → pick names t.kind t.place ≡ o → took o names t ts ≡ Ok (x, s) → Got (only w H) more names (t ∷ ts) x s
  from_pick names t ts x s None e h = absurd cc
  from_pick names t ts x s (Some a) e h =
      let q = ok_pair {A = A} a x (names, ts) s h in
      let m = made names t.kind t.place a e in
      let g = m.1 in
      let n = g.nested in
      let whole : Got (only w H) more names (t ∷ ts) a (names, ts) = record {
        good = (m.0, g.good);
        nested = omega arith;
        spelt = ap (λ l. l ++ ts) (sym g.spelt);
        seen = sym (append-nil names) ∙ ap (λ l. names ++ l) (sym g.seen);
        stops = g.stops names ts;
      } in
      subst (λ (s : State). Got (only w H) more names (t ∷ ts) x s) q.1 (subst (λ (x : A). Got (only w H) more names (t ∷ ts) x (names, ts)) q.0 whole)

  pick_sound : (names : Names) (ts : Tokens) (x : A) (s : State) → one pick (names, ts) ≡ Ok (x, s) → Got (only w H) more names ts x s
  unfolding one
  pick_sound names [] x s h = absurd cc
  pick_sound names (t ∷ ts) x s h = from_pick names t ts x s (pick names t.kind t.place) refl h

  pick_complete : (names : Names) (x : A) (rest : Tokens) → w x → H.good names x → one pick (names, H.spell x ++ rest) ≡ Ok (x, (names ++ H.adds names x, rest))
  unfolding one
  pick_complete names x rest i g =
      let o = taken names x i g in
      let end : Names → Outcome A = λ n. Ok (x, (n, rest)) in
      ap (λ l. one pick (names, l ++ rest)) o.spelt ∙ ap (λ a. took a names (token o.kind o.place) rest) o.picked
      ∙ ap end (sym (append-nil names) ∙ ap (λ l. names ++ l) (sym o.seen))

  pub pick_exact : Exact (only w H) more (one pick)
  pick_exact = record { sound = pick_sound; complete = λ names x rest g n s. pick_complete names x rest g.0 g.1 }

-- ---- a punctuator, and a name

abbrev pub always : {A : Type 0} → Names → A → Type 0
always names a = Unit {0}

abbrev pub mark_form : Punct → Form Pos
mark_form op = single (punct op) always

mark_by : (op other : Punct) (place a : Pos) (b : Bool) → same_mark other op ≡ b → cond b (Some place) None ≡ Some a → (punct op a ≡ token (k.Punct other) place) × Unit {0}
mark_by op other place a true e h =
    let o : other ≡ op = same_mark-true other op e in
    let p : place ≡ a = cc in
    (ap (λ (q : Pos). punct op q) (sym p) ∙ ap (λ (q : Punct). punct q place) (sym o), tt)
mark_by op other place a false e h = absurd cc

mark_picks : (op : Punct) → Picks (punct op) always (mark_at op)
mark_picks op names (k.Punct other) place a h = mark_by op other place a (same_mark other op) refl h
mark_picks op names (k.Keyword key) place a h = absurd cc
mark_picks op names (k.Name text) place a h = absurd cc
mark_picks op names (k.Number value kind) place a h = absurd cc
mark_picks op names (k.Char value) place a h = absurd cc
mark_picks op names (k.Bytes bytes) place a h = absurd cc

pub expect_exact : (op : Punct) (more : ℕ) → Exact (mark_form op) more (expect op)
expect_exact op more = one_exact (punct op) always (mark_at op) (mark_picks op) (λ names a g. ap (λ b. cond b (Some a) None) (same_mark-itself op)) more

abbrev pub name_form : Form Identifier
name_form = single name_token always

name_picks : Picks name_token always identifier_at
name_picks names (k.Name text) place a h = let e : record { text = text; place = place } ≡ a = cc in (ap name_token (sym e), tt)
name_picks names (k.Keyword key) place a h = absurd cc
name_picks names (k.Number value kind) place a h = absurd cc
name_picks names (k.Char value) place a h = absurd cc
name_picks names (k.Bytes bytes) place a h = absurd cc
name_picks names (k.Punct op) place a h = absurd cc

pub identifier_exact : (more : ℕ) → Exact name_form more identifier
identifier_exact more = one_exact name_token always identifier_at name_picks (λ names a g. refl) more

-- ---- an opening bracket

abbrev pub opening_form : Punct → Form Pos
opening_form op = record { spell = λ a. punct op a ∷ []; good = always; adds = λ _ _. []; nest = λ _. 1; stop = λ _ _ _. Unit {0} }

pub sees_mark : (op : Punct) (names : Names) (at : Pos) (rest : Tokens) → sees op (names, punct op at ∷ rest) ≡ true
unfolding peek
sees_mark op names at rest = same_mark-itself op

zero_is : (k : ℕ) → (suc k == 0) ≡ false
zero_is k = grind (arith, nat_tests)

module _ (op : Punct) where
  -- where the bracket is read it is seen
  taken_is_seen : (names : Names) (ts : Tokens) (at : Pos) (s : State) → expect op (names, ts) ≡ Ok (at, s) → sees op (names, ts) ≡ true
  taken_is_seen names ts at s h =
      let g = (expect_exact op 0).sound names ts at s h in
      subst (λ l. sees op (names, l) ≡ true) (sym g.spelt) (sees_mark op names at s.1)

  opening_by : (more : ℕ) (names : Names) (ts : Tokens) (at : Pos) (s : State) (b : Bool) → (sees op (names, ts) && more == 0) ≡ b → cond b (too_deep (names, ts)) (expect op (names, ts)) ≡ Ok (at, s) → (expect op (names, ts) ≡ Ok (at, s)) × (0 < more)
  opening_by more names ts at s true e h = absurd cc
  opening_by zero names ts at s false e h = absurd (let t = taken_is_seen names ts at s h in let f : (true && true) ≡ false = subst (λ b. (b && true) ≡ false) t e in cc)
  opening_by (suc k) names ts at s false e h = (h, omega arith)

  opening_sound : (more : ℕ) (names : Names) (ts : Tokens) (at : Pos) (s : State) → opening more op (names, ts) ≡ Ok (at, s) → Got (opening_form op) more names ts at s
  unfolding opening
  opening_sound more names ts at s h =
      let o = opening_by more names ts at s (sees op (names, ts) && more == 0) refl h in
      let g = (expect_exact op more).sound names ts at s o.0 in
      record { good = tt; nested = o.1; spelt = g.spelt; seen = g.seen; stops = tt }

  opening_complete : (more : ℕ) (names : Names) (at : Pos) (rest : Tokens) → 1 ≤ more → opening more op (names, punct op at ∷ rest) ≡ Ok (at, (names ++ [], rest))
  unfolding opening
  opening_complete zero names at rest h = absurd (omega arith)
  opening_complete (suc k) names at rest h =
      ap (λ b. cond (sees op (names, punct op at ∷ rest) && b) (too_deep (names, punct op at ∷ rest)) (expect op (names, punct op at ∷ rest))) (zero_is k)
      ∙ ap (λ b. cond b (too_deep (names, punct op at ∷ rest)) (expect op (names, punct op at ∷ rest))) (and_false (sees op (names, punct op at ∷ rest)))
      ∙ (expect_exact op (suc k)).complete names at rest tt (omega arith) tt

  pub opening_exact : (more : ℕ) → Exact (opening_form op) more (opening more op)
  opening_exact more = record { sound = opening_sound more; complete = λ names at rest g n s. opening_complete more names at rest n }
