-- Each `else` goes with the nearest `if`, and an `if` with its `else`s is read exactly (C11 6.8.4.1).
use Rattle.std.specs.Prelude.{◌≡◌, ℕ, zero, suc, ◌<◌, max, Bool, true, false, not, ◌&&◌, ◌||◌, List, [], ◌∷◌, ◌++◌, length, map, Option, Some, None, is_some, is_none, Ok, Err, refl}
use Rattle.std.proofs.Common.{ap, sym, ◌∙◌, subst, cond, arith, append_assoc, append-nil, ◌⊎◌, inl, inr}
use Rattle.c_tree.specs.declared.token.Pos.{Pos}
use Rattle.c_tree.specs.declared.token.Keyword.TheVariants as word
use Rattle.c_tree.specs.declared.statement.Condition.{Condition}
use Rattle.c_tree.specs.declared.statement.IfHead.{IfHead}
use Rattle.c_tree.specs.declared.statement.Stmt.{Stmt}
use Rattle.c_tree.specs.declared.statement.Stmt.TheVariants as stmt
use Rattle.c_tree.specs.declared.statement.Else.{Else, out-Else, roll-Else, roll-out-Else}
use Rattle.c_tree.specs.Spelling.Tokens.{keyword, joined}
use Rattle.c_tree.specs.Spelling.OfStatements.{condition_spelling}
use Rattle.c_tree.specs.Spelling.Statements.{stmt_spelling, else_spelling, else_spelling-is, stmt_spelling-If}
use Rattle.c_tree.specs.Levels.Names.{Names, in_row}
use Rattle.c_tree.specs.Levels.StatementFacts.{chained, takes_more}
use Rattle.c_tree.specs.Levels.OfStatements.{condition_level}
use Rattle.c_tree.specs.Levels.Statements.{stmt_level, else_level, else_level-is, stmt_level-If}
use Rattle.c_tree.specs.Nesting.Statements.{else_nesting, else_nesting-is, stmt_nesting-If}
use Rattle.c_grammar.specs.Input.{Tokens, State, Outcome, Parser, and_then, ◌>>=◌, pure, refuse, choose, peek, loop, many_by}
use Rattle.c_grammar.specs.Laws.Tests.{and_false}
use Rattle.c_grammar.specs.Laws.Form.{Form, Exact, Guarded, Node, Image, only, both, map_to, node_exact, same_exact, whole_exact, two, three, four, bind_same, choose_same, choose_map, either, either_guarded, quieted}
use Rattle.c_grammar.specs.Laws.Lists.{Items, Kept, all_good, chain, chain_exact, left, last_of, stop_goes, stop_last, stop_made}
use Rattle.c_grammar.specs.Laws.Rows.{pre, pre_exact}
use Rattle.c_grammar.specs.Laws.Behind.{both_true, both_are}
use Rattle.c_unit_grammar.specs.Read.Words.{is_word, sees_word, expect_word}
use Rattle.c_unit_grammar.specs.Read.Statements.{Within, condition, goes_else, goes_further, body, else_if, last_else, one_else, if_statement}
use Rattle.c_unit_grammar.specs.Laws.Common.{word_form, expect_word_exact, sees_keyword}
use Rattle.c_unit_grammar.specs.Laws.StatementFacts.{is_ifs, stmt_kind, if_told, takes, takes_told}
use Rattle.c_unit_grammar.specs.Laws.Bodies.{no_else, stmt_form, body_form, Inside, body_exact, if_seen, governed, governed_exact}
use Rattle.c_unit_grammar.specs.Laws.Loops.{in_scope}

-- ---- `else` and what stands behind it

abbrev head_of : Else → Option IfHead
head_of e = (out-Else e).head

abbrev body_of : Else → Stmt
body_of e = (out-Else e).body

-- an `if` right behind the last `else` is one more
abbrev pub else_form : Form Else
else_form = record {
  spell = else_spelling;
  good = λ names e. ((is_none (head_of e) && is_ifs (stmt_kind (body_of e))) ≡ false) × ((else_level e names).0.good ≡ true);
  adds = λ names e. (else_level e names).1;
  nest = else_nesting;
  stop = λ e names rest. no_else (takes (body_of e)) rest;
}

abbrev NoIf : Stmt → Type 0
NoIf s = is_ifs (stmt_kind s) ≡ false

abbrev last_form : Form Stmt
last_form = record { spell = stmt_spelling; good = λ names s. NoIf s × body_form.good names s; adds = body_form.adds; nest = body_form.nest; stop = body_form.stop }

abbrev tail_form : Form (((Pos × Condition) × Stmt) ⊎ Stmt)
tail_form = either (governed word.If) last_form

abbrev else_by : Pos → ((Pos × Condition) × Stmt) ⊎ Stmt → Else
else_by at (inl t) = roll-Else (record { word = at; head = Some (record { word = t.0.0; condition = t.0.1 }); body = t.1 })
else_by at (inr s) = roll-Else (record { word = at; head = None; body = s })

abbrev else_of : Pos × (((Pos × Condition) × Stmt) ⊎ Stmt) → Else
else_of t = else_by t.0 t.1

by_good : (names : Names) (at : Pos) (u : ((Pos × Condition) × Stmt) ⊎ Stmt) → tail_form.good names u → else_form.good names (else_by at u)
by_good names at (inl t) g = (refl, ap (λ r. r.0.good) (else_level-is (else_by at (inl t)) names) ∙ both_are _ _ g.0.1 g.1)
by_good names at (inr s) g = (g.0, ap (λ r. r.0.good) (else_level-is (else_by at (inr s)) names) ∙ subst (λ n. (stmt_level s n).0.good ≡ true) (sym (append-nil names)) g.1)

good_by : (names : Names) (at : Pos) (u : ((Pos × Condition) × Stmt) ⊎ Stmt) → else_form.good names (else_by at u) → tail_form.good names u
good_by names at (inl t) h =
    let b = both_true (condition_level t.0.1 names).0 _ (sym (ap (λ r. r.0.good) (else_level-is (else_by at (inl t)) names)) ∙ h.1) in ((tt, b.0), b.1)
good_by names at (inr s) h = (h.0, subst (λ n. (stmt_level s n).0.good ≡ true) (append-nil names) (sym (ap (λ r. r.0.good) (else_level-is (else_by at (inr s)) names)) ∙ h.1))

by_nested : (at : Pos) (u : ((Pos × Condition) × Stmt) ⊎ Stmt) → else_nesting (else_by at u) ≡ max 0 (tail_form.nest u)
by_nested at (inl t) = else_nesting-is (else_by at (inl t)) ∙ omega arith
by_nested at (inr s) = else_nesting-is (else_by at (inr s))

by_spelt : (at : Pos) (u : ((Pos × Condition) × Stmt) ⊎ Stmt) → else_spelling (else_by at u) ≡ keyword word.Else at ∷ tail_form.spell u
by_spelt at (inl t) = else_spelling-is (else_by at (inl t))
by_spelt at (inr s) = else_spelling-is (else_by at (inr s))

by_seen : (names : Names) (at : Pos) (u : ((Pos × Condition) × Stmt) ⊎ Stmt) → (else_level (else_by at u) names).1 ≡ tail_form.adds names u
by_seen names at (inl t) = ap (λ r. r.1) (else_level-is (else_by at (inl t)) names) ∙ append-nil (condition_level t.0.1 names).1
by_seen names at (inr s) = ap (λ r. r.1) (else_level-is (else_by at (inr s)) names)

by_stop : (at : Pos) (u : ((Pos × Condition) × Stmt) ⊎ Stmt) (behind : Names) (rest : Tokens) → tail_form.stop u behind rest → no_else (takes (body_of (else_by at u))) rest
by_stop at (inl t) behind rest h = h
by_stop at (inr s) behind rest h = h

stop_by : (at : Pos) (u : ((Pos × Condition) × Stmt) ⊎ Stmt) (behind : Names) (rest : Tokens) → no_else (takes (body_of (else_by at u))) rest → tail_form.stop u behind rest
stop_by at (inl t) behind rest h = h
stop_by at (inr s) behind rest h = h

else_node : Node (pre (word_form word.Else) (λ _. tail_form)) else_of else_form
else_node = record {
  good = λ names t g. by_good names t.0 t.1 g.1;
  parts = λ names t h. (tt, good_by names t.0 t.1 h);
  nested = λ t. by_nested t.0 t.1;
  spelt = λ t. by_spelt t.0 t.1;
  seen = λ names t. by_seen names t.0 t.1;
  stop = λ names t behind rest g h. by_stop t.0 t.1 behind rest h;
  from_stop = λ names t behind rest g h. stop_by t.0 t.1 behind rest h;
}

else_image : (e : Else) (head : Option IfHead) → head_of e ≡ head → Image else_of e
else_image e None q = (((out-Else e).word, inr (body_of e)), ap (λ h. roll-Else (record { word = (out-Else e).word; head = h; body = body_of e })) (sym q) ∙ roll-out-Else e)
else_image e (Some h) q = (((out-Else e).word, inl ((h.word, h.condition), body_of e)), ap (λ h. roll-Else (record { word = (out-Else e).word; head = h; body = body_of e })) (sym q) ∙ roll-out-Else e)

module _ (more : ℕ) (inner : Within) (inside : Inside more inner) where
  abbrev if_reader : Parser ((Pos × Condition) × Stmt)
  if_reader = both (both (expect_word word.If) (λ at. condition more)) (λ t. body more inner)

  abbrev tail_reader : Parser (((Pos × Condition) × Stmt) ⊎ Stmt)
  tail_reader = choose (sees_word word.If) (map_to if_reader inl) (map_to (body more inner) inr)

  last_exact : Guarded (λ i. sees_word word.If i ≡ false) last_form more (body more inner)
  last_exact = record {
    sound = λ names ts x s known h.
        let g = (body_exact more inner inside).sound names ts x s h in
        record { good = (sym (if_seen x names s.1 g.good) ∙ subst (λ l. sees_word word.If (names, l) ≡ false) g.spelt known, g.good); nested = g.nested; spelt = g.spelt; seen = g.seen; stops = g.stops };
    complete = λ names x rest g n s. (body_exact more inner inside).complete names x rest g.1 n s;
  }

  tail_exact : Exact tail_form more tail_reader
  tail_exact =
      either_guarded (governed word.If) last_form more (sees_word word.If) if_reader (body more inner) (governed_exact word.If more inner inside) last_exact
      (λ names t rest g s. sees_keyword word.If names t.0.0 _) (λ names s rest g st. if_seen s names rest g.1 ∙ g.0)

  else_reads : (i : State) → one_else more inner i ≡ map_to (both (expect_word word.Else) (λ at. tail_reader)) else_of i
  unfolding one_else
  else_reads i =
      bind_same (expect_word word.Else) (λ at. choose (sees_word word.If) (else_if more inner at) (last_else more inner at)) (λ at. tail_reader >>= (λ u. pure (else_by at u)))
      (λ at j. choose_same (sees_word word.If) (else_if more inner at) (last_else more inner at) (if_reader >>= (λ t. pure (else_by at (inl t)))) (body more inner >>= (λ s. pure (else_by at (inr s))))
      (λ j. three (expect_word word.If) (λ if_at. condition more) (λ if_at c. body more inner) (λ if_at c b. roll-Else (record { word = at; head = Some (record { word = if_at; condition = c }); body = b })) j) (λ j. refl) j
      ∙ choose_map (sees_word word.If) if_reader (body more inner) (else_by at) j) i
      ∙ two (expect_word word.Else) (λ at. tail_reader) (λ at u. else_by at u) i

  pub else_exact : Exact else_form more (one_else more inner)
  else_exact =
      whole_exact (Image else_of) else_form more _ (λ names e g. else_image e (head_of e) refl)
      (same_exact (only (Image else_of) else_form) more _ _ else_reads
      (node_exact (pre (word_form word.Else) (λ _. tail_form)) else_of else_form more _
      (pre_exact (word_form word.Else) (λ _. tail_form) more (expect_word word.Else) (λ at. tail_reader) (λ names a. refl) (expect_word_exact word.Else more) (λ _. tail_exact) (λ names a b rest g h s. tt)) else_node))

-- ---- `else`s in a row

-- whether one more may stand there, and whether a statement before it would take it
abbrev pub Turn : Type 0
Turn = Bool × Bool

abbrev pub goes_turn : Turn → State → Bool
goes_turn s i = s.0 && is_word word.Else (peek i.1)

abbrev pub step_turn : Turn → Else → Turn
step_turn s e = (is_some (head_of e), takes (body_of e))

abbrev pub elses : Items Turn Else
elses = record {
  spell = else_spelling;
  good = λ s names e. ((s.0 ≡ true) × (s.1 ≡ false)) × else_form.good names e;
  adds = λ names e. (else_level e names).1;
  nest = else_nesting;
  stop = λ e names rest. no_else (takes (body_of e)) rest;
  goes = goes_turn;
  step = step_turn;
}

else_first : (e : Else) → (at : Pos) × (others : Tokens) × (else_spelling e ≡ keyword word.Else at ∷ others)
else_first e = ((out-Else e).word, _, else_spelling-is e)

-- an `else` that a statement before it would take is none of this `if`
abbrev reads_turn : Parser Else → Turn → Parser Else
reads_turn reads s = choose (λ i. s.1 && is_word word.Else (peek i.1)) refuse reads

ended : (s : Turn) (names : Names) → goes_turn s (names, []) ≡ false
unfolding peek
ended s names = and_false s.0

module _ (more : ℕ) (reads : Parser Else) (exact : Exact else_form more reads) where
  turn_by : (s : Turn) (names : Names) (ts : Tokens) (e : Else) (end : State) (seen taking : Bool) → is_word word.Else (peek ts) ≡ seen → s.1 ≡ taking → (s.0 && seen) ≡ true
      → cond (taking && seen) (refuse (names, ts)) (reads (names, ts)) ≡ Ok (e, end) → ((s.0 ≡ true) × (s.1 ≡ false)) × (reads (names, ts) ≡ Ok (e, end))
  turn_by s names ts e end true true q r go h = absurd cc
  turn_by s names ts e end true false q r go h = (((both_true s.0 true go).0, r), h)
  turn_by s names ts e end false taking q r go h = absurd (let z : false ≡ true = sym (and_false s.0) ∙ go in cc)

  elses_kept : Kept elses more (reads_turn reads)
  elses_kept = record {
    sound = λ s names ts e end go h.
        let w = turn_by s names ts e end (is_word word.Else (peek ts)) s.1 refl refl go h in
        let g = exact.sound names ts e end w.1 in
        record { good = (w.0, g.good); nested = g.nested; spelt = g.spelt; seen = g.seen; stops = g.stops };
    complete = λ s names e rest g n st.
        ap (λ b. cond (b && is_word word.Else (peek (else_spelling e ++ rest))) (refuse (names, else_spelling e ++ rest)) (reads (names, else_spelling e ++ rest))) g.0.1 ∙ exact.complete names e rest g.1 n st;
    starts = λ s names e rest g st.
        let w = else_first e in
        ap (λ b. b && is_word word.Else (peek (else_spelling e ++ rest))) g.0.0 ∙ ap (λ l. is_word word.Else (peek (l ++ rest))) w.2 ∙ sees_keyword word.Else names w.0 (w.1 ++ rest);
    ends = λ s names. ended s names;
    follows = λ s names e f rest g h st. ap (λ b. b && is_word word.Else (peek (else_spelling f ++ rest))) h.0.1;
    some = λ s names e g. let w = else_first e in subst (λ l. 0 < length l) (sym w.2) (omega arith);
  }

  -- ---- the parser asks only whether one more may stand there

  -- no statement before this place would take an `else` that stands there
  abbrev Clear : Turn → State → Type 0
  Clear s i = no_else s.1 i.1

  clear_reads : (s : Turn) (i : State) → Clear s i → reads_turn reads s i ≡ reads i
  clear_reads s i c = ap (λ b. cond b (refuse i) (reads i)) c

  loop_by : (n : ℕ) → ((s : Turn) (found : List Else) (i : State) → Clear s i → loop goes_turn (reads_turn reads) step_turn n s found i ≡ loop goes_else (λ _. reads) goes_further n s.0 found i)
      → (s : Turn) (found : List Else) (i : State) (o : Outcome Else) → reads i ≡ o
      → and_then o (λ e. loop goes_turn (reads_turn reads) step_turn n (step_turn s e) (found ++ e ∷ [])) ≡ and_then o (λ e. loop goes_else (λ _. reads) goes_further n (goes_further s.0 e) (found ++ e ∷ []))
  loop_by n ih s found i (Err x) q = refl
  loop_by n ih s found i (Ok r) q =
      ih (step_turn s r.0) (found ++ r.0 ∷ []) r.1 (exact.sound i.0 i.1 r.0 r.1 q).stops

  same_loop : (n : ℕ) (s : Turn) (found : List Else) (i : State) → Clear s i → loop goes_turn (reads_turn reads) step_turn n s found i ≡ loop goes_else (λ _. reads) goes_further n s.0 found i
  unfolding loop
  same_loop zero s found i c = refl
  same_loop (suc n) s found i c =
      ap (λ o. cond (goes_turn s i) (and_then o (λ e. loop goes_turn (reads_turn reads) step_turn n (step_turn s e) (found ++ e ∷ []))) (Ok (found, i))) (clear_reads s i c)
      ∙ ap (λ o. cond (goes_turn s i) o (Ok (found, i))) (loop_by n (same_loop n) s found i (reads i) refl)

  pub same_elses : (s : Turn) (i : State) → Clear s i → many_by goes_turn (reads_turn reads) step_turn s i ≡ many_by goes_else (λ _. reads) goes_further s.0 i
  same_elses s i c = same_loop (length i.1) s [] i c

-- what comes next is the same where it is so behind what was read
bind_known : {A B : Type 0} (p : Parser A) (q r : A → Parser B) (i : State) → ((a : A) (j : State) → p i ≡ Ok (a, j) → q a j ≡ r a j) → (p >>= q) i ≡ (p >>= r) i
bind_known {A} {B} p q r i same = by (p i) refl where
  by : (o : Outcome A) → p i ≡ o → and_then o q ≡ and_then o r
  by (Ok x) e = same x.0 x.1 e
  by (Err x) e = refl

-- ---- what the levels tell of them

not_none : (h : Option IfHead) → not (is_none h) ≡ is_some h
not_none None = refl
not_none (Some x) = refl

some_none : (h : Option IfHead) → is_some h ≡ true → is_none h ≡ false
some_none None e = absurd cc
some_none (Some x) e = refl

last_told : (e : Else) (names : Names) → (else_level e names).0.is_last ≡ is_none (head_of e)
last_told e names = ap (λ r. r.0.is_last) (else_level-is e names)

taking_told : (e : Else) (names : Names) → (else_level e names).0.body.takes_else ≡ takes (body_of e)
taking_told e names = ap (λ r. r.0.body.takes_else) (else_level-is e names) ∙ takes_told (body_of e) _

ifs_told : (e : Else) (names : Names) → (else_level e names).0.body.is_if ≡ is_ifs (stmt_kind (body_of e))
ifs_told e names = ap (λ r. r.0.body.is_if) (else_level-is e names) ∙ if_told (body_of e) _

not_taking : (b : Bool) → b ≡ false → not b ≡ true
not_taking b e = ap not e

taking_not : (b : Bool) → not b ≡ true → b ≡ false
taking_not true h = absurd cc
taking_not false h = refl

chain_told : (may taking : Bool) (names : Names) (es : List Else) → all_good elses (may, taking) names es → chained taking (in_row (map else_level es) names).0 ≡ true
chain_told may taking names [] g = refl
chain_told may taking names (e ∷ []) g =
    both_are _ _ (not_taking taking g.0.0.1) (both_are _ _ g.0.1.1
    (ap (λ b. not (b && (else_level e names).0.body.is_if)) (last_told e names) ∙ ap (λ b. not (is_none (head_of e) && b)) (ifs_told e names) ∙ ap not g.0.1.0))
chain_told may taking names (e ∷ f ∷ es) g =
    both_are _ _ (not_taking taking g.0.0.1) (both_are _ _ g.0.1.1 (both_are _ _ (ap not (last_told e names) ∙ not_none (head_of e) ∙ g.1.0.0.0)
    (ap (λ b. chained b (in_row (map else_level (f ∷ es)) (names ++ (else_level e names).1)).0) (taking_told e names) ∙ chain_told (is_some (head_of e)) (takes (body_of e)) (names ++ (else_level e names).1) (f ∷ es) g.1)))

chain_is : (may taking : Bool) (names : Names) (es : List Else) → may ≡ true → chained taking (in_row (map else_level es) names).0 ≡ true → all_good elses (may, taking) names es
chain_is may taking names [] m h = tt
chain_is may taking names (e ∷ []) m h =
    let a = both_true (not taking) _ h in
    let b = both_true (else_level e names).0.good _ a.1 in
    let c : not (is_none (head_of e) && is_ifs (stmt_kind (body_of e))) ≡ true =
    sym (ap (λ b. not (b && (else_level e names).0.body.is_if)) (last_told e names) ∙ ap (λ b. not (is_none (head_of e) && b)) (ifs_told e names)) ∙ b.1 in
    (((m, taking_not taking a.0), (taking_not _ c, b.0)), tt)
chain_is may taking names (e ∷ f ∷ es) m h =
    let a = both_true (not taking) _ h in
    let b = both_true (else_level e names).0.good _ a.1 in
    let c = both_true (not (else_level e names).0.is_last) _ b.1 in
    let d : is_some (head_of e) ≡ true = sym (not_none (head_of e)) ∙ sym (ap not (last_told e names)) ∙ c.0 in
    let q : chained (takes (body_of e)) (in_row (map else_level (f ∷ es)) (names ++ (else_level e names).1)).0 ≡ true =
    sym (ap (λ b. chained b (in_row (map else_level (f ∷ es)) (names ++ (else_level e names).1)).0) (taking_told e names)) ∙ c.1 in
    (((m, taking_not taking a.0), (ap (λ b. b && is_ifs (stmt_kind (body_of e))) (some_none (head_of e) d), b.0)), chain_is (is_some (head_of e)) (takes (body_of e)) (names ++ (else_level e names).1) (f ∷ es) d q)

-- an `else` behind them would belong to the `if` or to the last body
more_told : (e : Else) (es : List Else) (names : Names) → takes_more (in_row (map else_level (e ∷ es)) names).0 ≡ (is_some (head_of (last_of elses e es)) || takes (body_of (last_of elses e es)))
more_told e [] names = ap (λ b. not b || (else_level e names).0.body.takes_else) (last_told e names) ∙ ap (λ b. b || (else_level e names).0.body.takes_else) (not_none (head_of e)) ∙ ap (λ b. is_some (head_of e) || b) (taking_told e names)
more_told e (f ∷ es) names = more_told f es (names ++ (else_level e names).1)

left_last : (s : Turn) (e : Else) (es : List Else) → (left elses s (e ∷ es)).0 ≡ is_some (head_of (last_of elses e es))
left_last s e [] = refl
left_last s e (f ∷ es) = left_last (step_turn s e) f es

-- ---- `if`

abbrev first_turn : (Pos × Condition) × Stmt → Turn
first_turn t = (true, takes t.1)

abbrev if_form : Form (((Pos × Condition) × Stmt) × List Else)
if_form = chain (governed word.If) elses first_turn

abbrev pub if_of : ((Pos × Condition) × Stmt) × List Else → Stmt
if_of t = stmt.If t.0.0.0 t.0.0.1 t.0.1 t.1

if_takes : (t : ((Pos × Condition) × Stmt) × List Else) (names : Names) → takes_more (in_row (map else_level t.1) names).0 ≡ takes (if_of t)
if_takes t names = more_same t.1 names _ ∙ sym (ap (λ r. r.0.takes_else) (stmt_level-If t.0.0.0 t.0.0.1 t.0.1 t.1 [])) ∙ takes_told (if_of t) [] where
  more_same : (es : List Else) (a b : Names) → takes_more (in_row (map else_level es) a).0 ≡ takes_more (in_row (map else_level es) b).0
  more_same [] a b = refl
  more_same (e ∷ es) a b = more_told e es a ∙ sym (more_told e es b)

-- either, and an `else` comes next
split_or : (a b c : Bool) → ((a || b) && c) ≡ false → ((a && c) ≡ false) × ((b && c) ≡ false)
split_or true true c h = (h, h)
split_or true false c h = (h, refl)
split_or false b c h = (refl, h)

join_or : (a b c : Bool) → (a && c) ≡ false → (b && c) ≡ false → ((a || b) && c) ≡ false
join_or true b c h g = h
join_or false b c h g = g

any_and : (b c : Bool) → c ≡ false → (b && c) ≡ false
any_and b c e = ap (λ c. b && c) e ∙ and_false b

if_stop : (t : (Pos × Condition) × Stmt) (es : List Else) (names : Names) (rest : Tokens) → if_form.stop (t, es) names rest → no_else (takes (if_of (t, es))) rest
if_stop t [] names rest h = ap (λ b. b && is_word word.Else (peek rest)) (sym (if_takes (t, []) [])) ∙ h.1
if_stop t (e ∷ es) names rest h =
    let go : (is_some (head_of (last_of elses e es)) && is_word word.Else (peek rest)) ≡ false =
    ap (λ b. b && is_word word.Else (peek rest)) (sym (left_last (first_turn t) e es)) ∙ stop_goes elses (first_turn t) (e ∷ es) names rest h in
    ap (λ b. b && is_word word.Else (peek rest)) (sym (if_takes (t, e ∷ es) []) ∙ more_told e es [])
    ∙ join_or (is_some (head_of (last_of elses e es))) (takes (body_of (last_of elses e es))) (is_word word.Else (peek rest)) go (stop_last elses (first_turn t) e es names rest h)

stop_if : (t : (Pos × Condition) × Stmt) (es : List Else) (names : Names) (rest : Tokens) → no_else (takes (if_of (t, es))) rest → if_form.stop (t, es) names rest
stop_if t [] names rest h =
    let e : is_word word.Else (peek rest) ≡ false = ap (λ b. b && is_word word.Else (peek rest)) (if_takes (t, []) []) ∙ h in
    (any_and (takes t.1) (is_word word.Else (peek rest)) e, e)
stop_if t (e ∷ es) names rest h =
    let w = split_or (is_some (head_of (last_of elses e es))) (takes (body_of (last_of elses e es))) (is_word word.Else (peek rest))
    (ap (λ b. b && is_word word.Else (peek rest)) (sym (more_told e es []) ∙ if_takes (t, e ∷ es) []) ∙ h) in
    stop_made elses (first_turn t) e es names rest w.1 (ap (λ b. b && is_word word.Else (peek rest)) (left_last (first_turn t) e es) ∙ w.0)

if_node : Node (quieted if_form) if_of stmt_form
if_node = record {
  good = λ names t g.
      let names1 : Names = names ++ (condition_level t.0.0.1 names).1 in
      ap (λ r. r.0.good) (stmt_level-If t.0.0.0 t.0.0.1 t.0.1 t.1 names)
      ∙ both_are _ _ g.0.0.1 (both_are _ _ g.0.1
      (ap (λ b. chained b (in_row (map else_level t.1) (names1 ++ [])).0) (takes_told t.0.1 names1) ∙ ap (λ n. chained (takes t.0.1) (in_row (map else_level t.1) n).0) (append-nil names1) ∙ chain_told true (takes t.0.1) names1 t.1 g.1));
  parts = λ names t h.
      let names1 : Names = names ++ (condition_level t.0.0.1 names).1 in
      let a = both_true (condition_level t.0.0.1 names).0 _ (sym (ap (λ r. r.0.good) (stmt_level-If t.0.0.0 t.0.0.1 t.0.1 t.1 names)) ∙ h) in
      let b = both_true (stmt_level t.0.1 names1).0.good _ a.1 in (
        ((tt, a.0), b.0),
        chain_is true (takes t.0.1) names1 t.1 refl
            (sym (ap (λ b. chained b (in_row (map else_level t.1) (names1 ++ [])).0) (takes_told t.0.1 names1) ∙ ap (λ n. chained (takes t.0.1) (in_row (map else_level t.1) n).0) (append-nil names1)) ∙ b.1),
      );
  nested = λ t. ap (λ d. d.alone) (stmt_nesting-If t.0.0.0 t.0.0.1 t.0.1 t.1) ∙ omega arith;
  spelt = λ t.
      stmt_spelling-If t.0.0.0 t.0.0.1 t.0.1 t.1
      ∙ ap (λ l. keyword word.If t.0.0.0 ∷ l) (sym (append_assoc (condition_spelling t.0.0.1) (stmt_spelling t.0.1) (joined (map else_spelling t.1))));
  seen = λ names t. ap (λ r. r.1) (stmt_level-If t.0.0.0 t.0.0.1 t.0.1 t.1 names);
  stop = λ names t behind rest g h. if_stop t.0 t.1 behind rest h;
  from_stop = λ names t behind rest g h. stop_if t.0 t.1 behind rest h;
}

module _ (more : ℕ) (inner : Within) (inside : Inside more inner) where
  abbrev first_reader : Parser ((Pos × Condition) × Stmt)
  first_reader = both (both (expect_word word.If) (λ at. condition more)) (λ t. body more inner)

  abbrev others_reader : (Pos × Condition) × Stmt → Parser (List Else)
  others_reader t = many_by goes_turn (reads_turn (one_else more inner)) step_turn (first_turn t)

  chained_exact : Exact if_form more (both first_reader others_reader)
  chained_exact =
      chain_exact (governed word.If) elses first_turn more first_reader (reads_turn (one_else more inner)) (governed_exact word.If more inner inside) (elses_kept more (one_else more inner) (else_exact more inner inside))
      (λ names t e rest g h st. ap (λ b. b && is_word word.Else (peek (else_spelling e ++ rest))) h.0.1)

  others_same : (i : State) → both first_reader (λ t. many_by goes_else (λ _. one_else more inner) goes_further true) i ≡ both first_reader others_reader i
  others_same i =
      bind_known first_reader _ _ i (λ t j e.
      ap (λ o. and_then o (λ es. pure (t, es))) (sym (same_elses more (one_else more inner) (else_exact more inner inside) (first_turn t) j
      ((governed_exact word.If more inner inside).sound i.0 i.1 t j e).stops)))

  pub if_exact : Exact (only (Image if_of) stmt_form) more (if_statement more inner)
  unfolding if_statement
  if_exact =
      in_scope if_form if_of more (both first_reader others_reader) _
      (λ i. four (expect_word word.If) (λ at. condition more) (λ at c. body more inner) (λ at c b. many_by goes_else (λ _. one_else more inner) goes_further true) (λ at c b others. stmt.If at c b others) i
      ∙ ap (λ o. and_then o (λ t. pure (if_of t))) (others_same i))
      chained_exact
      (λ names t rest g h. stop_any t.0 t.1 _ _ rest h) (λ names t rest g h. stop_any t.0 t.1 _ _ rest h) if_node
    where
      stop_any : (t : (Pos × Condition) × Stmt) (es : List Else) (a b : Names) (rest : Tokens) → if_form.stop (t, es) a rest → if_form.stop (t, es) b rest
      stop_any t es a b rest h = stop_if t es b rest (if_stop t es a rest h)
