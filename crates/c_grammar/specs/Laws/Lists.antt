-- Lists are read exactly where their items are.
use Rattle.std.specs.Prelude.{◌≡◌, ℕ, zero, suc, ◌≤◌, ◌<◌, max, Bool, true, false, List, [], ◌∷◌, ◌++◌, length, map, Ok, refl}
use Rattle.std.proofs.Common.{ap, sym, ◌∙◌, subst, cond, arith, append_assoc, append-nil, length-append}
use Rattle.c_tree.specs.Spelling.Tokens.{joined}
use Rattle.c_tree.specs.Levels.Names.{Names, With, in_row}
use Rattle.c_tree.specs.Nesting.OfTrees.{deepest}
use Rattle.c_grammar.specs.Input.{Tokens, State, Outcome, Parser, and_then, ◌>>=◌, pure, loop, many_by}
use Rattle.c_grammar.specs.Laws.Form.{Form, Got, Exact, bind_ok, ok_pair, subst2, both}

-- the items of a list: what was read before is told by a state
pub record Items (S X : Type 0) : Type 1 where
  pub spell : X → Tokens
  pub good : S → Names → X → Type 0
  pub adds : Names → X → Names
  pub nest : X → ℕ
  pub stop : X → Names → Tokens → Type 0
  -- the list goes on
  pub goes : S → State → Bool
  pub step : S → X → S

abbrev pub item : {S X : Type 0} → Items S X → S → Form X
item I s = record { spell = I.spell; good = I.good s; adds = I.adds; nest = I.nest; stop = I.stop }

module _ {S X : Type 0} (I : Items S X) where
  abbrev pub all_good : S → Names → List X → Type 0
  all_good s names [] = Unit {0}
  all_good s names (x ∷ xs) = I.good s names x × all_good (I.step s x) (names ++ I.adds names x) xs

  abbrev pub all_added : Names → List X → Names
  all_added names [] = []
  all_added names (x ∷ xs) = I.adds names x ++ all_added (names ++ I.adds names x) xs

  -- these tokens do not go on with the item, where it is the last
  abbrev pub last_stop : X → List X → Names → Tokens → Type 0
  last_stop x [] names rest = I.stop x names rest
  last_stop x (y ∷ ys) names rest = Unit {0}

  abbrev pub all_stop : S → List X → Names → Tokens → Type 0
  all_stop s [] names rest = I.goes s (names, rest) ≡ false
  all_stop s (x ∷ xs) names rest = last_stop x xs names rest × all_stop (I.step s x) xs names rest

  abbrev pub list : S → Form (List X)
  list s = record { spell = λ xs. joined (map I.spell xs); good = all_good s; adds = all_added; nest = λ xs. deepest (map I.nest xs); stop = all_stop s }

-- what the items of a list have to keep
pub record Kept {S X : Type 0} (I : Items S X) (more : ℕ) (reads : S → Parser X) : Type 0 where
  pub sound : (s : S) (names : Names) (ts : Tokens) (x : X) (end : State) → I.goes s (names, ts) ≡ true → reads s (names, ts) ≡ Ok (x, end) → Got (item I s) more names ts x end
  pub complete : (s : S) (names : Names) (x : X) (rest : Tokens) → I.good s names x → I.nest x ≤ more → I.stop x (names ++ I.adds names x) rest
      → reads s (names, I.spell x ++ rest) ≡ Ok (x, (names ++ I.adds names x, rest))
  -- an item begins as the list goes on
  pub starts : (s : S) (names : Names) (x : X) (rest : Tokens) → I.good s names x → I.stop x (names ++ I.adds names x) rest → I.goes s (names, I.spell x ++ rest) ≡ true
  pub ends : (s : S) (names : Names) → I.goes s (names, []) ≡ false
  -- no item goes on with the next
  pub follows : (s : S) (names : Names) (x y : X) (rest : Tokens) → I.good s names x → I.good (I.step s x) (names ++ I.adds names x) y
      → I.stop y ((names ++ I.adds names x) ++ I.adds (names ++ I.adds names x) y) rest → I.stop x (names ++ I.adds names x) (I.spell y ++ rest)
  pub some : (s : S) (names : Names) (x : X) → I.good s names x → 0 < length (I.spell x)

module _ {S X : Type 0} (I : Items S X) (more : ℕ) (reads : S → Parser X) (kept : Kept I more reads) where
  record GotMore (s : S) (names : Names) (ts : Tokens) (found out : List X) (end : State) : Type 0 where
    items : List X
    all : out ≡ found ++ items
    got : Got (list I s) more names ts items end

  nothing_more : (s : S) (names : Names) (ts : Tokens) (found out : List X) (end : State) → I.goes s (names, ts) ≡ false
      → ◌≡◌ {A = Outcome (List X)} (Ok (found, (names, ts))) (Ok (out, end)) → GotMore s names ts found out end
  nothing_more s names ts found out end e h =
      let w = ok_pair {A = List X} found out (names, ts) end h in
      subst (λ (end : State). GotMore s names ts found out end) w.1 (record {
        items = [];
        all = sym w.0 ∙ sym (append-nil found);
        got = record { good = tt; nested = omega arith; spelt = refl; seen = sym (append-nil names); stops = e };
      })

  last_got : (x : X) (xs : List X) (s : S) (names : Names) (mid : State) (end : State) → I.stop x mid.0 mid.1 → mid.1 ≡ joined (map I.spell xs) ++ end.1 → end.0 ≡ mid.0 ++ all_added I mid.0 xs → last_stop I x xs end.0 end.1
  last_got x [] s names mid end st e f =
      let n : end.0 ≡ mid.0 = f ∙ append-nil mid.0 in
      subst (λ r. I.stop x end.0 r) e (subst (λ n. I.stop x n mid.1) (sym n) st)
  last_got x (y ∷ ys) s names mid end st e f = tt

  one_more : (s : S) (names : Names) (ts : Tokens) (found : List X) (x : X) (mid : State) (out : List X) (end : State) → Got (item I s) more names ts x mid
      → GotMore (I.step s x) mid.0 mid.1 (found ++ x ∷ []) out end → GotMore s names ts found out end
  one_more s names ts found x mid out end g m =
      let xs : List X = m.items in
      let names1 : Names = names ++ I.adds names x in
      let r = m.got in
      let deep = r.nested in
      let own = g.nested in
      let seen1 : end.0 ≡ names1 ++ all_added I names1 xs = subst (λ n. end.0 ≡ n ++ all_added I n xs) g.seen r.seen in
      record {
        items = x ∷ xs;
        all = m.all ∙ append_assoc found (x ∷ []) xs;
        got = record {
          good = (g.good, subst (λ n. all_good I (I.step s x) n xs) g.seen r.good);
          nested = omega arith;
          spelt = g.spelt ∙ ap (λ l. I.spell x ++ l) r.spelt ∙ sym (append_assoc (I.spell x) (joined (map I.spell xs)) end.1);
          seen = seen1 ∙ append_assoc names (I.adds names x) (all_added I names1 xs);
          stops = (last_got x xs s names mid end g.stops r.spelt r.seen, r.stops);
        };
      }

  abbrev turns : ℕ → S → List X → Parser (List X)
  turns n s found = loop I.goes reads I.step n s found

  turn : (n : ℕ) (ih : (s : S) (names : Names) (ts : Tokens) (found out : List X) (end : State) → length ts ≤ n → turns n s found (names, ts) ≡ Ok (out, end) → GotMore s names ts found out end)
      → (s : S) (names : Names) (ts : Tokens) (found out : List X) (end : State) → length ts ≤ suc n → (b : Bool) → I.goes s (names, ts) ≡ b
      → cond b (and_then (reads s (names, ts)) (λ x. turns n (I.step s x) (found ++ x ∷ []))) (Ok (found, (names, ts))) ≡ Ok (out, end) → GotMore s names ts found out end
  turn n ih s names ts found out end short true e h =
      let b = bind_ok (reads s (names, ts)) (λ x. turns n (I.step s x) (found ++ x ∷ [])) (out, end) h in
      let x : X = b.0.0 in
      let mid : State = b.0.1 in
      let g = kept.sound s names ts x mid e b.1 in
      let some = kept.some s names x g.good in
      let len : length mid.1 ≤ n = omega (arith, ap length g.spelt, length-append (I.spell x) mid.1) in
      one_more s names ts found x mid out end g (ih (I.step s x) mid.0 mid.1 (found ++ x ∷ []) out end len b.2)
  turn n ih s names ts found out end short false e h = nothing_more s names ts found out end e h

  loop_sound : (n : ℕ) (s : S) (names : Names) (ts : Tokens) (found out : List X) (end : State) → length ts ≤ n → turns n s found (names, ts) ≡ Ok (out, end) → GotMore s names ts found out end
  unfolding loop
  loop_sound zero s names [] found out end short h = nothing_more s names [] found out end (kept.ends s names) h
  loop_sound zero s names (t ∷ ts) found out end short h = absurd (omega arith)
  loop_sound (suc n) s names ts found out end short h = turn n (loop_sound n) s names ts found out end short (I.goes s (names, ts)) refl h

  -- ---- what is of the form is read back

  -- what follows the first item does not go on with it
  head_stop : (s : S) (names : Names) (x : X) (xs : List X) (rest : Tokens) → I.good s names x → all_good I (I.step s x) (names ++ I.adds names x) xs
      → all_stop I s (x ∷ xs) ((names ++ I.adds names x) ++ all_added I (names ++ I.adds names x) xs) rest → I.stop x (names ++ I.adds names x) (joined (map I.spell xs) ++ rest)
  head_stop s names x [] rest g gs st = subst (λ n. I.stop x n rest) (append-nil (names ++ I.adds names x)) st.0
  head_stop s names x (y ∷ ys) rest g gs st =
      let names1 : Names = names ++ I.adds names x in
      let names2 : Names = names1 ++ I.adds names1 y in
      let st1 : all_stop I (I.step s x) (y ∷ ys) (names2 ++ all_added I names2 ys) rest =
      subst (λ n. all_stop I (I.step s x) (y ∷ ys) n rest) (sym (append_assoc names1 (I.adds names1 y) (all_added I names2 ys))) st.1 in
      let next = head_stop (I.step s x) names1 y ys rest gs.0 gs.1 st1 in
      subst (λ l. I.stop x names1 l) (sym (append_assoc (I.spell y) (joined (map I.spell ys)) rest)) (kept.follows s names x y (joined (map I.spell ys) ++ rest) g gs.0 next)

  turned : (s : S) (names : Names) (found : List X) (x : X) (n : ℕ) (tail ts : Tokens) (mid : State) (answer : Outcome (List X)) → ts ≡ I.spell x ++ tail → I.goes s (names, I.spell x ++ tail) ≡ true
      → reads s (names, I.spell x ++ tail) ≡ Ok (x, mid) → turns n (I.step s x) (found ++ x ∷ []) mid ≡ answer
      → cond (I.goes s (names, ts)) (and_then (reads s (names, ts)) (λ x. turns n (I.step s x) (found ++ x ∷ []))) (Ok (found, (names, ts))) ≡ answer
  turned s names found x n tail ts mid answer c go it m = rw (c, go, it) m

  loop_complete : (n : ℕ) (s : S) (names : Names) (found xs : List X) (rest : Tokens) → length xs ≤ n → all_good I s names xs → deepest (map I.nest xs) ≤ more
      → all_stop I s xs (names ++ all_added I names xs) rest
      → turns n s found (names, joined (map I.spell xs) ++ rest) ≡ Ok (found ++ xs, (names ++ all_added I names xs, rest))
  unfolding loop
  loop_complete zero s names found [] rest short g d st =
      let end : List X → Names → Outcome (List X) = λ l n. Ok (l, (n, rest)) in
      ap (λ l. end l names) (sym (append-nil found)) ∙ ap (λ n. end (found ++ []) n) (sym (append-nil names))
  loop_complete (suc n) s names found [] rest short g d st =
      let end : List X → Names → Outcome (List X) = λ l n. Ok (l, (n, rest)) in
      let e : I.goes s (names, rest) ≡ false = subst (λ m. I.goes s (m, rest) ≡ false) (append-nil names) st in
      rw e (ap (λ l. end l names) (sym (append-nil found)) ∙ ap (λ n. end (found ++ []) n) (sym (append-nil names)))
  loop_complete zero s names found (x ∷ xs) rest short g d st = absurd (omega arith)
  loop_complete (suc n) s names found (x ∷ xs) rest short g d st =
      let names1 : Names = names ++ I.adds names x in
      let tail : Tokens = joined (map I.spell xs) ++ rest in
      let same : names ++ (I.adds names x ++ all_added I names1 xs) ≡ names1 ++ all_added I names1 xs = sym (append_assoc names (I.adds names x) (all_added I names1 xs)) in
      let st1 : all_stop I s (x ∷ xs) (names1 ++ all_added I names1 xs) rest = subst (λ n. all_stop I s (x ∷ xs) n rest) same st in
      let first = head_stop s names x xs rest g.0 g.1 st1 in
      let here : I.nest x ≤ more = omega arith in
      let deep : deepest (map I.nest xs) ≤ more = omega arith in
      let it = kept.complete s names x tail g.0 here first in
      let m = loop_complete n (I.step s x) names1 (found ++ x ∷ []) xs rest (omega arith) g.1 deep st1.1 in
      let end : List X → Names → Outcome (List X) = λ l n. Ok (l, (n, rest)) in
      let m1 : turns n (I.step s x) (found ++ x ∷ []) (names1, tail) ≡ end (found ++ x ∷ xs) (names ++ (I.adds names x ++ all_added I names1 xs)) =
      m ∙ ap (λ l. end l (names1 ++ all_added I names1 xs)) (append_assoc found (x ∷ []) xs) ∙ ap (λ n. end (found ++ x ∷ xs) n) (sym same) in
      turned s names found x n tail ((I.spell x ++ joined (map I.spell xs)) ++ rest) (names1, tail) _ (append_assoc (I.spell x) (joined (map I.spell xs)) rest) (kept.starts s names x tail g.0 first) it m1

  -- there are no more items than tokens
  enough : (s : S) (names : Names) (xs : List X) (rest : Tokens) → all_good I s names xs → length xs ≤ length (joined (map I.spell xs) ++ rest)
  enough s names [] rest g = omega arith
  enough s names (x ∷ xs) rest g =
      let a = enough (I.step s x) (names ++ I.adds names x) xs rest g.1 in
      let c : (I.spell x ++ joined (map I.spell xs)) ++ rest ≡ I.spell x ++ (joined (map I.spell xs) ++ rest) = append_assoc (I.spell x) (joined (map I.spell xs)) rest in
      omega (arith, ap length c, length-append (I.spell x) (joined (map I.spell xs) ++ rest), kept.some s names x g.0)

  pub list_exact : (s : S) → Exact (list I s) more (many_by I.goes reads I.step s)
  list_exact s = record {
    sound = λ names ts out end h.
        let m = loop_sound (length ts) s names ts [] out end (omega arith) h in
        subst (λ l. Got (list I s) more names ts l end) (sym m.all) m.got;
    complete = λ names xs rest g d st. loop_complete (length (joined (map I.spell xs) ++ rest)) s names [] xs rest (enough s names xs rest g) g d st;
  }

  -- a list that has no token has no item
  pub list_quiet : (s : S) (names : Names) (xs : List X) → all_good I s names xs → joined (map I.spell xs) ≡ [] → all_added I names xs ≡ []
  list_quiet s names [] g e = refl
  list_quiet s names (x ∷ xs) g e = absurd (let a = kept.some s names x g.0 in omega (arith, ap length e, length-append (I.spell x) (joined (map I.spell xs)), a))

-- ---- what may stand behind a list

module _ {S X : Type 0} (I : Items S X) where
  -- what was told of the items, to the end
  abbrev pub left : S → List X → S
  left s [] = s
  left s (x ∷ xs) = left (I.step s x) xs

  abbrev pub last_of : X → List X → X
  last_of x [] = x
  last_of x (y ∷ ys) = last_of y ys

  pub stop_goes : (s : S) (xs : List X) (names : Names) (rest : Tokens) → all_stop I s xs names rest → I.goes (left s xs) (names, rest) ≡ false
  stop_goes s [] names rest h = h
  stop_goes s (x ∷ xs) names rest h = stop_goes (I.step s x) xs names rest h.1

  pub stop_last : (s : S) (x : X) (xs : List X) (names : Names) (rest : Tokens) → all_stop I s (x ∷ xs) names rest → I.stop (last_of x xs) names rest
  stop_last s x [] names rest h = h.0
  stop_last s x (y ∷ ys) names rest h = stop_last (I.step s x) y ys names rest h.1

  pub stop_made : (s : S) (x : X) (xs : List X) (names : Names) (rest : Tokens) → I.stop (last_of x xs) names rest → I.goes (left s (x ∷ xs)) (names, rest) ≡ false → all_stop I s (x ∷ xs) names rest
  stop_made s x [] names rest a b = (a, b)
  stop_made s x (y ∷ ys) names rest a b = (tt, stop_made (I.step s x) y ys names rest a b)

-- what is told of trees in a row, and what they declare
pub added_in_row : {S X Y : Type 0} (I : Items S X) (told : X → With Y) → ((names : Names) (x : X) → I.adds names x ≡ (told x names).1)
    → (names : Names) (xs : List X) → all_added I names xs ≡ (in_row (map told xs) names).1
added_in_row I told same names [] = refl
added_in_row I told same names (x ∷ xs) =
    ap (λ l. l ++ all_added I (names ++ l) xs) (same names x) ∙ ap (λ l. (told x names).1 ++ l) (added_in_row I told same (names ++ (told x names).1) xs)

-- ---- what stands first, and a list behind it

module _ {A S X : Type 0} (F : Form A) (I : Items S X) (start : A → S) where
  -- where the list is empty, what stands first is last
  abbrev pub chain_stop : A → List X → Names → Tokens → Type 0
  chain_stop a [] names rest = F.stop a names rest × I.goes (start a) (names, rest) ≡ false
  chain_stop a (x ∷ xs) names rest = all_stop I (start a) (x ∷ xs) names rest

  abbrev pub chain : Form (A × List X)
  chain = record {
    spell = λ t. F.spell t.0 ++ joined (map I.spell t.1);
    good = λ names t. F.good names t.0 × all_good I (start t.0) (names ++ F.adds names t.0) t.1;
    adds = λ names t. F.adds names t.0 ++ all_added I (names ++ F.adds names t.0) t.1;
    nest = λ t. max (F.nest t.0) (deepest (map I.nest t.1));
    stop = λ t names rest. chain_stop t.0 t.1 names rest;
  }

  module _ (more : ℕ) (p : Parser A) (reads : S → Parser X) (first : Exact F more p) (kept : Kept I more reads)
      (follow : (names : Names) (a : A) (x : X) (rest : Tokens) → F.good names a → I.good (start a) (names ++ F.adds names a) x
      → I.stop x ((names ++ F.adds names a) ++ I.adds (names ++ F.adds names a) x) rest → F.stop a (names ++ F.adds names a) (I.spell x ++ rest)) where
    abbrev reader : Parser (A × List X)
    reader = both p (λ a. many_by I.goes reads I.step (start a))

    ends : (a : A) (xs : List X) (mid end : State) → F.stop a mid.0 mid.1 → mid.1 ≡ joined (map I.spell xs) ++ end.1 → end.0 ≡ mid.0 ++ all_added I mid.0 xs
        → all_stop I (start a) xs end.0 end.1 → chain_stop a xs end.0 end.1
    ends a [] mid end st e f g = (subst (λ n. F.stop a n end.1) (sym (f ∙ append-nil mid.0)) (subst (λ r. F.stop a mid.0 r) e st), g)
    ends a (x ∷ xs) mid end st e f g = g

    chain_sound : (names : Names) (ts : Tokens) (t : A × List X) (s : State) → reader (names, ts) ≡ Ok (t, s) → Got chain more names ts t s
    chain_sound names ts t s h =
        let b = bind_ok (p (names, ts)) _ _ h in
        let x : A = b.0.0 in
        let mid : State = b.0.1 in
        let f = first.sound names ts x mid b.1 in
        let c = bind_ok (many_by I.goes reads I.step (start x) mid) _ _ b.2 in
        let y : List X = c.0.0 in
        let end : State = c.0.1 in
        let g = (list_exact I more reads kept (start x)).sound mid.0 mid.1 y end c.1 in
        let w = ok_pair {A = A × List X} (x, y) t end s c.2 in
        let names1 : Names = names ++ F.adds names x in
        let good1 : all_good I (start x) names1 y = subst (λ n. all_good I (start x) n y) f.seen g.good in
        let seen1 : end.0 ≡ names1 ++ all_added I names1 y = subst (λ n. end.0 ≡ n ++ all_added I n y) f.seen g.seen in
        let m = f.nested in
        let k = g.nested in
        let whole : Got chain more names ts (x, y) end = record {
          good = (f.good, good1);
          nested = omega arith;
          spelt = f.spelt ∙ ap (λ l. F.spell x ++ l) g.spelt ∙ sym (append_assoc (F.spell x) (joined (map I.spell y)) end.1);
          seen = seen1 ∙ append_assoc names (F.adds names x) (all_added I names1 y);
          stops = ends x y mid end f.stops g.spelt g.seen g.stops;
        } in
        subst2 (λ (t : A × List X) (s : State). Got chain more names ts t s) w.0 w.1 whole

    all_stops : (a : A) (xs : List X) (names : Names) (rest : Tokens) → chain_stop a xs names rest → all_stop I (start a) xs names rest
    all_stops a [] names rest st = st.1
    all_stops a (x ∷ xs) names rest st = st

    first_stops : (names : Names) (a : A) (xs : List X) (rest : Tokens) → F.good names a → all_good I (start a) (names ++ F.adds names a) xs
        → chain_stop a xs ((names ++ F.adds names a) ++ all_added I (names ++ F.adds names a) xs) rest → F.stop a (names ++ F.adds names a) (joined (map I.spell xs) ++ rest)
    first_stops names a [] rest g gs st = subst (λ n. F.stop a n rest) (append-nil (names ++ F.adds names a)) st.0
    first_stops names a (x ∷ xs) rest g gs st =
        let names1 : Names = names ++ F.adds names a in
        let names2 : Names = names1 ++ I.adds names1 x in
        let st1 : all_stop I (start a) (x ∷ xs) (names2 ++ all_added I names2 xs) rest =
        subst (λ n. all_stop I (start a) (x ∷ xs) n rest) (sym (append_assoc names1 (I.adds names1 x) (all_added I names2 xs))) st in
        let next = head_stop I more reads kept (start a) names1 x xs rest gs.0 gs.1 st1 in
        subst (λ l. F.stop a names1 l) (sym (append_assoc (I.spell x) (joined (map I.spell xs)) rest)) (follow names a x (joined (map I.spell xs) ++ rest) g gs.0 next)

    chain_complete : (names : Names) (t : A × List X) (rest : Tokens) → chain.good names t → chain.nest t ≤ more → chain.stop t (names ++ chain.adds names t) rest
        → reader (names, chain.spell t ++ rest) ≡ Ok (t, (names ++ chain.adds names t, rest))
    chain_complete names t rest good deep stops =
        let a : A = t.0 in
        let b : List X = t.1 in
        let names1 : Names = names ++ F.adds names a in
        let last : Names = names1 ++ all_added I names1 b in
        let same : names ++ (F.adds names a ++ all_added I names1 b) ≡ last = sym (append_assoc names (F.adds names a) (all_added I names1 b)) in
        let stop1 : chain_stop a b last rest = subst (λ n. chain_stop a b n rest) same stops in
        let tail : Tokens = joined (map I.spell b) ++ rest in
        let m : F.nest a ≤ more = omega arith in
        let k : deepest (map I.nest b) ≤ more = omega arith in
        let f = first.complete names a tail good.0 m (first_stops names a b rest good.0 good.1 stop1) in
        let g = (list_exact I more reads kept (start a)).complete names1 b rest good.1 k (all_stops a b last rest stop1) in
        let split : (F.spell a ++ joined (map I.spell b)) ++ rest ≡ F.spell a ++ tail = append_assoc (F.spell a) (joined (map I.spell b)) rest in
        let made : List X → State → Outcome (A × List X) = λ b i. Ok ((a, b), i) in
        let end : Names → Outcome (A × List X) = λ n. Ok ((a, b), (n, rest)) in
        ap (λ (l : Tokens). reader (names, l)) split ∙ ap (λ o. and_then o (λ a. many_by I.goes reads I.step (start a) >>= (λ b. pure (a, b)))) f
        ∙ ap (λ o. and_then o made) g ∙ ap end (sym same)

    pub chain_exact : Exact chain more reader
    chain_exact = record { sound = chain_sound; complete = chain_complete }
