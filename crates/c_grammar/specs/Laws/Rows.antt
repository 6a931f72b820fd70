-- What stands in a row where a part declares nothing, and what stands in brackets.
use Rattle.std.specs.Prelude.{◌≡◌, ℕ, ◌+◌, max, [], ◌∷◌, ◌++◌, Ok, refl}
use Rattle.std.proofs.Common.{ap, sym, ◌∙◌, subst, append-nil}
use Rattle.c_tree.specs.declared.token.Pos.{Pos}
use Rattle.c_tree.specs.declared.token.Punct.{Punct}
use Rattle.c_tree.specs.Spelling.Tokens.{punct}
use Rattle.c_tree.specs.Levels.Names.{Names}
use Rattle.c_grammar.specs.Input.{Tokens, Parser, expect, opening}
use Rattle.c_grammar.specs.Laws.Form.{Form, Exact, both, seq, seq_exact}
use Rattle.c_grammar.specs.Laws.Single.{opening_form, opening_exact, mark_form, expect_exact}

abbrev pub Quiet : {A : Type 0} → Form A → Type 0
Quiet {A} F = (names : Names) (a : A) → F.adds names a ≡ []

-- ---- the first declares nothing

abbrev pub pre : {A B : Type 0} → Form A → (A → Form B) → Form (A × B)
pre F G = record {
  spell = λ t. F.spell t.0 ++ (G t.0).spell t.1;
  good = λ names t. F.good names t.0 × (G t.0).good names t.1;
  adds = λ names t. (G t.0).adds names t.1;
  nest = λ t. max (F.nest t.0) ((G t.0).nest t.1);
  stop = λ t names rest. (G t.0).stop t.1 names rest;
}

module _ {A B : Type 0} (F : Form A) (G : A → Form B) (more : ℕ) (p : Parser A) (q : A → Parser B) (quiet : Quiet F) (first : Exact F more p) (second : (a : A) → Exact (G a) more (q a))
    (follow : (names : Names) (a : A) (b : B) (rest : Tokens) → F.good names a → (G a).good names b → (G a).stop b (names ++ (G a).adds names b) rest → F.stop a names ((G a).spell b ++ rest)) where
  same_names : (names : Names) (a : A) → names ++ F.adds names a ≡ names
  same_names names a = ap (λ l. names ++ l) (quiet names a) ∙ append-nil names

  whole : Exact (seq F G) more (both p q)
  whole = seq_exact F G more p q first second (λ names a b rest g h s.
      subst (λ n. F.stop a n ((G a).spell b ++ rest)) (sym (same_names names a))
      (follow names a b rest g (subst (λ n. (G a).good n b) (same_names names a) h) (subst (λ n. (G a).stop b (n ++ (G a).adds n b) rest) (same_names names a) s)))

  pre_adds : (names : Names) (t : A × B) → (seq F G).adds names t ≡ (pre F G).adds names t
  pre_adds names t = ap (λ l. l ++ (G t.0).adds (names ++ l) t.1) (quiet names t.0) ∙ ap (λ n. (G t.0).adds n t.1) (append-nil names)

  pub pre_exact : Exact (pre F G) more (both p q)
  pre_exact = record {
    sound = λ names ts t s h.
        let g = whole.sound names ts t s h in
        record {
          good = (g.good.0, subst (λ n. (G t.0).good n t.1) (same_names names t.0) g.good.1);
          nested = g.nested;
          spelt = g.spelt;
          seen = g.seen ∙ ap (λ l. names ++ l) (pre_adds names t);
          stops = g.stops;
        };
    complete = λ names t rest g n s.
        subst (λ l. both p q (names, (pre F G).spell t ++ rest) ≡ Ok (t, (names ++ l, rest))) (pre_adds names t)
        (whole.complete names t rest (g.0, subst (λ n. (G t.0).good n t.1) (sym (same_names names t.0)) g.1) n
        (subst (λ l. (G t.0).stop t.1 (names ++ l) rest) (sym (pre_adds names t)) s));
  }

-- ---- the second declares nothing

abbrev pub post : {A B : Type 0} → Form A → (A → Form B) → Form (A × B)
post F G = record {
  spell = λ t. F.spell t.0 ++ (G t.0).spell t.1;
  good = λ names t. F.good names t.0 × (G t.0).good (names ++ F.adds names t.0) t.1;
  adds = λ names t. F.adds names t.0;
  nest = λ t. max (F.nest t.0) ((G t.0).nest t.1);
  stop = λ t names rest. (G t.0).stop t.1 names rest;
}

module _ {A B : Type 0} (F : Form A) (G : A → Form B) (more : ℕ) (p : Parser A) (q : A → Parser B) (quiet : (a : A) → Quiet (G a)) (first : Exact F more p) (second : (a : A) → Exact (G a) more (q a))
    (follow : (names : Names) (a : A) (b : B) (rest : Tokens) → F.good names a → (G a).good (names ++ F.adds names a) b → (G a).stop b (names ++ F.adds names a) rest → F.stop a (names ++ F.adds names a) ((G a).spell b ++ rest)) where
  post_adds : (names : Names) (t : A × B) → (seq F G).adds names t ≡ F.adds names t.0
  post_adds names t = ap (λ l. F.adds names t.0 ++ l) (quiet t.0 (names ++ F.adds names t.0) t.1) ∙ append-nil (F.adds names t.0)

  all_of : Exact (seq F G) more (both p q)
  all_of = seq_exact F G more p q first second (λ names a b rest g h s.
      let names1 : Names = names ++ F.adds names a in
      let e : names1 ++ (G a).adds names1 b ≡ names1 = ap (λ l. names1 ++ l) (quiet a names1 b) ∙ append-nil names1 in
      follow names a b rest g h (subst (λ n. (G a).stop b n rest) e s))

  pub post_exact : Exact (post F G) more (both p q)
  post_exact = record {
    sound = λ names ts t s h.
        let g = all_of.sound names ts t s h in
        record { good = g.good; nested = g.nested; spelt = g.spelt; seen = g.seen ∙ ap (λ l. names ++ l) (post_adds names t); stops = g.stops };
    complete = λ names t rest g n s.
        subst (λ l. both p q (names, (post F G).spell t ++ rest) ≡ Ok (t, (names ++ l, rest))) (post_adds names t)
        (all_of.complete names t rest g n (subst (λ l. (G t.0).stop t.1 (names ++ l) rest) (sym (post_adds names t)) s));
  }

-- ---- in brackets

-- what stands in brackets is nested more deeply
abbrev pub deeper : {A : Type 0} → Form A → Form A
deeper F = record { spell = F.spell; good = F.good; adds = F.adds; nest = λ a. F.nest a + 1; stop = F.stop }

-- a mark behind what it does not go on with
abbrev pub closed : {A : Type 0} → Form A → Punct → Form (A × Pos)
closed F to = post F (λ _. mark_form to)

abbrev pub Closes : {A : Type 0} → Form A → Punct → Type 0
Closes {A} F to = (names : Names) (a : A) (at : Pos) (rest : Tokens) → F.good names a → F.stop a (names ++ F.adds names a) (punct to at ∷ rest)

pub closed_exact : {A : Type 0} (F : Form A) (to : Punct) (more : ℕ) (p : Parser A) → Exact F more p → Closes F to → Exact (closed F to) more (both p (λ _. expect to))
closed_exact F to more p exact closes =
    post_exact F (λ _. mark_form to) more p (λ _. expect to) (λ a names at. refl) exact (λ _. expect_exact to more) (λ names a at rest g h s. closes names a at rest g)

-- an opening bracket, and what stands behind it
abbrev pub opened : {A : Type 0} → Punct → Form A → Form (Pos × A)
opened from F = pre (opening_form from) (λ _. F)

pub opened_exact : {A : Type 0} (from : Punct) (F : Form A) (more : ℕ) (p : Parser A) → Exact F more p → Exact (opened from F) more (both (opening more from) (λ _. p))
opened_exact from F more p exact =
    pre_exact (opening_form from) (λ _. F) more (opening more from) (λ _. p) (λ names at. refl) (opening_exact from more) (λ _. exact) (λ names at a rest g h s. tt)

abbrev pub bracketed : {A : Type 0} → Punct → Form A → Punct → Form ((Pos × A) × Pos)
bracketed from F to = closed (opened from F) to

pub bracketed_exact : {A : Type 0} (from : Punct) (F : Form A) (to : Punct) (more : ℕ) (p : Parser A) → Exact F more p → Closes F to
    → Exact (bracketed from F to) more (both (both (opening more from) (λ _. p)) (λ _. expect to))
bracketed_exact from F to more p exact closes =
    closed_exact (opened from F) to more (both (opening more from) (λ _. p)) (opened_exact from F more p exact) (λ names t at rest g. closes names t.1 at rest g.1)
