-- What a parser reads, exactly: the trees of a form, each by its spelling, up to where the tokens do not go on with it.
use Rattle.std.specs.Prelude.{◌≡◌, ℕ, ◌≤◌, max, Bool, true, false, if◌then◌else◌, [], ◌∷◌, ◌++◌, Ok, Err, refl}
use Rattle.std.proofs.Common.{ap, sym, ◌∙◌, subst, cond, arith, append_assoc, append-nil, ◌⊎◌, inl, inr}
use Rattle.c_tree.specs.declared.token.Token.{Token}
use Rattle.c_tree.specs.Levels.Names.{Names}
use Rattle.c_grammar.specs.Input.{Tokens, State, Outcome, Parser, and_then, ◌>>=◌, pure, refuse, choose, declare, enclosed}

pub record Form (A : Type 0) : Type 1 where
  -- its tokens
  pub spell : A → Tokens
  -- it is as the grammar has it, where these names are visible
  pub good : Names → A → Type 0
  -- the names that it declares for what stands behind it
  pub adds : Names → A → Names
  -- how deep it nests
  pub nest : A → ℕ
  -- with these names behind it, these tokens do not go on with it
  pub stop : A → Names → Tokens → Type 0

-- `x` was read, and the state behind it
pub record Got {A : Type 0} (F : Form A) (more : ℕ) (names : Names) (ts : Tokens) (x : A) (s : State) : Type 0 where
  pub good : F.good names x
  pub nested : F.nest x ≤ more
  pub spelt : ts ≡ F.spell x ++ s.1
  pub seen : s.0 ≡ names ++ F.adds names x
  pub stops : F.stop x s.0 s.1

-- the parser reads what is of the form and nests no deeper than this, and nothing else
pub record Exact {A : Type 0} (F : Form A) (more : ℕ) (reads : Parser A) : Type 0 where
  pub sound : (names : Names) (ts : Tokens) (x : A) (s : State) → reads (names, ts) ≡ Ok (x, s) → Got F more names ts x s
  pub complete : (names : Names) (x : A) (rest : Tokens) → F.good names x → F.nest x ≤ more → F.stop x (names ++ F.adds names x) rest
      → reads (names, F.spell x ++ rest) ≡ Ok (x, (names ++ F.adds names x, rest))

-- ---- outcomes

pub bind_ok : {A B : Type 0} (r : Outcome A) (f : A → Parser B) (y : B × State) → and_then r f ≡ Ok y → (p : A × State) × (r ≡ Ok p) × (f p.0 p.1 ≡ Ok y)
bind_ok (Ok p) f y h = (p, refl, h)
bind_ok (Err e) f y h = absurd cc

pub ok_pair : {A : Type 0} (a b : A) (i j : State) → ◌≡◌ {A = Outcome A} (Ok (a, i)) (Ok (b, j)) → (a ≡ b) × (i ≡ j)
ok_pair {A} a b i j h = let e : ◌≡◌ {A = A × State} (a, i) (b, j) = cc in (ap (λ (p : A × State). p.0) e, ap (λ (p : A × State). p.1) e)

-- ---- one after another

abbrev pub both : {A B : Type 0} → Parser A → (A → Parser B) → Parser (A × B)
both p q = p >>= (λ a. q a >>= (λ b. pure (a, b)))

abbrev pub seq : {A B : Type 0} → Form A → (A → Form B) → Form (A × B)
seq F G = record {
  spell = λ t. F.spell t.0 ++ (G t.0).spell t.1;
  good = λ names t. F.good names t.0 × (G t.0).good (names ++ F.adds names t.0) t.1;
  adds = λ names t. F.adds names t.0 ++ (G t.0).adds (names ++ F.adds names t.0) t.1;
  nest = λ t. max (F.nest t.0) ((G t.0).nest t.1);
  stop = λ t names rest. (G t.0).stop t.1 names rest;
}

-- what comes next does not go on with what came first
abbrev pub Follow : {A B : Type 0} → Form A → (A → Form B) → Type 0
Follow {A} {B} F G = (names : Names) (a : A) (b : B) (rest : Tokens) → F.good names a → (G a).good (names ++ F.adds names a) b
    → (G a).stop b ((names ++ F.adds names a) ++ (G a).adds (names ++ F.adds names a) b) rest → F.stop a (names ++ F.adds names a) ((G a).spell b ++ rest)

pub subst2 : {A B : Type 0} (P : A → B → Type 0) {a b : A} {c d : B} → a ≡ b → c ≡ d → P a c → P b d
subst2 P {a} {b} {c} {d} e f h = subst (λ y. P b y) f (subst (λ x. P x c) e h)

module _ {A B : Type 0} (F : Form A) (G : A → Form B) (more : ℕ) (p : Parser A) (q : A → Parser B) (first : Exact F more p) (second : (a : A) → Exact (G a) more (q a)) where
  seq_sound : (names : Names) (ts : Tokens) (t : A × B) (s : State) → both p q (names, ts) ≡ Ok (t, s) → Got (seq F G) more names ts t s
  seq_sound names ts t s h =
      let b = bind_ok (p (names, ts)) _ _ h in
      let x : A = b.0.0 in
      let mid : State = b.0.1 in
      let f = first.sound names ts x mid b.1 in
      let c = bind_ok (q x mid) _ _ b.2 in
      let y : B = c.0.0 in
      let end : State = c.0.1 in
      let g = (second x).sound mid.0 mid.1 y end c.1 in
      let e : (x, y) ≡ t = (ok_pair {A = A × B} (x, y) t end s c.2).0 in
      let r : end ≡ s = (ok_pair {A = A × B} (x, y) t end s c.2).1 in
      let names1 : Names = names ++ F.adds names x in
      let good1 : (G x).good names1 y = subst (λ n. (G x).good n y) f.seen g.good in
      let seen1 : end.0 ≡ names1 ++ (G x).adds names1 y = subst (λ n. end.0 ≡ n ++ (G x).adds n y) f.seen g.seen in
      let m = f.nested in
      let k = g.nested in
      let whole : Got (seq F G) more names ts (x, y) end = record {
        good = (f.good, good1);
        nested = omega arith;
        spelt = f.spelt ∙ ap (λ l. F.spell x ++ l) g.spelt ∙ sym (append_assoc (F.spell x) ((G x).spell y) end.1);
        seen = seen1 ∙ append_assoc names (F.adds names x) ((G x).adds names1 y);
        stops = g.stops;
      } in
      subst2 (λ (t : A × B) (s : State). Got (seq F G) more names ts t s) e r whole

  seq_complete : Follow F G → (names : Names) (t : A × B) (rest : Tokens) → (seq F G).good names t → (seq F G).nest t ≤ more → (seq F G).stop t (names ++ (seq F G).adds names t) rest
      → both p q (names, (seq F G).spell t ++ rest) ≡ Ok (t, (names ++ (seq F G).adds names t, rest))
  seq_complete follow names t rest good deep stops =
      let a : A = t.0 in
      let b : B = t.1 in
      let names1 : Names = names ++ F.adds names a in
      let last : Names = names1 ++ (G a).adds names1 b in
      let same : names ++ (F.adds names a ++ (G a).adds names1 b) ≡ last = sym (append_assoc names (F.adds names a) ((G a).adds names1 b)) in
      let stop1 : (G a).stop b last rest = subst (λ n. (G a).stop b n rest) same stops in
      let tail : Tokens = (G a).spell b ++ rest in
      let m : F.nest a ≤ more = omega arith in
      let k : (G a).nest b ≤ more = omega arith in
      let f = first.complete names a tail good.0 m (follow names a b rest good.0 good.1 stop1) in
      let g = (second a).complete names1 b rest good.1 k stop1 in
      let split : (F.spell a ++ (G a).spell b) ++ rest ≡ F.spell a ++ tail = append_assoc (F.spell a) ((G a).spell b) rest in
      let made : B → State → Outcome (A × B) = λ b i. Ok ((a, b), i) in
      let end : Names → Outcome (A × B) = λ n. Ok ((a, b), (n, rest)) in
      ap (λ (l : Tokens). both p q (names, l)) split ∙ ap (λ o. and_then o (λ a. q a >>= (λ b. pure (a, b)))) f
      ∙ ap (λ o. and_then o made) g ∙ ap end (sym same)

  pub seq_exact : Follow F G → Exact (seq F G) more (both p q)
  seq_exact follow = record { sound = seq_sound; complete = seq_complete follow }

-- ---- one after another, where the second may have no token

abbrev pub open_seq : {A B : Type 0} → Form A → (A → Form B) → Form (A × B)
open_seq F G = record {
  spell = λ t. F.spell t.0 ++ (G t.0).spell t.1;
  good = λ names t. F.good names t.0 × (G t.0).good (names ++ F.adds names t.0) t.1;
  adds = λ names t. F.adds names t.0 ++ (G t.0).adds (names ++ F.adds names t.0) t.1;
  nest = λ t. max (F.nest t.0) ((G t.0).nest t.1);
  stop = λ t names rest. (G t.0).stop t.1 names rest × ((G t.0).spell t.1 ≡ [] → F.stop t.0 names rest);
}

module _ {A B : Type 0} (F : Form A) (G : A → Form B) (more : ℕ) (p : Parser A) (q : A → Parser B) (first : Exact F more p) (second : (a : A) → Exact (G a) more (q a))
    (quiet : (names : Names) (a : A) (b : B) → (G a).good names b → (G a).spell b ≡ [] → (G a).adds names b ≡ [])
    (follow : (names : Names) (a : A) (b : B) (t : Token) (ts rest : Tokens) → F.good names a → (G a).good (names ++ F.adds names a) b → (G a).spell b ≡ t ∷ ts → F.stop a (names ++ F.adds names a) (t ∷ (ts ++ rest))) where
  open_sound : (names : Names) (ts : Tokens) (t : A × B) (s : State) → both p q (names, ts) ≡ Ok (t, s) → Got (open_seq F G) more names ts t s
  open_sound names ts t s h =
      let b = bind_ok (p (names, ts)) _ _ h in
      let x : A = b.0.0 in
      let mid : State = b.0.1 in
      let f = first.sound names ts x mid b.1 in
      let c = bind_ok (q x mid) _ _ b.2 in
      let y : B = c.0.0 in
      let end : State = c.0.1 in
      let g = (second x).sound mid.0 mid.1 y end c.1 in
      let w = ok_pair {A = A × B} (x, y) t end s c.2 in
      let names1 : Names = names ++ F.adds names x in
      let good1 : (G x).good names1 y = subst (λ n. (G x).good n y) f.seen g.good in
      let seen1 : end.0 ≡ names1 ++ (G x).adds names1 y = subst (λ n. end.0 ≡ n ++ (G x).adds n y) f.seen g.seen in
      let m = f.nested in
      let k = g.nested in
      let whole : Got (open_seq F G) more names ts (x, y) end = record {
        good = (f.good, good1);
        nested = omega arith;
        spelt = f.spelt ∙ ap (λ l. F.spell x ++ l) g.spelt ∙ sym (append_assoc (F.spell x) ((G x).spell y) end.1);
        seen = seen1 ∙ append_assoc names (F.adds names x) ((G x).adds names1 y);
        stops = (
          g.stops,
          λ e.
              subst (λ n. F.stop x n end.1) (sym (g.seen ∙ ap (λ l. mid.0 ++ l) (quiet mid.0 x y g.good e) ∙ append-nil mid.0))
              (subst (λ r. F.stop x mid.0 r) (g.spelt ∙ ap (λ l. l ++ end.1) e) f.stops),
        );
      } in
      subst2 (λ (t : A × B) (s : State). Got (open_seq F G) more names ts t s) w.0 w.1 whole

  first_stop : (names : Names) (a : A) (b : B) (rest ts : Tokens) → (G a).spell b ≡ ts → F.good names a → (G a).good (names ++ F.adds names a) b
      → ((G a).spell b ≡ [] → F.stop a ((names ++ F.adds names a) ++ (G a).adds (names ++ F.adds names a) b) rest) → F.stop a (names ++ F.adds names a) (ts ++ rest)
  first_stop names a b rest [] e g h st =
      let names1 : Names = names ++ F.adds names a in
      subst (λ n. F.stop a n rest) (ap (λ l. names1 ++ l) (quiet names1 a b h e) ∙ append-nil names1) (st e)
  first_stop names a b rest (t ∷ ts) e g h st = follow names a b t ts rest g h e

  open_complete : (names : Names) (t : A × B) (rest : Tokens) → (open_seq F G).good names t → (open_seq F G).nest t ≤ more → (open_seq F G).stop t (names ++ (open_seq F G).adds names t) rest
      → both p q (names, (open_seq F G).spell t ++ rest) ≡ Ok (t, (names ++ (open_seq F G).adds names t, rest))
  open_complete names t rest good deep stops =
      let a : A = t.0 in
      let b : B = t.1 in
      let names1 : Names = names ++ F.adds names a in
      let last : Names = names1 ++ (G a).adds names1 b in
      let same : names ++ (F.adds names a ++ (G a).adds names1 b) ≡ last = sym (append_assoc names (F.adds names a) ((G a).adds names1 b)) in
      let stop1 : (G a).stop b last rest × ((G a).spell b ≡ [] → F.stop a last rest) = subst (λ n. (G a).stop b n rest × ((G a).spell b ≡ [] → F.stop a n rest)) same stops in
      let tail : Tokens = (G a).spell b ++ rest in
      let m : F.nest a ≤ more = omega arith in
      let k : (G a).nest b ≤ more = omega arith in
      let f = first.complete names a tail good.0 m (first_stop names a b rest ((G a).spell b) refl good.0 good.1 stop1.1) in
      let g = (second a).complete names1 b rest good.1 k stop1.0 in
      let split : (F.spell a ++ (G a).spell b) ++ rest ≡ F.spell a ++ tail = append_assoc (F.spell a) ((G a).spell b) rest in
      let made : B → State → Outcome (A × B) = λ b i. Ok ((a, b), i) in
      let end : Names → Outcome (A × B) = λ n. Ok ((a, b), (n, rest)) in
      ap (λ (l : Tokens). both p q (names, l)) split ∙ ap (λ o. and_then o (λ a. q a >>= (λ b. pure (a, b)))) f
      ∙ ap (λ o. and_then o made) g ∙ ap end (sym same)

  pub open_exact : Exact (open_seq F G) more (both p q)
  open_exact = record { sound = open_sound; complete = open_complete }

-- ---- what is made of what was read

abbrev pub map_to : {T C : Type 0} → Parser T → (T → C) → Parser C
map_to p f = p >>= (λ t. pure (f t))

-- what is of the form and is one of these
abbrev pub only : {A : Type 0} → (A → Type 0) → Form A → Form A
only w F = record { spell = F.spell; good = λ names x. w x × F.good names x; adds = F.adds; nest = F.nest; stop = F.stop }

-- what is made by `f`
abbrev pub Image : {T C : Type 0} → (T → C) → C → Type 0
Image {T} {C} f c = (t : T) × (f t ≡ c)

-- `f` makes what is of the form H of what is of the form F
pub record Node {T C : Type 0} (F : Form T) (f : T → C) (H : Form C) : Type 0 where
  pub good : (names : Names) (t : T) → F.good names t → H.good names (f t)
  pub parts : (names : Names) (t : T) → H.good names (f t) → F.good names t
  pub nested : (t : T) → H.nest (f t) ≡ F.nest t
  pub spelt : (t : T) → H.spell (f t) ≡ F.spell t
  pub seen : (names : Names) (t : T) → H.adds names (f t) ≡ F.adds names t
  pub stop : (names : Names) (t : T) (behind : Names) (rest : Tokens) → F.good names t → F.stop t behind rest → H.stop (f t) behind rest
  pub from_stop : (names : Names) (t : T) (behind : Names) (rest : Tokens) → F.good names t → H.stop (f t) behind rest → F.stop t behind rest

module _ {T C : Type 0} (F : Form T) (f : T → C) (H : Form C) (more : ℕ) (p : Parser T) (exact : Exact F more p) (node : Node F f H) where
  node_sound : (names : Names) (ts : Tokens) (c : C) (s : State) → map_to p f (names, ts) ≡ Ok (c, s) → Got (only (Image f) H) more names ts c s
  node_sound names ts c s h =
      let b = bind_ok (p (names, ts)) _ _ h in
      let t : T = b.0.0 in
      let end : State = b.0.1 in
      let g = exact.sound names ts t end b.1 in
      let w = ok_pair {A = C} (f t) c end s b.2 in
      let n : H.nest (f t) ≤ more = subst (λ m. m ≤ more) (sym (node.nested t)) g.nested in
      let whole : Got (only (Image f) H) more names ts (f t) end = record {
        good = ((t, refl), node.good names t g.good);
        nested = n;
        spelt = g.spelt ∙ ap (λ l. l ++ end.1) (sym (node.spelt t));
        seen = g.seen ∙ ap (λ l. names ++ l) (sym (node.seen names t));
        stops = node.stop names t end.0 end.1 g.good g.stops;
      } in
      subst2 (λ (c : C) (s : State). Got (only (Image f) H) more names ts c s) w.0 w.1 whole

  node_at : (names : Names) (t : T) (rest : Tokens) → H.good names (f t) → H.nest (f t) ≤ more → H.stop (f t) (names ++ H.adds names (f t)) rest
      → map_to p f (names, H.spell (f t) ++ rest) ≡ Ok (f t, (names ++ H.adds names (f t), rest))
  node_at names t rest good deep stops =
      let g = node.parts names t good in
      let m : F.nest t ≤ more = subst (λ m. m ≤ more) (node.nested t) deep in
      let e = node.seen names t in
      let st : H.stop (f t) (names ++ F.adds names t) rest = subst (λ n. H.stop (f t) (names ++ n) rest) e stops in
      let c = exact.complete names t rest g m (node.from_stop names t (names ++ F.adds names t) rest g st) in
      let end : Names → Outcome C = λ n. Ok (f t, (names ++ n, rest)) in
      ap (λ (l : Tokens). map_to p f (names, l ++ rest)) (node.spelt t) ∙ ap (λ o. and_then o (λ t. pure (f t))) c ∙ ap end (sym e)

  node_complete : (names : Names) (c : C) (rest : Tokens) → Image f c × H.good names c → H.nest c ≤ more → H.stop c (names ++ H.adds names c) rest
      → map_to p f (names, H.spell c ++ rest) ≡ Ok (c, (names ++ H.adds names c, rest))
  node_complete names c rest g deep stops =
      let t : T = g.0.0 in
      let e : f t ≡ c = g.0.1 in
      subst (λ c. H.good names c → H.nest c ≤ more → H.stop c (names ++ H.adds names c) rest → map_to p f (names, H.spell c ++ rest) ≡ Ok (c, (names ++ H.adds names c, rest))) e
      (node_at names t rest) g.1 deep stops

  pub node_exact : Exact (only (Image f) H) more (map_to p f)
  node_exact = record { sound = node_sound; complete = node_complete }

-- `f` makes what is of the form H of what is of the form F, and each of that form is made so of one that is
pub record Split {T C : Type 0} (F : Form T) (f : T → C) (H : Form C) (names : Names) (c : C) : Type 0 where
  pub tuple : T
  pub whole : f tuple ≡ c
  pub good : F.good names tuple

pub record Joint {T C : Type 0} (F : Form T) (f : T → C) (H : Form C) : Type 0 where
  pub good : (names : Names) (t : T) → F.good names t → H.good names (f t)
  pub split : (names : Names) (c : C) → H.good names c → Split F f H names c
  pub nested : (t : T) → H.nest (f t) ≡ F.nest t
  pub spelt : (t : T) → H.spell (f t) ≡ F.spell t
  pub seen : (names : Names) (t : T) → H.adds names (f t) ≡ F.adds names t
  pub stop : (names : Names) (t : T) (behind : Names) (rest : Tokens) → F.good names t → F.stop t behind rest → H.stop (f t) behind rest
  pub from_stop : (names : Names) (t : T) (behind : Names) (rest : Tokens) → F.good names t → H.stop (f t) behind rest → F.stop t behind rest

module _ {T C : Type 0} (F : Form T) (f : T → C) (H : Form C) (more : ℕ) (p : Parser T) (exact : Exact F more p) (joint : Joint F f H) where
  joint_sound : (names : Names) (ts : Tokens) (c : C) (s : State) → map_to p f (names, ts) ≡ Ok (c, s) → Got H more names ts c s
  joint_sound names ts c s h =
      let b = bind_ok (p (names, ts)) _ _ h in
      let t : T = b.0.0 in
      let end : State = b.0.1 in
      let g = exact.sound names ts t end b.1 in
      let w = ok_pair {A = C} (f t) c end s b.2 in
      let n : H.nest (f t) ≤ more = subst (λ m. m ≤ more) (sym (joint.nested t)) g.nested in
      let whole : Got H more names ts (f t) end = record {
        good = joint.good names t g.good;
        nested = n;
        spelt = g.spelt ∙ ap (λ l. l ++ end.1) (sym (joint.spelt t));
        seen = g.seen ∙ ap (λ l. names ++ l) (sym (joint.seen names t));
        stops = joint.stop names t end.0 end.1 g.good g.stops;
      } in
      subst2 (λ (c : C) (s : State). Got H more names ts c s) w.0 w.1 whole

  joint_at : (names : Names) (t : T) (rest : Tokens) → F.good names t → H.nest (f t) ≤ more → H.stop (f t) (names ++ H.adds names (f t)) rest
      → map_to p f (names, H.spell (f t) ++ rest) ≡ Ok (f t, (names ++ H.adds names (f t), rest))
  joint_at names t rest g deep stops =
      let m : F.nest t ≤ more = subst (λ m. m ≤ more) (joint.nested t) deep in
      let e = joint.seen names t in
      let st : H.stop (f t) (names ++ F.adds names t) rest = subst (λ n. H.stop (f t) (names ++ n) rest) e stops in
      let c = exact.complete names t rest g m (joint.from_stop names t (names ++ F.adds names t) rest g st) in
      let end : Names → Outcome C = λ n. Ok (f t, (names ++ n, rest)) in
      ap (λ (l : Tokens). map_to p f (names, l ++ rest)) (joint.spelt t) ∙ ap (λ o. and_then o (λ t. pure (f t))) c ∙ ap end (sym e)

  joint_complete : (names : Names) (c : C) (rest : Tokens) → H.good names c → H.nest c ≤ more → H.stop c (names ++ H.adds names c) rest
      → map_to p f (names, H.spell c ++ rest) ≡ Ok (c, (names ++ H.adds names c, rest))
  joint_complete names c rest g deep stops =
      let d = joint.split names c g in
      subst (λ c. H.nest c ≤ more → H.stop c (names ++ H.adds names c) rest → map_to p f (names, H.spell c ++ rest) ≡ Ok (c, (names ++ H.adds names c, rest))) d.whole
      (joint_at names d.tuple rest d.good) deep stops

  pub joint_exact : Exact H more (map_to p f)
  joint_exact = record { sound = joint_sound; complete = joint_complete }

-- ---- one parser or another

module _ {A : Type 0} (w v : A → Type 0) (H : Form A) (more : ℕ) (test : State → Bool) (p q : Parser A) (left : Exact (only w H) more p) (right : Exact (only v H) more q)
    (takes : (names : Names) (x : A) (rest : Tokens) → w x → H.good names x → H.stop x (names ++ H.adds names x) rest → test (names, H.spell x ++ rest) ≡ true)
    (leaves : (names : Names) (x : A) (rest : Tokens) → v x → H.good names x → H.stop x (names ++ H.adds names x) rest → test (names, H.spell x ++ rest) ≡ false) where
  by_test : (b : Bool) (names : Names) (ts : Tokens) (x : A) (s : State) → cond b (p (names, ts)) (q (names, ts)) ≡ Ok (x, s) → Got (only (λ x. w x ⊎ v x) H) more names ts x s
  by_test true names ts x s h = let g = left.sound names ts x s h in record { good = (inl g.good.0, g.good.1); nested = g.nested; spelt = g.spelt; seen = g.seen; stops = g.stops }
  by_test false names ts x s h = let g = right.sound names ts x s h in record { good = (inr g.good.0, g.good.1); nested = g.nested; spelt = g.spelt; seen = g.seen; stops = g.stops }

  by_side : (names : Names) (x : A) (rest : Tokens) → w x ⊎ v x → H.good names x → H.nest x ≤ more → H.stop x (names ++ H.adds names x) rest
      → choose test p q (names, H.spell x ++ rest) ≡ Ok (x, (names ++ H.adds names x, rest))
  by_side names x rest (inl i) g n s =
      ap (λ b. cond b (p (names, H.spell x ++ rest)) (q (names, H.spell x ++ rest))) (takes names x rest i g s) ∙ left.complete names x rest (i, g) n s
  by_side names x rest (inr i) g n s =
      ap (λ b. cond b (p (names, H.spell x ++ rest)) (q (names, H.spell x ++ rest))) (leaves names x rest i g s) ∙ right.complete names x rest (i, g) n s

  pub choose_exact : Exact (only (λ x. w x ⊎ v x) H) more (choose test p q)
  choose_exact = record {
    sound = λ names ts x s h. by_test (test (names, ts)) names ts x s h;
    complete = λ names x rest g n s. by_side names x rest g.0 g.1 n s;
  }

-- where each of the form is one of these
pub whole_exact : {A : Type 0} (w : A → Type 0) (H : Form A) (more : ℕ) (p : Parser A) → ((names : Names) (x : A) → H.good names x → w x) → Exact (only w H) more p → Exact H more p
whole_exact w H more p all exact = record {
  sound = λ names ts x s h. let g = exact.sound names ts x s h in record { good = g.good.1; nested = g.nested; spelt = g.spelt; seen = g.seen; stops = g.stops };
  complete = λ names x rest g n s. exact.complete names x rest (all names x g, g) n s;
}

-- a parser that gives the same
pub same_exact : {A : Type 0} (F : Form A) (more : ℕ) (p q : Parser A) → ((i : State) → q i ≡ p i) → Exact F more p → Exact F more q
same_exact F more p q same exact = record {
  sound = λ names ts x s h. exact.sound names ts x s (sym (same (names, ts)) ∙ h);
  complete = λ names x rest g n s. same (names, F.spell x ++ rest) ∙ exact.complete names x rest g n s;
}

-- ---- several in a row, and what is made of them

-- what stands first may be taken together
pub together : {A B T : Type 0} (p : Parser A) (q : A → Parser B) (k : A → B → Parser T) (i : State) → (p >>= (λ a. q a >>= (λ b. k a b))) i ≡ (both p q >>= (λ t. k t.0 t.1)) i
together {A} {B} {T} p q k i = by (p i) where
  second : (a : A) (o : Outcome B) → and_then o (λ b. k a b) ≡ and_then (and_then o (λ b. pure (a, b))) (λ (t : A × B). k t.0 t.1)
  second a (Ok r) = refl
  second a (Err e) = refl

  by : (o : Outcome A) → and_then o (λ a. q a >>= (λ b. k a b)) ≡ and_then (and_then o (λ a. q a >>= (λ b. pure (a, b)))) (λ (t : A × B). k t.0 t.1)
  by (Ok r) = second r.0 (q r.0 r.1)
  by (Err e) = refl

pub two : {A B T : Type 0} (p : Parser A) (q : A → Parser B) (f : A → B → T) (i : State) → (p >>= (λ a. q a >>= (λ b. pure (f a b)))) i ≡ map_to (both p q) (λ t. f t.0 t.1) i
two p q f i = together p q (λ a b. pure (f a b)) i

pub three : {A B C T : Type 0} (p : Parser A) (q : A → Parser B) (r : A → B → Parser C) (f : A → B → C → T) (i : State)
    → (p >>= (λ a. q a >>= (λ b. r a b >>= (λ c. pure (f a b c))))) i ≡ map_to (both (both p q) (λ t. r t.0 t.1)) (λ t. f t.0.0 t.0.1 t.1) i
three p q r f i = together p q (λ a b. r a b >>= (λ c. pure (f a b c))) i ∙ two (both p q) (λ t. r t.0 t.1) (λ t c. f t.0 t.1 c) i

pub four : {A B C D T : Type 0} (p : Parser A) (q : A → Parser B) (r : A → B → Parser C) (u : A → B → C → Parser D) (f : A → B → C → D → T) (i : State)
    → (p >>= (λ a. q a >>= (λ b. r a b >>= (λ c. u a b c >>= (λ d. pure (f a b c d)))))) i ≡ map_to (both (both (both p q) (λ t. r t.0 t.1)) (λ t. u t.0.0 t.0.1 t.1)) (λ t. f t.0.0.0 t.0.0.1 t.0.1 t.1) i
four p q r u f i = together p q (λ a b. r a b >>= (λ c. u a b c >>= (λ d. pure (f a b c d)))) i ∙ three (both p q) (λ t. r t.0 t.1) (λ t c. u t.0 t.1 c) (λ t c d. f t.0 t.1 c d) i

pub five : {A B C D E T : Type 0} (p : Parser A) (q : A → Parser B) (r : A → B → Parser C) (u : A → B → C → Parser D) (v : A → B → C → D → Parser E) (f : A → B → C → D → E → T) (i : State)
    → (p >>= (λ a. q a >>= (λ b. r a b >>= (λ c. u a b c >>= (λ d. v a b c d >>= (λ e. pure (f a b c d e))))))) i
    ≡ map_to (both (both (both (both p q) (λ t. r t.0 t.1)) (λ t. u t.0.0 t.0.1 t.1)) (λ t. v t.0.0.0 t.0.0.1 t.0.1 t.1)) (λ t. f t.0.0.0.0 t.0.0.0.1 t.0.0.1 t.0.1 t.1) i
five p q r u v f i = together p q (λ a b. r a b >>= (λ c. u a b c >>= (λ d. v a b c d >>= (λ e. pure (f a b c d e))))) i
    ∙ four (both p q) (λ t. r t.0 t.1) (λ t c. u t.0 t.1 c) (λ t c d. v t.0 t.1 c d) (λ t c d e. f t.0 t.1 c d e) i

-- ---- what stands behind is one thing or another

pub bind_same : {A B : Type 0} (p : Parser A) (k m : A → Parser B) → ((a : A) (i : State) → k a i ≡ m a i) → (i : State) → (p >>= k) i ≡ (p >>= m) i
bind_same {A} {B} p k m same i = by (p i) where
  by : (o : Outcome A) → and_then o k ≡ and_then o m
  by (Ok r) = same r.0 r.1
  by (Err e) = refl

pub choose_same : {A : Type 0} (test : State → Bool) (p q r u : Parser A) → ((i : State) → p i ≡ r i) → ((i : State) → q i ≡ u i) → (i : State) → choose test p q i ≡ choose test r u i
choose_same {A} test p q r u same other i = by (test i) where
  by : (b : Bool) → cond b (p i) (q i) ≡ cond b (r i) (u i)
  by true = same i
  by false = other i

-- a choice, and what is made of either
pub choose_map : {A B T : Type 0} (test : State → Bool) (p : Parser A) (q : Parser B) (f : A ⊎ B → T) (i : State)
    → choose test (p >>= (λ a. pure (f (inl a)))) (q >>= (λ b. pure (f (inr b)))) i ≡ map_to (choose test (map_to p inl) (map_to q inr)) f i
choose_map {A} {B} {T} test p q f i = by (test i) where
  first : (o : Outcome A) → and_then o (λ a. pure (f (inl a))) ≡ and_then (and_then o (λ a. pure {A = A ⊎ B} (inl a))) (λ t. pure (f t))
  first (Ok r) = refl
  first (Err e) = refl

  second : (o : Outcome B) → and_then o (λ b. pure (f (inr b))) ≡ and_then (and_then o (λ b. pure {A = A ⊎ B} (inr b))) (λ t. pure (f t))
  second (Ok r) = refl
  second (Err e) = refl

  by : (b : Bool) → cond b (and_then (p i) (λ a. pure (f (inl a)))) (and_then (q i) (λ b. pure (f (inr b)))) ≡ and_then (cond b (and_then (p i) (λ a. pure (inl a))) (and_then (q i) (λ b. pure (inr b)))) (λ t. pure (f t))
  by true = first (p i)
  by false = second (q i)

-- one form or another
module _ {A B : Type 0} (F : Form A) (G : Form B) where
  abbrev spell_either : A ⊎ B → Tokens
  spell_either (inl a) = F.spell a
  spell_either (inr b) = G.spell b

  abbrev good_either : Names → A ⊎ B → Type 0
  good_either names (inl a) = F.good names a
  good_either names (inr b) = G.good names b

  abbrev adds_either : Names → A ⊎ B → Names
  adds_either names (inl a) = F.adds names a
  adds_either names (inr b) = G.adds names b

  abbrev nest_either : A ⊎ B → ℕ
  nest_either (inl a) = F.nest a
  nest_either (inr b) = G.nest b

  abbrev stop_either : A ⊎ B → Names → Tokens → Type 0
  stop_either (inl a) names rest = F.stop a names rest
  stop_either (inr b) names rest = G.stop b names rest

  abbrev pub either : Form (A ⊎ B)
  either = record { spell = spell_either; good = good_either; adds = adds_either; nest = nest_either; stop = stop_either }

  left_node : Node F inl either
  left_node = record { good = λ n t g. g; parts = λ n t g. g; nested = λ t. refl; spelt = λ t. refl; seen = λ n t. refl; stop = λ n t b r g h. h; from_stop = λ n t b r g h. h }

  right_node : Node G inr either
  right_node = record { good = λ n t g. g; parts = λ n t g. g; nested = λ t. refl; spelt = λ t. refl; seen = λ n t. refl; stop = λ n t b r g h. h; from_stop = λ n t b r g h. h }

  side : (x : A ⊎ B) → Image inl x ⊎ Image inr x
  side (inl a) = inl (a, refl)
  side (inr b) = inr (b, refl)

  pub either_exact : (more : ℕ) (test : State → Bool) (p : Parser A) (q : Parser B) → Exact F more p → Exact G more q
      → ((names : Names) (a : A) (rest : Tokens) → F.good names a → F.stop a (names ++ F.adds names a) rest → test (names, F.spell a ++ rest) ≡ true)
      → ((names : Names) (b : B) (rest : Tokens) → G.good names b → G.stop b (names ++ G.adds names b) rest → test (names, G.spell b ++ rest) ≡ false)
      → Exact either more (choose test (map_to p inl) (map_to q inr))
  either_exact more test p q first second takes leaves =
      whole_exact (λ x. Image inl x ⊎ Image inr x) either more _ (λ names x g. side x)
      (choose_exact (Image inl) (Image inr) either more test (map_to p inl) (map_to q inr) (node_exact F inl either more p first left_node) (node_exact G inr either more q second right_node)
      (λ names x rest i. subst (λ x. either.good names x → either.stop x (names ++ either.adds names x) rest → test (names, either.spell x ++ rest) ≡ true) i.1 (takes names i.0 rest))
      (λ names x rest i. subst (λ x. either.good names x → either.stop x (names ++ either.adds names x) rest → test (names, either.spell x ++ rest) ≡ false) i.1 (leaves names i.0 rest)))

-- ---- what is refused though it was read

abbrev pub dropping : {A : Type 0} → (A → Bool) → Parser A → Parser A
dropping test p = p >>= (λ a. if test a then refuse else pure a)

abbrev pub sparing : {A : Type 0} → (A → Bool) → Form A → Form A
sparing test F = record { spell = F.spell; good = λ names a. (test a ≡ false) × F.good names a; adds = F.adds; nest = F.nest; stop = F.stop }

pub dropping_is : {A B : Type 0} (test : A → Bool) (p : Parser A) (k : A → Parser B) (i : State) → (p >>= (λ a. if test a then refuse else k a)) i ≡ (dropping test p >>= k) i
dropping_is {A} {B} test p k i = by (p i) where
  side : (a : A) (s : State) (b : Bool) → cond b refuse (k a) s ≡ and_then (cond b refuse (pure a) s) k
  side a s true = refl
  side a s false = refl

  by : (o : Outcome A) → and_then o (λ a. cond (test a) refuse (k a)) ≡ and_then (and_then o (λ a. cond (test a) refuse (pure a))) k
  by (Ok r) = side r.0 r.1 (test r.0)
  by (Err e) = refl

module _ {A : Type 0} (test : A → Bool) (F : Form A) (more : ℕ) (p : Parser A) (exact : Exact F more p) where
  spared : (names : Names) (ts : Tokens) (a x : A) (mid s : State) (b : Bool) → test a ≡ b → cond b refuse (pure a) mid ≡ Ok (x, s) → Got F more names ts a mid → Got (sparing test F) more names ts x s
  spared names ts a x mid s true e h g = absurd cc
  spared names ts a x mid s false e h g =
      let w = ok_pair {A = A} a x mid s h in
      subst2 (λ (x : A) (s : State). Got (sparing test F) more names ts x s) w.0 w.1 (record { good = (e, g.good); nested = g.nested; spelt = g.spelt; seen = g.seen; stops = g.stops })

  pub dropping_exact : Exact (sparing test F) more (dropping test p)
  dropping_exact = record {
    sound = λ names ts x s h.
        let b = bind_ok (p (names, ts)) _ _ h in
        let a : A = b.0.0 in
        let mid : State = b.0.1 in
        spared names ts a x mid s (test a) refl b.2 (exact.sound names ts a mid b.1);
    complete = λ names x rest g n s.
        ap (λ o. and_then o (λ a. cond (test a) refuse (pure a))) (exact.complete names x rest g.1 n s) ∙ ap (λ b. cond b refuse (pure x) (names ++ F.adds names x, rest)) g.0;
  }

-- ---- what is read exactly where something is known of the state

pub record Guarded {A : Type 0} (known : State → Type 0) (F : Form A) (more : ℕ) (reads : Parser A) : Type 0 where
  pub sound : (names : Names) (ts : Tokens) (x : A) (s : State) → known (names, ts) → reads (names, ts) ≡ Ok (x, s) → Got F more names ts x s
  pub complete : (names : Names) (x : A) (rest : Tokens) → F.good names x → F.nest x ≤ more → F.stop x (names ++ F.adds names x) rest
      → reads (names, F.spell x ++ rest) ≡ Ok (x, (names ++ F.adds names x, rest))

pub guarded_exact : {A : Type 0} (F : Form A) (more : ℕ) (reads : Parser A) → Guarded (λ i. Unit {0}) F more reads → Exact F more reads
guarded_exact F more reads g = record { sound = λ names ts x s h. g.sound names ts x s tt h; complete = g.complete }

pub same_guarded : {A : Type 0} (known : State → Type 0) (F : Form A) (more : ℕ) (p q : Parser A) → ((i : State) → q i ≡ p i) → Guarded known F more p → Guarded known F more q
same_guarded known F more p q same g = record {
  sound = λ names ts x s k h. g.sound names ts x s k (sym (same (names, ts)) ∙ h);
  complete = λ names x rest a n s. same (names, F.spell x ++ rest) ∙ g.complete names x rest a n s;
}

-- a node that is good where something is known of what it was read from
pub record GuardedNode {T C : Type 0} (known : State → Type 0) (F : Form T) (f : T → C) (H : Form C) : Type 0 where
  pub good : (names : Names) (t : T) (rest : Tokens) → F.good names t → known (names, F.spell t ++ rest) → H.good names (f t)
  pub parts : (names : Names) (t : T) → H.good names (f t) → F.good names t
  pub nested : (t : T) → H.nest (f t) ≡ F.nest t
  pub spelt : (t : T) → H.spell (f t) ≡ F.spell t
  pub seen : (names : Names) (t : T) → H.adds names (f t) ≡ F.adds names t
  pub stop : (names : Names) (t : T) (behind : Names) (rest : Tokens) → F.good names t → F.stop t behind rest → H.stop (f t) behind rest
  pub from_stop : (names : Names) (t : T) (behind : Names) (rest : Tokens) → F.good names t → H.stop (f t) behind rest → F.stop t behind rest

module _ {T C : Type 0} (known : State → Type 0) (F : Form T) (f : T → C) (H : Form C) (more : ℕ) (p : Parser T) (exact : Exact F more p) (node : GuardedNode known F f H) where
  guarded_sound : (names : Names) (ts : Tokens) (c : C) (s : State) → known (names, ts) → map_to p f (names, ts) ≡ Ok (c, s) → Got (only (Image f) H) more names ts c s
  guarded_sound names ts c s k h =
      let b = bind_ok (p (names, ts)) _ _ h in
      let t : T = b.0.0 in
      let end : State = b.0.1 in
      let g = exact.sound names ts t end b.1 in
      let w = ok_pair {A = C} (f t) c end s b.2 in
      let n : H.nest (f t) ≤ more = subst (λ m. m ≤ more) (sym (node.nested t)) g.nested in
      let whole : Got (only (Image f) H) more names ts (f t) end = record {
        good = ((t, refl), node.good names t end.1 g.good (subst (λ l. known (names, l)) g.spelt k));
        nested = n;
        spelt = g.spelt ∙ ap (λ l. l ++ end.1) (sym (node.spelt t));
        seen = g.seen ∙ ap (λ l. names ++ l) (sym (node.seen names t));
        stops = node.stop names t end.0 end.1 g.good g.stops;
      } in
      subst2 (λ (c : C) (s : State). Got (only (Image f) H) more names ts c s) w.0 w.1 whole

  guarded_at : (names : Names) (t : T) (rest : Tokens) → H.good names (f t) → H.nest (f t) ≤ more → H.stop (f t) (names ++ H.adds names (f t)) rest
      → map_to p f (names, H.spell (f t) ++ rest) ≡ Ok (f t, (names ++ H.adds names (f t), rest))
  guarded_at names t rest good deep stops =
      let g = node.parts names t good in
      let m : F.nest t ≤ more = subst (λ m. m ≤ more) (node.nested t) deep in
      let e = node.seen names t in
      let st : H.stop (f t) (names ++ F.adds names t) rest = subst (λ n. H.stop (f t) (names ++ n) rest) e stops in
      let c = exact.complete names t rest g m (node.from_stop names t (names ++ F.adds names t) rest g st) in
      let end : Names → Outcome C = λ n. Ok (f t, (names ++ n, rest)) in
      ap (λ (l : Tokens). map_to p f (names, l ++ rest)) (node.spelt t) ∙ ap (λ o. and_then o (λ t. pure (f t))) c ∙ ap end (sym e)

  pub guarded_node : Guarded known (only (Image f) H) more (map_to p f)
  guarded_node = record {
    sound = guarded_sound;
    complete = λ names c rest g deep stops.
        subst (λ c. H.good names c → H.nest c ≤ more → H.stop c (names ++ H.adds names c) rest → map_to p f (names, H.spell c ++ rest) ≡ Ok (c, (names ++ H.adds names c, rest))) g.0.1
        (guarded_at names g.0.0 rest) g.1 deep stops;
  }

module _ {A : Type 0} (known : State → Type 0) (w v : A → Type 0) (H : Form A) (more : ℕ) (test : State → Bool) (p q : Parser A)
    (left : Guarded (λ i. known i × (test i ≡ true)) (only w H) more p) (right : Guarded (λ i. known i × (test i ≡ false)) (only v H) more q)
    (takes : (names : Names) (x : A) (rest : Tokens) → w x → H.good names x → H.stop x (names ++ H.adds names x) rest → test (names, H.spell x ++ rest) ≡ true)
    (leaves : (names : Names) (x : A) (rest : Tokens) → v x → H.good names x → H.stop x (names ++ H.adds names x) rest → test (names, H.spell x ++ rest) ≡ false) where
  by_known : (b : Bool) (names : Names) (ts : Tokens) (x : A) (s : State) → known (names, ts) → test (names, ts) ≡ b → cond b (p (names, ts)) (q (names, ts)) ≡ Ok (x, s) → Got (only (λ x. w x ⊎ v x) H) more names ts x s
  by_known true names ts x s k e h = let g = left.sound names ts x s (k, e) h in record { good = (inl g.good.0, g.good.1); nested = g.nested; spelt = g.spelt; seen = g.seen; stops = g.stops }
  by_known false names ts x s k e h = let g = right.sound names ts x s (k, e) h in record { good = (inr g.good.0, g.good.1); nested = g.nested; spelt = g.spelt; seen = g.seen; stops = g.stops }

  by_one : (names : Names) (x : A) (rest : Tokens) → w x ⊎ v x → H.good names x → H.nest x ≤ more → H.stop x (names ++ H.adds names x) rest
      → choose test p q (names, H.spell x ++ rest) ≡ Ok (x, (names ++ H.adds names x, rest))
  by_one names x rest (inl i) g n s =
      ap (λ b. cond b (p (names, H.spell x ++ rest)) (q (names, H.spell x ++ rest))) (takes names x rest i g s) ∙ left.complete names x rest (i, g) n s
  by_one names x rest (inr i) g n s =
      ap (λ b. cond b (p (names, H.spell x ++ rest)) (q (names, H.spell x ++ rest))) (leaves names x rest i g s) ∙ right.complete names x rest (i, g) n s

  pub choose_guarded : Guarded known (only (λ x. w x ⊎ v x) H) more (choose test p q)
  choose_guarded = record {
    sound = λ names ts x s k h. by_known (test (names, ts)) names ts x s k refl h;
    complete = λ names x rest g n s. by_one names x rest g.0 g.1 n s;
  }

-- ---- what declares for what stands behind it, and what does not

-- what was read declares more names, as they are at its beginning
abbrev pub declaring : {A : Type 0} → (Names → A → Names) → Parser A → Parser A
declaring extra p = λ i. and_then (p i) (λ a j. Ok (a, (j.0 ++ extra i.0 a, j.1)))

abbrev pub declaring_form : {A : Type 0} → (Names → A → Names) → Form A → Form A
declaring_form extra F = record { spell = F.spell; good = F.good; adds = λ names a. F.adds names a ++ extra names a; nest = F.nest; stop = F.stop }

pub declaring_exact : {A : Type 0} (extra : Names → A → Names) (F : Form A) (more : ℕ) (p : Parser A) → Exact F more p
    → ((names : Names) (a : A) (rest : Tokens) → F.good names a → F.stop a (names ++ F.adds names a) rest → F.stop a (names ++ (F.adds names a ++ extra names a)) rest)
    → ((names : Names) (a : A) (rest : Tokens) → F.good names a → F.stop a (names ++ (F.adds names a ++ extra names a)) rest → F.stop a (names ++ F.adds names a) rest)
    → Exact (declaring_form extra F) more (declaring extra p)
declaring_exact {A} extra F more p exact to from = record {
  sound = λ names ts x s h.
      let b = bind_ok (p (names, ts)) _ _ h in
      let a : A = b.0.0 in
      let mid : State = b.0.1 in
      let g = exact.sound names ts a mid b.1 in
      let w = ok_pair {A = A} a x (mid.0 ++ extra names a, mid.1) s b.2 in
      let n : mid.0 ++ extra names a ≡ names ++ (F.adds names a ++ extra names a) = ap (λ l. l ++ extra names a) g.seen ∙ append_assoc names (F.adds names a) (extra names a) in
      subst2 (λ (x : A) (s : State). Got (declaring_form extra F) more names ts x s) w.0 w.1 (record {
        good = g.good;
        nested = g.nested;
        spelt = g.spelt;
        seen = n;
        stops = subst (λ m. F.stop a m mid.1) (sym n) (to names a mid.1 g.good (subst (λ m. F.stop a m mid.1) g.seen g.stops));
      });
  complete = λ names x rest g n s.
      let end : Names → Outcome A = λ m. Ok (x, (m, rest)) in
      ap (λ o. and_then o (λ a j. Ok (a, (j.0 ++ extra names a, j.1)))) (exact.complete names x rest g n (from names x rest g s)) ∙ ap end (append_assoc names (F.adds names x) (extra names x));
}

-- what it declares ends with it
abbrev pub quieted : {A : Type 0} → Form A → Form A
quieted F = record { spell = F.spell; good = F.good; adds = λ names a. []; nest = F.nest; stop = F.stop }

pub enclosed_guarded : {A : Type 0} (known : State → Type 0) (F : Form A) (more : ℕ) (p : Parser A) → ((a : A) (names : Names) (rest : Tokens) → F.stop a names rest) → Guarded known F more p → Guarded known (quieted F) more (enclosed p)
enclosed_guarded {A} known F more p free exact = record {
  sound = λ names ts x s know h.
      let b = bind_ok (p (names, ts)) _ _ h in
      let a : A = b.0.0 in
      let mid : State = b.0.1 in
      let g = exact.sound names ts a mid know b.1 in
      let w = ok_pair {A = A} a x (names, mid.1) s b.2 in
      subst2 (λ (x : A) (s : State). Got (quieted F) more names ts x s) w.0 w.1 (record { good = g.good; nested = g.nested; spelt = g.spelt; seen = sym (append-nil names); stops = free a names mid.1 });
  complete = λ names x rest g n s.
      let end : Names → Outcome A = λ m. Ok (x, (m, rest)) in
      ap (λ o. and_then o (λ a j. Ok (a, (names, j.1)))) (exact.complete names x rest g n (free x (names ++ F.adds names x) rest)) ∙ ap end (sym (append-nil names));
}

pub enclosed_map : {A B : Type 0} (p : Parser A) (f : A → B) (i : State) → enclosed (map_to p f) i ≡ map_to (enclosed p) f i
enclosed_map {A} {B} p f i = by (p i) where
  by : (o : Outcome A) → and_then (and_then o (λ a. pure (f a))) (λ b j. Ok (b, (i.0, j.1))) ≡ and_then (and_then o (λ a j. Ok (a, (i.0, j.1)))) (λ a. pure (f a))
  by (Ok r) = refl
  by (Err e) = refl

-- one form or another, where the second is read only where the test does not hold
module _ {A B : Type 0} (F : Form A) (G : Form B) (more : ℕ) (test : State → Bool) (p : Parser A) (q : Parser B) (first : Exact F more p) (second : Guarded (λ i. test i ≡ false) G more q)
    (takes : (names : Names) (a : A) (rest : Tokens) → F.good names a → F.stop a (names ++ F.adds names a) rest → test (names, F.spell a ++ rest) ≡ true)
    (leaves : (names : Names) (b : B) (rest : Tokens) → G.good names b → G.stop b (names ++ G.adds names b) rest → test (names, G.spell b ++ rest) ≡ false) where
  either_by : (b : Bool) (names : Names) (ts : Tokens) (x : A ⊎ B) (s : State) → test (names, ts) ≡ b → cond b (map_to p inl (names, ts)) (map_to q inr (names, ts)) ≡ Ok (x, s) → Got (either F G) more names ts x s
  either_by true names ts x s e h =
      let b = bind_ok (p (names, ts)) _ _ h in
      let g = first.sound names ts b.0.0 b.0.1 b.1 in
      let w = ok_pair {A = A ⊎ B} (inl b.0.0) x b.0.1 s b.2 in
      subst2 (λ (x : A ⊎ B) (s : State). Got (either F G) more names ts x s) w.0 w.1 (record { good = g.good; nested = g.nested; spelt = g.spelt; seen = g.seen; stops = g.stops })
  either_by false names ts x s e h =
      let b = bind_ok (q (names, ts)) _ _ h in
      let g = second.sound names ts b.0.0 b.0.1 e b.1 in
      let w = ok_pair {A = A ⊎ B} (inr b.0.0) x b.0.1 s b.2 in
      subst2 (λ (x : A ⊎ B) (s : State). Got (either F G) more names ts x s) w.0 w.1 (record { good = g.good; nested = g.nested; spelt = g.spelt; seen = g.seen; stops = g.stops })

  either_of : (names : Names) (x : A ⊎ B) (rest : Tokens) → (either F G).good names x → (either F G).nest x ≤ more → (either F G).stop x (names ++ (either F G).adds names x) rest
      → choose test (map_to p inl) (map_to q inr) (names, (either F G).spell x ++ rest) ≡ Ok (x, (names ++ (either F G).adds names x, rest))
  either_of names (inl a) rest g n s =
      ap (λ b. cond b (map_to p inl (names, F.spell a ++ rest)) (map_to q inr (names, F.spell a ++ rest))) (takes names a rest g s) ∙ ap (λ o. and_then o (λ a. pure (inl a))) (first.complete names a rest g n s)
  either_of names (inr b) rest g n s =
      ap (λ c. cond c (map_to p inl (names, G.spell b ++ rest)) (map_to q inr (names, G.spell b ++ rest))) (leaves names b rest g s) ∙ ap (λ o. and_then o (λ b. pure (inr b))) (second.complete names b rest g n s)

  pub either_guarded : Exact (either F G) more (choose test (map_to p inl) (map_to q inr))
  either_guarded = record { sound = λ names ts x s h. either_by (test (names, ts)) names ts x s refl h; complete = either_of }

pub declaring_map : {A B : Type 0} (o : Outcome A) (e : A → Names) (f : A → B)
    → and_then o (λ a j. Ok (f a, (j.0 ++ e a, j.1))) ≡ and_then (and_then o (λ a j. Ok (a, (j.0 ++ e a, j.1)))) (λ a. pure (f a))
declaring_map (Ok r) e f = refl
declaring_map (Err x) e f = refl

-- ---- nothing, where a token does not come next

abbrev pub without : (State → Bool) → Form (Unit {0})
without test = record { spell = λ u. []; good = λ names u. Unit {0}; adds = λ names u. []; nest = λ u. 0; stop = λ u names rest. test (names, rest) ≡ false }

pub without_guarded : (test : State → Bool) (more : ℕ) → Guarded (λ i. test i ≡ false) (without test) more (pure tt)
without_guarded test more = record {
  sound = λ names ts x s known h.
      let w = ok_pair {A = Unit {0}} tt x (names, ts) s h in
      subst (λ (s : State). Got (without test) more names ts x s) w.1 (record { good = tt; nested = omega arith; spelt = refl; seen = sym (append-nil names); stops = known });
  complete = λ names x rest g n s. let end : Names → Outcome (Unit {0}) = λ m. Ok (x, (m, rest)) in ap end (sym (append-nil names));
}

-- what declares names by its first part
pub declare_two : {A B C : Type 0} (p : Parser A) (q : A → Parser B) (e : A → Names) (f : A → B → C) (i : State)
    → (p >>= (λ a. (q a >>= (λ b. pure (f a b))) >>= (λ x. declare (e a) >>= (λ u. pure x)))) i ≡ map_to (declaring (λ n t. e t.0) (both p q)) (λ t. f t.0 t.1) i
declare_two {A} {B} {C} p q e f i = by (p i) where
  second : (a : A) (o : Outcome B) → and_then (and_then o (λ b. pure (f a b))) (λ x. declare (e a) >>= (λ u. pure x))
      ≡ and_then (and_then (and_then o (λ b. pure (a, b))) (λ (t : A × B) j. Ok (t, (j.0 ++ e t.0, j.1)))) (λ t. pure (f t.0 t.1))
  second a (Ok r) = refl
  second a (Err x) = refl

  by : (o : Outcome A) → and_then o (λ a. (q a >>= (λ b. pure (f a b))) >>= (λ x. declare (e a) >>= (λ u. pure x)))
      ≡ and_then (and_then (and_then o (λ a. q a >>= (λ b. pure (a, b)))) (λ (t : A × B) j. Ok (t, (j.0 ++ e t.0, j.1)))) (λ t. pure (f t.0 t.1))
  by (Ok r) = second r.0 (q r.0 r.1)
  by (Err x) = refl

-- five in a row, the last two taken together
pub five_pair : {A B C D E T : Type 0} (p : Parser A) (q : A → Parser B) (r : A → B → Parser C) (u : Parser D) (v : Parser E) (f : A → B → C → D → E → T) (i : State)
    → (p >>= (λ a. q a >>= (λ b. r a b >>= (λ c. u >>= (λ d. v >>= (λ e. pure (f a b c d e))))))) i
    ≡ map_to (both (both (both p q) (λ t. r t.0 t.1)) (λ t. both u (λ d. v))) (λ t. f t.0.0.0 t.0.0.1 t.0.1 t.1.0 t.1.1) i
five_pair p q r u v f i =
    together p q (λ a b. r a b >>= (λ c. u >>= (λ d. v >>= (λ e. pure (f a b c d e))))) i
    ∙ together (both p q) (λ t. r t.0 t.1) (λ t c. u >>= (λ d. v >>= (λ e. pure (f t.0 t.1 c d e)))) i
    ∙ bind_same (both (both p q) (λ t. r t.0 t.1)) (λ t. u >>= (λ d. v >>= (λ e. pure (f t.0.0 t.0.1 t.1 d e)))) (λ t. both u (λ d. v) >>= (λ c. pure (f t.0.0 t.0.1 t.1 c.0 c.1))) (λ t j. two u (λ d. v) (λ d e. f t.0.0 t.0.1 t.1 d e) j) i
    ∙ two (both (both p q) (λ t. r t.0 t.1)) (λ t. both u (λ d. v)) (λ t c. f t.0.0 t.0.1 t.1 c.0 c.1) i
