-- From exactness, and that what does not stop begins a longer tree, follows that Ok is given at the longest front.
use Rattle.std.specs.Prelude.{◌≡◌, ℕ, ◌+◌, [], ◌∷◌, ◌++◌, refl}
use Rattle.std.proofs.Common.{ap, sym, ◌∙◌, subst, arith, append_assoc, append-nil, ◌⊎◌, inl, inr}
use Rattle.c_tree.specs.declared.token.Token.{Token}
use Rattle.c_tree.specs.Levels.Names.{Names}
use Rattle.c_grammar.specs.Input.{Tokens, State, Parser}
use Rattle.c_grammar.specs.Fronts.{Trees, Begins, IsFront, OkAtFront, SpellingIsUnique, FrontIsUnique}
use Rattle.c_grammar.specs.Laws.Form.{Form, Got, Exact, ok_pair}

-- a longer tree, which goes on with the token
pub record Longer {A : Type 0} (F : Form A) (names : Names) (x : A) (t : Token) : Type 0 where
  pub tree : A
  pub good : F.good names tree
  pub tokens : Tokens
  pub spelt : F.spell tree ≡ F.spell x ++ t ∷ tokens

-- what is asked of where a tree stops
pub record Stops {A : Type 0} (F : Form A) : Type 0 where
  -- the next token alone tells
  pub next : (names : Names) (x : A) (behind : Names) (t : Token) (a b : Tokens) → F.good names x → F.stop x behind (t ∷ a) → F.stop x behind (t ∷ b)
  -- every tree may stand at the end
  pub end : (names : Names) (x : A) (behind : Names) → F.good names x → F.stop x behind []
  -- a token that goes on with a tree begins a longer one
  pub grows : (names : Names) (x : A) (t : Token) (rest : Tokens) → F.good names x → F.stop x (names ++ F.adds names x) (t ∷ rest) ⊎ Longer F names x t

abbrev pub trees_of : {A : Type 0} → Form A → Trees A
trees_of F = record { spelling = F.spell; levelled = F.good; declares = F.adds; nesting = F.nest }

first_two : (a b : Token) (r s : Tokens) → ◌≡◌ {A = Tokens} (a ∷ r) (b ∷ s) → (a ≡ b) × (r ≡ s)
first_two a b r s h = (cc, cc)

-- ---- one longest front

module _ {A : Type 0} (T : Trees A) where
  shorter : (names : Names) (a : Tokens) (t : Token) (b : Tokens) → Begins T names (a ++ t ∷ b) → Begins T names (a ++ t ∷ [])
  shorter names a t b g = record { tree = g.tree; levelled = g.levelled; others = b ++ g.others; spelt = g.spelt ∙ append_assoc a (t ∷ b) g.others ∙ sym (append_assoc a (t ∷ []) (b ++ g.others)) }

  longer_front : (names : Names) (a : Tokens) (t : Token) (b : Tokens) → Begins T names (a ++ t ∷ b) → Begins T names ((a ++ t ∷ []) ++ b)
  longer_front names a t b g = subst (Begins T names) (sym (append_assoc a (t ∷ []) b)) g

  same_front : (names : Names) (front a b r s : Tokens) → a ++ r ≡ b ++ s → Begins T names (front ++ a) → Begins T names (front ++ b)
      → ((t : Token) (q : Tokens) → r ≡ t ∷ q → Begins T names ((front ++ a) ++ t ∷ []) → ⊥) → ((t : Token) (q : Tokens) → s ≡ t ∷ q → Begins T names ((front ++ b) ++ t ∷ []) → ⊥) → (a ≡ b) × (r ≡ s)
  same_front names front [] [] r s h x y m n = (refl, h)
  same_front names front [] (q ∷ b) r s h x y m n = absurd (m q (b ++ s) h (subst (λ l. Begins T names (l ++ q ∷ [])) (sym (append-nil front)) (shorter names front q b y)))
  same_front names front (q ∷ a) [] r s h x y m n = absurd (n q (a ++ r) (sym h) (subst (λ l. Begins T names (l ++ q ∷ [])) (sym (append-nil front)) (shorter names front q a x)))
  same_front names front (p ∷ a) (q ∷ b) r s h x y m n =
      let w = first_two p q (a ++ r) (b ++ s) h in
      let y1 : Begins T names (front ++ p ∷ b) = subst (λ t. Begins T names (front ++ t ∷ b)) (sym w.0) y in
      let c = same_front names (front ++ p ∷ []) a b r s w.1 (longer_front names front p a x) (longer_front names front p b y1)
      (λ t u e g. m t u e (subst (λ l. Begins T names (l ++ t ∷ [])) (append_assoc front (p ∷ []) a) g))
      (λ t u e g. n t u e (subst (λ l. Begins T names (l ++ t ∷ [])) (append_assoc front (p ∷ []) b ∙ ap (λ t. front ++ t ∷ b) w.0) g)) in
      (ap (λ l. p ∷ l) c.0 ∙ ap (λ t. t ∷ b) w.0, c.1)

  pub front_unique : FrontIsUnique T
  front_unique names ts a r b s f g = same_front names [] a b r s (sym f.whole ∙ g.whole) f.begins g.begins f.longest g.longest

-- ---- what is read is the longest front

module _ {A : Type 0} (F : Form A) (stops : Stops F) (reads : ℕ → Parser A) (exact : (more : ℕ) → Exact F more (reads more)) where
  pub unique : SpellingIsUnique (trees_of F)
  unique names x y gx gy same =
      let deep : ℕ = F.nest x + F.nest y in
      let a = (exact deep).complete names x [] gx (omega arith) (stops.end names x _ gx) in
      let b = (exact deep).complete names y [] gy (omega arith) (stops.end names y _ gy) in
      let s : F.spell x ++ [] ≡ F.spell y ++ [] = ap (λ l. l ++ []) same in
      (ok_pair {A = A} x y (names ++ F.adds names x, []) (names ++ F.adds names y, []) (sym a ∙ ap (λ l. reads deep (names, l)) s ∙ b)).0

  -- no tree is spelt by what was read, the next token and others
  no_longer : (more : ℕ) (names : Names) (x : A) (t : Token) (rest : Tokens) → F.good names x → F.stop x (names ++ F.adds names x) (t ∷ rest) → Begins (trees_of F) names (F.spell x ++ t ∷ []) → ⊥
  no_longer more names x t rest g st b =
      let y : A = b.tree in
      let deep : ℕ = F.nest x + F.nest y in
      let c = (exact deep).complete names x (t ∷ b.others) g (omega arith) (stops.next names x _ t rest b.others g st) in
      let d = (exact deep).complete names y [] b.levelled (omega arith) (stops.end names y _ b.levelled) in
      let s : F.spell y ++ [] ≡ F.spell x ++ t ∷ b.others = append-nil (F.spell y) ∙ b.spelt ∙ append_assoc (F.spell x) (t ∷ []) b.others in
      let w = ok_pair {A = A} y x (names ++ F.adds names y, []) (names ++ F.adds names x, t ∷ b.others) (sym d ∙ ap (λ l. reads deep (names, l)) s ∙ c) in
      let z : ◌≡◌ {A = Tokens} [] (t ∷ b.others) = ap (λ (i : State). i.1) w.1 in absurd cc

  front_of : (more : ℕ) (names : Names) (ts : Tokens) (x : A) (s : State) → Got F more names ts x s → IsFront (trees_of F) names ts (F.spell x) s.1
  front_of more names ts x s g = record {
    whole = g.spelt;
    begins = record { tree = x; levelled = g.good; others = []; spelt = sym (append-nil (F.spell x)) };
    longest = λ t r e b. no_longer more names x t r g.good (subst (λ l. F.stop x (names ++ F.adds names x) l) e (subst (λ n. F.stop x n s.1) g.seen g.stops)) b;
  }

  stops_at : (names : Names) (x : A) (rest : Tokens) → F.good names x → ((t : Token) (r : Tokens) → rest ≡ t ∷ r → Begins (trees_of F) names (F.spell x ++ t ∷ []) → ⊥) → F.stop x (names ++ F.adds names x) rest
  stops_at names x [] g most = stops.end names x _ g
  stops_at names x (t ∷ r) g most = by (stops.grows names x t r g) where
    by : F.stop x (names ++ F.adds names x) (t ∷ r) ⊎ Longer F names x t → F.stop x (names ++ F.adds names x) (t ∷ r)
    by (inl h) = h
    by (inr l) = absurd (most t r refl (record { tree = l.tree; levelled = l.good; others = l.tokens; spelt = l.spelt ∙ sym (append_assoc (F.spell x) (t ∷ []) l.tokens) }))

  pub ok_at_front : (more : ℕ) → OkAtFront (trees_of F) more (reads more)
  ok_at_front more = record {
    comes = λ names ts rest x g n f.
        ap (λ l. reads more (names, l)) f.whole ∙ (exact more).complete names x rest g n (stops_at names x rest g f.longest);
    found = λ names ts x s h.
        let g = (exact more).sound names ts x s h in
        record { levelled = g.good; nested = g.nested; front = front_of more names ts x s g; names_are = g.seen };
  }

-- ---- trees that are levelled where others are

module _ {A : Type 0} (T U : A → Names → Type 0) (spelling : A → Tokens) (declares : Names → A → Names) (nesting : A → ℕ)
    (to : (names : Names) (x : A) → T x names → U x names) (from : (names : Names) (x : A) → U x names → T x names) where
  abbrev first : Trees A
  first = record { spelling = spelling; levelled = λ names x. T x names; declares = declares; nesting = nesting }

  abbrev second : Trees A
  second = record { spelling = spelling; levelled = λ names x. U x names; declares = declares; nesting = nesting }

  begins_to : (names : Names) (front : Tokens) → Begins first names front → Begins second names front
  begins_to names front b = record { tree = b.tree; levelled = to names b.tree b.levelled; others = b.others; spelt = b.spelt }

  begins_from : (names : Names) (front : Tokens) → Begins second names front → Begins first names front
  begins_from names front b = record { tree = b.tree; levelled = from names b.tree b.levelled; others = b.others; spelt = b.spelt }

  front_to : (names : Names) (ts front rest : Tokens) → IsFront first names ts front rest → IsFront second names ts front rest
  front_to names ts front rest f = record { whole = f.whole; begins = begins_to names front f.begins; longest = λ t r e b. f.longest t r e (begins_from names (front ++ t ∷ []) b) }

  front_from : (names : Names) (ts front rest : Tokens) → IsFront second names ts front rest → IsFront first names ts front rest
  front_from names ts front rest f = record { whole = f.whole; begins = begins_from names front f.begins; longest = λ t r e b. f.longest t r e (begins_to names (front ++ t ∷ []) b) }

  pub ok_to : (more : ℕ) (reads : Parser A) → OkAtFront first more reads → OkAtFront second more reads
  ok_to more reads o = record {
    comes = λ names ts rest x g n f. o.comes names ts rest x (from names x g) n (front_from names ts (spelling x) rest f);
    found = λ names ts x s h. let g = o.found names ts x s h in record { levelled = to names x g.levelled; nested = g.nested; front = front_to names ts (spelling x) s.1 g.front; names_are = g.names_are };
  }

  pub unique_to : SpellingIsUnique first → SpellingIsUnique second
  unique_to u names a b ga gb e = u names a b (from names a ga) (from names b gb) e
