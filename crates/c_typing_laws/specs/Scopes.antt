-- What a walk gives where it tells no fault.
use Rattle.std.specs.Prelude.{◌≡◌, ℕ, zero, suc, Bool, true, false, if◌then◌else◌, List, [], ◌∷◌, ◌++◌, Option, Some, None, length, take, drop, find, reverse, refl}
use mathlib.Core.List.{reverse_aux}
use Rattle.std.specs.Option.{option_map}
use Rattle.std.specs.List.{AllByRecursion}
use Rattle.std.specs.Str.{bytes_eq}
use Rattle.c_tree.specs.declared.token.Pos.{Pos}
use Rattle.c_tree.specs.declared.refusal.FaultKind.{FaultKind}
use Rattle.c_typing.specs.declared.fault.Fault.{Fault}
use Rattle.c_typing.specs.Faults.{fault}
use Rattle.c_typing.specs.declared.scope.Meaning.{Meaning}
use Rattle.c_typing.specs.declared.scope.Meaning.TheVariants.{Unknown}
use Rattle.c_typing.specs.declared.scope.Tag.{Tag}
use Rattle.c_typing.specs.declared.scope.State.{State}
use Rattle.c_typing.specs.Scopes.{Name, Around, Walk, give, tell, offer, ◌>>=◌, asked, both_asked, beside, fault_if, unless, here, unready_if, change, joined, in_row, scoped, entered, in_definition, visible_names, meaning_of, declaring, tagging}

-- ---- names

-- a name that was declared without a fault in its type
abbrev pub IsMeant : Meaning → Type 0
IsMeant Unknown = ⊥
IsMeant m = Unit {0}

abbrev pub IsMeantPair : Name × Meaning → Type 0
IsMeantPair pair = IsMeant pair.1

-- each name is one of these
abbrev pub IsKnown : List (Name × Meaning) → Type 0
IsKnown names = AllByRecursion IsMeantPair names

-- each name that is visible, or was declared by the parameter list of the definition at hand, is one of these
abbrev pub AreKnown : State → Type 0
AreKnown s = IsKnown s.names × (IsKnown s.outer.names × IsKnown s.listed.names)

-- ---- answers

-- something is given, and this holds of it
abbrev pub IfGiven : {A : Type 0} → (A → Type 0) → Option A → Type 0
IfGiven P (Some a) = P a
IfGiven P None = ⊥

-- what is given, and the names behind it
pub record Answered {A : Type 0} (P : A → Type 0) (given : Option A) (s : State) : Type 0 where
  pub gives : IfGiven P given
  pub known : AreKnown s

-- where no fault is told, something is given of which this holds, and no name is unknown behind it
pub record Answers {A : Type 0} (P : A → Type 0) (w : Walk A) : Type 0 where
  pub run : (c : Around) (s : State) → AreKnown s → (w c s).faults ≡ [] → Answered P (w c s).given (w c s).state

-- anything
abbrev pub Any : {A : Type 0} → A → Type 0
Any a = Unit {0}

-- ---- lists of faults

pub none_first : (a b : List Fault) → a ++ b ≡ [] → a ≡ []
none_first [] b h = refl
none_first (f ∷ a) b h = absurd (let e : f ∷ (a ++ b) ≡ [] = h in cc)

none_second : (a b : List Fault) → a ++ b ≡ [] → b ≡ []
none_second [] b h = h
none_second (f ∷ a) b h = absurd (let e : f ∷ (a ++ b) ≡ [] = h in cc)

-- ---- combinators

pub gives : {A : Type 0} {P : A → Type 0} (a : A) → P a → Answers P (give a)
gives a p = record { run = λ c s k h. record { gives = p; known = k } }

pub tells : {A : Type 0} {P : A → Type 0} (k : FaultKind) (p : Pos) → Answers P (tell k p)
tells f p = record { run = λ c s k h. absurd (let e : fault f p ∷ [] ≡ [] = h in cc) }

pub offers : {A : Type 0} {P : A → Type 0} (o : Option A) → IfGiven P o → Answers P (offer o)
offers o p = record { run = λ c s k h. record { gives = p; known = k } }

pub follows : {A B : Type 0} {P : A → Type 0} {Q : B → Type 0} {w : Walk A} (f : Option A → Walk B) → Answers P w → ((o : Option A) → IfGiven P o → Answers Q (f o)) → Answers Q (w >>= f)
follows {A} {B} {P} {Q} {w} f p q = record {
  run = λ c s k h.
      let r = p.run c s k (none_first (w c s).faults (f (w c s).given c (w c s).state).faults h) in
      (q (w c s).given r.gives).run c (w c s).state r.known (none_second (w c s).faults (f (w c s).given c (w c s).state).faults h);
}

pub asks : {A B : Type 0} {P : A → Type 0} {Q : B → Type 0} {f : A → Walk B} (o : Option A) → IfGiven P o → ((a : A) → P a → Answers Q (f a)) → Answers Q (asked o f)
asks (Some a) g q = q a g
asks None g q = absurd g

pub both : {A B C : Type 0} {P : A → Type 0} {R : B → Type 0} {Q : C → Type 0} {f : A → B → Walk C} (o : Option A) (p : Option B) → IfGiven P o → IfGiven R p
    → ((a : A) (b : B) → P a → R b → Answers Q (f a b)) → Answers Q (both_asked o p f)
both (Some a) (Some b) g h q = q a b g h
both (Some a) None g h q = absurd h
both None p g h q = absurd g

-- one walk, and another one that asks what it gives
pub chain : {A B : Type 0} {P : A → Type 0} {Q : B → Type 0} {w : Walk A} {f : A → Walk B} → Answers P w → ((a : A) → P a → Answers Q (f a)) → Answers Q (w >>= λ o. asked o f)
chain {A} {B} {P} {Q} {w} {f} p q = follows (λ o. asked o f) p (λ o g. asks o g q)

-- two walks, of which neither asks what the other one gives
pub pair : {A B C : Type 0} {P : A → Type 0} {R : B → Type 0} {Q : C → Type 0} {w : Walk A} {v : Walk B} {f : A → B → Walk C} → Answers P w → Answers R v
    → ((a : A) (b : B) → P a → R b → Answers Q (f a b)) → Answers Q (w >>= λ a. v >>= λ b. both_asked a b f)
pair {A} {B} {C} {P} {R} {Q} {w} {v} {f} p r q =
    follows (λ a. v >>= λ b. both_asked a b f) p (λ a g. follows (λ b. both_asked a b f) r (λ b h. both a b g h q))

pub besides : {A : Type 0} {P : A → Type 0} {w : Walk A} (fs : List Fault) → (fs ≡ [] → Answers P w) → Answers P (beside fs w)
besides {A} {P} {w} fs q = record { run = λ c s k h. (q (none_first fs (w c s).faults h)).run c s k (none_second fs (w c s).faults h) }

-- a fault that is told for certain
pub faulty : {A : Type 0} {P : A → Type 0} {w : Walk A} (f : Fault) → Answers P (beside (f ∷ []) w)
faulty {A} {P} {w} f = record { run = λ c s k h. absurd (let e : f ∷ (w c s).faults ≡ [] = h in cc) }

pub passes : {A : Type 0} {P : A → Type 0} {w : Walk A} (b : Bool) (k : FaultKind) (p : Pos) → (b ≡ false → Answers P w) → Answers P (unless b k p w)
passes true k p q = tells k p
passes false k p q = q refl

pub either : {A : Type 0} {P : A → Type 0} {v w : Walk A} (b : Bool) → (b ≡ true → Answers P v) → (b ≡ false → Answers P w) → Answers P (if b then v else w)
either true q r = q refl
either false q r = r refl

pub sees : {A : Type 0} {P : A → Type 0} (f : Around → State → Walk A) → ((c : Around) (s : State) → AreKnown s → Answers P (f c s)) → Answers P (here f)
sees f q = record { run = λ c s k h. (q c s k).run c s k h }

pub turns : {A : Type 0} {P : A → Type 0} {w : Walk A} (g : Around → Around) → Answers P w → Answers P (λ c s. w (g c) s)
turns g q = record { run = λ c s k h. q.run (g c) s k h }

pub changes : {A : Type 0} {P : A → Type 0} {w : Walk A} (g : State → State) → ((s : State) → AreKnown s → AreKnown (g s)) → Answers P w → Answers P (change g w)
changes g t q = record { run = λ c s k h. q.run c (g s) (t s k) h }

pub unready : {A : Type 0} {P : A → Type 0} {w : Walk A} (b : Bool) (k : FaultKind) (p : Pos) → Answers P w → Answers P (unready_if b k p w)
unready b k p q = record { run = λ c s l h. q.run c (record s { unready = s.unready ++ fault_if b k p }) l h }

pub weaker : {A : Type 0} {P Q : A → Type 0} {w : Walk A} → ((a : A) → P a → Q a) → Answers P w → Answers Q w
weaker {A} {P} {Q} {w} t q = record { run = λ c s k h. let r = q.run c s k h in record { gives = still (w c s).given r.gives; known = r.known } }
  where
    still : (o : Option A) → IfGiven P o → IfGiven Q o
    still (Some a) g = t a g
    still None g = g

-- a fault that was not told
pub not_told : (b : Bool) (k : FaultKind) (p : Pos) → fault_if b k p ≡ [] → b ≡ false
not_told true k p h = absurd (let e : fault k p ∷ [] ≡ [] = h in cc)
not_told false k p h = refl

-- ---- walks in a row

pub joins : {A : Type 0} (P : A → Type 0) (o : Option A) (rest : Option (List A)) → IfGiven P o → IfGiven (AllByRecursion P) rest → IfGiven (AllByRecursion P) (joined o rest)
joins P (Some a) (Some rest) g h = (g, h)
joins P (Some a) None g h = h
joins P None rest g h = absurd g

pub in_order : {A : Type 0} {P : A → Type 0} (ws : List (Walk A)) → AllByRecursion (λ w. Answers P w) ws → Answers (AllByRecursion P) (in_row ws)
in_order {A} {P} [] q = gives [] tt
in_order {A} {P} (w ∷ ws) q =
    follows (λ a. in_row ws >>= λ rest. offer (joined a rest)) q.0
    (λ a g. follows (λ rest. offer (joined a rest)) (in_order ws q.1) (λ rest h. offers (joined a rest) (joins P a rest g h)))

-- ---- lists

pub all_take : {A : Type 0} (P : A → Type 0) (n : ℕ) (xs : List A) → AllByRecursion P xs → AllByRecursion P (take n xs)
all_take P zero xs h = tt
all_take P (suc n) [] h = tt
all_take P (suc n) (x ∷ xs) h = (h.0, all_take P n xs h.1)

pub all_drop : {A : Type 0} (P : A → Type 0) (n : ℕ) (xs : List A) → AllByRecursion P xs → AllByRecursion P (drop n xs)
all_drop P zero xs h = h
all_drop P (suc n) [] h = tt
all_drop P (suc n) (x ∷ xs) h = all_drop P n xs h.1

pub all_append : {A : Type 0} (P : A → Type 0) (xs ys : List A) → AllByRecursion P xs → AllByRecursion P ys → AllByRecursion P (xs ++ ys)
all_append P [] ys h g = g
all_append P (x ∷ xs) ys h g = (h.0, all_append P xs ys h.1 g)

all_reversed_onto : {A : Type 0} (P : A → Type 0) (xs ys : List A) → AllByRecursion P xs → AllByRecursion P ys → AllByRecursion P (reverse_aux xs ys)
all_reversed_onto P [] ys h g = g
all_reversed_onto P (x ∷ xs) ys h g = all_reversed_onto P xs (x ∷ ys) h.1 (h.0, g)

pub all_reversed : {A : Type 0} (P : A → Type 0) (xs : List A) → AllByRecursion P xs → AllByRecursion P (reverse xs)
all_reversed P xs h = all_reversed_onto P xs [] h tt

-- ---- names

-- a name that is not declared, or whose declaration had no fault
abbrev pub IfMeant : Option Meaning → Type 0
IfMeant None = Unit {0}
IfMeant (Some m) = IsMeant m

found : (test : Name × Meaning → Bool) (xs : List (Name × Meaning)) → IsKnown xs → IfMeant (option_map (λ pair. pair.1) (find test xs))
found test [] h = tt
found test (x ∷ xs) h = by_test (test x) (found test xs h.1)
  where
    by_test : (b : Bool) → IfMeant (option_map (λ pair. pair.1) (find test xs)) → IfMeant (option_map (λ pair. pair.1) (if b then Some x else find test xs))
    by_test true rest = h.0
    by_test false rest = rest

pub meaning_known : (s : State) (name : Name) → AreKnown s → IfMeant (meaning_of s name)
meaning_known s name k =
    let names = visible_names s in
    found (λ pair. bytes_eq pair.0 name) (reverse names) (all_reversed IsMeantPair names (all_append IsMeantPair s.outer.names s.names k.1.0 k.0))

pub declares : {A : Type 0} {P : A → Type 0} {w : Walk A} (name : Name) (m : Meaning) → IsMeant m → Answers P w → Answers P (declaring name m w)
declares name m g q = changes (λ s. record s { names = s.names ++ (name, m) ∷ [] }) (λ s k. (all_append IsMeantPair s.names ((name, m) ∷ []) k.0 (g, tt), k.1)) q

pub tags_it : {A : Type 0} {P : A → Type 0} {w : Walk A} (name : Name) (tag : Tag) → Answers P w → Answers P (tagging name tag w)
tags_it name tag q = changes (λ s. record s { tags = s.tags ++ (name, tag) ∷ [] }) (λ s k. k) q

-- ---- scopes

pub scopes : {A : Type 0} {P : A → Type 0} {w : Walk A} → Answers P w → Answers P (scoped w)
scopes {A} {P} {w} q = record {
  run = λ c s k h.
      let r = q.run (record c { names_from = length s.names; tags_from = length s.tags }) s k h in
      record { gives = r.gives; known = (all_take IsMeantPair (length s.names) _ r.known.0, r.known.1) };
}

pub defines : {A : Type 0} {P : A → Type 0} {w : Walk A} → Answers P w → Answers P (in_definition w)
defines {A} {P} {w} q = record {
  run = λ c s k h.
      let r = q.run (record c { at_file_level = false; names_from = 0; tags_from = 0 }) (entered s) (k.1.1, (k.0, tt)) h in
      record { gives = r.gives; known = (r.known.1.0, (tt, r.known.0)) };
}

pub ruleset walks = (gives, tells, passes, either, asks, both, chain, pair, faulty, sees, changes, scopes, defines, declares, tags_it)
