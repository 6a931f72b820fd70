-- Walks in a row, walked one by one.
-- The loops over declarators, block items and outer declarations go on by `further`, and end by `ended`.
use Rattle.std.proofs.Common.{◌≡◌, ◌∙◌, refl, ap, sym, subst, ℕ, suc, ◌+◌, ◌<◌, List, [], ◌∷◌, ◌++◌, Option, Some, None, drop, drop-cons, get_or, length, map, add-one, append_assoc}
use Rattle.std.proofs.lemmas.List.{append-nil}
use Rattle.c_typing.specs.declared.fault.Fault.{Fault}
use Rattle.c_typing.specs.declared.scope.State.{State}
use Rattle.c_typing.specs.Scopes.{Walk, Said, give, ◌>>=◌, both_asked}
use Rattle.c_typing.specs.Scopes as scopes
use Rattle.c_type_walk.specs.Walks.{Gave}
use Rattle.c_type_walk.specs.declared.found.Found.{Found}
use Rattle.c_type_declarations.specs.Rows.{both}

-- one walk, and then the others
abbrev pub then : {A : Type 0} → Walk (List A) → Walk (List A) → Walk (List A)
then w rest = w >>= λ a. rest >>= λ r. both_asked a r (λ a r. give (a ++ r))

-- a row of walks that has been walked up to some of them: what is left of it gives the rest
pub record SoFar {A : Type 0} (all rest : Walk (List A)) (c : scopes.Around) (old now : Found) (made : Option (List A)) : Type 0 where
  pub given : (all c old.state).given ≡ both made (rest c now.state).given
  pub faults : old.faults ++ (all c old.state).faults ≡ now.faults ++ (rest c now.state).faults
  pub state : (all c old.state).state ≡ (rest c now.state).state

both-nothing : {A : Type 0} (o : Option (List A)) → both (Some []) o ≡ o
both-nothing None = refl
both-nothing (Some b) = refl

nothing-both : {A : Type 0} (o : Option (List A)) → both o (Some []) ≡ o
nothing-both None = refl
nothing-both (Some a) = ap Some (append-nil a)

both-assoc : {A : Type 0} (x y z : Option (List A)) → both x (both y z) ≡ both (both x y) z
both-assoc None y z = refl
both-assoc (Some a) None z = refl
both-assoc (Some a) (Some b) None = refl
both-assoc (Some a) (Some b) (Some d) = ap Some (sym (append_assoc a b d))

-- what the last step of `then` says
abbrev paired : {A : Type 0} → Option (List A) → Option (List A) → State → Said (List A)
paired x y s = record { faults = []; given = both x y; state = s }

pairs : {A : Type 0} (x y : Option (List A)) (c : scopes.Around) (s : State) → both_asked x y (λ a r. give (a ++ r)) c s ≡ paired x y s
pairs None None c s = refl
pairs None (Some b) c s = refl
pairs (Some a) None c s = refl
pairs (Some a) (Some b) c s = refl

-- what `then` says
abbrev told : {A : Type 0} → Said (List A) → Said (List A) → Said (List A)
told first rest = record { faults = first.faults ++ (rest.faults ++ []); given = both first.given rest.given; state = rest.state }

then-says : {A : Type 0} (w rest : Walk (List A)) (c : scopes.Around) (s : State) →
    then w rest c s ≡ told (w c s) (rest c (w c s).state)
then-says {A} w rest c s =
    ap (λ (last : Said (List A)). record {
      faults = (w c s).faults ++ ((rest c (w c s).state).faults ++ last.faults);
      given = last.given;
      state = last.state;
    }) (pairs (w c s).given (rest c (w c s).state).given c (rest c (w c s).state).state)

pub begun : {A : Type 0} (all : Walk (List A)) (c : scopes.Around) (old : Found) → SoFar all all c old old (Some [])
begun all c old = record { given = sym (both-nothing (all c old.state).given); faults = refl; state = refl }

further-at : {A : Type 0} (all w rest : Walk (List A)) (c : scopes.Around) (old now : Found) (made : Option (List A)) →
    SoFar all (then w rest) c old now made →
    SoFar all rest c old (record { faults = now.faults ++ (w c now.state).faults; state = (w c now.state).state }) (both made (w c now.state).given)
further-at {A} all w rest c old now made h =
    let first = w c now.state in
    let third = rest c first.state in
    let e = then-says w rest c now.state in
    record {
      given = h.given ∙ ap (λ (x : Said (List A)). both made x.given) e ∙ both-assoc made first.given third.given;
      faults =
          h.faults ∙ ap (λ (x : Said (List A)). now.faults ++ x.faults) e
          ∙ ap (λ (x : List Fault). now.faults ++ (first.faults ++ x)) (append-nil third.faults)
          ∙ sym (append_assoc now.faults first.faults third.faults);
      state = h.state ∙ ap (λ (x : Said (List A)). x.state) e;
    }

-- one walk further
pub further : {A : Type 0} (all w rest : Walk (List A)) (c : scopes.Around) (old now new : Found) (made given : Option (List A)) →
    SoFar all (then w rest) c old now made → Gave (w c now.state) now new given → SoFar all rest c old new (both made given)
further {A} all w rest c old now new made given h g =
    let before = further-at all w rest c old now made h in
    let first = w c now.state in
    record {
      given =
          before.given
          ∙ ap (λ (s : State). both (both made first.given) (rest c s).given) (sym g.state)
          ∙ ap (λ (o : Option (List A)). both (both made o) (rest c new.state).given) (sym g.is);
      faults =
          before.faults ∙ ap (λ (fs : List Fault). fs ++ (rest c first.state).faults) (sym g.faults)
          ∙ ap (λ (s : State). new.faults ++ (rest c s).faults) (sym g.state);
      state = before.state ∙ ap (λ (s : State). (rest c s).state) (sym g.state);
    }

-- the same in a list, of which so many were walked
pub further_in : {X A : Type 0} (row : List X → Walk (List A)) (one : X → Walk (List A)) →
    ((x : X) (xs : List X) → row (x ∷ xs) ≡ then (one x) (row xs)) →
    (xs : List X) (i : ℕ) (x : X) → drop i xs ≡ x ∷ drop (i + 1) xs →
    (c : scopes.Around) (old now new : Found) (made given : Option (List A)) →
    SoFar (row xs) (row (drop i xs)) c old now made → Gave (one x c now.state) now new given →
    SoFar (row xs) (row (drop (i + 1) xs)) c old new (both made given)
further_in {X} {A} row one cons xs i x e c old now new made given h g =
    let P : Walk (List A) → Type 0 = λ w. SoFar (row xs) w c old now made in
    further (row xs) (one x) (row (drop (i + 1) xs)) c old now new made given
    (subst P (ap row e ∙ cons x (drop (i + 1) xs)) h) g

-- what is left of a list begins with the item at the index
pub first_left : {Y : Type 0} (ys : List Y) (i : ℕ) (y : Y) → i < length ys → y ≡ get_or ys i y → drop i ys ≡ y ∷ drop (i + 1) ys
first_left {Y} ys i y h e = rw add-one (drop-cons ys i y h ∙ ap (λ (x : Y). x ∷ drop (suc i) ys) (sym e))

-- the same of what is made of the items of a list
pub further_each : {Y X A : Type 0} (row : List X → Walk (List A)) (one : X → Walk (List A)) →
    ((x : X) (xs : List X) → row (x ∷ xs) ≡ then (one x) (row xs)) →
    (f : Y → X) (ys : List Y) (i : ℕ) (y : Y) → i < length ys → y ≡ get_or ys i y →
    (c : scopes.Around) (old now new : Found) (made given : Option (List A)) →
    SoFar (row (map f ys)) (row (map f (drop i ys))) c old now made → Gave (one (f y) c now.state) now new given →
    SoFar (row (map f ys)) (row (map f (drop (i + 1) ys))) c old new (both made given)
further_each {Y} {X} {A} row one cons f ys i y h e c old now new made given g k =
    let P : Walk (List A) → Type 0 = λ w. SoFar (row (map f ys)) w c old now made in
    let d : row (map f (drop i ys)) ≡ then (one (f y)) (row (map f (drop (i + 1) ys))) =
    ap (λ (l : List Y). row (map f l)) (first_left ys i y h e) ∙ cons (f y) (map f (drop (i + 1) ys)) in
    further (row (map f ys)) (one (f y)) (row (map f (drop (i + 1) ys))) c old now new made given (subst P d g) k

-- at the end of the row
pub ended : {A : Type 0} (all : Walk (List A)) (c : scopes.Around) (old new : Found) (made : Option (List A)) →
    SoFar all (give []) c old new made → Gave (all c old.state) old new made
ended all c old new made h = record {
  is = sym (h.given ∙ nothing-both made);
  faults = sym (h.faults ∙ append-nil new.faults);
  state = sym h.state;
}
