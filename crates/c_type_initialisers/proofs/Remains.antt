-- Walks over lists, item by item: what is left of a walk from here.
-- The loops of `fill`, `initials_row` and `starts_row` go on by these lemmas.
use Rattle.std.proofs.Common.{◌≡◌, ◌∙◌, refl, sym, ap, List, [], ◌∷◌, ◌++◌, Option, Some, None, append_assoc}
use Rattle.std.specs.Option.{option_map}
use Rattle.std.proofs.lemmas.List.{append-nil}
use Rattle.c_tree.specs.declared.token.Pos.{Pos}
use Rattle.c_tree.specs.declared.typed.statement.Initial.{Initial}
use Rattle.c_tree.specs.declared.typed.unit.StaticPart.{StaticPart}
use Rattle.c_typing.specs.declared.fault.Fault.{Fault}
use Rattle.c_typing.specs.declared.initialiser.Filled.{Filled}
use Rattle.c_typing.specs.declared.initialiser.Frame.{Frame}
use Rattle.c_typing.specs.declared.initialiser.Leaf.{Leaf}
use Rattle.c_typing.specs.declared.scope.State.{State}
use Rattle.c_typing.specs.Scopes.{Around, Said, Walk, give, asked, both_asked, joined}
use Rattle.c_typing.specs.OfInitialisers.{Initialising, Placed, item_row, items_row}
use Rattle.c_typing.specs.Starts.{initial_row, initials_row, start_row, starts_row}
use Rattle.c_type_initialisers.specs.Joined.{one_more, all_more}

-- what a whole walk says, from the faults that were found before it, those that have been found since, and what is left to do
pub record Remains {A : Type 0} (whole : Said A) (before now : List Fault) (left : Said A) (finish : Option A → Option A) : Type 0 where
  pub faults : before ++ whole.faults ≡ now ++ left.faults
  pub given : whole.given ≡ finish left.given
  pub state : whole.state ≡ left.state

-- the same from what has been found since
pub remains_at : {A : Type 0} (whole : Said A) (before now later : List Fault) (left : State → Said A) (s after : State) (finish last : Option A → Option A) →
    later ≡ now → after ≡ s → last ≡ finish → Remains whole before now (left s) finish → Remains whole before later (left after) last
remains_at {A = A} whole before now later left s after finish last n t e h = record {
  faults = h.faults ∙ (ap (λ (fs : List Fault). fs ++ (left s).faults) (sym n) ∙ ap (λ (s : State). later ++ (left s).faults) (sym t));
  given = h.given ∙ (ap (λ (s : State). finish (left s).given) (sym t) ∙ ap (λ (f : Option A → Option A). f (left after).given) (sym e));
  state = h.state ∙ ap (λ (s : State). (left s).state) (sym t);
}

-- ---- lists that are there only where nothing is wrong

more_joined : {X : Type 0} (xs : Option (List X)) (x : Option X) (ys : Option (List X)) →
    all_more xs (joined x ys) ≡ all_more (one_more xs x) ys
more_joined (Some xs) (Some x) (Some ys) = ap (λ xs. Some xs) (sym (append_assoc xs (x ∷ []) ys))
more_joined (Some xs) (Some x) None = refl
more_joined (Some xs) None ys = refl
more_joined None (Some x) (Some ys) = refl
more_joined None (Some x) None = refl
more_joined None None ys = refl

more_more : {X : Type 0} (xs ys zs : Option (List X)) → all_more xs (all_more ys zs) ≡ all_more (all_more xs ys) zs
more_more (Some xs) (Some ys) (Some zs) = ap (λ xs. Some xs) (sym (append_assoc xs ys zs))
more_more (Some xs) (Some ys) None = refl
more_more (Some xs) None zs = refl
more_more None (Some ys) (Some zs) = refl
more_more None (Some ys) None = refl
more_more None None zs = refl

both-faults : {X : Type 0} (a b : Option (List X)) (c : Around) (s : State) → (both_asked a b (λ a b. give (a ++ b)) c s).faults ≡ []
both-faults (Some a) (Some b) c s = refl
both-faults (Some a) None c s = refl
both-faults None b c s = refl

both-given : {X : Type 0} (a b : Option (List X)) (c : Around) (s : State) → (both_asked a b (λ a b. give (a ++ b)) c s).given ≡ all_more a b
both-given (Some a) (Some b) c s = refl
both-given (Some a) None c s = refl
both-given None b c s = refl

both-state : {X : Type 0} (a b : Option (List X)) (c : Around) (s : State) → (both_asked a b (λ a b. give (a ++ b)) c s).state ≡ s
both-state (Some a) (Some b) c s = refl
both-state (Some a) None c s = refl
both-state None b c s = refl

regrouped : (now f g r : List Fault) → r ≡ [] → now ++ (f ++ (g ++ r)) ≡ (now ++ f) ++ g
regrouped now f g r h =
    ap (λ r. now ++ (f ++ (g ++ r))) h ∙ (ap (λ g. now ++ (f ++ g)) (append-nil g) ∙ sym (append_assoc now f g))

-- ---- values of an automatic object

pub initials-step : (c : Around) (l : Leaf) (ls : List Leaf) (s : State) (whole : Said (List Initial)) (before now : List Fault) (xs : Option (List Initial)) →
    Remains whole before now (initials_row (l ∷ ls) c s) (all_more xs) →
    Remains whole before (now ++ (initial_row l c s).faults) (initials_row ls c (initial_row l c s).state) (all_more (one_more xs (initial_row l c s).given))
initials-step c l ls s whole before now xs h = record {
  faults = h.faults ∙ regrouped now (initial_row l c s).faults (initials_row ls c (initial_row l c s).state).faults [] refl;
  given = h.given ∙ more_joined xs (initial_row l c s).given (initials_row ls c (initial_row l c s).state).given;
  state = h.state;
}

-- ---- bytes and addresses of a static one

pub starts-step : (c : Around) (l : Leaf) (ls : List Leaf) (s : State) (whole : Said (List StaticPart)) (before now : List Fault) (xs : Option (List StaticPart)) →
    Remains whole before now (starts_row (l ∷ ls) c s) (all_more xs) →
    Remains whole before (now ++ (start_row l c s).faults) (starts_row ls c (start_row l c s).state) (all_more (all_more xs (start_row l c s).given))
starts-step c l ls s whole before now xs h =
    let one : Said (List StaticPart) = start_row l c s in
    let rest : Said (List StaticPart) = starts_row ls c one.state in
    record {
      faults = h.faults ∙ regrouped now one.faults rest.faults _ (both-faults one.given rest.given c rest.state);
      given = h.given ∙ (ap (all_more xs) (both-given one.given rest.given c rest.state) ∙ more_more xs one.given rest.given);
      state = h.state ∙ both-state one.given rest.given c rest.state;
    }

-- ---- items of a list

-- parts that were filled before others
abbrev pub behind : List Leaf → Filled → Filled
behind ls r = record { leaves = ls ++ r.leaves; count = r.count }

abbrev pub with_before : List Leaf → Option Filled → Option Filled
with_before ls o = option_map (behind ls) o

before_more : (ls ms : List Leaf) (o : Option Filled) → with_before ls (with_before ms o) ≡ with_before (ls ++ ms) o
before_more ls ms (Some r) = ap (λ (all : List Leaf). Some (record { leaves = all; count = r.count })) (sym (append_assoc ls ms r.leaves))
before_more ls ms None = refl

abbrev rest_of : List Leaf → Option Filled → Walk Filled
rest_of ms o = asked o (λ rest. give (record { leaves = ms ++ rest.leaves; count = rest.count }))

rest-faults : (ms : List Leaf) (o : Option Filled) (c : Around) (s : State) → (rest_of ms o c s).faults ≡ []
rest-faults ms (Some r) c s = refl
rest-faults ms None c s = refl

rest-given : (ms : List Leaf) (o : Option Filled) (c : Around) (s : State) → (rest_of ms o c s).given ≡ with_before ms o
rest-given ms (Some r) c s = refl
rest-given ms None c s = refl

rest-state : (ms : List Leaf) (o : Option Filled) (c : Around) (s : State) → (rest_of ms o c s).state ≡ s
rest-state ms (Some r) c s = refl
rest-state ms None c s = refl

-- an item that was placed, and the rest
abbrev placed_then : (list : Pos) → List Initialising → Option Placed → Walk Filled
placed_then list is a = asked a (λ a.
    λ c s. record {
      faults = (items_row list is a.around c s).faults ++ (rest_of a.leaves (items_row list is a.around c s).given c (items_row list is a.around c s).state).faults;
      given = (rest_of a.leaves (items_row list is a.around c s).given c (items_row list is a.around c s).state).given;
      state = (rest_of a.leaves (items_row list is a.around c s).given c (items_row list is a.around c s).state).state;
    })

pub items-step : (c : Around) (list : Pos) (i : Initialising) (is : List Initialising) (fs : List Frame) (s : State) (p : Placed)
    (whole : Said Filled) (before now : List Fault) (ls : List Leaf) → (item_row list i fs c s).given ≡ Some p →
    Remains whole before now (items_row list (i ∷ is) fs c s) (with_before ls) →
    Remains whole before (now ++ (item_row list i fs c s).faults) (items_row list is p.around c (item_row list i fs c s).state) (with_before (ls ++ p.leaves))
items-step c list i is fs s p whole before now ls e h =
    let one : Said Placed = item_row list i fs c s in
    let rest : Said Filled = items_row list is p.around c one.state in
    let then : placed_then list is one.given c one.state ≡ placed_then list is (Some p) c one.state = ap (λ o. placed_then list is o c one.state) e in
    record {
      faults = h.faults ∙ (ap (λ (r : Said Filled). now ++ (one.faults ++ r.faults)) then ∙ regrouped now one.faults rest.faults _ (rest-faults p.leaves rest.given c rest.state));
      given = h.given ∙ (ap (λ (r : Said Filled). with_before ls r.given) then ∙ (ap (with_before ls) (rest-given p.leaves rest.given c rest.state) ∙ before_more ls p.leaves rest.given));
      state = h.state ∙ (ap (λ (r : Said Filled). r.state) then ∙ rest-state p.leaves rest.given c rest.state);
    }

-- an item in which a fault stands
pub items-stop : (c : Around) (list : Pos) (i : Initialising) (is : List Initialising) (fs : List Frame) (s : State)
    (whole : Said Filled) (before now : List Fault) (ls : List Leaf) → (item_row list i fs c s).given ≡ None →
    Remains whole before now (items_row list (i ∷ is) fs c s) (with_before ls) →
    (whole.given ≡ None) × (before ++ whole.faults ≡ now ++ (item_row list i fs c s).faults) × (whole.state ≡ (item_row list i fs c s).state)
items-stop c list i is fs s whole before now ls e h =
    let one : Said Placed = item_row list i fs c s in
    let then : placed_then list is one.given c one.state ≡ placed_then list is None c one.state = ap (λ o. placed_then list is o c one.state) e in (
      h.given ∙ ap (λ (r : Said Filled). with_before ls r.given) then,
      h.faults ∙ (ap (λ (r : Said Filled). now ++ (one.faults ++ r.faults)) then ∙ ap (λ f. now ++ f) (append-nil one.faults)),
      h.state ∙ ap (λ (r : Said Filled). r.state) then,
    )
