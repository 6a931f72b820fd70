-- One turn of each loop over a list.
-- The answers of `fill`, `initials_row` and `starts_row` cite these lemmas.
use Rattle.std.proofs.Common.{◌≡◌, ◌∙◌, sym, ap, subst, List, [], ◌∷◌, ◌++◌, Option, Some, None, reverse}
use Rattle.c_tree.specs.declared.token.Pos.{Pos}
use Rattle.c_tree.specs.declared.typed.statement.Initial.{Initial}
use Rattle.c_tree.specs.declared.typed.unit.StaticPart.{StaticPart}
use Rattle.c_typing.specs.declared.fault.Fault.{Fault}
use Rattle.c_typing.specs.declared.initialiser.Filled.{Filled}
use Rattle.c_typing.specs.declared.initialiser.Frame.{Frame}
use Rattle.c_typing.specs.declared.initialiser.Leaf.{Leaf}
use Rattle.c_typing.specs.declared.scope.State.{State}
use Rattle.c_typing.specs.Scopes.{Said}
use Rattle.c_typing.specs.OfInitialisers.{Initialising, Placed, item_row, items_row}
use Rattle.c_typing.specs.Starts.{initial_row, initials_row, start_row, starts_row}
use Rattle.c_type_walk.specs.declared.around.Around.{Around}
use Rattle.c_type_walk.specs.declared.found.Found.{Found}
use Rattle.c_type_walk.specs.Walks.{Gave, fixed}
use Rattle.c_type_initialisers.specs.Joined.{one_more, all_more}
use Rattle.c_type_initialisers.specs.Stacks.{stack, placed_if}
use Rattle.c_type_initialisers.proofs.Turned.{reverse-last}
use Rattle.c_type_initialisers.proofs.Remains.{Remains, remains_at, initials-step, starts-step, items-step, items-stop, with_before}

-- ---- values of an automatic object

pub initials_turn : (c : Around) (old new : Found) (l : Leaf) (rest less : List Leaf) (whole : Said (List Initial)) (before : List Fault)
    (xs ys : Option (List Initial)) (a : Option Initial) →
    rest ≡ less ++ l ∷ [] → Gave (initial_row l (fixed c) old.state) old new a → ys ≡ one_more xs a →
    Remains whole before old.faults (initials_row (reverse rest) (fixed c) old.state) (all_more xs) →
    Remains whole before new.faults (initials_row (reverse less) (fixed c) new.state) (all_more ys)
initials_turn c old new l rest less whole before xs ys a e g y h =
    let P : List Leaf → Type 0 = λ ls. Remains whole before old.faults (initials_row ls (fixed c) old.state) (all_more xs) in
    let h : P (l ∷ reverse less) = subst P (ap reverse e ∙ reverse-last less l) h in
    remains_at whole before _ new.faults (λ (s : State). initials_row (reverse less) (fixed c) s) _ new.state _ (all_more ys)
    g.faults g.state (ap all_more y ∙ ap (λ (a : Option Initial). all_more (one_more xs a)) g.is)
    (initials-step (fixed c) l (reverse less) old.state whole before old.faults xs h)

-- ---- bytes and addresses of a static one

pub starts_turn : (c : Around) (old new : Found) (l : Leaf) (rest less : List Leaf) (whole : Said (List StaticPart)) (before : List Fault)
    (xs ys a : Option (List StaticPart)) →
    rest ≡ less ++ l ∷ [] → Gave (start_row l (fixed c) old.state) old new a → ys ≡ all_more xs a →
    Remains whole before old.faults (starts_row (reverse rest) (fixed c) old.state) (all_more xs) →
    Remains whole before new.faults (starts_row (reverse less) (fixed c) new.state) (all_more ys)
starts_turn c old new l rest less whole before xs ys a e g y h =
    let P : List Leaf → Type 0 = λ ls. Remains whole before old.faults (starts_row ls (fixed c) old.state) (all_more xs) in
    let h : P (l ∷ reverse less) = subst P (ap reverse e ∙ reverse-last less l) h in
    remains_at whole before _ new.faults (λ (s : State). starts_row (reverse less) (fixed c) s) _ new.state _ (all_more ys)
    g.faults g.state (ap all_more y ∙ ap (λ (a : Option (List StaticPart)). all_more (all_more xs a)) g.is)
    (starts-step (fixed c) l (reverse less) old.state whole before old.faults xs h)

-- ---- items of a list

pub items_turn : (c : Around) (old new : Found) (list : Pos) (i : Initialising) (is rest : List Initialising) (fs frames : List Frame)
    (o : Option (List Leaf)) (more : List Leaf) (whole : Said Filled) (before : List Fault) (ls ms : List Leaf) →
    rest ≡ i ∷ is → o ≡ Some more → ms ≡ ls ++ more → Gave (item_row list i fs (fixed c) old.state) old new (placed_if o frames) →
    Remains whole before old.faults (items_row list rest fs (fixed c) old.state) (with_before ls) →
    Remains whole before new.faults (items_row list is (stack frames) (fixed c) new.state) (with_before ms)
items_turn c old new list i is rest fs frames o more whole before ls ms e s m g h =
    let P : List Initialising → Type 0 = λ is. Remains whole before old.faults (items_row list is fs (fixed c) old.state) (with_before ls) in
    let h : P (i ∷ is) = subst P e h in
    let p : Placed = record { leaves = more; around = stack frames } in
    let given : (item_row list i fs (fixed c) old.state).given ≡ Some p = sym g.is ∙ ap (λ (o : Option (List Leaf)). placed_if o frames) s in
    remains_at whole before _ new.faults (λ (s : State). items_row list is (stack frames) (fixed c) s) _ new.state _ (with_before ms)
    g.faults g.state (ap with_before m)
    (items-step (fixed c) list i is fs old.state p whole before old.faults ls given h)

pub items_nothing : (c : Around) (first old new : Found) (list : Pos) (i : Initialising) (is rest : List Initialising) (fs frames : List Frame)
    (o : Option (List Leaf)) (whole : Said Filled) (ls : List Leaf) →
    rest ≡ i ∷ is → o ≡ None → Gave (item_row list i fs (fixed c) old.state) old new (placed_if o frames) →
    Remains whole first.faults old.faults (items_row list rest fs (fixed c) old.state) (with_before ls) → Gave whole first new None
items_nothing c first old new list i is rest fs frames o whole ls e s g h =
    let P : List Initialising → Type 0 = λ is. Remains whole first.faults old.faults (items_row list is fs (fixed c) old.state) (with_before ls) in
    let h : P (i ∷ is) = subst P e h in
    let given : (item_row list i fs (fixed c) old.state).given ≡ None = sym g.is ∙ ap (λ (o : Option (List Leaf)). placed_if o frames) s in
    let stop = items-stop (fixed c) list i is fs old.state whole first.faults old.faults ls given h in
    record { is = sym stop.0; faults = g.faults ∙ sym stop.1; state = g.state ∙ sym stop.2 }
