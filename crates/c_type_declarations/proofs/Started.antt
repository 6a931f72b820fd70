-- Objects with an initialiser.
-- The answers of `automatic`, `static_objects` and `linked_objects` cite these lemmas.
use Rattle.std.proofs.Common.{◌≡◌, subst, [], ◌∷◌, ◌++◌, ℕ, Option, Some, None, Result, IfOk}
use Rattle.word_ops.specs.declared.memory.Memory.{Memory}
use Rattle.c_tree.specs.declared.expression.Identifier.{Identifier}
use Rattle.c_tree.specs.declared.typed.types.CType.{CType}
use Rattle.c_tree.specs.declared.typed.statement.Initialiser.{Initialiser}
use Rattle.c_tree.specs.declared.typed.statement.TStmt.TheVariants as t
use Rattle.c_typing.specs.declared.scope.State.{State}
use Rattle.c_typing.specs.Scopes.{Walk, ◌>>=◌, asked}
use Rattle.c_typing.specs.Scopes as scopes
use Rattle.c_typing.specs.declared.initialiser.Filled.{Filled}
use Rattle.c_typing.specs.Starts.{initialiser_row}
use Rattle.c_typing.specs.Declarations as spec
use Rattle.c_type_walk.specs.Walks.{Gave, Walks, fixed}
use Rattle.c_type_walk.specs.declared.around.Around.{Around}
use Rattle.c_type_walk.specs.declared.found.Found.{Found}
use Rattle.c_type_declarations.specs.declared.automatic.Slot.{Slot}
use Rattle.c_type_declarations.specs.Slots.{automatic_at, initialised_at}
use Rattle.c_type_walk.proofs.Walked.{then, gives, asks_nothing, changes, tail, answered}

-- a type may be filled, an initialiser fills it, and what is filled is walked by a call
pub started_as : {B C : Type 0} (fillable : Walk CType) (fill : CType → Walk B) (rest : CType → B → Walk C) (c : Around)
    (old mid behind new : Found) (u : CType) (f : B) (ou : Option CType) (of : Option B) (r : Result (Option C) Memory) →
    Gave (fillable (fixed c) old.state) old mid ou → ou ≡ Some u →
    Gave (fill u (fixed c) mid.state) mid behind of → of ≡ Some f →
    Walks (rest u f) c behind r new → Walks (fillable >>= λ u. asked u (λ u. fill u >>= λ f. asked f (rest u))) c old r new
started_as {B} {C} fillable fill rest c old mid behind new u f ou of r g e h l w =
    let P : Option CType → Type 0 = λ o. Gave (fillable (fixed c) old.state) old mid o in
    let Q : Option B → Type 0 = λ o. Gave (fill u (fixed c) mid.state) mid behind o in
    let one : Gave (fillable (fixed c) old.state) old mid (Some u) = subst P e g in
    let two : Gave (fill u (fixed c) mid.state) mid behind (Some f) = subst Q l h in
    tail (rest u f) (fillable >>= λ u. asked u (λ u. fill u >>= λ f. asked f (rest u))) c c old behind new r
    (λ a last. then fillable (λ u. asked u (λ u. fill u >>= λ f. asked f (rest u))) (fixed c) old mid new (Some u) a one
    (then (fill u) (λ f. asked f (rest u)) (fixed c) mid behind new (Some f) a two last)) w

-- an automatic object has its initial value
initialised_says : (place : ℕ) (w : Option CType) (i : Option Initialiser) (c : scopes.Around) (now : Found) →
    Gave (asked w (λ w. spec.initialised place i) c now.state) now now (initialised_at place w i)
initialised_says place (Some w) (Some i) c now = gives (t.Initialise place i ∷ []) c now
initialised_says place (Some w) None c now = asks_nothing c now
initialised_says place None (Some i) c now = asks_nothing c now
initialised_says place None None c now = asks_nothing c now

-- the walk of an automatic object of this type
abbrev pub filled_as : Identifier → CType → Slot → Filled → Walk spec.Made
filled_as id v slot filled =
    spec.sized_row id.place v >>= λ w. spec.automatic id.text v slot.place slot.number slot.in_register >>= λ v'. initialiser_row v filled.leaves >>= λ i.
    spec.owned v slot.number (asked w (λ w. spec.initialised slot.place i))

filled_says : (id : Identifier) (v : CType) (slot : Slot) (filled : Filled) (c : scopes.Around) (old one two three new : Found)
    (sized : Option CType) (initial : Option Initialiser) → Gave (spec.sized_row id.place v c old.state) old one sized →
    two.faults ≡ one.faults → two.state ≡ record (one.state) { names = one.state.names ++ (id.text, automatic_at slot v) ∷ [] } →
    Gave (initialiser_row v filled.leaves c two.state) two three initial →
    new.faults ≡ three.faults → new.state ≡ record (three.state) { own = three.state.own ++ record { ctype = v; number = slot.number } ∷ [] } →
    Gave (filled_as id v slot filled c old.state) old new (initialised_at slot.place sized initial)
filled_says id v slot filled c old one two three new sized initial g f h k l m =
    let given = initialised_at slot.place sized initial in
    let last : Option Initialiser → Walk spec.Made = λ i. spec.owned v slot.number (asked sized (λ w. spec.initialised slot.place i)) in
    then (spec.sized_row id.place v)
    (λ w. spec.automatic id.text v slot.place slot.number slot.in_register >>= λ v'. initialiser_row v filled.leaves >>= λ i.
    spec.owned v slot.number (asked w (λ w. spec.initialised slot.place i)))
    c old one new sized given g
    (then (spec.automatic id.text v slot.place slot.number slot.in_register) (λ v'. initialiser_row v filled.leaves >>= last) c one two new (Some v) given
    (changes (λ (s : State). record s { names = s.names ++ (id.text, automatic_at slot v) ∷ [] }) (scopes.give v) c one two two (Some v) f h (gives v c two))
    (then (initialiser_row v filled.leaves) last c two three new initial given k
    (changes (λ (s : State). record s { own = s.own ++ record { ctype = v; number = slot.number } ∷ [] }) (asked sized (λ w. spec.initialised slot.place initial)) c three new new given l m
    (initialised_says slot.place sized initial c new))))

pub automatic_says : (id : Identifier) (u v : CType) (slot : Slot) (filled : Filled) (c : Around) (old one two three new : Found)
    (sized : Option CType) (initial : Option Initialiser) (r : Result (Option spec.Made) Memory) → v ≡ spec.counted u filled.count →
    Gave (spec.sized_row id.place v (fixed c) old.state) old one sized →
    two.faults ≡ one.faults → two.state ≡ record (one.state) { names = one.state.names ++ (id.text, automatic_at slot v) ∷ [] } →
    Gave (initialiser_row v filled.leaves (fixed c) two.state) two three initial →
    new.faults ≡ three.faults → new.state ≡ record (three.state) { own = three.state.own ++ record { ctype = v; number = slot.number } ∷ [] } →
    IfOk r (λ p. p ≡ initialised_at slot.place sized initial) →
    Walks (spec.automatic_filled id u slot.place slot.number slot.in_register filled) c old r new
automatic_says id u v slot filled c old one two three new sized initial r e g f h i l m n =
    let P : CType → Type 0 = λ y. Gave (filled_as id y slot filled (fixed c) old.state) old new (initialised_at slot.place sized initial) in
    answered (spec.automatic_filled id u slot.place slot.number slot.in_register filled) c old new r (initialised_at slot.place sized initial) n
    (subst P e (filled_says id v slot filled (fixed c) old one two three new sized initial g f h i l m))
