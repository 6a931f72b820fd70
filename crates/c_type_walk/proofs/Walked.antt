-- How what a function finds composes as the walk does that it computes.
-- The answers of the crates above cite these lemmas: `then`, scopes, and what a call answers.
use Rattle.std.proofs.Common.{◌≡◌, ◌∙◌, refl, ap, sym, subst, false, ℕ, List, ◌++◌, Option, Some, None, Result, Ok, Err, IfOk, take, length, append_assoc}
use Rattle.std.proofs.lemmas.List.{append-nil}
use Rattle.word_ops.specs.declared.memory.Memory.{Memory}
use Rattle.c_typing.specs.declared.fault.Fault.{Fault}
use Rattle.c_typing.specs.declared.scope.State.{State}
use Rattle.c_typing.specs.Scopes.{Walk, Said, give, unasked, ◌>>=◌, beside, change, closed, scoped, entered, left, in_definition}
use Rattle.c_typing.specs.Scopes as scopes
use Rattle.c_type_walk.specs.Walks.{Gave, Walks, fixed}
use Rattle.c_type_walk.specs.declared.around.Around.{Around}
use Rattle.c_type_walk.specs.declared.found.Found.{Found}

-- ---- rows

-- one walk and then another
pub then : {A B : Type 0} (w : Walk A) (f : Option A → Walk B) (c : scopes.Around) (old mid new : Found) (a : Option A) (b : Option B) →
    Gave (w c old.state) old mid a → Gave (f a c mid.state) mid new b → Gave ((w >>= f) c old.state) old new b
then {A} w f c old mid new a b g h =
    let first = w c old.state in
    let second = f first.given c first.state in
    record {
      is =
          h.is
          ∙ ap (λ (s : State). (f a c s).given) g.state
          ∙ ap (λ (o : Option A). (f o c first.state).given) g.is;
      faults =
          h.faults
          ∙ ap (λ (fs : List Fault). fs ++ (f a c mid.state).faults) g.faults
          ∙ ap (λ (s : State). (old.faults ++ first.faults) ++ (f a c s).faults) g.state
          ∙ ap (λ (o : Option A). (old.faults ++ first.faults) ++ (f o c first.state).faults) g.is
          ∙ append_assoc old.faults first.faults second.faults;
      state =
          h.state
          ∙ ap (λ (s : State). (f a c s).state) g.state
          ∙ ap (λ (o : Option A). (f o c first.state).state) g.is;
    }

-- this, and nothing is wrong
pub gives : {A : Type 0} (a : A) (c : scopes.Around) (now : Found) → Gave (give a c now.state) now now (Some a)
gives a c now = record { is = refl; faults = sym (append-nil now.faults); state = refl }

-- nothing is said
pub asks_nothing : {A : Type 0} (c : scopes.Around) (now : Found) → Gave (unasked {A = A} c now.state) now now None
asks_nothing c now = record { is = refl; faults = sym (append-nil now.faults); state = refl }

-- what was found has changed
pub changes : {A : Type 0} (f : State → State) (w : Walk A) (c : scopes.Around) (old mid new : Found) (a : Option A) →
    mid.faults ≡ old.faults → mid.state ≡ f old.state → Gave (w c mid.state) mid new a → Gave (change f w c old.state) old new a
changes f w c old mid new a e h g = record {
  is = g.is ∙ ap (λ (s : State). (w c s).given) h;
  faults = g.faults ∙ ap (λ (fs : List Fault). fs ++ (w c mid.state).faults) e ∙ ap (λ (s : State). old.faults ++ (w c s).faults) h;
  state = g.state ∙ ap (λ (s : State). (w c s).state) h;
}

-- faults were told beside
pub tells : {A : Type 0} (fs : List Fault) (w : Walk A) (c : scopes.Around) (old mid new : Found) (a : Option A) →
    mid.faults ≡ old.faults ++ fs → mid.state ≡ old.state → Gave (w c mid.state) mid new a → Gave (beside fs w c old.state) old new a
tells fs w c old mid new a e h g = record {
  is = g.is ∙ ap (λ (s : State). (w c s).given) h;
  faults =
      g.faults
      ∙ ap (λ (all : List Fault). all ++ (w c mid.state).faults) e
      ∙ append_assoc old.faults fs (w c mid.state).faults
      ∙ ap (λ (s : State). old.faults ++ (fs ++ (w c s).faults)) h;
  state = g.state ∙ ap (λ (s : State). (w c s).state) h;
}

-- ---- scopes

abbrev pub in_scope : scopes.Around → State → scopes.Around
in_scope c s = record c { names_from = length s.names; tags_from = length s.tags }

abbrev pub closed_at : (names tags : ℕ) → State → State
closed_at n m s = record s { names = take n s.names; tags = take m s.tags }

-- a scope ends
pub in_own_scope : {A : Type 0} (w : Walk A) (c : scopes.Around) (within : Around) (old mid new : Found) (a : Option A) →
    fixed within ≡ in_scope c old.state → Gave (w (fixed within) old.state) old mid a → new.faults ≡ mid.faults →
    new.state ≡ closed_at within.names_from within.tags_from mid.state → Gave (scoped w c old.state) old new a
in_own_scope {A} w c within old mid new a e g f h =
    let P : scopes.Around → Type 0 = λ d. Gave (w d old.state) old mid a in
    let inner : Gave (w (in_scope c old.state) old.state) old mid a = subst P e g in
    record {
      is = inner.is;
      faults = f ∙ inner.faults;
      state =
          h
          ∙ ap (λ (d : scopes.Around). closed_at d.names_from d.tags_from mid.state) e
          ∙ ap (λ (s : State). closed old.state s) inner.state;
    }

-- the scope of a function definition is entered and left
pub in_own_definition : {A : Type 0} (w : Walk A) (c : scopes.Around) (within : Around) (old first mid new : Found) (a : Option A) →
    fixed within ≡ record c { at_file_level = false; names_from = 0; tags_from = 0 } →
    first.faults ≡ old.faults → first.state ≡ entered old.state → Gave (w (fixed within) first.state) first mid a →
    new.faults ≡ mid.faults → new.state ≡ left mid.state → Gave (in_definition w c old.state) old new a
in_own_definition {A} w c within old first mid new a e f h g k l =
    let inside = record c { at_file_level = false; names_from = 0; tags_from = 0 } in
    let P : scopes.Around → Type 0 = λ d. Gave (w d first.state) first mid a in
    let inner : Gave (w inside first.state) first mid a = subst P e g in
    record {
      is = inner.is ∙ ap (λ (s : State). (w inside s).given) h;
      faults =
          k
          ∙ inner.faults
          ∙ ap (λ (fs : List Fault). fs ++ (w inside first.state).faults) f
          ∙ ap (λ (s : State). old.faults ++ (w inside s).faults) h;
      state = l ∙ ap left (inner.state ∙ ap (λ (s : State). (w inside s).state) h);
    }

-- ---- what a call answers

-- the last walk is that of a call
pub tail : {A : Type 0} (v w : Walk A) (d c : Around) (old mid new : Found) (r : Result (Option A) Memory) →
    ((a : Option A) → Gave (v (fixed d) mid.state) mid new a → Gave (w (fixed c) old.state) old new a) → Walks v d mid r new → Walks w c old r new
tail v w d c old mid new (Ok a) k h = k a h
tail v w d c old mid new (Err e) k h = tt

-- what is given is made without another walk
pub answered : {A : Type 0} (w : Walk A) (c : Around) (old new : Found) (r : Result (Option A) Memory) (o : Option A) →
    IfOk r (λ p. p ≡ o) → Gave (w (fixed c) old.state) old new o → Walks w c old r new
answered w c old new (Ok p) o e g = record { is = e ∙ g.is; faults = g.faults; state = g.state }
answered w c old new (Err x) o e g = tt
