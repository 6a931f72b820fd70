-- Walks one behind the other, and what code ensures of them.
-- `Braced` and `Items` cite these lemmas.
use Rattle.std.proofs.Common.{◌≡◌, ◌∙◌, refl, sym, ap, List, ◌++◌, Option, Some, None, Result, Ok, Err, append_assoc}
use Rattle.std.specs.Option.{option_map}
use Rattle.std.proofs.lemmas.List.{append-nil}
use Rattle.word_ops.specs.declared.memory.Memory.{Memory}
use Rattle.c_typing.specs.declared.fault.Fault.{Fault}
use Rattle.c_typing.specs.declared.initialiser.Filled.{Filled}
use Rattle.c_typing.specs.declared.initialiser.Frame.{Frame}
use Rattle.c_typing.specs.declared.scope.State.{State}
use Rattle.c_typing.specs.Scopes.{Said, Walk, give, asked, ◌>>=◌}
use Rattle.c_typing.specs.OfInitialisers.{Placed, placed_by}
use Rattle.c_type_walk.specs.declared.around.Around.{Around}
use Rattle.c_type_walk.specs.declared.found.Found.{Found}
use Rattle.c_type_walk.specs.Walks.{Gave, Walks, fixed}
use Rattle.c_type_initialisers.specs.Stacks.{stack, placed_if}

-- another walk that says the same from here
pub gave_as : {A : Type 0} (said other : Said A) (old new : Found) (a : Option A) →
    said ≡ other → Gave other old new a → Gave said old new a
gave_as {A = A} said other old new a e h = record {
  is = h.is ∙ sym (ap (λ (s : Said A). s.given) e);
  faults = h.faults ∙ sym (ap (λ (s : Said A). old.faults ++ s.faults) e);
  state = h.state ∙ sym (ap (λ (s : Said A). s.state) e);
}

pub walks_as : {A : Type 0} (w v : Walk A) (c : Around) (old new : Found) (r : Result (Option A) Memory) →
    w (fixed c) old.state ≡ v (fixed c) old.state → Walks v c old r new → Walks w c old r new
walks_as w v c old new (Ok a) e h = gave_as (w (fixed c) old.state) (v (fixed c) old.state) old new a e h
walks_as w v c old new (Err x) e h = tt

-- a walk that is done, and the one behind it that is told what it gave
pub gave_then : {A B : Type 0} (w : Walk A) (f : Option A → Walk B) (c : Around) (old mid new : Found) (a : Option A) (b : Option B) →
    Gave (w (fixed c) old.state) old mid a → Gave (f a (fixed c) mid.state) mid new b → Gave ((w >>= f) (fixed c) old.state) old new b
gave_then {A = A} {B = B} w f c old mid new a b g h =
    let one : Said A = w (fixed c) old.state in
    let e : f a (fixed c) mid.state ≡ f one.given (fixed c) one.state =
    ap (λ (a : Option A). f a (fixed c) mid.state) g.is ∙ ap (λ (s : State). f one.given (fixed c) s) g.state in
    record {
      is = h.is ∙ ap (λ (s : Said B). s.given) e;
      faults = h.faults ∙ (ap (λ (s : Said B). mid.faults ++ s.faults) e ∙ (ap (λ (fs : List Fault). fs ++ (f one.given (fixed c) one.state).faults) g.faults ∙ append_assoc old.faults one.faults (f one.given (fixed c) one.state).faults));
      state = h.state ∙ ap (λ (s : Said B). s.state) e;
    }

pub walks_then : {A B : Type 0} (w : Walk A) (f : Option A → Walk B) (c : Around) (old mid new : Found) (a : Option A) (r : Result (Option B) Memory) →
    Gave (w (fixed c) old.state) old mid a → Walks (f a) c mid r new → Walks (w >>= f) c old r new
walks_then w f c old mid new a (Ok b) g h = gave_then w f c old mid new a b g h
walks_then w f c old mid new a (Err x) g h = tt

-- what an item has filled, and the aggregates that are open behind it
abbrev leaves_of : List Frame → Option Filled → Walk Placed
leaves_of fs o = asked o (λ r. give (record { leaves = r.leaves; around = fs }))

placed_none : (frames : List Frame) (o : Option Filled) (c : Around) (now : Found) →
    Gave (leaves_of (stack frames) o (fixed c) now.state) now now (placed_if (option_map (λ r. r.leaves) o) frames)
placed_none frames (Some r) c now = record { is = refl; faults = sym (append-nil now.faults); state = refl }
placed_none frames None c now = record { is = refl; faults = sym (append-nil now.faults); state = refl }

pub placed_gives : (w : Walk Filled) (frames : List Frame) (c : Around) (old new : Found) (o : Option Filled) →
    Gave (w (fixed c) old.state) old new o →
    Gave (placed_by (stack frames) w (fixed c) old.state) old new (placed_if (option_map (λ r. r.leaves) o) frames)
placed_gives w frames c old new o g =
    gave_then w (leaves_of (stack frames)) c old new new o (placed_if (option_map (λ r. r.leaves) o) frames) g (placed_none frames o c new)
