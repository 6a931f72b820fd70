-- What is left to do of a walk, from a place where typing has found something already.
-- `Walks` of a row is shown by it call by call: `step`, and at the end `done` or `tail`.
use Rattle.std.specs.Prelude.{◌≡◌, List, ◌++◌, Option, Result, Ok, Err, IfOk, refl}
use Rattle.std.specs.Option.{option_map}
use Rattle.std.proofs.Common.{sym, ◌∙◌, ap, append_assoc, append-nil}
use Rattle.word_ops.specs.declared.memory.Memory.{Memory}
use Rattle.c_typing.specs.declared.fault.Fault.{Fault}
use Rattle.c_typing.specs.declared.scope.State.{State}
use Rattle.c_typing.specs.Scopes as scopes
use Rattle.c_typing.specs.Scopes.{Said, Walk, offer, ◌>>=◌}
use Rattle.c_type_walk.specs.declared.around.Around.{Around}
use Rattle.c_type_walk.specs.declared.found.Found.{Found}
use Rattle.c_type_walk.specs.Walks.{Gave, Walks, fixed}
use Rattle.c_type_expressions.specs.Told.{WalksAs}

-- what a walk comes to, behind the faults that were found before
unfoldable pub behind : {A : Type 0} → List Fault → Said A → Said A
behind fs said = record { faults = fs ++ said.faults; given = said.given; state = said.state }

unfoldable pub after : {A : Type 0} → Walk A → Around → Found → Said A
after w c f = behind f.faults (w (fixed c) f.state)

-- two walks come to the same
pub record Same {A : Type 0} (w v : Walk A) : Type 0 where
  pub at : (c : scopes.Around) (s : State) → w c s ≡ v c s

pub after_same : {A : Type 0} (w v : Walk A) (c : Around) (f : Found) → Same w v → after w c f ≡ after v c f
unfolding after
after_same w v c f same = ap (behind f.faults) (same.at (fixed c) f.state)

-- one walk is done, and the one that is told what it gave is left
pub step : {A B : Type 0} (w : Walk A) (f : Option A → Walk B) (c : Around) (old new : Found) (a : Option A)
    → Gave (w (fixed c) old.state) old new a → after (w >>= f) c old ≡ after (f a) c new
unfolding after behind
step w f c old new a g = rw (g.is, g.state, g.faults, append_assoc) refl

-- nothing is left but what is given
pub done : {A : Type 0} (w : Walk A) (c : Around) (old new : Found) (a : Option A)
    → after w c old ≡ after (offer a) c new → Gave (w (fixed c) old.state) old new a
unfolding after behind
done w c old new a e = record {
  is = sym (ap (λ said. said.given) e);
  faults = sym (ap (λ said. said.faults) e ∙ append-nil new.faults);
  state = sym (ap (λ said. said.state) e);
}

pub ended : {A : Type 0} (w : Walk A) (c : Around) (old new : Found) (a : Option A)
    → Gave (w (fixed c) old.state) old new a → after w c old ≡ after (offer a) c new
unfolding after behind
ended w c old new a g = rw (g.is, g.state, g.faults, append-nil) refl

-- the last walk of a row is that of a call
pub tail : {A : Type 0} (w v : Walk A) (c : Around) (old mid new : Found) (r : Result (Option A) Memory)
    → after w c old ≡ after v c mid → Walks v c mid r new → Walks w c old r new
tail w v c old mid new (Ok a) e h = done w c old new a (e ∙ ended v c mid new a h)
tail w v c old mid new (Err x) e h = tt

-- ---- walks that come to the same

pub same_refl : {A : Type 0} (w : Walk A) → Same w w
same_refl w = record { at = λ c s. refl }

pub same_then : {A : Type 0} (w v u : Walk A) → Same w v → Same v u → Same w u
same_then w v u a b = record { at = λ c s. a.at c s ∙ b.at c s }

pub bind_assoc : {A B C : Type 0} (w : Walk A) (f : Option A → Walk B) (g : Option B → Walk C)
    → Same ((w >>= f) >>= g) (w >>= λ a. f a >>= g)
bind_assoc w f g = record { at = λ c s. rw append_assoc refl }

pub bind_right : {A B : Type 0} (w : Walk A) (f g : Option A → Walk B) → ((a : Option A) → Same (f a) (g a)) → Same (w >>= f) (w >>= g)
bind_right w f g h = record { at = λ c s. rw ((h (w c s).given).at c (w c s).state) refl }

pub bind_left : {A B : Type 0} (w v : Walk A) (f : Option A → Walk B) → Same w v → Same (w >>= f) (v >>= f)
bind_left w v f h = record { at = λ c s. rw (h.at c s) refl }

pub bind_offer : {A : Type 0} (w : Walk A) → Same (w >>= offer) w
bind_offer w = record { at = λ c s. rw append-nil refl }

pub offer_bind : {A B : Type 0} (o : Option A) (f : Option A → Walk B) → Same (offer o >>= f) (f o)
offer_bind o f = record { at = λ c s. refl }

pub same_sym : {A : Type 0} (w v : Walk A) → Same w v → Same v w
same_sym w v a = record { at = λ c s. sym (a.at c s) }

-- ---- what is answered without another walk

pub answered : {A : Type 0} (w : Walk A) (c : Around) (old new : Found) (o : Option A) (r : Result (Option A) Memory)
    → IfOk r (λ p. p ≡ o) → after w c old ≡ after (offer o) c new → Walks w c old r new
answered w c old new o (Ok p) h e = done w c old new p (rw h e)
answered w c old new o (Err x) h e = tt

pub answered_as : {A B : Type 0} (f : B → A) (w : Walk A) (c : Around) (old new : Found) (o : Option A) (r : Result (Option B) Memory)
    → IfOk r (λ p. option_map f p ≡ o) → after w c old ≡ after (offer o) c new → WalksAs f w c old r new
answered_as f w c old new o (Ok p) h e = done w c old new (option_map f p) (rw h e)
answered_as f w c old new o (Err x) h e = tt

-- the last walk of a row is that of a call, whose given has another form
pub tail_as : {A B : Type 0} (f : B → A) (w v : Walk A) (c : Around) (old mid new : Found) (r : Result (Option B) Memory)
    → after w c old ≡ after v c mid → WalksAs f v c mid r new → WalksAs f w c old r new
tail_as f w v c old mid new (Ok a) e h = done w c old new (option_map f a) (e ∙ ended v c mid new (option_map f a) h)
tail_as f w v c old mid new (Err x) e h = tt
