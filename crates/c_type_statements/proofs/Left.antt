-- A walk of which a part was walked, and what is left of it.
-- The loop of `parts_row` goes on by `behind`, and ends by `done`.
use Rattle.std.proofs.Common.{◌≡◌, ◌∙◌, refl, ap, sym, List, ◌++◌, Option, append_assoc}
use Rattle.c_typing.specs.declared.fault.Fault.{Fault}
use Rattle.c_typing.specs.declared.scope.State.{State}
use Rattle.c_typing.specs.Scopes.{Walk, ◌>>=◌}
use Rattle.c_typing.specs.Scopes as scopes
use Rattle.c_type_walk.specs.Walks.{Gave}
use Rattle.c_type_walk.specs.declared.found.Found.{Found}

pub record Left {A : Type 0} (all rest : Walk A) (c : scopes.Around) (old now : Found) : Type 0 where
  pub given : (all c old.state).given ≡ (rest c now.state).given
  pub faults : old.faults ++ (all c old.state).faults ≡ now.faults ++ (rest c now.state).faults
  pub state : (all c old.state).state ≡ (rest c now.state).state

pub whole : {A : Type 0} (all : Walk A) (c : scopes.Around) (old : Found) → Left all all c old old
whole all c old = record { given = refl; faults = refl; state = refl }

-- one walk further
pub behind : {A B : Type 0} (all : Walk B) (w : Walk A) (f : Option A → Walk B) (c : scopes.Around) (old now new : Found) (given : Option A) →
    Left all (w >>= f) c old now → Gave (w c now.state) now new given → Left all (f given) c old new
behind {A} {B} all w f c old now new given h g =
    let first = w c now.state in
    let second = f first.given c first.state in
    record {
      given =
          h.given
          ∙ ap (λ (o : Option A). (f o c first.state).given) (sym g.is)
          ∙ ap (λ (s : State). (f given c s).given) (sym g.state);
      faults =
          h.faults
          ∙ sym (append_assoc now.faults first.faults second.faults)
          ∙ ap (λ (fs : List Fault). fs ++ second.faults) (sym g.faults)
          ∙ ap (λ (o : Option A). new.faults ++ (f o c first.state).faults) (sym g.is)
          ∙ ap (λ (s : State). new.faults ++ (f given c s).faults) (sym g.state);
      state =
          h.state
          ∙ ap (λ (o : Option A). (f o c first.state).state) (sym g.is)
          ∙ ap (λ (s : State). (f given c s).state) (sym g.state);
    }

-- where what is left says what was given, the whole is walked
pub done : {A : Type 0} (all rest : Walk A) (c : scopes.Around) (old now new : Found) (given : Option A) →
    Left all rest c old now → Gave (rest c now.state) now new given → Gave (all c old.state) old new given
done all rest c old now new given h g = record {
  is = g.is ∙ sym h.given;
  faults = g.faults ∙ sym h.faults;
  state = g.state ∙ sym h.state;
}
