-- What a block declares, once it ends.
-- `Rows` cites it, of each statement that is a block.
use Rattle.std.proofs.Common.{◌≡◌, ◌∙◌, ap, subst, ℕ, ◌+◌, List, [], ◌++◌, Option}
use Rattle.std.specs.Option.{option_map}
use Rattle.c_tree.specs.declared.typed.statement.Objects.{Objects}
use Rattle.c_typing.specs.declared.fault.Fault.{Fault}
use Rattle.c_typing.specs.declared.scope.State.{State}
use Rattle.c_typing.specs.Scopes.{Walk}
use Rattle.c_typing.specs.Scopes as scopes
use Rattle.c_typing.specs.OfStatements.{objects_of, owning}
use Rattle.c_type_walk.specs.Walks.{Gave, fixed}
use Rattle.c_type_walk.specs.declared.around.Around.{Around}
use Rattle.c_type_walk.specs.declared.found.Found.{Found}

-- the objects of a block end
pub with_own_objects : {A : Type 0} (count : ℕ) (w : Walk A) (c : scopes.Around) (within : Around) (old begun ended new : Found) (objects : Objects) (a : Option A) →
    fixed within ≡ record c { own_from = c.inner_from; inner_from = c.inner_from + count; numbers_from = old.state.declared } →
    begun.faults ≡ old.faults → begun.state ≡ record (old.state) { declared = old.state.declared + count; own = [] } →
    Gave (w (fixed within) begun.state) begun ended a →
    objects ≡ record { first = old.state.declared; list = objects_of ended.state ended.state.own } →
    new.faults ≡ ended.faults → new.state ≡ record (ended.state) { own = old.state.own } →
    Gave (owning count w c old.state) old new (option_map (λ (a : A). (objects, a)) a)
with_own_objects {A} count w c within old begun ended new objects a e f h g o k l =
    let d = record c { own_from = c.inner_from; inner_from = c.inner_from + count; numbers_from = old.state.declared } in
    let s = record (old.state) { declared = old.state.declared + count; own = [] } in
    let P : scopes.Around → Type 0 = λ d. Gave (w d begun.state) begun ended a in
    let at : Gave (w d begun.state) begun ended a = subst P e g in
    let made : State → A → Objects × A = λ s a. (record { first = old.state.declared; list = objects_of s s.own }, a) in
    record {
      is =
          ap (λ (x : Objects). option_map (λ (a : A). (x, a)) a) o
          ∙ ap (λ (x : Option A). option_map (made ended.state) x) at.is
          ∙ ap (λ (x : State). option_map (made x) (w d begun.state).given) at.state
          ∙ ap (λ (x : State). option_map (made (w d x).state) (w d x).given) h;
      faults =
          k ∙ at.faults
          ∙ ap (λ (fs : List Fault). fs ++ (w d begun.state).faults) f
          ∙ ap (λ (x : State). old.faults ++ (w d x).faults) h;
      state =
          l
          ∙ ap (λ (x : State). record x { own = old.state.own }) at.state
          ∙ ap (λ (x : State). record ((w d x).state) { own = old.state.own }) h;
    }
