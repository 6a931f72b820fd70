-- The walk of a parameter list that is a scope of its own.
-- The answer of `prototype` cites it.
use Rattle.std.specs.Prelude.{◌≡◌, false, Option, length}
use Rattle.std.proofs.Common.{ap, subst, ◌∙◌}
use Rattle.c_typing.specs.Scopes as scopes
use Rattle.c_typing.specs.declared.scope.State.{State}
use Rattle.c_typing.specs.Scopes.{Walk, closed}
use Rattle.c_typing.specs.OfTrees.{in_prototype}
use Rattle.c_type_walk.specs.declared.around.Around.{Around}
use Rattle.c_type_walk.specs.declared.found.Found.{Found}
use Rattle.c_type_walk.specs.Walks.{Gave, fixed}

-- what is fixed in a scope that begins here, in which no object stands
abbrev pub in_list : Around → Found → scopes.Around
in_list c old = record (fixed c) { at_file_level = false; names_from = length old.state.names; tags_from = length old.state.tags }

pub prototyped : {A : Type 0} (w : Walk A) (c inside : Around) (old mid new : Found) (a : Option A)
    → fixed inside ≡ in_list c old → Gave (w (fixed inside) old.state) old mid a
    → new.faults ≡ mid.faults → new.state ≡ record (closed old.state mid.state) { addressed = old.state.addressed }
    → Gave (in_prototype w (fixed c) old.state) old new a
prototyped w c inside old mid new a e g f s =
    let h : Gave (w (in_list c old) old.state) old mid a = subst (λ (d : scopes.Around). Gave (w d old.state) old mid a) e g in record {
      is = h.is;
      faults = f ∙ h.faults;
      state = s ∙ ap (λ (m : State). record (closed old.state m) { addressed = old.state.addressed }) h.state;
    }
