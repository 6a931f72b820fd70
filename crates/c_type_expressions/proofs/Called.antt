-- What is called, by what its arguments are
-- and by the number of its definition.
use Rattle.std.proofs.Common.{◌≡◌, ◌∙◌, refl, ap, sym, ℕ, Bool, true, false, if◌then◌else◌, List, [], ◌++◌, Option, Some, None}
use Rattle.std.proofs.lemmas.List.{append-nil}
use Rattle.c_tree.specs.declared.expression.Identifier.{Identifier}
use Rattle.c_tree.specs.declared.typed.types.CType.{CType}
use Rattle.c_tree.specs.declared.typed.expression.TExpr.{TExpr}
use Rattle.c_typing.specs.declared.fault.Fault.{Fault}
use Rattle.c_typing.specs.declared.scope.State.{State}
use Rattle.c_typing.specs.declared.operand.Operand.{Operand}
use Rattle.c_typing.specs.Scopes.{Around, Said, Walk, give, offer, unasked, asked, here, number_in}
use Rattle.c_typing.specs.Expressions as spec
use Rattle.c_type_walk.specs.declared.found.Found.{Found}
use Rattle.c_type_walk.specs.Walks.{Gave}
use Rattle.c_type_expressions.specs.Calls.{answered, made}

-- nothing but what is given
abbrev only : State → Option Operand → Said Operand
only s o = record { faults = []; given = o; state = s }

library_said : (b : Bool) (o : Option Operand) (p : Operand) (c : Around) (s : State) →
    (if b then offer o else give p) c s ≡ only s (if b then o else Some p)
library_said true o p c s = refl
library_said false o p c s = refl

made_said : (id : Identifier) (t : CType) (es : List TExpr) (d : Option ℕ) (c : Around) (s : State) →
    spec.call_made id t es d c s ≡ only s (made id t es d)
made_said id t es (Some f) c s = refl
made_said id t es None c s = library_said (spec.is_library id.text) (spec.library_call id.text es) (spec.call_of t 0 es) c s

-- what is called with these arguments
abbrev called_with : Identifier → CType → Bool → Option (List TExpr) → Walk Operand
called_with id t as_many es =
    if as_many then asked es (λ es. here (λ c s. spec.call_made id t es (number_in 0 c.functions id.text))) else unasked

after_arguments : (id : Identifier) (args : List spec.Argument) (ts : List CType) (t : CType) (c : Around) (old new : Found) (es : Option (List TExpr)) (o : Option Operand) →
    Gave (spec.arguments_row args ts c old.state) old new es →
    called_with id t (spec.same_length args ts) es c (spec.arguments_row args ts c old.state).state ≡ only (spec.arguments_row args ts c old.state).state o →
    Gave (answered id args ts t c old.state) old new o
after_arguments id args ts t c old new es o h e =
    let first = spec.arguments_row args ts c old.state in
    let k : called_with id t (spec.same_length args ts) first.given c first.state ≡ only first.state o =
    ap (λ (vs : Option (List TExpr)). called_with id t (spec.same_length args ts) vs c first.state) (sym h.is) ∙ e in
    record {
      is = sym (ap (λ (said : Said Operand). said.given) k);
      faults = h.faults
          ∙ ap (λ (l : List Fault). old.faults ++ l) (sym (append-nil first.faults))
          ∙ ap (λ (said : Said Operand). old.faults ++ (first.faults ++ said.faults)) (sym k);
      state = h.state ∙ sym (ap (λ (said : Said Operand). said.state) k);
    }

-- as many arguments as parameters, without faults
pub answered-made : (id : Identifier) (args : List spec.Argument) (ts : List CType) (t : CType) (c : Around) (old new : Found) (es : List TExpr) (o : Option Operand) →
    spec.same_length args ts ≡ true → Gave (spec.arguments_row args ts c old.state) old new (Some es) → o ≡ made id t es (number_in 0 c.functions id.text) →
    Gave (answered id args ts t c old.state) old new o
answered-made id args ts t c old new es o b h e =
    let s = (spec.arguments_row args ts c old.state).state in
    after_arguments id args ts t c old new (Some es) o h
    (ap (λ (as_many : Bool). called_with id t as_many (Some es) c s) b
    ∙ made_said id t es (number_in 0 c.functions id.text) c s
    ∙ ap (λ (r : Option Operand). only s r) (sym e))
