-- A call of a function with linkage:
-- it is told beside the call that the unit has no definition of it.
use Rattle.std.proofs.Common.{◌≡◌, ◌∙◌, ap, subst, List, ◌++◌, append_assoc, Option, Result, Ok, Err}
use Rattle.word_ops.specs.declared.memory.Memory.{Memory}
use Rattle.c_tree.specs.declared.token.Pos.{Pos}
use Rattle.c_tree.specs.declared.expression.Identifier.{Identifier}
use Rattle.c_tree.specs.declared.typed.types.CType.{CType}
use Rattle.c_typing.specs.declared.fault.Fault.{Fault}
use Rattle.c_typing.specs.declared.scope.State.{State}
use Rattle.c_typing.specs.declared.operand.Operand.{Operand}
use Rattle.c_typing.specs.Types.{Shape, FunctionOf}
use Rattle.c_typing.specs.Scopes.{Walk, beside, number_in}
use Rattle.c_typing.specs.Scopes as scopes
use Rattle.c_typing.specs.Expressions as spec
use Rattle.c_type_walk.specs.declared.around.Around.{Around}
use Rattle.c_type_walk.specs.declared.found.Found.{Found}
use Rattle.c_type_walk.specs.Walks.{Gave, Walks, fixed}

-- faults were told beside
tells : (fs : List Fault) (w : Walk Operand) (c : scopes.Around) (old mid new : Found) (a : Option Operand) →
    mid.faults ≡ old.faults ++ fs → mid.state ≡ old.state → Gave (w c mid.state) mid new a → Gave (beside fs w c old.state) old new a
tells fs w c old mid new a e h g = record {
  is = g.is ∙ ap (λ (s : State). (w c s).given) h;
  faults =
      g.faults
      ∙ ap (λ (all : List Fault). all ++ (w c mid.state).faults) e
      ∙ append_assoc old.faults fs (w c mid.state).faults
      ∙ ap (λ (s : State). old.faults ++ (fs ++ (w c s).faults)) h;
  state = g.state ∙ ap (λ (s : State). (w c s).state) h;
}

-- a function is called
pub called_function : (id : Identifier) (at : Pos) (args : List spec.Argument) (ts : List CType) (t : CType) (s : Shape) (c : Around) (old mid new : Found) →
    (r : Result (Option Operand) Memory) → FunctionOf ts t ≡ s →
    mid.faults ≡ old.faults ++ spec.no_body id (number_in 0 (fixed c).functions id.text) → mid.state ≡ old.state →
    Walks (spec.function_call id at args ts t) c mid r new → Walks (spec.linked_call id at args s) c old r new
called_function id at args ts t s c old mid new (Ok a) e g h w =
    subst (λ (u : Shape). Gave (spec.linked_call id at args u (fixed c) old.state) old new a) e
    (tells (spec.no_body id (number_in 0 (fixed c).functions id.text)) (spec.function_call id at args ts t) (fixed c) old mid new a g h w)
called_function id at args ts t s c old mid new (Err x) e g h w = tt
