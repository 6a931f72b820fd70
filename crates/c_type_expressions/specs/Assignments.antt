-- What a chain of assignments stands for as far as it has been read,
-- and the parts of what is added to it.
use Rattle.std.specs.Prelude.{◌≡◌, ◌&&◌, if◌then◌else◌, List, [], ◌∷◌, Option, Some, None, reverse}
use Rattle.c_tree.specs.declared.token.Punct.{Punct}
use Rattle.c_tree.specs.declared.typed.types.CType.{CType}
use Rattle.c_tree.specs.declared.typed.operator.Change.{Change}
use Rattle.c_tree.specs.declared.typed.expression.TExpr.{TExpr}
use Rattle.c_tree.specs.declared.typed.expression.TExpr.TheVariants as x
use Rattle.c_tree.specs.declared.typed.expression.Target.{Target}
use Rattle.c_tree.specs.declared.typed.expression.Target.TheVariants as target
use Rattle.c_typing.specs.Types.{is_pointer}
use Rattle.c_typing.specs.declared.operand.Form.TheVariants.{Named}
use Rattle.c_typing.specs.declared.operand.Operand.{Operand}
use Rattle.c_typing.specs.Operands.{value, tree_of, converted, is_null_constant}
use Rattle.c_typing.specs.Operators.{contained}
use Rattle.c_typing.specs.Expressions as spec
use Rattle.c_type_expressions.specs.declared.assignments.Assigned.{Assigned}
use Rattle.c_type_expressions.specs.declared.assignments.Assigned.TheVariants.{End, Targets}
use Rattle.c_type_expressions.specs.declared.assignments.Assignment.{Assignment}

abbrev pub targets_of : Assignment → List Target
targets_of a = a.first ∷ reverse a.others

abbrev pub assigned_of : Assigned → spec.Assigned
assigned_of (End o) = record { whole = o; targets = []; last = tree_of o }
assigned_of (Targets a) = record { whole = value a.ctype (x.Assign a.ctype (targets_of a) a.last); targets = targets_of a; last = a.last }

-- an operator that a compound assignment contains
abbrev pub IsContained : Punct → Type 0
IsContained q = (p : Punct) × (contained p ≡ Some q)

-- a left side with its change
abbrev pub target_by : Change → Operand → Target
target_by change left = elim left.form as (λ f. Target) [ Named p n r ↦ target.Variable p change | f ↦ target.Place (tree_of left) change ]

-- the value at the right end, at which nothing has been assigned yet
abbrev pub last_of : Option CType → CType → Operand → TExpr
last_of (Some u) t o = tree_of (converted u o)
last_of None t o = if is_pointer t && is_null_constant o then tree_of (converted t o) else tree_of o
