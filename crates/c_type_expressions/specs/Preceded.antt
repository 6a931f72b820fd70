-- A chain of assignments with one more left side in front,
-- by the type of the value that this side gives.
use Rattle.std.specs.Prelude.{◌∷◌, Option}
use Rattle.c_tree.specs.declared.typed.types.CType.{CType}
use Rattle.c_tree.specs.declared.typed.expression.TExpr.TheVariants as x
use Rattle.c_tree.specs.declared.typed.expression.Target.{Target}
use Rattle.c_typing.specs.Operands.{value}
use Rattle.c_typing.specs.Expressions as spec

-- the value that the left side gives has this type
abbrev pub preceded_by : CType → Target → Option CType → spec.Assigned → spec.Assigned
preceded_by t first u right =
    let targets = first ∷ right.targets in
    let last = spec.last_as u t right in
    record { whole = value t (x.Assign t targets last); targets = targets; last = last }
