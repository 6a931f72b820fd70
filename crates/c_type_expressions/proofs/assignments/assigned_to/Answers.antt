-- A chain with one more left side in front
-- is the chain of the definition.
use Rattle.std.proofs.Common.{◌∙◌, ap}
use Rattle.std.proofs.lemmas.Result.{IfOk-weaker}
use Rattle.c_tree.specs.declared.typed.types.CType.{CType}
use Rattle.c_tree.specs.declared.typed.expression.Target.{Target}
use Rattle.c_type_expressions.specs.Assignments.{assigned_of}
use Rattle.c_type_expressions.specs.Preceded.{preceded_by}
use Rattle.c_type_expressions.proofs.assignments.assigned_to.Goals as goal

pub returns : goal.returns
returns c =
    let e = ap (λ (side : CType × Target). preceded_by side.0 side.1 c.args.operand_type (assigned_of c.args.right)) c.in-Ok.ensures in
    IfOk-weaker c.preceded.result _ _ (λ a p. p ∙ e) c.preceded.ensures
