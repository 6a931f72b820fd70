-- What is done with the object of a left side
-- converts the value to the type of the object.
use Rattle.std.proofs.lemmas.Result.{IfOk-weaker}
use Rattle.c_type_expressions.proofs.Targets.{target-same}
use Rattle.c_type_expressions.proofs.assignments.changed.Goals as goal

pub returns : goal.returns
returns c =
    let k = c.args.scalar in
    let v = c.conversion_to-conversion.result in
    IfOk-weaker c.target_of.result _ _ (λ a p. target-same k v c.args.ctype.now c.args.operator c.args.left a c.conversion_to-conversion.ensures p) c.target_of.ensures
