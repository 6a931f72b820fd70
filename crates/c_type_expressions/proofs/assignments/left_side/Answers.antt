-- The left side of an assignment
-- with the type of the value that it gives.
use Rattle.c_type_expressions.proofs.Targets.{left-side}
use Rattle.c_type_expressions.proofs.assignments.left_side.Goals as goal

pub returns : goal.returns
returns c = left-side c.args.left c.args.scalar c.args.operator c.in-Ok.ctype c.in-Ok-changed.first c.in-Ok.ensures c.in-Ok-changed.ensures
