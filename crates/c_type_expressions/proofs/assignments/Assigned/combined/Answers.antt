-- The row of the operator in a compound assignment
-- by the types of both sides.
use Rattle.std.proofs.Common.{◌∙◌, sym}
use Rattle.c_typing.specs.Operands.{valued}
use Rattle.c_type_expressions.specs.Assignments.{assigned_of}
use Rattle.c_type_expressions.proofs.assignments.Assigned.combined.Goals as goal

pub returns : goal.returns
returns c = c.combined_types.ensures (valued c.args.left.now) (assigned_of c.args.self.now).whole (sym c.in_ok-left.ensures) (sym (c.in-Ok.ensures ∙ c.ctype.ensures))
