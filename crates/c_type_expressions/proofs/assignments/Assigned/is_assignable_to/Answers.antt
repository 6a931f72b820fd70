-- The value of an assignment is assignable
-- where one that stands for it is.
use Rattle.std.proofs.Common.{◌∙◌, ap, sym}
use Rattle.c_typing.specs.Types.{unqualified}
use Rattle.c_typing.specs.Operands.{is_assignable}
use Rattle.c_type_expressions.specs.declared.assignments.Assigned.{Assigned}
use Rattle.c_type_expressions.specs.Assignments.{assigned_of, targets_of}
use Rattle.c_type_expressions.proofs.Ends.{same_end}
use Rattle.c_type_expressions.proofs.Values.{stands_for_assigned}
use Rattle.c_type_expressions.proofs.assignments.Assigned.is_assignable_to.Goals as goal

pub returns-in-Targets : goal.returns-in-Targets
returns-in-Targets c =
    let a = c.in-Targets.assignment in
    let t = unqualified c.args.ctype.now in
    same_end c.takes_value.result _ _ (stands_for_assigned t a.ctype (targets_of a) a.last ∙ ap (λ (x : Assigned). is_assignable t (assigned_of x).whole) (sym c.in-Targets.is)) c.takes_value.ensures
