-- One more left side in front of an operand,
-- or in front of assignments.
use Rattle.std.proofs.Common.{◌∙◌, ap}
use Rattle.std.proofs.lemmas.Result.{IfOk-weaker}
use Rattle.c_type_expressions.specs.Assignments.{assigned_of}
use Rattle.c_type_expressions.proofs.Targets.{preceded-end, preceded-more}
use Rattle.c_type_expressions.proofs.assignments.preceded.Goals as goal

pub returns-in-End : goal.returns-in-End
returns-in-End c =
    let e = preceded-end c.args.operand_type c.args.ctype c.args.first c.in-End.operand c.args.right c.in-End.is in
    IfOk-weaker c.one_target.result _ _ (λ a p. ap assigned_of p ∙ e) c.one_target.ensures

pub returns-in-Targets : goal.returns-in-Targets
returns-in-Targets c =
    let e = preceded-more c.args.operand_type c.args.ctype c.args.first c.in-Targets.assignment c.args.right c.in-Targets.is in
    IfOk-weaker c.one_more_target.result _ _ (λ a p. ap assigned_of p ∙ e) c.one_more_target.ensures
