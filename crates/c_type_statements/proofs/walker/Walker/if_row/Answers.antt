-- `if_row` of src/ifs.rt: what the check leaves open of its proof.
-- `if` with each `else` (C11 6.8.4.1).
use Rattle.c_typing.specs.Statements.{stmt_typing}
use Rattle.c_typing.specs.Trees.{expr_typing}
use Rattle.std.proofs.Common.{map}
use Rattle.c_typing.specs.OfStatements.{condition_row, others_row}
use Rattle.c_typing.specs.Statements.{else_typing}
use Rattle.c_type_statements.proofs.Rows.{if_walked}
use Rattle.c_type_statements.proofs.walker.Walker.if_row.Goals as goal

pub returns : goal.returns
returns g c =
    if_walked (condition_row c.args.at (expr_typing c.args.condition.now)) (stmt_typing c.args.body.now) (others_row (map else_typing c.args.others.now)) c.args.around.now c.in_scope-within.result c.args.found.now
    _ _ _ _ _ _ c.if_of.result c.in_scope-within.ensures c.in_ok-first.ensures c.in_ok-first-2.ensures c.in-Ok.ensures c.close.ensures.faults c.close.ensures.state c.if_of.ensures
