-- `while_row` of src/loops.rt: what the check leaves open of its proof.
-- `while` (C11 6.8.5.1).
use Rattle.c_typing.specs.Statements.{stmt_typing}
use Rattle.c_typing.specs.Trees.{expr_typing}
use Rattle.c_type_statements.proofs.Rows.{while_walked}
use Rattle.c_type_statements.proofs.walker.Walker.while_row.Goals as goal

pub returns : goal.returns
returns g c =
    while_walked c.args.at (expr_typing c.args.condition.now) (stmt_typing c.args.body.now) c.args.around.now c.in_scope-within.result c.args.found.now _ _ _ _ _ c.while_of.result
    c.in_scope-within.ensures c.in_ok-condition.ensures c.in-Ok.ensures c.close.ensures.faults c.close.ensures.state c.while_of.ensures
