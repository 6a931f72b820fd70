-- `do_row` of src/loops.rt: what the check leaves open of its proof.
-- `do` (C11 6.8.5.2).
use Rattle.c_typing.specs.Statements.{stmt_typing}
use Rattle.c_typing.specs.Trees.{expr_typing}
use Rattle.c_type_statements.proofs.Rows.{do_walked}
use Rattle.c_type_statements.proofs.walker.Walker.do_row.Goals as goal

pub returns : goal.returns
returns g c =
    do_walked c.args.at (stmt_typing c.args.body.now) (expr_typing c.args.condition.now) c.args.around.now c.in_scope-within.result c.args.found.now _ _ _ _ _ c.do_of.result
    c.in_scope-within.ensures c.in_ok-body.ensures c.in-Ok.ensures c.close.ensures.faults c.close.ensures.state c.do_of.ensures
