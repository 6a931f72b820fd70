-- `loop_row` of src/loops.rt: what the check leaves open of its proof.
-- What is repeated of a `for`.
use Rattle.c_typing.specs.Statements.{stmt_typing}
use Rattle.c_typing.specs.OfStatements.{controlling_of}
use Rattle.c_type_statements.proofs.Rows.{loop_walked}
use Rattle.c_type_statements.proofs.walker.Walker.loop_row.Goals as goal

pub returns : goal.returns
returns g c =
    loop_walked c.args.at (controlling_of c.args.control.now) (stmt_typing c.args.body.now) c.args.around.now c.args.found.now _ _ _ _ _ _ c.for_of.result
    (rw c.as_ref.ensures.value at c.in_ok-condition.ensures) (rw c.as_ref-2.ensures.value at c.in-Ok.ensures) c.in-Ok-loop_body.ensures c.for_of.ensures
