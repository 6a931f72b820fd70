-- `branch_row` of src/ifs.rt: what the check leaves open of its proof.
-- A condition and what is done where it holds; the fault of the condition stands at the word.
use Rattle.c_typing.specs.Statements.{stmt_typing}
use Rattle.c_typing.specs.Trees.{expr_typing}
use Rattle.c_typing.specs.OfStatements.{condition_row}
use Rattle.c_type_walk.specs.Walks.{fixed}
use Rattle.c_type_statements.proofs.Rows.{branch_walked}
use Rattle.c_type_statements.proofs.walker.Walker.branch_row.Goals as goal

pub returns : goal.returns
returns g c =
    branch_walked (condition_row c.args.at (expr_typing c.args.condition.now)) (stmt_typing c.args.body.now) (fixed c.args.around.now) c.args.found.now
    _ _ c.in_ok-condition.condition c.in-Ok.body c.both_branches.result c.in_ok-condition.ensures c.in-Ok.ensures c.both_branches.ensures
