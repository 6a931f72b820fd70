-- `scoped_row` of src/walker.rt: what the check leaves open of its proof.
-- A statement in a scope of its own (C11 6.8.4p3, 6.8.5p5).
use Rattle.c_typing.specs.Statements.{stmt_typing}
use Rattle.c_type_walk.specs.Walks.{fixed}
use Rattle.c_type_walk.proofs.Walked.{in_own_scope}
use Rattle.c_type_statements.proofs.walker.Walker.scoped_row.Goals as goal

pub returns : goal.returns
returns g c =
    in_own_scope (stmt_typing c.args.tree.now) (fixed c.args.around.now) c.in_scope-within.result c.args.found.now _ _ _
    c.in_scope-within.ensures c.in_ok-made.ensures c.close.ensures.faults c.close.ensures.state
