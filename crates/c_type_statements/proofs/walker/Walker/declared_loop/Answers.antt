-- `declared_loop` of src/loops.rt: what the check leaves open of its proof.
-- What the head of a `for` declares, and then the loop.
use Rattle.c_typing.specs.Declarations as declarations
use Rattle.c_typing.specs.OfStatements as spec
use Rattle.c_typing.specs.Statements.{stmt_typing}
use Rattle.c_type_statements.proofs.Rows.{loop_walks}
use Rattle.c_type_statements.proofs.walker.Walker.declared_loop.Goals as goal

pub returns : goal.returns
returns g c =
    loop_walks (declarations.declaration_row (declarations.declared_of c.args.head.now)) (spec.loop_row c.args.at (spec.controlling_of c.args.control.now) (stmt_typing c.args.body.now))
    c.args.around.now c.args.found.now _ _ c.in_ok-made.made c.in-Ok.repeated c.with_one.result c.in_ok-made.ensures c.in-Ok.ensures c.with_one.ensures
