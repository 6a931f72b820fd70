-- `for_first` of src/loops.rt: what the check leaves open of its proof.
-- A `for` whose head is an expression or nothing, which is done first.
use Rattle.c_typing.specs.Statements.{stmt_typing}
use Rattle.c_typing.specs.Trees.{expr_typing}
use Rattle.std.specs.Option.{option_copied, option_map}
use Rattle.c_typing.specs.OfStatements.{controlling_of}
use Rattle.c_type_statements.proofs.Rows.{first_walked}
use Rattle.c_type_statements.proofs.walker.Walker.for_first.Goals as goal

pub returns : goal.returns
returns g c =
    first_walked c.args.at (controlling_of c.args.control.now) (stmt_typing c.args.body.now) (option_map expr_typing (option_copied c.args.first)) c.args.around.now c.in_scope-within.result c.args.found.now
    _ _ _ _ _ _ c.in_scope-within.ensures c.in_ok-first.ensures c.in-Ok.ensures c.in_ok-made.ensures c.close.ensures.faults c.close.ensures.state
