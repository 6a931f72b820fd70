-- `switch_row` of src/switches.rt: what the check leaves open of its proof.
-- `switch` (C11 6.8.4.2).
use Rattle.c_typing.specs.Statements.{block_item_typing}
use Rattle.c_typing.specs.Trees.{expr_typing}
use Rattle.std.proofs.Common.{map}
use Rattle.c_type_statements.proofs.Rows.{switch_walked}
use Rattle.c_type_statements.proofs.walker.Walker.switch_row.Goals as goal

pub returns : goal.returns
returns g c =
    switch_walked c.args.at (expr_typing c.args.condition.now) (map block_item_typing c.args.items.now) c.args.around.now c.in_scope-within.result c.args.found.now
    _ _ _ _ _ _ c.in_scope-within.ensures c.in_ok-operand.ensures c.in-Ok.ensures c.switch_of.ensures c.close.ensures.faults c.close.ensures.state
