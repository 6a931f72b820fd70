-- `parameters` declares what the parameters do, in order.
-- None at first, and then one more each turn.
use Rattle.c_tree.specs.Levels.Trees as level
use Rattle.c_unit_parser.proofs.Puts.{no_row, one_more}
use Rattle.c_unit_parser.proofs.declares.parameters.Goals as goal

pub loop-one-init : goal.loop-one-init
loop-one-init c = no_row level.parameter_level _

pub loop-one-preserved : goal.loop-one-preserved
loop-one-preserved c = one_more level.parameter_level c.args.all.now c.loop-one.one-index c.one-item.result c.loop-one-test.true c.one-item.is c.loop-one.invariant c.in_ok-parameter.ensures
