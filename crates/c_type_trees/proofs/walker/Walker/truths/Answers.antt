-- `truths` of src/operators.rt: what the check leaves open of its proof.
-- The operands of `||` or `&&` behind the first, with those before them.
use Rattle.std.proofs.Common.{map}
use Rattle.c_typing.specs.OfTrees.{truths_row}
use Rattle.c_typing.specs.Trees.{next_typing}
use Rattle.c_type_trees.proofs.After.{done}
use Rattle.c_type_trees.proofs.Kept.{all_turned}
use Rattle.c_type_trees.proofs.Rounds.{truths_round}
use Rattle.c_type_trees.proofs.walker.Walker.truths.Goals as goal

pub loop-next-preserved : goal.loop-next-preserved
loop-next-preserved g c =
    truths_round c.args.rest.now c.loop-next.next-index c.next-item.result c.loop-next.all _ _ _ _ c.args.around.now _ _ _ c.loop-next-test.true c.next-item.is c.loop-next.invariant c.in-Ok.ensures c.in-Ok-truth_if_any.ensures c.in_ok-all.ensures

pub returns : goal.returns
returns g c =
    done (truths_row (map next_typing c.args.rest.now) c.args.done) c.args.around.now _ _ _
    (all_turned next_typing c.args.rest.now c.loop-next.next-index (λ ns. truths_row ns c.loop-next.all) _ c.args.around.now _ c.loop-next-test.false c.loop-next.invariant)
