-- `binaries` of src/operators.rt: what the check leaves open of its proof.
-- Operators that are read from left to right (C11 6.5.5 to 6.5.12).
use Rattle.std.proofs.Common.{map}
use Rattle.c_typing.specs.OfTrees.{binaries_row}
use Rattle.c_typing.specs.Trees.{next_typing}
use Rattle.c_type_trees.proofs.After.{done}
use Rattle.c_type_trees.proofs.Kept.{all_turned}
use Rattle.c_type_trees.proofs.Rounds.{binaries_round}
use Rattle.c_type_trees.proofs.walker.Walker.binaries.Goals as goal

pub loop-next-preserved : goal.loop-next-preserved
loop-next-preserved g c =
    binaries_round c.args.rest.now c.loop-next.next-index c.next-item.result c.loop-next.value _ _ _ c.args.around.now _ _ _ c.loop-next-test.true c.next-item.is c.loop-next.invariant c.in-Ok.ensures c.in_ok-value.ensures

pub returns : goal.returns
returns g c =
    done (binaries_row (map next_typing c.args.rest.now) c.args.first) c.args.around.now _ _ _
    (all_turned next_typing c.args.rest.now c.loop-next.next-index (λ ns. binaries_row ns c.loop-next.value) _ c.args.around.now _ c.loop-next-test.false c.loop-next.invariant)
