-- `suffixes` of src/suffixes.rt: what the check leaves open of its proof.
-- Suffixes behind an operand, from left to right.
use Rattle.std.proofs.Common.{map}
use Rattle.c_typing.specs.OfTrees.{suffixes_row}
use Rattle.c_typing.specs.Trees.{suffix_typing}
use Rattle.c_type_trees.proofs.After.{done}
use Rattle.c_type_trees.proofs.Kept.{all_turned}
use Rattle.c_type_trees.proofs.Rounds.{suffixes_round}
use Rattle.c_type_trees.proofs.walker.Walker.suffixes.Goals as goal

pub loop-one-preserved : goal.loop-one-preserved
loop-one-preserved g c =
    suffixes_round c.args.all.now c.loop-one.one-index c.one-item.result c.loop-one.value _ _ c.args.around.now _ _ c.loop-one-test.true c.one-item.is c.loop-one.invariant c.in_ok-value.ensures

pub returns : goal.returns
returns g c =
    done (suffixes_row (map suffix_typing c.args.all.now) c.args.operand) c.args.around.now _ _ _
    (all_turned suffix_typing c.args.all.now c.loop-one.one-index (λ qs. suffixes_row qs c.loop-one.value) _ c.args.around.now _ c.loop-one-test.false c.loop-one.invariant)
