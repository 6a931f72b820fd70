-- `comma` of src/operators.rt: what the check leaves open of its proof.
-- `,` (C11 6.5.17): the values of all operands but the last are dropped.
use Rattle.std.proofs.Common.{◌∙◌, ap, sym, map}
use Rattle.std.specs.Prelude.{[]}
use Rattle.c_typing.specs.OfTrees.{commas_row}
use Rattle.c_typing.specs.Trees.{next_typing}
use Rattle.c_type_trees.proofs.After.{after, after_same, answered}
use Rattle.c_type_trees.proofs.Kept.{all_turned}
use Rattle.c_type_trees.proofs.Turns.{comma_left, comma_last}
use Rattle.c_type_trees.proofs.Rounds.{comma_round}
use Rattle.c_type_trees.proofs.walker.Walker.comma.Goals as goal

pub loop-next-init : goal.loop-next-init
loop-next-init g c =
    ap (λ ds. after (commas_row (map next_typing c.args.rest.now) ds c.args.first) c.args.around.now c.args.found.now) (sym c.new.ensures)

pub loop-next-preserved : goal.loop-next-preserved
loop-next-preserved g c =
    comma_round c.args.rest.now c.loop-next.next-index c.next-item.result c.loop-next.dropped _ c.loop-next.last _ _ c.args.around.now _ _ c.loop-next-test.true c.next-item.is c.loop-next.invariant c.in_ok-dropped.ensures c.in-Ok.ensures

pub returns : goal.returns
returns g c =
    answered (commas_row (map next_typing c.args.rest.now) [] c.args.first) c.args.around.now _ c.loop-next.found _ _ c.comma_if_both.ensures
    (all_turned next_typing c.args.rest.now c.loop-next.next-index (λ ns. comma_left c.loop-next.dropped ns c.loop-next.last) _ c.args.around.now _ c.loop-next-test.false c.loop-next.invariant
    ∙ after_same _ _ c.args.around.now c.loop-next.found (comma_last c.loop-next.dropped c.loop-next.last))
