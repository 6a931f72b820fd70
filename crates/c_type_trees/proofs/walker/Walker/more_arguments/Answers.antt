-- `more_arguments` of src/suffixes.rt: what the check leaves open of its proof.
-- Arguments behind those that were walked.
use Rattle.std.proofs.Common.{◌∙◌}
use Rattle.std.specs.Prelude.{Some}
use Rattle.std.proofs.lemmas.List.{at_drop_all}
use Rattle.c_type_trees.specs.Calls.{more_arguments}
use Rattle.c_type_trees.proofs.After.{after, after_same, done}
use Rattle.c_type_trees.proofs.Loops.{gathered_last}
use Rattle.c_type_trees.proofs.Rounds.{more_arguments_round}
use Rattle.c_type_trees.proofs.walker.Walker.more_arguments.Goals as goal

pub loop-next-preserved : goal.loop-next-preserved
loop-next-preserved g c =
    more_arguments_round c.args.rest.now c.loop-next.next-index c.next-item.result c.loop-next.all.items _ _ _ _ c.args.around.now _ _ c.loop-next-test.true c.next-item.is c.loop-next.invariant c.in-Ok.ensures c.first_token.ensures c.in_ok-all.ensures

pub returns : goal.returns
returns g c =
    done (more_arguments c.args.before.items c.args.rest.now) c.args.around.now _ _ (Some c.loop-next.all.items)
    (c.loop-next.invariant ∙ at_drop_all (λ ns. after (more_arguments c.loop-next.all.items ns) c.args.around.now c.loop-next.found) c.args.rest.now c.loop-next.next-index c.loop-next-test.false
    ∙ after_same _ _ c.args.around.now c.loop-next.found (gathered_last c.loop-next.all.items))
