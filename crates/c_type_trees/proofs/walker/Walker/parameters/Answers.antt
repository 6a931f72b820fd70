-- `parameters` of src/parameters.rt: what the check leaves open of its proof.
-- Parameters, numbered from 0.
use Rattle.std.proofs.Common.{◌∙◌, ap, sym, map}
use Rattle.std.specs.Prelude.{Some}
use Rattle.c_typing.specs.Scopes.{◌>>=◌}
use Rattle.c_typing.specs.OfTrees.{parameters_row}
use Rattle.c_typing.specs.Trees.{parameter_typing}
use Rattle.c_type_trees.proofs.After.{after, after_same, done}
use Rattle.c_type_trees.proofs.Kept.{all_turned}
use Rattle.c_type_trees.proofs.Loops.{kept, kept_first, kept_last}
use Rattle.c_type_trees.proofs.Rounds.{parameters_round}
use Rattle.c_type_trees.proofs.walker.Walker.parameters.Goals as goal

pub loop-one-init : goal.loop-one-init
loop-one-init g c =
    sym (after_same _ _ c.args.around.now c.args.found.now (kept_first (parameters_row 0 (map parameter_typing c.args.list.now))))
    ∙ ap (λ all. after (parameters_row 0 (map parameter_typing c.args.list.now) >>= kept (Some all)) c.args.around.now c.args.found.now) (sym c.new.ensures)

pub loop-one-preserved : goal.loop-one-preserved
loop-one-preserved g c =
    parameters_round c.args.list.now c.loop-one.one-index c.one-item.result c.loop-one.number _ c.loop-one.all _ _ _ c.args.around.now _ _ c.loop-one-test.true c.one-item.is c.loop-one.invariant c.in-Ok.ensures c.in_ok-all.ensures c.in-Some.ensures.1

pub returns : goal.returns
returns g c =
    done (parameters_row 0 (map parameter_typing c.args.list.now)) c.args.around.now _ _ _
    (all_turned parameter_typing c.args.list.now c.loop-one.one-index (λ qs. parameters_row c.loop-one.number qs >>= kept c.loop-one.all) _ c.args.around.now _ c.loop-one-test.false c.loop-one.invariant
    ∙ after_same _ _ c.args.around.now c.loop-one.found (kept_last c.loop-one.all))
