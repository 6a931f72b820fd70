-- `suffixes_parts` of src/declarators.rt: what the check leaves open of its proof.
-- What stands behind a declarator's middle, in order; the first stands beside the name, where nothing else does.
use Rattle.std.proofs.Common.{◌∙◌, ap, sym, map}
use Rattle.std.specs.Prelude.{Some}
use Rattle.c_typing.specs.Scopes.{◌>>=◌}
use Rattle.c_typing.specs.OfTrees.{suffixes_parts}
use Rattle.c_typing.specs.Trees.{declarator_suffix_typing}
use Rattle.c_type_trees.proofs.After.{after, after_same, done}
use Rattle.c_type_trees.proofs.Kept.{all_turned}
use Rattle.c_type_trees.proofs.Loops.{kept, kept_first, kept_last}
use Rattle.c_type_trees.proofs.Rounds.{suffixes_parts_round}
use Rattle.c_type_trees.proofs.walker.Walker.suffixes_parts.Goals as goal

pub loop-one-init : goal.loop-one-init
loop-one-init g c =
    sym (after_same _ _ c.args.around.now c.args.found.now (kept_first (suffixes_parts c.args.defining (map declarator_suffix_typing c.args.list.now))))
    ∙ ap (λ all. after (suffixes_parts c.args.defining (map declarator_suffix_typing c.args.list.now) >>= kept (Some all)) c.args.around.now c.args.found.now) (sym c.new.ensures)

pub loop-one-preserved : goal.loop-one-preserved
loop-one-preserved g c =
    suffixes_parts_round c.loop-one.kept c.args.list.now c.loop-one.one-index c.one-item.result c.loop-one.all _ _ _ c.args.around.now _ _ c.loop-one-test.true c.one-item.is c.loop-one.invariant c.in-Ok.ensures c.in_ok-all.ensures

pub returns : goal.returns
returns g c =
    done (suffixes_parts c.args.defining (map declarator_suffix_typing c.args.list.now)) c.args.around.now _ _ _
    (all_turned declarator_suffix_typing c.args.list.now c.loop-one.one-index (λ ss. suffixes_parts c.loop-one.kept ss >>= kept c.loop-one.all) _ c.args.around.now _ c.loop-one-test.false c.loop-one.invariant
    ∙ after_same _ _ c.args.around.now c.loop-one.found (kept_last c.loop-one.all))
