-- `behind_all` of src/expressions.rt: what the check leaves open of its proof.
-- What stands behind the operands with which expressions begin, of which the last is the innermost.
use Rattle.std.proofs.Common.{◌∙◌, ap}
use Rattle.c_type_trees.specs.Operands.{behind_all}
use Rattle.c_type_trees.proofs.After.{after, done}
use Rattle.c_type_trees.proofs.Begins.{behind_popped}
use Rattle.c_type_trees.proofs.walker.Walker.behind_all.Goals as goal

pub loop-tree-preserved : goal.loop-tree-preserved
loop-tree-preserved g c =
    c.loop-tree.invariant ∙ behind_popped _ _ c.in-Some.tree _ _ c.args.around.now _ _ c.in-Some.ensures c.in-Ok.ensures

pub returns : goal.returns
returns g c =
    done (behind_all c.args.begun c.args.first) c.args.around.now _ _ _
    (c.loop-tree.invariant ∙ ap (λ ts. after (behind_all ts c.loop-tree.value) c.args.around.now c.loop-tree.found) c.in_default.ensures.0)
