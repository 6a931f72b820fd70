-- `expression` of src/expressions.rt: what the check leaves open of its proof.
-- What typing makes of an expression.
use Rattle.std.proofs.Common.{refl, sym}
use Rattle.c_typing.specs.Trees.{expr_typing}
use Rattle.c_type_trees.proofs.After.{same_sym, bind_offer}
use Rattle.c_type_trees.proofs.Begins.{deeper_begun, innermost_begun}
use Rattle.c_type_trees.proofs.walker.Walker.expression.Goals as goal

pub loop-operand-init : goal.loop-operand-init
loop-operand-init g c = rw c.new-begun.ensures (same_sym _ _ (bind_offer (expr_typing c.args.tree.now).typed))

pub loop-operand-preserved : goal.loop-operand-preserved
loop-operand-preserved g c =
    deeper_begun c.args.tree.now _ c.in-Some.operand.now _ _ _ refl (sym c.in-Some.ensures.first) c.in-Ok.ensures.ok c.loop-operand.invariant

pub returns : goal.returns
returns g c =
    innermost_begun c.args.tree.now _ _ _ c.behind_all.result c.args.around.now _ _ c.behind_all.new.found c.loop-operand.invariant (sym c.in_default.ensures.first) c.in-Ok-other.ensures c.behind_all.ensures
