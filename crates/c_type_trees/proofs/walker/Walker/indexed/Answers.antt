-- `indexed` of src/suffixes.rt: what the check leaves open of its proof.
-- `a[i]` (C11 6.5.2.1).
use Rattle.c_typing.specs.Scopes.{both_asked}
use Rattle.c_typing.specs.Expressions.{index_row}
use Rattle.c_typing.specs.Trees.{expr_typing}
use Rattle.c_type_trees.proofs.Arms.{then_walk}
use Rattle.c_type_trees.proofs.walker.Walker.indexed.Goals as goal

pub returns : goal.returns
returns g c =
    then_walk (expr_typing c.args.inner.now).typed (λ i. both_asked c.args.operand i (index_row c.args.place)) c.args.around.now _ _ _ _ _ c.in-Ok.ensures c.index_if_both.ensures
