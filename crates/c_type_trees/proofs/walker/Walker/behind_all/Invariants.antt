-- `behind_all` of src/expressions.rt: what holds in its loop, and why that ends.
-- What stands behind the operands with which expressions begin, of which the last is the innermost.
use Rattle.std.proofs.Common.{◌≡◌, length}
use Rattle.c_type_trees.specs.Operands.{behind_all}
use Rattle.c_type_trees.proofs.After.{after}
use Rattle.c_type_trees.proofs.walker.Walker.behind_all.Given as goal

abbrev pub invariant-loop-tree : goal.invariant-loop-tree
invariant-loop-tree g l =
    after (behind_all l.fn.begun l.fn.first) l.around l.fn.found ≡ after (behind_all l.begun l.value) l.around l.found

abbrev pub decreases-loop-tree : goal.decreases-loop-tree
decreases-loop-tree g l = length l.begun
