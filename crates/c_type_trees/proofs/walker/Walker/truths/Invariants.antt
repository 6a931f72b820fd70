-- `truths` of src/operators.rt: what holds in its loop.
-- The operands of `||` or `&&` behind the first, with those before them.
use Rattle.std.proofs.Common.{◌≡◌, drop, map}
use Rattle.c_typing.specs.OfTrees.{truths_row}
use Rattle.c_typing.specs.Trees.{next_typing}
use Rattle.c_type_trees.proofs.After.{after}
use Rattle.c_type_trees.proofs.walker.Walker.truths.Given as goal

abbrev pub invariant-loop-next : goal.invariant-loop-next
invariant-loop-next g l =
    after (truths_row (map next_typing l.rest) l.fn.done) l.around l.fn.found
    ≡ after (truths_row (map next_typing (drop l.next-index l.rest)) l.all) l.around l.found
