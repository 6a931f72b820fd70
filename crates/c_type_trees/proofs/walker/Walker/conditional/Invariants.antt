-- `conditional` of src/operators.rt: what holds in its loop.
-- `? :` (C11 6.5.15): the operands are walked from left to right, and the chain is made from its right end.
use Rattle.std.proofs.Common.{◌≡◌, drop, map}
use Rattle.c_typing.specs.Scopes.{◌>>=◌}
use Rattle.c_typing.specs.OfTrees.{chain_row}
use Rattle.c_typing.specs.Trees.{branch_typing}
use Rattle.c_type_trees.specs.Sequences.{conditional_row}
use Rattle.c_type_trees.proofs.After.{after}
use Rattle.c_type_trees.proofs.Turns.{chosen}
use Rattle.c_type_trees.proofs.walker.Walker.conditional.Given as goal

abbrev pub invariant-loop-branch : goal.invariant-loop-branch
invariant-loop-branch g l =
    after (conditional_row (map branch_typing l.rest) l.fn.first) l.around l.fn.found
    ≡ after (chain_row (map branch_typing (drop l.branch-index l.rest)) l.last >>= chosen l.choices) l.around l.found
