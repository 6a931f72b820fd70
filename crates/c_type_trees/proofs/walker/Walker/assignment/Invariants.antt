-- `assignment` of src/operators.rt: what holds in its loop.
-- Assignments (C11 6.5.16): the operands are walked from left to right, and the chain is made from its right end.
use Rattle.std.proofs.Common.{◌≡◌, drop, map}
use Rattle.c_typing.specs.Scopes.{◌>>=◌}
use Rattle.c_typing.specs.OfTrees.{assigns_row}
use Rattle.c_typing.specs.Trees.{next_typing}
use Rattle.c_type_trees.specs.Sequences.{assignment_row}
use Rattle.c_type_trees.proofs.After.{after}
use Rattle.c_type_trees.proofs.Turns.{assigned}
use Rattle.c_type_trees.proofs.walker.Walker.assignment.Given as goal

abbrev pub invariant-loop-next : goal.invariant-loop-next
invariant-loop-next g l =
    after (assignment_row (map next_typing l.rest) l.fn.first) l.around l.fn.found
    ≡ after (assigns_row (map next_typing (drop l.next-index l.rest)) l.last >>= assigned l.left) l.around l.found
