-- The loop over left sides from the last to the first:
-- those that were taken, and those that are left, are all.
use Rattle.std.proofs.Common.{◌≡◌, ◌++◌, ◌∷◌, reverse, length}
use Rattle.c_type_expressions.proofs.assignments.in_order.Given as goal

abbrev pub invariant-loop-target : goal.invariant-loop-target
invariant-loop-target l = l.list ++ reverse l.others ≡ l.fn.first ∷ reverse l.fn.others

abbrev pub decreases-loop-target : goal.decreases-loop-target
decreases-loop-target l = length l.others
