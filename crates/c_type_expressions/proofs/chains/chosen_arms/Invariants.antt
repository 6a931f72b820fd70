-- The loop over the conditions of a chain: those that were made into trees,
-- and those that are left, are the whole list.
use Rattle.std.proofs.Common.{◌≡◌, ◌++◌, map, reverse, length}
use Rattle.c_type_expressions.specs.Chains.{arm_at}
use Rattle.c_type_expressions.proofs.chains.chosen_arms.Given as goal

abbrev pub invariant-loop-arm : goal.invariant-loop-arm
invariant-loop-arm l = l.list ++ map (arm_at l.ctype) (reverse l.arms) ≡ map (arm_at l.ctype) (reverse l.fn.arms)

abbrev pub decreases-loop-arm : goal.decreases-loop-arm
decreases-loop-arm l = length l.arms
