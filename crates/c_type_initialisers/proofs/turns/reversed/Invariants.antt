-- `reversed` of src/turns.rt: what holds in its loop, and why that ends.
-- The items of a list, the last one first.
use Rattle.std.proofs.Common.{◌≡◌, ◌++◌, reverse, length}
use Rattle.c_type_initialisers.proofs.turns.reversed.Given as goal

abbrev pub invariant-loop-last : goal.invariant-loop-last
invariant-loop-last g l = l.turned ++ reverse l.list ≡ reverse l.initial.list

abbrev pub decreases-loop-last : goal.decreases-loop-last
decreases-loop-last g l = length l.list
