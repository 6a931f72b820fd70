-- `starts_row` of src/starts.rt: what holds in its loop, and why that ends.
-- What stands in a static object as the program begins, where that is not zero (C11 6.7.9p4, p10).
use Rattle.std.proofs.Common.{length, reverse}
use Rattle.c_type_walk.specs.Walks.{fixed}
use Rattle.c_typing.specs.Starts as spec
use Rattle.c_type_initialisers.specs.Joined.{all_more}
use Rattle.c_type_initialisers.proofs.Remains.{Remains}
use Rattle.c_type_initialisers.proofs.starts.starts_row.Given as goal

abbrev pub invariant-loop-leaf : goal.invariant-loop-leaf
invariant-loop-leaf l =
    Remains (spec.starts_row (reverse l.initial.rest) (fixed l.around) l.initial.found.state) l.initial.found.faults l.found.faults
    (spec.starts_row (reverse l.rest) (fixed l.around) l.found.state) (all_more l.parts)

abbrev pub decreases-loop-leaf : goal.decreases-loop-leaf
decreases-loop-leaf l = length l.rest
