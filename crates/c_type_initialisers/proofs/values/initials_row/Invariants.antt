-- `initials_row` of src/values.rt: what holds in its loop, and why that ends.
-- The pieces in order, all of them where nothing is wrong with any.
use Rattle.std.proofs.Common.{length, reverse}
use Rattle.c_type_walk.specs.Walks.{fixed}
use Rattle.c_typing.specs.Starts as spec
use Rattle.c_type_initialisers.specs.Joined.{all_more}
use Rattle.c_type_initialisers.proofs.Remains.{Remains}
use Rattle.c_type_initialisers.proofs.values.initials_row.Given as goal

abbrev pub invariant-loop-leaf : goal.invariant-loop-leaf
invariant-loop-leaf l =
    Remains (spec.initials_row (reverse l.initial.rest) (fixed l.around) l.initial.found.state) l.initial.found.faults l.found.faults
    (spec.initials_row (reverse l.rest) (fixed l.around) l.found.state) (all_more l.initials)

abbrev pub decreases-loop-leaf : goal.decreases-loop-leaf
decreases-loop-leaf l = length l.rest
