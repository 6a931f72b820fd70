-- `binaries` of src/operators.rt: what holds in its loop.
-- Operators that are read from left to right (C11 6.5.5 to 6.5.12).
use Rattle.std.proofs.Common.{◌≡◌, drop, map}
use Rattle.c_typing.specs.OfTrees.{binaries_row}
use Rattle.c_typing.specs.Trees.{next_typing}
use Rattle.c_type_trees.proofs.After.{after}
use Rattle.c_type_trees.proofs.walker.Walker.binaries.Given as goal

abbrev pub invariant-loop-next : goal.invariant-loop-next
invariant-loop-next g l =
    after (binaries_row (map next_typing l.rest) l.fn.first) l.around l.fn.found
    ≡ after (binaries_row (map next_typing (drop l.next-index l.rest)) l.value) l.around l.found
