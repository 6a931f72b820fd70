-- `comma` of src/operators.rt: what holds in its loop.
-- `,` (C11 6.5.17): the values of all operands but the last are dropped.
use Rattle.std.proofs.Common.{◌≡◌, [], drop, map}
use Rattle.c_typing.specs.OfTrees.{commas_row}
use Rattle.c_typing.specs.Trees.{next_typing}
use Rattle.c_type_trees.proofs.After.{after}
use Rattle.c_type_trees.proofs.Turns.{comma_left}
use Rattle.c_type_trees.proofs.walker.Walker.comma.Given as goal

abbrev pub invariant-loop-next : goal.invariant-loop-next
invariant-loop-next g l =
    after (commas_row (map next_typing l.rest) [] l.fn.first) l.around l.fn.found
    ≡ after (comma_left l.dropped (map next_typing (drop l.next-index l.rest)) l.last) l.around l.found
