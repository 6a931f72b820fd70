-- `more_arguments` of src/suffixes.rt: what holds in its loop.
-- Arguments behind those that were walked.
use Rattle.std.proofs.Common.{◌≡◌, drop}
use Rattle.c_type_trees.specs.Calls.{more_arguments}
use Rattle.c_type_trees.proofs.After.{after}
use Rattle.c_type_trees.proofs.walker.Walker.more_arguments.Given as goal

abbrev pub invariant-loop-next : goal.invariant-loop-next
invariant-loop-next g l =
    after (more_arguments l.fn.before.items l.rest) l.around l.fn.found
    ≡ after (more_arguments l.all.items (drop l.next-index l.rest)) l.around l.found
