-- `members` of src/members.rt: what holds in its loop.
-- The members of a structure, where no fault stands in a declaration of them.
use Rattle.std.proofs.Common.{◌≡◌, drop, map}
use Rattle.c_typing.specs.Scopes.{◌>>=◌, in_row}
use Rattle.c_typing.specs.Trees.{member_typing}
use Rattle.c_type_trees.specs.Lists.{all_in_row}
use Rattle.c_type_trees.proofs.After.{after}
use Rattle.c_type_trees.proofs.Loops.{members_kept}
use Rattle.c_type_trees.proofs.walker.Walker.members.Given as goal

abbrev pub invariant-loop-one : goal.invariant-loop-one
invariant-loop-one g l =
    after (all_in_row (map member_typing l.list)) l.around l.fn.found
    ≡ after (in_row (map member_typing (drop l.one-index l.list)) >>= members_kept l.all) l.around l.found
