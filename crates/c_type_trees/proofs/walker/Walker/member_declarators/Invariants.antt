-- `member_declarators` of src/members.rt: what holds in its loop.
-- The declarators of a declaration of members.
use Rattle.std.proofs.Common.{◌≡◌, drop, map}
use Rattle.c_typing.specs.Scopes.{◌>>=◌, in_row}
use Rattle.c_typing.specs.Declarators.{one_member}
use Rattle.c_typing.specs.Trees.{member_declarator_typing}
use Rattle.c_type_trees.specs.Lists.{all_in_row}
use Rattle.c_type_trees.proofs.After.{after}
use Rattle.c_type_trees.proofs.Loops.{members_kept}
use Rattle.c_type_trees.proofs.walker.Walker.member_declarators.Given as goal

abbrev pub invariant-loop-one : goal.invariant-loop-one
invariant-loop-one g l =
    after (all_in_row (map (one_member l.basis) (map member_declarator_typing l.list))) l.around l.fn.found
    ≡ after (in_row (map (one_member l.basis) (map member_declarator_typing (drop l.one-index l.list))) >>= members_kept l.all) l.around l.found
