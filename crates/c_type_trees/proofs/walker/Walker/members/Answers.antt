-- `members` of src/members.rt: what the check leaves open of its proof.
-- The members of a structure, where no fault stands in a declaration of them.
use Rattle.std.proofs.Common.{◌∙◌, ap, sym, map}
use Rattle.std.specs.Prelude.{Some}
use Rattle.c_typing.specs.Scopes.{◌>>=◌, in_row}
use Rattle.c_typing.specs.Trees.{member_typing}
use Rattle.c_type_trees.specs.Lists.{all_in_row}
use Rattle.c_type_trees.proofs.After.{after, after_same, done}
use Rattle.c_type_trees.proofs.Kept.{all_turned}
use Rattle.c_type_trees.proofs.Loops.{members_kept, members_first, members_last}
use Rattle.c_type_trees.proofs.Rounds.{members_round}
use Rattle.c_type_trees.proofs.walker.Walker.members.Goals as goal

pub loop-one-init : goal.loop-one-init
loop-one-init g c =
    sym (after_same _ _ c.args.around.now c.args.found.now (members_first (map member_typing c.args.list.now)))
    ∙ ap (λ all. after (in_row (map member_typing c.args.list.now) >>= members_kept (Some all)) c.args.around.now c.args.found.now) (sym c.new.ensures)

pub loop-one-preserved : goal.loop-one-preserved
loop-one-preserved g c =
    members_round c.args.list.now c.loop-one.one-index c.one-item.result c.loop-one.all _ _ _ c.args.around.now _ _ c.loop-one-test.true c.one-item.is c.loop-one.invariant c.in-Ok.ensures c.in_ok-all.ensures

pub returns : goal.returns
returns g c =
    done (all_in_row (map member_typing c.args.list.now)) c.args.around.now _ _ _
    (all_turned member_typing c.args.list.now c.loop-one.one-index (λ ws. in_row ws >>= members_kept c.loop-one.all) _ c.args.around.now _ c.loop-one-test.false c.loop-one.invariant
    ∙ after_same _ _ c.args.around.now c.loop-one.found (members_last c.loop-one.all))
