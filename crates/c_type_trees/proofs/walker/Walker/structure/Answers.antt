-- `structure` of src/members.rt: what the check leaves open of its proof.
-- A structure and its members.
use Rattle.std.proofs.Common.{◌≡◌, map}
use Rattle.c_typing.specs.Declarators.{tag_place}
use Rattle.c_typing.specs.Trees.{member_typing}
use Rattle.c_type_trees.proofs.Nodes.{structured_by}
use Rattle.c_type_trees.proofs.walker.Walker.structure.Goals as goal

pub returns : goal.returns
returns g c =
    let place : c.name_place-place.result ≡ tag_place c.args.tag.now c.args.word = cc in
    structured_by c.args.word c.args.tag.now _ _ (map member_typing c.args.list.now) c.args.around.now _ _ _ c.members_if_both.new.found _ _ c.members_if_both.result
    c.as_ref.ensures.value place c.in_ok-number.ensures c.in_ok-all.ensures c.members_if_both.ensures
