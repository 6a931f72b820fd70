-- `enumeration` of src/specifying.rt: what the check leaves open of its proof.
-- An enumeration and its enumerators, the first from 0 (C11 6.7.2.2).
use Rattle.std.proofs.Common.{map}
use Rattle.c_typing.specs.Declarators.{enum_row, enum_ended}
use Rattle.c_typing.specs.Trees.{enumerator_typing}
use Rattle.c_type_trees.proofs.After.{tail}
use Rattle.c_type_trees.proofs.Kept.{all_turned}
use Rattle.c_type_trees.proofs.Nodes.{enum_opened, enum_none}
use Rattle.c_type_trees.proofs.Turns.{enumeration_left}
use Rattle.c_type_trees.proofs.Rounds.{enumeration_round}
use Rattle.c_type_trees.proofs.walker.Walker.enumeration.Goals as goal

pub loop-one-init : goal.loop-one-init
loop-one-init g c =
    enum_opened c.args.tag.now (map enumerator_typing c.args.list.now) _ _ _ c.args.around.now _ _ c.as_ref.ensures.value c.in-Some.is c.in_ok-number.ensures

pub returns-in_default : goal.returns-in_default
returns-in_default g c =
    enum_none c.args.tag.now (map enumerator_typing c.args.list.now) _ _ c.args.around.now _ _ c.as_ref.ensures.value c.in_default.is c.in_ok-number.ensures

pub loop-one-preserved : goal.loop-one-preserved
loop-one-preserved g c =
    enumeration_round c.args.tag.now c.in-Some.number c.args.list.now c.loop-one.one-index c.one-item.result c.loop-one.next _ _ _ c.args.around.now _ _ c.loop-one-test.true c.one-item.is c.loop-one.invariant c.in_ok-value.ensures c.following_number-next.ensures

pub returns : goal.returns
returns g c =
    tail (enum_row c.args.tag.now (map enumerator_typing c.args.list.now)) (enum_ended c.args.tag.now c.in-Some.number) c.args.around.now c.args.found.now c.loop-one.found _ _
    (all_turned enumerator_typing c.args.list.now c.loop-one.one-index (enumeration_left c.args.tag.now c.in-Some.number c.loop-one.next) _ c.args.around.now _ c.loop-one-test.false c.loop-one.invariant)
    (rw c.as_ref-2.ensures.value at c.enum_ended.ensures)
