-- `called_value` of src/suffixes.rt: what the check leaves open of its proof.
-- A call, with arguments, of what is not the name of a function (C11 6.5.2.2p1).
use Rattle.c_tree.specs.declared.refusal.FaultKind.TheVariants as kind
use Rattle.c_typing.specs.Scopes.{tell, asked}
use Rattle.c_type_trees.specs.Calls.{all_arguments}
use Rattle.c_type_trees.proofs.Arms.{then_walk}
use Rattle.c_type_trees.proofs.walker.Walker.called_value.Goals as goal

pub returns : goal.returns
returns g c =
    then_walk (all_arguments c.args.first.now c.args.rest.now) (λ args. asked c.args.operand (λ o. tell kind.BadCall c.args.place)) c.args.around.now _ _ _ _ _ c.in-Ok.ensures c.bad_call_if_any.ensures
