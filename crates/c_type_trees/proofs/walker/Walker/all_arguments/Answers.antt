-- `all_arguments` of src/suffixes.rt: what the check leaves open of its proof.
-- A first argument and those behind it.
use Rattle.std.proofs.Common.{rules}
use Rattle.c_type_trees.proofs.Nodes.{arguments_begun}
use Rattle.c_type_trees.proofs.walker.Walker.all_arguments.Goals as goal

pub returns : goal.returns
returns g c =
    arguments_begun (λ v. v.items) c.args.first.now c.args.rest.now _ _ c.args.around.now _ _ _ _ c.in_ok-value.ensures (search rules) c.more_arguments.ensures
