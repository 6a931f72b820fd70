-- `sizeof` of src/prefixes.rt: what the check leaves open of its proof.
-- `sizeof` of a type (C11 6.5.3.4).
use Rattle.c_typing.specs.Scopes.{asked}
use Rattle.c_typing.specs.Expressions.{size_row}
use Rattle.c_typing.specs.Trees.{type_name_typing}
use Rattle.c_type_trees.proofs.Arms.{then_walk}
use Rattle.c_type_trees.proofs.walker.Walker.sizeof.Goals as goal

pub returns : goal.returns
returns g c =
    then_walk ((type_name_typing c.args.tree.now).typed c.args.place) (λ t. asked t (size_row c.args.place)) c.args.around.now _ _ _ _ _ c.in_ok-ctype.ensures c.size_if_any.ensures
