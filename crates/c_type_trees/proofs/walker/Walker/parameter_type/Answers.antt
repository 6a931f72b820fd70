-- `parameter_type` of src/parameters.rt: what the check leaves open of its proof.
-- The type of a parameter as adjusted (C11 6.7.6.3p7).
use Rattle.std.proofs.Common.{◌≡◌}
use Rattle.c_typing.specs.Declarators.{name_place}
use Rattle.c_typing.specs.Trees.{declarator_typing}
use Rattle.c_type_trees.proofs.Arms.{parameter_typed}
use Rattle.c_type_trees.proofs.walker.Walker.parameter_type.Goals as goal

pub returns : goal.returns
returns g c =
    let place : c.name_place.result ≡ name_place (declarator_typing c.args.tree.now).name c.args.first = cc in
    parameter_typed (declarator_typing c.args.tree.now) c.args.first c.args.basis c.args.around.now _ _ _ _ _ (rw c.basis_type-basis.ensures at c.in_ok-ctype.ensures) (rw place at c.adjusted_if_any.ensures)
