-- `parameter_list` of src/parameters.rt: what the check leaves open of its proof.
-- A parameter list: that of a definition stays in scope, and that of a declaration is a scope of its own (C11 6.2.1p4).
use Rattle.std.specs.Prelude.{Some}
use Rattle.std.proofs.Common.{ap, map}
use Rattle.c_typing.specs.OfTrees.{parameters_row}
use Rattle.c_typing.specs.Trees.{parameter_typing}
use Rattle.c_type_trees.specs.Lists.{listed}
use Rattle.c_type_trees.proofs.Nodes.{listing_walked}
use Rattle.c_type_trees.proofs.walker.Walker.parameter_list.Goals as goal

pub returns : goal.returns
returns g c =
    listing_walked (listed c.args.defining (parameters_row 0 (map parameter_typing c.args.list.now))) _ _ c.args.around.now _ _ c.in_ok-all.ensures (ap Some c.function_part.ensures)
