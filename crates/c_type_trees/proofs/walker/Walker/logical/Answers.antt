-- `logical` of src/operators.rt: what the check leaves open of its proof.
-- `||` or `&&` (C11 6.5.14, 6.5.13).
use Rattle.std.proofs.Common.{map}
use Rattle.c_typing.specs.OfTrees.{logical_row}
use Rattle.c_typing.specs.Trees.{next_typing}
use Rattle.c_type_trees.specs.Sequences.{logical_tree}
use Rattle.c_type_trees.proofs.After.{answered}
use Rattle.c_type_trees.proofs.Arms.{logical_walked, logical_alone}
use Rattle.c_type_trees.proofs.walker.Walker.logical.Goals as goal

pub returns-in_ok-all-in-Some : goal.returns-in_ok-all-in-Some
returns-in_ok-all-in-Some g c =
    answered (logical_row (logical_tree c.args.is_or) c.args.first (map next_typing c.args.rest.now)) c.args.around.now _ _ _ _ c.logical_of.ensures
    (logical_walked c.args.is_or c.args.rest.now c.in-Some.next.now c.args.first _ _ c.args.around.now _ _ _ c.in-Some.ensures.value c.in_ok-done-in-Some.ensures c.in_ok-all-in-Some.ensures)

pub returns-in-None : goal.returns-in-None
returns-in-None g c =
    logical_alone c.args.is_or c.args.rest.now c.args.first c.args.around.now _ c.in-None.ensures.value
