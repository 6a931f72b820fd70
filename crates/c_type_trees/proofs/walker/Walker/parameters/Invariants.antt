-- `parameters` of src/parameters.rt: what holds in its loop.
-- Parameters, numbered from 0.
use Rattle.std.proofs.Common.{◌≡◌, drop, map}
use Rattle.c_typing.specs.Scopes.{◌>>=◌}
use Rattle.c_typing.specs.OfTrees.{parameters_row}
use Rattle.c_typing.specs.Trees.{parameter_typing}
use Rattle.c_type_trees.proofs.After.{after}
use Rattle.c_type_trees.proofs.Loops.{kept}
use Rattle.c_type_trees.proofs.walker.Walker.parameters.Given as goal

abbrev pub invariant-loop-one : goal.invariant-loop-one
invariant-loop-one g l =
    after (parameters_row 0 (map parameter_typing l.list)) l.around l.fn.found
    ≡ after (parameters_row l.number (map parameter_typing (drop l.one-index l.list)) >>= kept l.all) l.around l.found
