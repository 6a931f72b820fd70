-- `suffixes_parts` of src/declarators.rt: what holds in its loop.
-- What stands behind a declarator's middle, in order; the first stands beside the name, where nothing else does.
use Rattle.std.proofs.Common.{◌≡◌, drop, map}
use Rattle.c_typing.specs.Scopes.{◌>>=◌}
use Rattle.c_typing.specs.OfTrees.{suffixes_parts}
use Rattle.c_typing.specs.Trees.{declarator_suffix_typing}
use Rattle.c_type_trees.proofs.After.{after}
use Rattle.c_type_trees.proofs.Loops.{kept}
use Rattle.c_type_trees.proofs.walker.Walker.suffixes_parts.Given as goal

abbrev pub invariant-loop-one : goal.invariant-loop-one
invariant-loop-one g l =
    after (suffixes_parts l.fn.defining (map declarator_suffix_typing l.list)) l.around l.fn.found
    ≡ after (suffixes_parts l.kept (map declarator_suffix_typing (drop l.one-index l.list)) >>= kept l.all) l.around l.found
