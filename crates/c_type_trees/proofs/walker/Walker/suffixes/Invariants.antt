-- `suffixes` of src/suffixes.rt: what holds in its loop.
-- Suffixes behind an operand, from left to right.
use Rattle.std.proofs.Common.{◌≡◌, drop, map}
use Rattle.c_typing.specs.OfTrees.{suffixes_row}
use Rattle.c_typing.specs.Trees.{suffix_typing}
use Rattle.c_type_trees.proofs.After.{after}
use Rattle.c_type_trees.proofs.walker.Walker.suffixes.Given as goal

abbrev pub invariant-loop-one : goal.invariant-loop-one
invariant-loop-one g l =
    after (suffixes_row (map suffix_typing l.all) l.fn.operand) l.around l.fn.found
    ≡ after (suffixes_row (map suffix_typing (drop l.one-index l.all)) l.value) l.around l.found
