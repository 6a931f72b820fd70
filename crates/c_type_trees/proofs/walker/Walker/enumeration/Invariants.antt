-- `enumeration` of src/specifying.rt: what holds in its loop.
-- An enumeration and its enumerators, the first from 0 (C11 6.7.2.2).
use Rattle.std.proofs.Common.{◌≡◌, drop, map}
use Rattle.c_typing.specs.Declarators.{enum_row}
use Rattle.c_typing.specs.Trees.{enumerator_typing}
use Rattle.c_type_trees.proofs.After.{after}
use Rattle.c_type_trees.proofs.Turns.{enumeration_left}
use Rattle.c_type_trees.proofs.walker.Walker.enumeration.Given as goal

abbrev pub invariant-loop-one : goal.invariant-loop-one
invariant-loop-one g l =
    after (enum_row l.fn.tag (map enumerator_typing l.list)) l.around l.fn.found
    ≡ after (enumeration_left l.fn.tag l.number l.next (map enumerator_typing (drop l.one-index l.list))) l.around l.found
