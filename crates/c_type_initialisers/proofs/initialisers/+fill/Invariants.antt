-- `fill` of src/initialisers.rt: what holds in its loop.
-- What an initialiser fills of an object of a type, which begins so many bytes from the start of the whole (C11 6.7.9).
use Rattle.std.proofs.Common.{drop, map}
use Rattle.c_type_walk.specs.Walks.{fixed}
use Rattle.c_typing.specs.Initialisers.{initialiser_item_typing}
use Rattle.c_typing.specs.OfInitialisers as spec
use Rattle.c_type_initialisers.specs.Stacks.{stack}
use Rattle.c_type_initialisers.proofs.Remains.{Remains, with_before}
use Rattle.c_type_initialisers.proofs.initialisers.+fill.Given as goal

abbrev pub invariant-items_row-loop-item : goal.invariant-items_row-loop-item
invariant-items_row-loop-item l =
    Remains (spec.items_row l.list (map initialiser_item_typing l.items) (stack l.initial.frames) (fixed l.around) l.initial.found.state)
    l.initial.found.faults l.found.faults
    (spec.items_row l.list (map initialiser_item_typing (drop l.item-index l.items)) (stack l.frames) (fixed l.around) l.found.state)
    (with_before l.leaves)
