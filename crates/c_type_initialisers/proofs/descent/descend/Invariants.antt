-- `descend` of src/descent.rt: what holds in its loop.
-- The part of a part that an expression initialises: the first one of it that the expression takes as a whole, or that has no parts itself.
use Rattle.std.proofs.Common.{◌≡◌, ◌-◌}
use Rattle.c_type_initialisers.specs.Stacks.{stack}
use Rattle.c_typing.specs.OfInitialisers as spec
use Rattle.c_type_initialisers.proofs.descent.descend.Given as goal

abbrev pub invariant-loop-depth : goal.invariant-loop-depth
invariant-loop-depth l =
    spec.descend (spec.greatest_depth - l._depth) l.tags (spec.takes_whole l.whole.is_string l.whole.is_structure) (stack l.frames) l.piece
    ≡ spec.descend spec.greatest_depth l.tags (spec.takes_whole l.whole.is_string l.whole.is_structure) (stack l.initial.frames) l.initial.piece
