-- `next_piece` of src/frames.rt: what holds in its loop, and why that ends.
-- The next part of the innermost aggregate that has one left, which is passed then; those that have none left are closed.
use Rattle.std.proofs.Common.{◌≡◌, length}
use Rattle.c_type_initialisers.specs.Stacks.{stack}
use Rattle.c_typing.specs.OfInitialisers as spec
use Rattle.c_type_initialisers.proofs.frames.next_piece.Given as goal

abbrev pub invariant-loop-frame : goal.invariant-loop-frame
invariant-loop-frame l = spec.next_piece l.tags (stack l.frames) ≡ spec.next_piece l.tags (stack l.initial.frames)

abbrev pub decreases-loop-frame : goal.decreases-loop-frame
decreases-loop-frame l = length l.frames
