-- `assigned_by` of src/sequences.rt: what holds in its loop, and why that ends.
-- A chain of assignments, made from its right end (C11 6.5.16p1).
use Rattle.std.proofs.Common.{◌≡◌, length}
use Rattle.std.specs.Option.{option_map}
use Rattle.c_type_expressions.specs.Assignments.{assigned_of}
use Rattle.c_type_trees.specs.Sequences.{left_sides_row}
use Rattle.c_type_trees.proofs.After.{after}
use Rattle.c_type_trees.proofs.Turns.{assigned}
use Rattle.c_type_trees.proofs.sequences.assigned_by.Given as goal

abbrev pub invariant-loop-side : goal.invariant-loop-side
invariant-loop-side l =
    after (left_sides_row l.fn.left l.fn.last) l.around l.fn.found
    ≡ after (assigned l.left (option_map assigned_of l.assigned)) l.around l.found

abbrev pub decreases-loop-side : goal.decreases-loop-side
decreases-loop-side l = length l.left
