-- `assigned_by` of src/sequences.rt: what the check leaves open of its proof.
-- A chain of assignments, made from its right end (C11 6.5.16p1).
use Rattle.std.proofs.Common.{◌∙◌, ap}
use Rattle.std.specs.Option.{option_map}
use Rattle.c_type_expressions.specs.Assignments.{assigned_of}
use Rattle.c_type_trees.specs.Sequences.{left_sides_row}
use Rattle.c_type_trees.proofs.After.{after, after_same, answered}
use Rattle.c_type_trees.proofs.Pops.{side_popped}
use Rattle.c_type_trees.proofs.Turns.{assigned, assigned_whole}
use Rattle.c_type_trees.proofs.sequences.assigned_by.Goals as goal

pub loop-side-preserved : goal.loop-side-preserved
loop-side-preserved c =
    c.loop-side.invariant ∙ side_popped _ _ c.in-Some.side _ _ c.args.around.now _ _ c.in-Some.ensures (rw c.released.ensures at c.in-Ok-assign_row.ensures)

pub returns : goal.returns
returns c =
    answered (left_sides_row c.args.left c.args.last) c.args.around.now _ _ _ _ c.value_of_assigned.ensures
    (c.loop-side.invariant
    ∙ ap (λ all. after (assigned all (option_map assigned_of c.loop-side.assigned)) c.args.around.now c.loop-side.found) c.in_default.ensures.0
    ∙ after_same _ _ c.args.around.now c.loop-side.found (assigned_whole (option_map assigned_of c.loop-side.assigned)))
