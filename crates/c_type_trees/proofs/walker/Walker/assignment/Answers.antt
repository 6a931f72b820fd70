-- `assignment` of src/operators.rt: what the check leaves open of its proof.
-- Assignments (C11 6.5.16): the operands are walked from left to right, and the chain is made from its right end.
use Rattle.std.proofs.Common.{◌∙◌, ap, sym, map}
use Rattle.c_typing.specs.Scopes.{◌>>=◌}
use Rattle.c_typing.specs.OfTrees.{assigns_row}
use Rattle.c_typing.specs.Trees.{next_typing}
use Rattle.c_type_trees.specs.Sequences.{assignment_row, left_sides_row}
use Rattle.c_type_trees.proofs.After.{after, after_same, tail}
use Rattle.c_type_trees.proofs.Kept.{all_turned}
use Rattle.c_type_trees.proofs.Turns.{assigned, assigns_last}
use Rattle.c_type_trees.proofs.Steps.{assignment_begin}
use Rattle.c_type_trees.proofs.Rounds.{assignment_round}
use Rattle.c_type_trees.proofs.walker.Walker.assignment.Goals as goal

pub loop-next-init : goal.loop-next-init
loop-next-init g c =
    assignment_begin (map next_typing c.args.rest.now) c.args.first c.args.around.now c.args.found.now
    ∙ ap (λ ls. after (assigns_row (map next_typing c.args.rest.now) c.args.first >>= assigned ls) c.args.around.now c.args.found.now) (sym c.new-left.ensures)

pub loop-next-preserved : goal.loop-next-preserved
loop-next-preserved g c =
    assignment_round c.args.rest.now c.loop-next.next-index c.next-item.result c.loop-next.last _ c.loop-next.left _ _ c.args.around.now _ _ c.loop-next-test.true c.next-item.is c.loop-next.invariant c.in-Ok-expr.ensures c.in-Ok.ensures.ok

pub returns : goal.returns
returns g c =
    tail (assignment_row (map next_typing c.args.rest.now) c.args.first) (left_sides_row c.loop-next.left c.loop-next.last) c.args.around.now _ c.loop-next.found _ _
    (all_turned next_typing c.args.rest.now c.loop-next.next-index (λ ns. assigns_row ns c.loop-next.last >>= assigned c.loop-next.left) _ c.args.around.now _ c.loop-next-test.false c.loop-next.invariant
    ∙ after_same _ _ c.args.around.now c.loop-next.found (assigns_last c.loop-next.last c.loop-next.left))
    c.assigned_by.ensures
