-- The loop over the arguments of a call: what has been given so far, and the row of
-- the rest, are the whole row.
use Rattle.c_typing.specs.Expressions as spec
use Rattle.c_type_walk.specs.Walks.{fixed}
use Rattle.c_type_expressions.proofs.Arguments.{SoFar}
use Rattle.c_type_expressions.proofs.calls.arguments_row.Given as goal

abbrev pub invariant-loop-place : goal.invariant-loop-place
invariant-loop-place l = record {
  can_next : (goal.iterator-loop-place).can_next l.place-iterator;
  is_finite : (goal.iterator-loop-place).is_finite l.place-iterator;
  so_far : SoFar (spec.arguments_row l.fn.arguments.items l.fn.parameters (fixed l.around) l.fn.found.state) l.fn.found.faults l.found l.given
      (spec.arguments_row l.place-iterator.rest.items l.left (fixed l.around) l.found.state);
}
