-- `scoped_body` of src/definitions.rt: what the check leaves open of its proof.
-- The block of a function of this value and these parameters, in the scope that begins with them.
use Rattle.c_typing.specs.Statements.{block_typing}
use Rattle.c_typing.specs.Units as spec
use Rattle.c_type_walk.specs.Walks.{fixed}
use Rattle.c_type_walk.proofs.Walked.{in_own_definition}
use Rattle.c_types.proofs.definitions.scoped_body.Goals as goal

pub returns : goal.returns
returns c =
    in_own_definition (spec.body_row c.args.parameters.now c.args.value.now (block_typing c.args.tree.now)) (fixed c.args.around.now) c.in_definition-within.result c.args.found.now c.enter_definition.new.self
    c.body_row.new.found c.leave_definition.new.self c.in_ok-body.body c.in_definition-within.ensures c.enter_definition.ensures.faults c.enter_definition.ensures.state
    c.in_ok-body.ensures c.leave_definition.ensures.faults c.leave_definition.ensures.state
