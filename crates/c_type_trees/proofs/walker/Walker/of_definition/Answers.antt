-- `of_definition` of src/parameters.rt: what the check leaves open of its proof.
-- The parameter list of a function definition stands in the scope of the function's block.
use Rattle.std.proofs.Common.{map}
use Rattle.c_typing.specs.OfTrees.{parameters_row}
use Rattle.c_typing.specs.Trees.{parameter_typing}
use Rattle.c_type_walk.specs.Walks.{fixed}
use Rattle.c_type_walk.proofs.Walked.{in_own_definition}
use Rattle.c_type_trees.proofs.walker.Walker.of_definition.Goals as goal

pub returns : goal.returns
returns g c =
    in_own_definition (parameters_row 0 (map parameter_typing c.args.list.now)) (fixed c.args.around.now) c.in_definition.result c.args.found.now c.enter_definition.new.self
    c.parameters.new.found c.leave_definition.new.self c.in_ok-all.all c.in_definition.ensures c.enter_definition.ensures.faults c.enter_definition.ensures.state
    c.in_ok-all.ensures c.leave_definition.ensures.faults c.leave_definition.ensures.state
