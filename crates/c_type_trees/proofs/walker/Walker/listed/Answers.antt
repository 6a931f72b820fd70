-- `listed` of src/parameters.rt: what the check leaves open of its proof.
-- The parameters of such a list.
use Rattle.c_type_trees.proofs.walker.Walker.listed.Goals as goal

pub returns-then-defining : goal.returns-then-defining
returns-then-defining g c = rw c.if-defining.true c.of_definition.ensures

pub returns-else-defining : goal.returns-else-defining
returns-else-defining g c = rw c.if-defining.false c.prototype.ensures
