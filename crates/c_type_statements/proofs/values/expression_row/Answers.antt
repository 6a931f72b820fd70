-- `expression_row` of src/values.rt: what the check leaves open of its proof.
-- An expression statement; without an expression it is nothing (C11 6.8.3).
use Rattle.c_type_walk.specs.Walks.{fixed}
use Rattle.c_type_statements.proofs.Rows.{nothing_done}
use Rattle.c_type_statements.proofs.values.expression_row.Goals as goal

pub returns-in-None : goal.returns-in-None
returns-in-None c = rw c.in-None.is (nothing_done (fixed c.args.around.now) c.args.found.now c.new.result c.empty.result c.new.ensures c.empty.ensures)

pub returns-in-Some : goal.returns-in-Some
returns-in-Some c = rw c.in-Some.is c.evaluate_row.ensures
