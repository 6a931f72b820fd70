-- `for_row` of src/loops.rt: what the check leaves open of its proof.
-- `for` (C11 6.8.5.3).
use Rattle.c_type_statements.proofs.walker.Walker.for_row.Goals as goal

pub returns-in-Expression : goal.returns-in-Expression
returns-in-Expression g c = rw c.in-Expression.is (rw c.as_ref.ensures.value at c.for_first.ensures)

pub returns-in-Declaration : goal.returns-in-Declaration
returns-in-Declaration g c = rw c.in-Declaration.is c.for_declares.ensures
