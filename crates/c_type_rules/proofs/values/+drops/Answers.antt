-- The drop of a comma
-- is the comma of the drop of its last operand.
use Rattle.c_type_rules.proofs.Trees.{dropped-Comma}
use Rattle.c_type_rules.proofs.values.+drops.Goals as goal

pub dropped-returns-in-Comma : goal.dropped-returns-in-Comma
dropped-returns-in-Comma t c = rw (c.in-Comma.is, dropped-Comma) c.comma_dropped.ensures
