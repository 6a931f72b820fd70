-- `inside` of src/inside.rt: why it ends.
-- What typing makes of a statement, where so many may stand inside one another with that one.
use Rattle.c_type_statements.proofs.inside.+inside.Given as goal

abbrev pub decreases-inside : goal.decreases-inside
decreases-inside l = l.more
