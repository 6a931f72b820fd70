-- Why the search for the place of a qualifier ends:
-- it goes from arrays to their elements.
use Rattle.std.proofs.Common.{length}
use Rattle.c_type_rules.proofs.qualifiers.+qualified_at.Given as goal

abbrev pub decreases-qualified_at : goal.decreases-qualified_at
decreases-qualified_at l = length l.derived.now
