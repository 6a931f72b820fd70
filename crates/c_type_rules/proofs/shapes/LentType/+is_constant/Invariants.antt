-- Why the search for the qualifier of a type ends:
-- it goes from arrays to their elements.
use Rattle.std.proofs.Common.{length}
use Rattle.c_type_rules.proofs.shapes.LentType.+is_constant.Given as goal

abbrev pub decreases-is_constant : goal.decreases-is_constant
decreases-is_constant l = length l.self.derived.now
