-- `declarator_parts` of src/derivations.rt: what holds in its loop, and why that ends.
-- The parts of a declarator in the order in which they apply to a type: its pointers, what stands behind its middle from the last to the first, and what the middle is made of.
use Rattle.std.proofs.Common.{◌≡◌, ◌++◌, length, reverse}
use Rattle.c_type_declarators.proofs.derivations.declarator_parts.Given as goal

abbrev pub invariant-loop-part : goal.invariant-loop-part
invariant-loop-part l = l.parts ++ reverse l.suffixes ≡ l.initial.parts ++ reverse l.initial.suffixes

abbrev pub decreases-loop-part : goal.decreases-loop-part
decreases-loop-part l = length l.suffixes
