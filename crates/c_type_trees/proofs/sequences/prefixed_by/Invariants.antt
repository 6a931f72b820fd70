-- `prefixed_by` of src/sequences.rt: what holds in its loop, and why that ends.
-- Prefixes before an operand: the one that stands next to it comes first (C11 6.5.3).
use Rattle.std.proofs.Common.{◌≡◌, length, map}
use Rattle.std.specs.Option.{option_map}
use Rattle.c_typing.specs.OfTrees.{prefixes_row}
use Rattle.c_type_expressions.specs.Prefixes.{prefixing}
use Rattle.c_type_trees.proofs.After.{after}
use Rattle.c_type_trees.proofs.sequences.prefixed_by.Given as goal

abbrev pub invariant-loop-prefix : goal.invariant-loop-prefix
invariant-loop-prefix l =
    after (prefixes_row (map (option_map prefixing) l.fn.run) l.fn.operand) l.around l.fn.found
    ≡ after (prefixes_row (map (option_map prefixing) l.run) l.value) l.around l.found

abbrev pub decreases-loop-prefix : goal.decreases-loop-prefix
decreases-loop-prefix l = length l.run
