-- `prefixes` of src/prefixes.rt: what holds in its loop.
-- Prefixes, from left to right.
use Rattle.std.proofs.Common.{◌≡◌, drop, map}
use Rattle.std.specs.Option.{option_map}
use Rattle.c_typing.specs.Scopes.{◌>>=◌}
use Rattle.c_typing.specs.Trees.{prefix_typing}
use Rattle.c_type_expressions.specs.Prefixes.{prefixing}
use Rattle.c_type_trees.specs.Sequences.{prefixes_walk}
use Rattle.c_type_trees.proofs.After.{after}
use Rattle.c_type_trees.proofs.Loops.{gathered}
use Rattle.c_type_trees.proofs.walker.Walker.prefixes.Given as goal

abbrev pub invariant-loop-one : goal.invariant-loop-one
invariant-loop-one g l =
    after (prefixes_walk (map prefix_typing l.run)) l.around l.fn.found
    ≡ after (prefixes_walk (map prefix_typing (drop l.one-index l.run)) >>= gathered (map (option_map prefixing) l.all)) l.around l.found
