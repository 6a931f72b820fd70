-- `prefixed_by` of src/sequences.rt: what the check leaves open of its proof.
-- Prefixes before an operand: the one that stands next to it comes first (C11 6.5.3).
use Rattle.std.proofs.Common.{◌∙◌, ap, map}
use Rattle.std.specs.Option.{option_map}
use Rattle.c_typing.specs.OfTrees.{prefixes_row}
use Rattle.c_type_expressions.specs.Prefixes.{prefixing}
use Rattle.c_type_trees.proofs.After.{after, done}
use Rattle.c_type_trees.proofs.Pops.{prefix_popped}
use Rattle.c_type_trees.proofs.sequences.prefixed_by.Goals as goal

pub loop-prefix-preserved : goal.loop-prefix-preserved
loop-prefix-preserved c =
    c.loop-prefix.invariant ∙ prefix_popped _ _ _ _ _ c.args.around.now _ _ c.in-Some.ensures c.in-Ok.ensures

pub returns : goal.returns
returns c =
    done (prefixes_row (map (option_map prefixing) c.args.run) c.args.operand) c.args.around.now _ _ _
    (c.loop-prefix.invariant ∙ ap (λ all. after (prefixes_row (map (option_map prefixing) all) c.loop-prefix.value) c.args.around.now c.loop-prefix.found) c.in_default.ensures.0)
