-- `chosen_by` of src/sequences.rt: what holds in its loop, and why that ends.
-- A chain of `? :`, made from its right end (C11 6.5.15p1).
use Rattle.std.proofs.Common.{◌≡◌, length}
use Rattle.std.specs.Option.{option_map}
use Rattle.c_type_expressions.specs.Chains.{chain_of}
use Rattle.c_type_trees.specs.Sequences.{choices_row}
use Rattle.c_type_trees.proofs.After.{after}
use Rattle.c_type_trees.proofs.Turns.{chosen}
use Rattle.c_type_trees.proofs.sequences.chosen_by.Given as goal

abbrev pub invariant-loop-choice : goal.invariant-loop-choice
invariant-loop-choice l =
    after (choices_row l.fn.choices l.fn.last) l.around l.fn.found
    ≡ after (chosen l.choices (option_map chain_of l.chain)) l.around l.found

abbrev pub decreases-loop-choice : goal.decreases-loop-choice
decreases-loop-choice l = length l.choices
