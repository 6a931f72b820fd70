-- `chosen_by` of src/sequences.rt: what the check leaves open of its proof.
-- A chain of `? :`, made from its right end (C11 6.5.15p1).
use Rattle.std.proofs.Common.{◌∙◌, ap}
use Rattle.std.specs.Option.{option_map}
use Rattle.c_type_expressions.specs.Chains.{chain_of}
use Rattle.c_type_trees.specs.Sequences.{choices_row}
use Rattle.c_type_trees.proofs.After.{after, after_same, answered}
use Rattle.c_type_trees.proofs.Pops.{choice_popped}
use Rattle.c_type_trees.proofs.Turns.{chosen, chosen_end}
use Rattle.c_type_trees.proofs.sequences.chosen_by.Goals as goal

pub loop-choice-preserved : goal.loop-choice-preserved
loop-choice-preserved c =
    c.loop-choice.invariant ∙ choice_popped _ _ c.in-Some.choice _ _ c.args.around.now _ _ c.in-Some.ensures (rw (c.released-condition.ensures, c.released-gives.ensures) at c.in-Ok-conditional_row.ensures)

pub returns : goal.returns
returns c =
    answered (choices_row c.args.choices c.args.last) c.args.around.now _ _ _ _ c.value_of_chain.ensures
    (c.loop-choice.invariant
    ∙ ap (λ all. after (chosen all (option_map chain_of c.loop-choice.chain)) c.args.around.now c.loop-choice.found) c.in_default.ensures.0
    ∙ after_same _ _ c.args.around.now c.loop-choice.found (chosen_end (option_map chain_of c.loop-choice.chain)))
