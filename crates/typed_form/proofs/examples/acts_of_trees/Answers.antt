-- Proof of the examples `acts_of_trees` of src/examples.rt: each clause is computed in specs/Examples.
use Rattle.typed_form.proofs.examples.acts_of_trees.Goals as goal
use Rattle.typed_form.specs.Examples as example

pub returns-clause-both_in_acts : goal.returns-clause-both_in_acts
returns-clause-both_in_acts c = example.both_in_acts

pub returns-clause-both_in_jumps : goal.returns-clause-both_in_jumps
returns-clause-both_in_jumps c = example.both_in_jumps

pub returns-clause-main_in_acts : goal.returns-clause-main_in_acts
returns-clause-main_in_acts c = example.main_in_acts
