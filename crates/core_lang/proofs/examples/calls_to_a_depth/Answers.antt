-- Proof of the examples `calls_to_a_depth` of src/examples.rt: each clause is computed in
-- specs/Examples or specs/Instances.
use Rattle.core_lang.proofs.examples.calls_to_a_depth.Goals as goal
use Rattle.core_lang.specs.Examples as example

pub returns-clause-recursion_ends : goal.returns-clause-recursion_ends
returns-clause-recursion_ends c = example.recursion_ends

pub returns-clause-recursion_is_deep : goal.returns-clause-recursion_is_deep
returns-clause-recursion_is_deep c = example.recursion_is_deep

pub returns-clause-recursion_is_cut : goal.returns-clause-recursion_is_cut
returns-clause-recursion_is_cut c = example.recursion_is_cut

pub returns-clause-main_is_deep : goal.returns-clause-main_is_deep
returns-clause-main_is_deep c = example.main_is_deep

pub returns-clause-swapped_ends : goal.returns-clause-swapped_ends
returns-clause-swapped_ends c = example.swapped_ends

pub returns-clause-uses_nothing_undefined : goal.returns-clause-uses_nothing_undefined
returns-clause-uses_nothing_undefined c = example.uses_nothing_undefined

pub returns-clause-drops_nothing_ends : goal.returns-clause-drops_nothing_ends
returns-clause-drops_nothing_ends c = example.drops_nothing_ends

pub returns-clause-calls_with_one_undefined : goal.returns-clause-calls_with_one_undefined
returns-clause-calls_with_one_undefined c = example.calls_with_one_undefined

pub returns-clause-calls_none_undefined : goal.returns-clause-calls_none_undefined
returns-clause-calls_none_undefined c = example.calls_none_undefined
