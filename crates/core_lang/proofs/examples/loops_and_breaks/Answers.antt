-- Proof of the examples `loops_and_breaks` of src/examples.rt: each clause is computed in
-- specs/Examples or specs/Instances.
use Rattle.core_lang.proofs.examples.loops_and_breaks.Goals as goal
use Rattle.core_lang.specs.Examples as example

pub returns-clause-sum_ends : goal.returns-clause-sum_ends
returns-clause-sum_ends c = example.sum_ends

pub returns-clause-sum_just_ends : goal.returns-clause-sum_just_ends
returns-clause-sum_just_ends c = example.sum_just_ends

pub returns-clause-sum_is_cut : goal.returns-clause-sum_is_cut
returns-clause-sum_is_cut c = example.sum_is_cut

pub returns-clause-swaps_odd : goal.returns-clause-swaps_odd
returns-clause-swaps_odd c = example.swaps_odd

pub returns-clause-swaps_even : goal.returns-clause-swaps_even
returns-clause-swaps_even c = example.swaps_even

pub returns-clause-break_one : goal.returns-clause-break_one
returns-clause-break_one c = example.break_one

pub returns-clause-break_two : goal.returns-clause-break_two
returns-clause-break_two c = example.break_two

pub returns-clause-break_three : goal.returns-clause-break_three
returns-clause-break_three c = example.break_three

pub returns-clause-break_loops : goal.returns-clause-break_loops
returns-clause-break_loops c = example.break_loops

pub returns-clause-forever_is_cut : goal.returns-clause-forever_is_cut
returns-clause-forever_is_cut c = example.forever_is_cut

pub returns-clause-falls_ends : goal.returns-clause-falls_ends
returns-clause-falls_ends c = example.falls_ends
