-- Proof of the examples `input_and_output` of src/examples.rt: each clause is computed in
-- specs/Examples or specs/Instances.
use Rattle.core_lang.proofs.examples.input_and_output.Goals as goal
use Rattle.core_lang.specs.Examples as example

pub returns-clause-gets_the_end : goal.returns-clause-gets_the_end
returns-clause-gets_the_end c = example.gets_the_end

pub returns-clause-puts_before_a_tick : goal.returns-clause-puts_before_a_tick
returns-clause-puts_before_a_tick c = example.puts_before_a_tick

pub returns-clause-gets_before_a_tick : goal.returns-clause-gets_before_a_tick
returns-clause-gets_before_a_tick c = example.gets_before_a_tick

pub returns-clause-leaves_input : goal.returns-clause-leaves_input
returns-clause-leaves_input c = example.leaves_input

pub returns-clause-low_bytes : goal.returns-clause-low_bytes
returns-clause-low_bytes c = example.low_bytes

pub returns-clause-low_status : goal.returns-clause-low_status
returns-clause-low_status c = example.low_status

pub returns-clause-puts_no_pointer : goal.returns-clause-puts_no_pointer
returns-clause-puts_no_pointer c = example.puts_no_pointer

pub returns-clause-starts_as_zero_ends : goal.returns-clause-starts_as_zero_ends
returns-clause-starts_as_zero_ends c = example.starts_as_zero_ends

pub returns-clause-exits_with_no_pointer : goal.returns-clause-exits_with_no_pointer
returns-clause-exits_with_no_pointer c = example.exits_with_no_pointer
