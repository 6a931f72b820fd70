-- Proof of the examples `objects_and_accesses` of src/examples.rt: each clause is computed in
-- specs/Examples or specs/Instances.
use Rattle.core_lang.proofs.examples.objects_and_accesses.Goals as goal
use Rattle.core_lang.specs.Examples as example

pub returns-clause-reads_unset : goal.returns-clause-reads_unset
returns-clause-reads_unset c = example.reads_unset

pub returns-clause-reads_stored : goal.returns-clause-reads_stored
returns-clause-reads_stored c = example.reads_stored

pub returns-clause-reads_misaligned : goal.returns-clause-reads_misaligned
returns-clause-reads_misaligned c = example.reads_misaligned

pub returns-clause-reads_outside : goal.returns-clause-reads_outside
returns-clause-reads_outside c = example.reads_outside

pub returns-clause-enters_anew : goal.returns-clause-enters_anew
returns-clause-enters_anew c = example.enters_anew

pub returns-clause-enters_another : goal.returns-clause-enters_another
returns-clause-enters_another c = example.enters_another

pub returns-clause-filled : goal.returns-clause-filled
returns-clause-filled c = example.filled

pub returns-clause-reads_dead_undefined : goal.returns-clause-reads_dead_undefined
returns-clause-reads_dead_undefined c = example.reads_dead_undefined

pub returns-clause-keeps_dead_ends : goal.returns-clause-keeps_dead_ends
returns-clause-keeps_dead_ends c = example.keeps_dead_ends

pub returns-clause-reads_string_ends : goal.returns-clause-reads_string_ends
returns-clause-reads_string_ends c = example.reads_string_ends

pub returns-clause-writes_string_undefined : goal.returns-clause-writes_string_undefined
returns-clause-writes_string_undefined c = example.writes_string_undefined

pub returns-clause-writes_table_ends : goal.returns-clause-writes_table_ends
returns-clause-writes_table_ends c = example.writes_table_ends

pub returns-clause-follows_table_ends : goal.returns-clause-follows_table_ends
returns-clause-follows_table_ends c = example.follows_table_ends

pub returns-clause-through_null_undefined : goal.returns-clause-through_null_undefined
returns-clause-through_null_undefined c = example.through_null_undefined

pub returns-clause-is_null_ends : goal.returns-clause-is_null_ends
returns-clause-is_null_ends c = example.is_null_ends

pub returns-clause-tests_dead_undefined : goal.returns-clause-tests_dead_undefined
returns-clause-tests_dead_undefined c = example.tests_dead_undefined

pub returns-clause-tests_live_true : goal.returns-clause-tests_live_true
returns-clause-tests_live_true c = example.tests_live_true

pub returns-clause-compares_dead_undefined : goal.returns-clause-compares_dead_undefined
returns-clause-compares_dead_undefined c = example.compares_dead_undefined

pub returns-clause-compares_live_ends : goal.returns-clause-compares_live_ends
returns-clause-compares_live_ends c = example.compares_live_ends

pub returns-clause-reads_part : goal.returns-clause-reads_part
returns-clause-reads_part c = example.reads_part

pub returns-clause-reads_whole_ends : goal.returns-clause-reads_whole_ends
returns-clause-reads_whole_ends c = example.reads_whole_ends

pub returns-clause-stores_part : goal.returns-clause-stores_part
returns-clause-stores_part c = example.stores_part
