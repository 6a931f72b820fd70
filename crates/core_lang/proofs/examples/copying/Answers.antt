-- Proof of the examples `copying` of src/examples.rt: each clause is computed in
-- specs/Examples or specs/Instances.
use Rattle.core_lang.proofs.examples.copying.Goals as goal
use Rattle.core_lang.specs.Examples as example

pub returns-clause-copies_pointers : goal.returns-clause-copies_pointers
returns-clause-copies_pointers c = example.copies_pointers

pub returns-clause-copies_parts : goal.returns-clause-copies_parts
returns-clause-copies_parts c = example.copies_parts

pub returns-clause-copies_bytes_ends : goal.returns-clause-copies_bytes_ends
returns-clause-copies_bytes_ends c = example.copies_bytes_ends

pub returns-clause-copies_overlapping : goal.returns-clause-copies_overlapping
returns-clause-copies_overlapping c = example.copies_overlapping

pub returns-clause-copies_onto_itself : goal.returns-clause-copies_onto_itself
returns-clause-copies_onto_itself c = example.copies_onto_itself

pub returns-clause-copies_beside : goal.returns-clause-copies_beside
returns-clause-copies_beside c = example.copies_beside
