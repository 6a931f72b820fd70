-- Proof of the examples `units_that_hang_together` of src/examples.rt: each clause is computed in specs/Examples.
use Rattle.typed_form.proofs.examples.units_that_hang_together.Goals as goal
use Rattle.typed_form.specs.Examples as example

pub returns-clause-unit : goal.returns-clause-unit
returns-clause-unit c = example.small_hangs_together

pub returns-clause-parts_apart : goal.returns-clause-parts_apart
returns-clause-parts_apart c = example.parts_apart

pub returns-clause-parts_inside : goal.returns-clause-parts_inside
returns-clause-parts_inside c = example.parts_inside

pub returns-clause-bytes_are_small : goal.returns-clause-bytes_are_small
returns-clause-bytes_are_small c = example.bytes_are_small

pub returns-clause-strings_fit : goal.returns-clause-strings_fit
returns-clause-strings_fit c = example.strings_fit

pub returns-clause-labels_differ : goal.returns-clause-labels_differ
returns-clause-labels_differ c = example.labels_differ

pub returns-clause-functions_have_tokens : goal.returns-clause-functions_have_tokens
returns-clause-functions_have_tokens c = example.functions_have_tokens
