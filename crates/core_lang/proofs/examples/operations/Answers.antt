-- Proof of the examples `operations` of src/examples.rt: each clause is computed in
-- specs/Examples or specs/Instances.
use Rattle.core_lang.proofs.examples.operations.Goals as goal
use Rattle.core_lang.specs.Examples as example

pub returns-clause-divides_by_zero : goal.returns-clause-divides_by_zero
returns-clause-divides_by_zero c = example.divides_by_zero

pub returns-clause-divides_by_two : goal.returns-clause-divides_by_two
returns-clause-divides_by_two c = example.divides_by_two

pub returns-clause-adds_too_much : goal.returns-clause-adds_too_much
returns-clause-adds_too_much c = example.adds_too_much

pub returns-clause-adds_just_enough : goal.returns-clause-adds_just_enough
returns-clause-adds_just_enough c = example.adds_just_enough

pub returns-clause-shifts_too_far : goal.returns-clause-shifts_too_far
returns-clause-shifts_too_far c = example.shifts_too_far

pub returns-clause-shifts_far : goal.returns-clause-shifts_far
returns-clause-shifts_far c = example.shifts_far

pub returns-clause-moves_too_far : goal.returns-clause-moves_too_far
returns-clause-moves_too_far c = example.moves_too_far

pub returns-clause-moves_to_end : goal.returns-clause-moves_to_end
returns-clause-moves_to_end c = example.moves_to_end

pub returns-clause-compares_objects : goal.returns-clause-compares_objects
returns-clause-compares_objects c = example.compares_objects

pub returns-clause-compares_places : goal.returns-clause-compares_places
returns-clause-compares_places c = example.compares_places

pub returns-clause-divides_least_by_minus_one : goal.returns-clause-divides_least_by_minus_one
returns-clause-divides_least_by_minus_one c = example.divides_least_by_minus_one

pub returns-clause-divides_least_by_one : goal.returns-clause-divides_least_by_one
returns-clause-divides_least_by_one c = example.divides_least_by_one

pub returns-clause-shifts_into_sign : goal.returns-clause-shifts_into_sign
returns-clause-shifts_into_sign c = example.shifts_into_sign

pub returns-clause-shifts_below_sign : goal.returns-clause-shifts_below_sign
returns-clause-shifts_below_sign c = example.shifts_below_sign

pub returns-clause-differs_between_objects : goal.returns-clause-differs_between_objects
returns-clause-differs_between_objects c = example.differs_between_objects

pub returns-clause-differs_within_object : goal.returns-clause-differs_within_object
returns-clause-differs_within_object c = example.differs_within_object
