-- Proof of the examples `well_formed_programs` of src/examples.rt: each clause is computed in
-- specs/Examples or specs/Instances.
use Rattle.core_lang.proofs.examples.well_formed_programs.Goals as goal
use Rattle.core_lang.specs.Instances as instance

pub returns-clause-formed : goal.returns-clause-formed
returns-clause-formed c = instance.sum_formed

pub returns-clause-laid_out : goal.returns-clause-laid_out
returns-clause-laid_out c = instance.sum_laid_out

pub returns-clause-behind_a_branch : goal.returns-clause-behind_a_branch
returns-clause-behind_a_branch c = instance.behind_branch_ill

pub returns-clause-in_a_branch : goal.returns-clause-in_a_branch
returns-clause-in_a_branch c = instance.in_branch_formed

pub returns-clause-temporary_in_both : goal.returns-clause-temporary_in_both
returns-clause-temporary_in_both c = instance.in_both_twice

pub returns-clause-variable_in_both : goal.returns-clause-variable_in_both
returns-clause-variable_in_both c = instance.in_both_once

pub returns-clause-break_out_of_one : goal.returns-clause-break_out_of_one
returns-clause-break_out_of_one c = instance.out_of_one_ill

pub returns-clause-break_out_of_two : goal.returns-clause-break_out_of_two
returns-clause-break_out_of_two c = instance.out_of_two_formed

pub returns-clause-six_in_fours : goal.returns-clause-six_in_fours
returns-clause-six_in_fours c = instance.units_of_four_ill

pub returns-clause-six_in_twos : goal.returns-clause-six_in_twos
returns-clause-six_in_twos c = instance.units_of_two
