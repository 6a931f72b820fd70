-- When counts of faults rise over a step, and what it is on input that is told.
use Rattle.rv_machine.proofs.Faults.{steps_reads, steps_writes}
use Rattle.rv_machine.proofs.Runs.{machine_kept}
use Rattle.rv_machine.proofs.Told.{step_is}
use Rattle.rv_machine.proofs.runner.step.Goals as goal

pub returns-clause-unchanged : goal.returns-clause-unchanged
returns-clause-unchanged g c = λ stopped. machine_kept c.args.machine.now.text c.args.machine.now c.take_step.new.machine _ _ _ _ _ _ _ _ c.take_step.result stopped c.take_step.ensures.text c.take_step.ensures.step

pub returns-clause-reads : goal.returns-clause-reads
returns-clause-reads g c = steps_reads c.args.machine.now.text _ _ c.take_step.result c.take_step.ensures.step

pub returns-clause-writes : goal.returns-clause-writes
returns-clause-writes g c = steps_writes c.args.machine.now.text _ _ c.take_step.result c.take_step.ensures.step

pub returns-clause-told : goal.returns-clause-told
returns-clause-told g c = λ bytes told. step_is c.args.machine.now.text _ _ c.take_step.result bytes told c.take_step.ensures.step
