-- When counts of faults rise over a run, and what it is on input that is told.
use Rattle.rv_machine.proofs.Faults.{run_reads, run_writes}
use Rattle.rv_machine.proofs.Told.{run_is}
use Rattle.rv_machine.proofs.runner.run.Goals as goal

pub returns-clause-reads : goal.returns-clause-reads
returns-clause-reads g c = run_reads c.args.machine.now.text _ _ _ c.run_steps.result c.run_steps.ensures.run

pub returns-clause-writes : goal.returns-clause-writes
returns-clause-writes g c = run_writes c.args.machine.now.text _ _ _ c.run_steps.result c.run_steps.ensures.run

pub returns-clause-told : goal.returns-clause-told
returns-clause-told g c = λ bytes told. run_is c.args.machine.now.text _ _ _ c.run_steps.result bytes told c.run_steps.ensures.run
