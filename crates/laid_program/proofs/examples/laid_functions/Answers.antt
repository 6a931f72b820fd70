-- Proof of the law `laid_functions` of src/examples.rt: each clause is a lemma of specs/Laws, or computes.
use Rattle.std.proofs.Common.{refl}
use Rattle.rv_table.specs.Instruction.{row_of}
use Rattle.rv_machine.specs.Step.{step_of}
use Rattle.rv_machine.specs.After.{next, after}
use Rattle.audited_machine.specs.Audit.{audit_next, audit_from}
use Rattle.laid_program.specs.Laws.Examples.{swapped-lies}
use Rattle.laid_program.proofs.examples.laid_functions.Goals as goal

pub returns : goal.returns
unfolding step_of next after row_of audit_next audit_from
returns c = record { lies = swapped-lies; all_true = refl }
