-- Proof of the law `audits_without_records` of src/examples.rt: each clause computes.
use Rattle.std.proofs.Common.{refl}
use Rattle.rv_table.specs.Instruction.{row_of}
use Rattle.rv_machine.specs.Step.{step_of}
use Rattle.rv_machine.specs.After.{next, after}
use Rattle.audited_machine.specs.Audit.{audit_next, audit_from}
use Rattle.audited_machine.proofs.examples.audits_without_records.Goals as goal

pub returns : goal.returns
unfolding step_of next after row_of audit_next audit_from
returns c = record { exits = refl; puts = refl; spent = refl; traps = refl }
