-- Proof of the law `audits_of_records` of src/examples.rt: each clause computes.
use Rattle.std.proofs.Common.{refl}
use Rattle.rv_table.specs.Instruction.{row_of}
use Rattle.rv_machine.specs.Step.{step_of}
use Rattle.rv_machine.specs.After.{next, after}
use Rattle.audited_machine.specs.Audit.{audit_next, audit_from}
use Rattle.audited_machine.proofs.examples.audits_of_records.Goals as goal

pub returns : goal.returns
unfolding step_of next after row_of audit_next audit_from
returns c = record { all = refl; operand = refl; store = refl; argument = refl; passing = refl; put = refl; branch = refl; get = refl; facts = refl }
