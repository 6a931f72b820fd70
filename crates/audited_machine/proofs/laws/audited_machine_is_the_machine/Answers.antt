-- Proof of the law `audited_machine_is_the_machine` of src/laws.rt: each clause is a lemma of specs/Laws.
use Rattle.audited_machine.proofs.laws.audited_machine_is_the_machine.Goals as goal
use Rattle.audited_machine.specs.Laws.Erasure.{erased, accounted-before}

pub returns : goal.returns
returns c = record { erased = erased; before = accounted-before }
