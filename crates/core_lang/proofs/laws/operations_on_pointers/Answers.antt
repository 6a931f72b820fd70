-- Proof of the law `operations_on_pointers` of src/laws.rt: each clause is a lemma of
-- specs/Laws, or computes.
use Rattle.core_lang.proofs.laws.operations_on_pointers.Goals as goal
use Rattle.core_lang.specs.Laws.Pointers.{pointers-operation, pointers-in}

pub returns-clause-operation : goal.returns-clause-operation
returns-clause-operation c = pointers-operation

pub returns-clause-inside : goal.returns-clause-inside
returns-clause-inside c = pointers-in
