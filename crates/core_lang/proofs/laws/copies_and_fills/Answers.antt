-- Proof of the law `copies_and_fills` of src/laws.rt: each clause is a lemma of
-- specs/Laws, or computes.
use Rattle.core_lang.proofs.laws.copies_and_fills.Goals as goal
use Rattle.core_lang.specs.Laws.Copies.{copied-cells, copied-copy, copy-copied}
use Rattle.core_lang.specs.Laws.Units.{copied-lead}
use Rattle.core_lang.specs.Laws.Filling.{store_zeros-fill}

pub returns-clause-cells : goal.returns-clause-cells
returns-clause-cells c = copied-cells

pub returns-clause-bytes : goal.returns-clause-bytes
returns-clause-bytes c = copied-copy

pub returns-clause-defined : goal.returns-clause-defined
returns-clause-defined c = copy-copied

pub returns-clause-units : goal.returns-clause-units
returns-clause-units c = copied-lead

pub returns-clause-filled : goal.returns-clause-filled
returns-clause-filled c = store_zeros-fill
