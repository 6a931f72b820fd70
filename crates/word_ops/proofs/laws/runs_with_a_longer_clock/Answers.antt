-- Proof of the law `runs_with_a_longer_clock` of src/laws.rt: each clause is a lemma of
-- specs/Laws, or computes.
use Rattle.word_ops.proofs.laws.runs_with_a_longer_clock.Goals as goal
use Rattle.word_ops.specs.Laws.Outcomes.{outcome-within, outcome-same, outcome-further}

pub returns-clause-within : goal.returns-clause-within
returns-clause-within c = outcome-within

pub returns-clause-same : goal.returns-clause-same
returns-clause-same c = outcome-same

pub returns-clause-further : goal.returns-clause-further
returns-clause-further c = outcome-further
