-- Proof of the law `runs_with_a_longer_clock` of src/laws.rt: each clause is a lemma of
-- specs/Laws, or computes.
use Rattle.core_lang.proofs.laws.runs_with_a_longer_clock.Goals as goal
use Rattle.core_lang.specs.Laws.Clock.{IsTimed-calls}
use Rattle.core_lang.specs.Laws.Outcomes.{run-within, run-longer, run-further, run-undefined}

pub returns-clause-within : goal.returns-clause-within
returns-clause-within c = run-within

pub returns-clause-same : goal.returns-clause-same
returns-clause-same c = run-longer

pub returns-clause-further : goal.returns-clause-further
returns-clause-further c = run-further

pub returns-clause-undefined : goal.returns-clause-undefined
returns-clause-undefined c = run-undefined

pub returns-clause-calls : goal.returns-clause-calls
returns-clause-calls c = IsTimed-calls
