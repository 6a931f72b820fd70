-- Proof of the law `runs_with_more_depth` of src/laws.rt: each clause is a lemma of
-- specs/Laws, or computes.
use Rattle.core_lang.proofs.laws.runs_with_more_depth.Goals as goal
use Rattle.core_lang.specs.Laws.Depth.{GoesDeeper-calls}
use Rattle.core_lang.specs.Laws.Outcomes.{run-deeper, run-deeper_further, run-undefined_deeper}

pub returns-clause-same : goal.returns-clause-same
returns-clause-same c = run-deeper

pub returns-clause-further : goal.returns-clause-further
returns-clause-further c = run-deeper_further

pub returns-clause-undefined : goal.returns-clause-undefined
returns-clause-undefined c = run-undefined_deeper

pub returns-clause-calls : goal.returns-clause-calls
returns-clause-calls c = GoesDeeper-calls
