-- Proof of the law `runs_and_the_outside` of src/laws.rt: each clause is a lemma of
-- specs/Laws, or computes.
use Rattle.core_lang.proofs.laws.runs_and_the_outside.Goals as goal
use Rattle.core_lang.specs.Laws.Layouts.{run-layout}
use Rattle.core_lang.specs.Laws.Outcomes.{run-determined, run-reaches}

pub returns-clause-determined : goal.returns-clause-determined
returns-clause-determined c = run-determined

pub returns-clause-layout : goal.returns-clause-layout
returns-clause-layout c = run-layout

pub returns-clause-reaches : goal.returns-clause-reaches
returns-clause-reaches c = run-reaches
