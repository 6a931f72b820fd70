-- Proof of the law `runs_take_what_is_there` of src/laws.rt: each clause is a lemma of
-- specs/Laws, or computes.
use Rattle.word_ops.specs.Laws.Outcomes.{outcome-within}
use Rattle.c_meaning.specs.Units.{run_of_unit}
use Rattle.c_meaning.specs.Laws.Clock.{calls_timed, run_timed}
use Rattle.c_meaning.proofs.laws.runs_take_what_is_there.Goals as goal

pub returns-clause-runs : goal.returns-clause-runs
returns-clause-runs c u depth = (run_timed u depth).reaches

pub returns-clause-calls : goal.returns-clause-calls
returns-clause-calls c u depth i = (calls_timed u depth i).reaches

pub returns-clause-within : goal.returns-clause-within
returns-clause-within c u input depth clock o = outcome-within (run_of_unit u depth) input clock o (run_timed u depth)
