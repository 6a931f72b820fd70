-- Proof of the law `runs_with_a_longer_clock` of src/laws.rt: each clause is a lemma of
-- specs/Laws, or computes.
use Rattle.word_ops.specs.Laws.Outcomes.{outcome-same, outcome-further}
use Rattle.c_meaning.specs.Units.{run_of_unit}
use Rattle.c_meaning.specs.Laws.Clock.{run_timed, longer-none}
use Rattle.c_meaning.proofs.laws.runs_with_a_longer_clock.Goals as goal

pub returns-clause-same : goal.returns-clause-same
returns-clause-same c u input depth clock more o =
    outcome-same (run_of_unit u depth) input clock more o (run_timed u depth)

pub returns-clause-undefined : goal.returns-clause-undefined
returns-clause-undefined c = longer-none

pub returns-clause-further : goal.returns-clause-further
returns-clause-further c u input depth clock more o p =
    outcome-further (run_of_unit u depth) input clock more o p (run_timed u depth)

pub returns-clause-timed : goal.returns-clause-timed
returns-clause-timed c = run_timed
