-- Proof of the law `runs_with_more_depth` of src/laws.rt: each clause is a lemma of
-- specs/Laws, or computes.
use Rattle.c_meaning.specs.Laws.Depth.{deeper-same, deeper-none, deeper-further}
use Rattle.c_meaning.proofs.laws.runs_with_more_depth.Goals as goal

pub returns-clause-same : goal.returns-clause-same
returns-clause-same c u input less more clock o le q ne = deeper-same u input less more clock o le q ne

pub returns-clause-undefined : goal.returns-clause-undefined
returns-clause-undefined c u input less more clock le q = deeper-none u input less more clock le q

pub returns-clause-further : goal.returns-clause-further
returns-clause-further c u input less more clock o p le q r = deeper-further u input less more clock o p le q r
