-- Proof of the law `calls_with_more_depth` of src/laws.rt: each clause is a lemma of
-- specs/Laws, or computes.
use Rattle.c_meaning.specs.Laws.Depth.{calls_deeper}
use Rattle.c_meaning.proofs.laws.calls_with_more_depth.Goals as goal

pub returns : goal.returns
returns c u less more i le = calls_deeper u less more le i
