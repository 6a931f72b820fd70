-- Proof of the law `calls_and_the_store` of src/laws.rt: each clause is a lemma of
-- specs/Laws, or computes.
use Rattle.core_lang.proofs.laws.calls_and_the_store.Goals as goal
use Rattle.core_lang.specs.Laws.Regions.{calls-regions}
use Rattle.core_lang.specs.Laws.Addresses.{calls-sound}
use Rattle.core_lang.specs.Laws.Statics.{main-callable}

pub returns-clause-regions : goal.returns-clause-regions
returns-clause-regions c = calls-regions

pub returns-clause-main : goal.returns-clause-main
returns-clause-main c = main-callable

pub returns-clause-addresses : goal.returns-clause-addresses
returns-clause-addresses c = calls-sound
