-- Proof of the law `well_formed_acts` of src/laws.rt: each clause is a lemma of
-- specs/Laws, or computes.
use Rattle.core_lang.proofs.laws.well_formed_acts.Goals as goal
use Rattle.core_lang.specs.Laws.Counts.{count-append}
use Rattle.core_lang.specs.Laws.Reads.{body-same}
use Rattle.core_lang.specs.Laws.WellFormed.{AreActsIn-append, AreActsIn-split, places_in-append}

pub returns-clause-append : goal.returns-clause-append
returns-clause-append c = AreActsIn-append

pub returns-clause-split : goal.returns-clause-split
returns-clause-split c = AreActsIn-split

pub returns-clause-places : goal.returns-clause-places
returns-clause-places c = places_in-append

pub returns-clause-counts : goal.returns-clause-counts
returns-clause-counts c = count-append

pub returns-clause-temporaries : goal.returns-clause-temporaries
returns-clause-temporaries c = body-same
