-- Proof of the law `loads_and_stores` of src/laws.rt: each clause is a lemma of
-- specs/Laws, or computes.
use Rattle.word_ops.proofs.laws.loads_and_stores.Goals as goal
use Rattle.word_ops.specs.Laws.Accesses.{write-shapes}
use Rattle.word_ops.specs.Laws.Loads.{load-write, write-elsewhere}
use Rattle.word_ops.specs.Laws.MayLoads.{MayLoad-load}
use Rattle.word_ops.specs.Laws.Fading.{load-Fades}
use Rattle.word_ops.specs.Laws.Addresses.{load-in, IsAddressed-write}

pub returns-clause-loaded : goal.returns-clause-loaded
returns-clause-loaded c = load-write

pub returns-clause-elsewhere : goal.returns-clause-elsewhere
returns-clause-elsewhere c = write-elsewhere

pub returns-clause-regions : goal.returns-clause-regions
returns-clause-regions c = write-shapes

pub returns-clause-may_load : goal.returns-clause-may_load
returns-clause-may_load c = MayLoad-load

pub returns-clause-faded : goal.returns-clause-faded
returns-clause-faded c = load-Fades

pub returns-clause-inside : goal.returns-clause-inside
returns-clause-inside c = load-in

pub returns-clause-addresses : goal.returns-clause-addresses
returns-clause-addresses c = IsAddressed-write
