-- Proof of the law `loads_of_walks` of src/walks.rt: each clause is a lemma of
-- specs/Laws, or computes.
use Rattle.term_form.specs.Laws.Loads.{loaded-load, loaded-any, loaded-allowed}
use Rattle.term_form.proofs.walks.loads_of_walks.Goals as goal

pub returns : goal.returns
returns c = record { told = loaded-load; any = loaded-any; allowed = loaded-allowed }
