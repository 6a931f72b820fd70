-- Proof of the law `closed_walks` of src/walks.rt: each clause is a lemma of
-- specs/Laws, or computes.
use Rattle.std.proofs.Common.{refl}
use Rattle.term_form.proofs.walks.closed_walks.Goals as goal

pub returns : goal.returns
returns c = record { takes_first = refl; takes_second = refl; swaps = refl; runs_out = refl; adds = refl; goes_too_deep = refl; chooses = refl }
