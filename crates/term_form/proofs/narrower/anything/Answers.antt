-- Proof of `anything` of src/narrower.rt: the goals that the check leaves open,
-- by lemmas of proofs/ and of the crates below.
use Rattle.term_form.proofs.Widths.{any_meets}
use Rattle.term_form.proofs.narrower.anything.Goals as goal

pub returns-clause-holds : goal.returns-clause-holds
returns-clause-holds c = any_meets
