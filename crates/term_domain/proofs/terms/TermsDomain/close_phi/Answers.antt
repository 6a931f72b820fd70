-- Proof of `close_phi` of src/terms.rt: the goals that the check leaves open,
-- by lemmas of proofs/ and of the crates below.
use Rattle.std.proofs.Common.{refl}
use Rattle.term_domain.proofs.Kept.{grown_extends, grown_same}
use Rattle.term_domain.proofs.terms.TermsDomain.close_phi.Goals as goal

pub returns-clause-extends : goal.returns-clause-extends
returns-clause-extends c = grown_extends _ _ (grown_same _ _ refl)
