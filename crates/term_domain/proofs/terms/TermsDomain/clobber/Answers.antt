-- Proof of `clobber` of src/terms.rt: the goals that the check leaves open,
-- by lemmas of proofs/ and of the crates below.
use Rattle.std.proofs.Common.{refl}
use Rattle.term_domain.specs.Laws.{stands-store}
use Rattle.term_domain.proofs.Kept.{grown_extends, grown_same}
use Rattle.term_domain.proofs.terms.TermsDomain.clobber.Goals as goal

pub returns-clause-extends : goal.returns-clause-extends
returns-clause-extends c = grown_extends _ _ (grown_same _ _ refl)

pub returns-clause-any : goal.returns-clause-any
returns-clause-any c = λ w s h may. stands-store c.args.self.now.table w s may.0 may.1 h
