-- Proof of `store` of src/terms.rt: the goals that the check leaves open,
-- by lemmas of proofs/ and of the crates below.
use Rattle.std.proofs.Common.{refl}
use Rattle.term_domain.specs.Laws.{stands-write}
use Rattle.term_domain.proofs.Kept.{grown_extends, grown_same}
use Rattle.term_domain.proofs.terms.TermsDomain.store.Goals as goal

pub returns-clause-extends : goal.returns-clause-extends
returns-clause-extends c = grown_extends _ _ (grown_same _ _ refl)

pub returns-clause-stored : goal.returns-clause-stored
returns-clause-stored c =
    λ w s h e. stands-write c.args.self.now.table w s c.args.width c.args.pointer c.args.value c.requires.place c.requires.stored e h
