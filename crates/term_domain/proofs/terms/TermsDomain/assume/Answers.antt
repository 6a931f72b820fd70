-- Proof of `assume` of src/terms.rt: the goals that the check leaves open,
-- by lemmas of proofs/ and of the crates below.
use Rattle.term_form.proofs.Widths.{IsNarrower-refl}
use Rattle.term_domain.proofs.Kept.{facts_of}
use Rattle.term_domain.proofs.terms.TermsDomain.assume.Goals as goal

pub returns-clause-narrows : goal.returns-clause-narrows
returns-clause-narrows c = λ e x lt. IsNarrower-refl (facts_of c.args.self.now x)
