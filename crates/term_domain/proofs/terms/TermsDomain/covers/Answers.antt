-- Proof of `covers` of src/terms.rt: the goals that the check leaves open,
-- by lemmas of proofs/ and of the crates below.
use Rattle.std.proofs.Common.{sym, subst}
use Rattle.term_form.specs.declared.facts.Facts.{Facts}
use Rattle.term_form.specs.Narrower.{IsNarrower}
use Rattle.term_form.proofs.Widths.{IsNarrower-meets}
use Rattle.term_domain.proofs.terms.TermsDomain.covers.Goals as goal

pub returns-clause-sound : goal.returns-clause-sound
returns-clause-sound c = λ t w h. IsNarrower-meets c.facts.result c.args.assumed.now _ (c.is_narrower.ensures.0 t) (c.facts.ensures.meets w h)

pub returns-clause-whole : goal.returns-clause-whole
returns-clause-whole c = λ n. c.is_narrower.ensures.1 (subst (λ (f : Facts). IsNarrower f c.args.assumed.now) (sym c.facts.ensures.is) n)
