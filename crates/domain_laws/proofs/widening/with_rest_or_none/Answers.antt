-- Proof of `with_rest_or_none` of src/widening.rt: the goals that the check leaves open,
-- by lemmas of proofs/ and of the crates below.
use Rattle.term_form.proofs.Widths.{IsNarrower-refl}
use Rattle.domain_laws.proofs.Bounds.{refines_any}
use Rattle.domain_laws.proofs.widening.with_rest_or_none.Goals as goal

pub returns-then-refines_rest-clause-assumed_in : goal.returns-then-refines_rest-clause-assumed_in
returns-then-refines_rest-clause-assumed_in c = (IsNarrower-refl c.args.assumed.now).congruence

pub returns-else-refines_rest-clause-assumed_in : goal.returns-else-refines_rest-clause-assumed_in
returns-else-refines_rest-clause-assumed_in c = refines_any c.args.assumed.now c.anything.result c.anything.ensures.is

pub returns-else-refines_rest-clause-back_in : goal.returns-else-refines_rest-clause-back_in
returns-else-refines_rest-clause-back_in c = refines_any c.args.back.now c.anything.result c.anything.ensures.is
