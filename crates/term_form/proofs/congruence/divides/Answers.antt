-- Proof of `divides` of src/congruence.rt: the goals that the check leaves open,
-- by lemmas of proofs/ and of the crates below.
use Rattle.term_form.proofs.Congruences.{divides_tested, zero_tested}
use Rattle.term_form.proofs.congruence.divides.Goals as goal

pub returns-then-divisor-eq0 : goal.returns-then-divisor-eq0
returns-then-divisor-eq0 c = zero_tested c.args.divisor c.args.number c.if-divisor-eq0.true

pub returns-else-divisor-eq0 : goal.returns-else-divisor-eq0
returns-else-divisor-eq0 c = divides_tested c.args.divisor c.args.number
