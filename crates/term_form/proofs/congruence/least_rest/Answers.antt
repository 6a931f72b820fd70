-- Proof of `least_rest` of src/congruence.rt: the goals that the check leaves open,
-- by lemmas of proofs/ and of the crates below.
use Rattle.term_form.specs.Congruence.{rest_number}
use Rattle.term_form.proofs.Congruences.{rest_kept, rest_reduced}
use Rattle.term_form.proofs.congruence.least_rest.Goals as goal

pub returns-then-divisor-eq0-clause-same : goal.returns-then-divisor-eq0-clause-same
returns-then-divisor-eq0-clause-same c = rest_kept c.args.facts.now.modulus c.args.facts.now.rest c.args.divisor c.requires c.if-divisor-eq0.true

pub returns-clause-same : goal.returns-clause-same
returns-clause-same c =
    rest_reduced c.args.divisor (rest_number c.args.facts.now.modulus c.args.facts.now.rest) c.rest_of.result c.from.result c.rem_euclid.result
    c.if-divisor-eq0.false c.ranges.divisor.fits (record { sfits = c.rest_of.type_inv }) c.rest_of.ensures c.from.ensures c.rem_euclid.ensures.value
