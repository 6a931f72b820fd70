-- Proof of `has_rest` of src/congruence.rt: the goals that the check leaves open,
-- by lemmas of proofs/ and of the crates below.
use Rattle.term_form.specs.Interval.{signed}
use Rattle.term_form.specs.Congruence.{rest_number}
use Rattle.term_form.proofs.Congruences.{is_congruent}
use Rattle.term_form.proofs.congruence.has_rest.Goals as goal

pub returns : goal.returns
returns c =
    is_congruent c.args.facts.now.modulus c.from.result c.distance.result (signed c.args.word)
    (rest_number c.args.facts.now.modulus c.args.facts.now.rest) c.divides.result c.from.ensures c.distance.ensures
    c.divides.ensures
