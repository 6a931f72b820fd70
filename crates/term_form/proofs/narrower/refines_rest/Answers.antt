-- Proof of `refines_rest` of src/narrower.rt: the goals that the check leaves open,
-- by lemmas of proofs/ and of the crates below.
use Rattle.std.proofs.lemmas.Bool.{eqb-true, eq-eqb}
use Rattle.term_form.proofs.Widths.{modulus_of_hull, refines_by_hull}
use Rattle.term_form.proofs.narrower.refines_rest.Goals as goal

pub returns : goal.returns
returns c = (
  λ t. refines_by_hull c.args.facts.now c.args.wider.now c.hull.result c.hull.ensures.parts (eqb-true _ _ t),
  λ r. eq-eqb _ _ (modulus_of_hull c.args.facts.now c.args.wider.now c.hull.result c.hull.ensures.parts r),
)
