-- Proof of `common_modulus` of src/congruence.rt: the goals that the check leaves open,
-- by lemmas of proofs/ and of the crates below.
use Rattle.std.proofs.Common.{arith}
use Rattle.term_form.specs.Congruence.{IsGreatestDivisor, rests_apart}
use Rattle.term_form.proofs.Congruences.{greatest_of_three, greatest_fits}
use Rattle.term_form.proofs.congruence.common_modulus.Goals as goal

greatest : (c : goal.After-greatest_common_divisor) → IsGreatestDivisor c.args.a.now.modulus c.args.b.now.modulus (rests_apart c.args.a.now.modulus c.args.a.now.rest c.args.b.now.modulus c.args.b.now.rest) c.greatest_common_divisor.result
greatest c = greatest_of_three c.args.a.now.modulus c.args.b.now.modulus _ c.from.result c.from-2.result c.apart.result c.greatest_common_divisor-moduli.result c.greatest_common_divisor.result c.from.ensures c.from-2.ensures c.apart.ensures.value c.greatest_common_divisor-moduli.ensures c.greatest_common_divisor.ensures

pub overflow_cast-result : goal.overflow_cast-result
overflow_cast-result c = record { fits = greatest_fits c.args.a.now.modulus c.args.b.now.modulus _ c.greatest_common_divisor.result (greatest c) (omega arith) (omega arith) (λ e f. let lt = c.apart.ensures.words e f in let is = c.apart.ensures.value in omega arith) }

pub returns : goal.returns
returns c = greatest c
