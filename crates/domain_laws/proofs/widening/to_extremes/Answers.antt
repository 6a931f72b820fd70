-- Proof of `to_extremes` of src/widening.rt: the goals that the check leaves open,
-- by lemmas of proofs/ and of the crates below.
use Rattle.std.proofs.Common.{rules}
use Rattle.domain_laws.proofs.widening.to_extremes.Goals as goal

pub returns-clause-is : goal.returns-clause-is
returns-clause-is c = record {
  low = search rules;
  high = search rules;
  least = search rules;
  most = search rules;
  bits = record { kept = c.with_bits_or_none-bits.ensures.is.kept; dropped = c.with_bits_or_none-bits.ensures.is.dropped };
  congruence = record { kept = c.with_rest_or_none-congruence.ensures.is.kept; dropped = c.with_rest_or_none-congruence.ensures.is.dropped };
}
