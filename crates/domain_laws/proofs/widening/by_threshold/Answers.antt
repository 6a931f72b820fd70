-- Proof of `by_threshold` of src/widening.rt: the goals that the check leaves open,
-- by lemmas of proofs/ and of the crates below.
use Rattle.std.proofs.Common.{rules}
use Rattle.term_form.proofs.Widths.{IsHull-first, IsHull-second}
use Rattle.domain_laws.proofs.widening.by_threshold.Goals as goal

pub returns-clause-is : goal.returns-clause-is
returns-clause-is c = record {
  low = search rules;
  high = search rules;
  least = search rules;
  most = search rules;
  bits = record { zeros = c.hull-both.ensures.parts.bits.zeros; ones = c.hull-both.ensures.parts.bits.ones };
  congruence = c.hull-both.ensures.parts.congruences;
}

pub returns-clause-assumed_in : goal.returns-clause-assumed_in
returns-clause-assumed_in c =
    let h = IsHull-first c.args.assumed.now c.args.back.now c.hull-both.result c.hull-both.ensures.parts in
    record {
      intervals = record { low = search rules; high = search rules; least = search rules; most = search rules };
      bits = record { zeros = h.bits.zeros; ones = h.bits.ones };
      congruence = record { modulus = h.congruence.modulus; rest = h.congruence.rest };
    }

pub returns-clause-back_in : goal.returns-clause-back_in
returns-clause-back_in c =
    let h = IsHull-second c.args.assumed.now c.args.back.now c.hull-both.result c.hull-both.ensures.parts in
    record {
      intervals = record { low = search rules; high = search rules; least = search rules; most = search rules };
      bits = record { zeros = h.bits.zeros; ones = h.bits.ones };
      congruence = record { modulus = h.congruence.modulus; rest = h.congruence.rest };
    }
