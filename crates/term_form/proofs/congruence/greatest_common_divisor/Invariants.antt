-- Proof of `greatest_common_divisor` of src/congruence.rt: what its loop keeps, and the measure that falls,
-- by lemmas of proofs/ and of the crates below.
use Rattle.std.proofs.Common.{ℕ}
use Rattle.std.specs.Int.{IsGcd}
use Rattle.term_form.proofs.congruence.greatest_common_divisor.Given as goal

-- the divisors in common stay
abbrev pub invariant-loop-rest : goal.invariant-loop-rest
invariant-loop-rest l = (g : ℕ) → IsGcd l.divisor l.rest g → IsGcd l.fn.a l.fn.b g

abbrev pub decreases-loop-rest : goal.decreases-loop-rest
decreases-loop-rest l = l.rest
