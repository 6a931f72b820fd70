-- Proof of `holds` of src/facts.rt: what it gives is the test of the definitions,
-- since both are true of the same words.
use Rattle.std.proofs.Common.{rules}
use Rattle.term_form.proofs.Meeting.{meets-test}
use Rattle.term_form.proofs.facts.holds.Goals as goal

pub returns-then-has_bits-clause-test : goal.returns-then-has_bits-clause-test
returns-then-has_bits-clause-test c = meets-test c.args.facts.now c.args.word c.has_rest.result (search rules)
