-- Proof of `meet` of src/facts.rt: the goals that the check leaves open,
-- by lemmas of proofs/ and of the crates below.
use Rattle.std.proofs.Common.{rules}
use Rattle.term_form.proofs.Parts.{meets_both}
use Rattle.term_form.proofs.facts.meet.Goals as goal

pub returns-clause-parts : goal.returns-clause-parts
returns-clause-parts c = record { intervals = search rules; bits = search rules; congruences = c.meet-congruence.ensures }

pub returns-clause-both : goal.returns-clause-both
returns-clause-both c = λ word lt m n. meets_both c.args.a.now c.args.b.now _ word (returns-clause-parts c) m n
