-- Proof of `hull` of src/facts.rt: the goals that the check leaves open,
-- by lemmas of proofs/ and of the crates below.
use Rattle.std.proofs.Common.{rules}
use Rattle.term_form.proofs.Parts.{lies_first, lies_second, meets_either}
use Rattle.term_form.proofs.facts.hull.Goals as goal

pub returns-clause-parts : goal.returns-clause-parts
returns-clause-parts c = record { intervals = search rules; bits = search rules; congruences = c.hull-congruence.ensures }

pub returns-clause-first : goal.returns-clause-first
returns-clause-first c = lies_first c.args.a.now c.args.b.now _ (returns-clause-parts c)

pub returns-clause-second : goal.returns-clause-second
returns-clause-second c = lies_second c.args.a.now c.args.b.now _ (returns-clause-parts c)

pub returns-clause-either : goal.returns-clause-either
returns-clause-either c = λ word lt m. meets_either c.args.a.now c.args.b.now _ word lt (returns-clause-parts c) m
