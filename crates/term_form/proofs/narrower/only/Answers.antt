-- Proof of `only` of src/narrower.rt: the goals that the check leaves open,
-- by lemmas of proofs/ and of the crates below.
use Rattle.std.proofs.Common.{rules, sym, subst}
use Rattle.term_form.specs.declared.facts.Facts.{Facts}
use Rattle.term_form.specs.Meets.{Meets}
use Rattle.term_form.proofs.Widths.{only_meets}
use Rattle.term_form.proofs.narrower.only.Goals as goal

pub returns-clause-is : goal.returns-clause-is
returns-clause-is c = search rules

pub returns-clause-holds : goal.returns-clause-holds
returns-clause-holds c = subst (λ (f : Facts). Meets f c.args.word) (sym (returns-clause-is c)) (only_meets c.args.word c.ranges.word.fits)
