-- Proof of the law `patterns_are_recognised` of src/laws.rt: it is a lemma of specs/Laws.
use Rattle.code_form.proofs.laws.patterns_are_recognised.Goals as goal
use Rattle.code_form.specs.Laws.Patterns.{patterns-recognised}

pub returns : goal.returns
returns c = patterns-recognised
