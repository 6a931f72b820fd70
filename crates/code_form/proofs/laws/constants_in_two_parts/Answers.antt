-- Proof of the law `constants_in_two_parts` of src/laws.rt: each clause is a lemma of specs/Laws.
use Rattle.code_form.proofs.laws.constants_in_two_parts.Goals as goal
use Rattle.code_form.specs.Laws.Constants.{parts-sum, lower_part-within}

pub returns : goal.returns
returns c = record { sum = parts-sum; within = lower_part-within }
