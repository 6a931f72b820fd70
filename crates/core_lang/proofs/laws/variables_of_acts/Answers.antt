-- Proof of the law `variables_of_acts` of src/laws.rt: each clause is a lemma of
-- specs/Laws, or computes.
use Rattle.core_lang.proofs.laws.variables_of_acts.Goals as goal
use Rattle.core_lang.specs.Laws.Variables.{argument-get, argument-past, acts-unassigned}

pub returns-clause-arguments : goal.returns-clause-arguments
returns-clause-arguments c = argument-get

pub returns-clause-others : goal.returns-clause-others
returns-clause-others c = argument-past

pub returns-clause-unassigned : goal.returns-clause-unassigned
returns-clause-unassigned c = acts-unassigned
