-- Proof of the law `operations_on_values` of src/laws.rt: each clause is a lemma of
-- specs/Laws, or computes.
use Rattle.word_ops.proofs.laws.operations_on_values.Goals as goal
use Rattle.word_ops.specs.Laws.Values.{operation-same}
use Rattle.word_ops.specs.Laws.Words.{operation-word, operation-in, truth-word}

pub returns-clause-words : goal.returns-clause-words
returns-clause-words c = operation-word

pub returns-clause-inside : goal.returns-clause-inside
returns-clause-inside c = operation-in

pub returns-clause-truths : goal.returns-clause-truths
returns-clause-truths c = truth-word

pub returns-clause-kept : goal.returns-clause-kept
returns-clause-kept c = operation-same
