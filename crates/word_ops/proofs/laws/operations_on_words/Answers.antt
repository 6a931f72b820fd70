-- Proof of the law `operations_on_words` of src/laws.rt: each clause is a lemma of
-- specs/Laws, or computes.
use Rattle.word_ops.proofs.laws.operations_on_words.Goals as goal
use Rattle.word_ops.specs.Laws.Operations.{machine_word-small, adds_exact, subs_exact, muls_exact, divs_exact, rems_exact, shls_exact, shrs_exact}

pub returns-clause-words : goal.returns-clause-words
returns-clause-words c = machine_word-small

pub returns-clause-sums : goal.returns-clause-sums
returns-clause-sums c = adds_exact

pub returns-clause-differences : goal.returns-clause-differences
returns-clause-differences c = subs_exact

pub returns-clause-products : goal.returns-clause-products
returns-clause-products c = muls_exact

pub returns-clause-quotients : goal.returns-clause-quotients
returns-clause-quotients c = divs_exact

pub returns-clause-remainders : goal.returns-clause-remainders
returns-clause-remainders c = rems_exact

pub returns-clause-left_shifts : goal.returns-clause-left_shifts
returns-clause-left_shifts c = λ a b n e. shls_exact a b n e

pub returns-clause-right_shifts : goal.returns-clause-right_shifts
returns-clause-right_shifts c = λ a b n h e. shrs_exact a b n h e
