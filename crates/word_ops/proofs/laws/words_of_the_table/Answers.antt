-- Answers of the law words_of_the_table: the two tables compute to true.
use Rattle.std.proofs.Common.{refl}
use Rattle.word_ops.proofs.laws.words_of_the_table.Goals as goal

pub returns-clause-operations : goal.returns-clause-operations
returns-clause-operations c = refl

pub returns-clause-narrowings : goal.returns-clause-narrowings
returns-clause-narrowings c = refl
