-- `read_words` of src/words.rt: what holds in its loop.
-- Words as a sign, a kind and `int`, or `None` where two of them do not go together.
use Rattle.std.proofs.Common.{◌≡◌, drop}
use Rattle.c_type_declarators.specs.Words as meant
use Rattle.c_type_declarators.proofs.words.read_words.Given as goal

abbrev pub invariant-loop-word : goal.invariant-loop-word
invariant-loop-word l = meant.read_words meant.no_words l.list ≡ meant.read_words l.words (drop l.word-index l.list)
