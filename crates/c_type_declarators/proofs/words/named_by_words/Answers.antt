-- `named_by_words` of src/words.rt: what the check leaves open of its proof.
-- The type that words name, in any order, or `None` exactly where they name none.
use Rattle.c_type_declarators.proofs.NamedByWords.{named-by-read}
use Rattle.c_type_declarators.proofs.words.named_by_words.Goals as goal

pub returns-in_err-read_words : goal.returns-in_err-read_words
returns-in_err-read_words c =
    rw (named-by-read c.args.list.now, ← c.read_words.ensures, c.in_err-read_words.was) c.from_residual.ensures

pub returns : goal.returns
returns c = rw (named-by-read c.args.list.now, ← c.read_words.ensures, c.in_ok-read_words.was) c.base_of.ensures
