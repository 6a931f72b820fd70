-- The laws of decoding, of the word that was decoded.
use Rattle.std.proofs.Common.{arith}
use Rattle.rv_table.specs.Laws.Decoding.{found, none, again}
use Rattle.rv_table.proofs.decoder.decode.Goals as goal

pub returns-clause-found : goal.returns-clause-found
returns-clause-found c = found c.args.word c.read_word.result (omega arith) c.read_word.ensures

pub returns-clause-none : goal.returns-clause-none
returns-clause-none c = none c.args.word c.read_word.result c.read_word.ensures

pub returns-clause-again : goal.returns-clause-again
returns-clause-again c = again c.args.word c.read_word.result c.read_word.ensures
