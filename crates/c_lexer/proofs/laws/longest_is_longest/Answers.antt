use Rattle.c_lexer.proofs.Longest.{longest_is_longest}
use Rattle.c_lexer.proofs.laws.longest_is_longest.Goals as goal

pub returns : goal.returns
returns c = longest_is_longest
