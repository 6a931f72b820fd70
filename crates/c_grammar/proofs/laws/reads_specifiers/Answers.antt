use Rattle.c_grammar.specs.Laws.Productions.{specifiers_at_front}
use Rattle.c_grammar.proofs.laws.reads_specifiers.Goals as goal

pub returns : goal.returns
returns c = specifiers_at_front
