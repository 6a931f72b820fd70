use Rattle.c_grammar.specs.Laws.Productions.{declarators_at_front}
use Rattle.c_grammar.proofs.laws.reads_declarators.Goals as goal

pub returns : goal.returns
returns c = declarators_at_front
