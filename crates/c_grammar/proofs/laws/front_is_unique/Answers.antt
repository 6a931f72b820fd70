use Rattle.c_grammar.specs.Laws.Productions.{fronts_are_unique}
use Rattle.c_grammar.proofs.laws.front_is_unique.Goals as goal

pub returns : goal.returns
returns c = fronts_are_unique
