use Rattle.c_unit_grammar.specs.Laws.Units.{units_are_unique}
use Rattle.c_unit_grammar.proofs.laws.unit_spelling_is_unique.Goals as goal

pub returns : goal.returns
returns c = units_are_unique
