use Rattle.c_unit_grammar.specs.Laws.Units.{ok_at_units}
use Rattle.c_unit_grammar.proofs.laws.reads_units.Goals as goal

pub returns : goal.returns
returns c = ok_at_units
