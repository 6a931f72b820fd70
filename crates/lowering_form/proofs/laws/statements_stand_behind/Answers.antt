use Rattle.lowering_form.specs.Laws.Behind.{statement-on}
use Rattle.lowering_form.proofs.laws.statements_stand_behind.Goals as goal

pub returns : goal.returns
returns c = statement-on
