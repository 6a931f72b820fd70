use Rattle.lowering_form.specs.Laws.Added.{value-adds}
use Rattle.lowering_form.proofs.laws.expressions_add_what_they_weigh.Goals as goal

pub returns : goal.returns
returns c = value-adds
