use Rattle.c_unit_laws.specs.Laws.{objects_fit}
use Rattle.c_unit_laws.proofs.laws.objects_fit.Goals as goal

pub returns : goal.returns
returns c = objects_fit
