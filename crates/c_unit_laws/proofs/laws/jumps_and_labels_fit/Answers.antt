use Rattle.c_unit_laws.specs.Laws.{jumps_and_labels_fit}
use Rattle.c_unit_laws.proofs.laws.jumps_and_labels_fit.Goals as goal

pub returns : goal.returns
returns c = jumps_and_labels_fit
