use Rattle.c_layout.proofs.Kept.{complete-kept, declared-keeps, completed-keeps}
use Rattle.c_layout.proofs.laws.complete_types_keep_their_size.Goals as goal

pub returns : goal.returns
returns c = record {
  kept = complete-kept;
  declared = declared-keeps;
  completed = completed-keeps;
}
