use Rattle.c_layout.proofs.Between.{layout-between, layout-multiple}
use Rattle.c_layout.proofs.laws.members_lie_in_their_structure.Goals as goal

pub returns : goal.returns
returns c = record {
  members = layout-between;
  size = layout-multiple;
}
