use Rattle.std.proofs.Common.{refl}
use Rattle.c_layout.specs.ConstantNodes.{has_constant_form-Applied, number_of-Applied}
use Rattle.c_layout.proofs.laws.steps_are_folded_as_their_tree.Goals as goal

pub returns : goal.returns
returns c = λ t e steps. rw (has_constant_form-Applied, number_of-Applied) refl
