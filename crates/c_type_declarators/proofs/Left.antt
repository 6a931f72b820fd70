-- A loop over the items of a walk, as far as it has come.
-- The invariant of the loop of `derive` says it.
use Rattle.std.proofs.Common.{◌≡◌, ◌++◌}
use Rattle.c_typing.specs.Scopes.{Said}
use Rattle.c_type_walk.specs.declared.found.Found.{Found}

-- what the whole says, from what was found at its start, is what has been found so far and what is left says
pub record Left {A : Type 0} (whole left : Said A) (old now : Found) : Type 0 where
  pub given : whole.given ≡ left.given
  pub faults : old.faults ++ whole.faults ≡ now.faults ++ left.faults
  pub state : whole.state ≡ left.state
