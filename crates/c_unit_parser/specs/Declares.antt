-- What a tree declares for what stands behind it, whatever names are visible where it stands.
-- The walk over a parameter list puts just these names behind the others.
use Rattle.std.specs.Prelude.{◌≡◌, ◌++◌}
use Rattle.c_tree.specs.Levels.Names.{Names, With}

-- behind the old names stand those that the tree declares
pub record Puts {A : Type 0} (tree : With A) (old new : Names) : Type 0 where
  pub names : Names
  pub behind : new ≡ old ++ names
  pub declares : (at : Names) → (tree at).1 ≡ names
