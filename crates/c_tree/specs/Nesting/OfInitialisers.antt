-- How deep one node of an initialiser nests, from how deep its parts nest.
use Rattle.std.specs.Prelude.{ℕ, ◌+◌}
use Rattle.c_tree.specs.declared.declaration.Initialiser.TheOpen.{Initialiser-F}
use Rattle.c_tree.specs.Layers.{InitialiserOf, InitialiserItemOf}
use Rattle.c_tree.specs.Nesting.OfTrees.{deepest}
use Rattle.c_tree.specs.Nesting.Trees.{expr_nesting}

-- how deep an initialiser nests
abbrev pub nested_initialiser : InitialiserOf ℕ → ℕ
nested_initialiser (Initialiser-F.Expression value) = expr_nesting value
nested_initialiser (Initialiser-F.List from items last to) = deepest items + 1

-- how deep an initialiser in braces nests
abbrev pub nested_initialiser_item : InitialiserItemOf ℕ → ℕ
nested_initialiser_item item = item.value
