-- The spelling of one node of an initialiser, from the spellings of its parts (C11 6.7.9).
use Rattle.std.specs.Prelude.{◌++◌}
use Rattle.c_tree.specs.declared.declaration.Initialiser.TheOpen.{Initialiser-F}
use Rattle.c_tree.specs.Layers.{InitialiserOf, InitialiserItemOf}
use Rattle.c_tree.specs.Spelling.Tokens.{Spelling, joined, braces, comma_at}
use Rattle.c_tree.specs.Spelling.Trees.{expr_spelling}

-- an initialiser (C11 6.7.9)
abbrev pub spelled_initialiser : InitialiserOf Spelling → Spelling
spelled_initialiser (Initialiser-F.Expression value) = expr_spelling value
spelled_initialiser (Initialiser-F.List from items comma to) = braces from (joined items ++ comma_at comma) to

-- an initialiser in braces (C11 6.7.9)
abbrev pub spelled_initialiser_item : InitialiserItemOf Spelling → Spelling
spelled_initialiser_item item = comma_at item.comma ++ item.value
