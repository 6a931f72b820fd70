-- The string that an expression is.
-- A clause of `names` cites it.
use Rattle.std.specs.Prelude.{ℕ, List, Option}
use Rattle.std.specs.Option.{option_map}
use Rattle.std.specs.Borrow.{Bor}
use Rattle.c_tree.specs.declared.expression.Literal.{Literal}
use Rattle.c_typing.specs.OfTrees.{bytes_of_all}

-- the bytes of literals that are lent
abbrev pub literal_of : Option (Bor (List Literal)) → Option (List ℕ)
literal_of all = option_map (λ ls. bytes_of_all ls.now) all
