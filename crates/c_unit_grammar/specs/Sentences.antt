-- What `parse` is held to (C11 6.9).
use Rattle.std.specs.Prelude.{◌≡◌, Ok, Err}
use Rattle.c_tree.specs.declared.token.Pos.{Pos}
use Rattle.c_tree.specs.declared.unit.Unit as tree
use Rattle.c_tree.specs.Spelling.Units.{unit_spelling}
use Rattle.c_tree.specs.Levelled.{IsUnit, IsLevelled}
use Rattle.c_grammar.specs.Input.{Tokens, Fault}
use Rattle.c_unit_grammar.specs.Read.Units.{parse}

-- the tokens are all those of the unit, and its source ends at this place
pub record Spells (tokens : Tokens) (end : Pos) (unit : tree.Unit) : Type 0 where
  pub spelt : unit_spelling unit ≡ tokens
  pub ends : unit.end ≡ end

-- Ok comes exactly where the tokens spell a unit that the grammar has, nested no deeper than the limit
pub record OkAtUnits : Type 0 where
  -- there it gives that unit
  pub comes : (tokens : Tokens) (end : Pos) (unit : tree.Unit) → IsLevelled unit → Spells tokens end unit → parse tokens end ≡ Ok unit
  -- and nowhere else
  pub found : (tokens : Tokens) (end : Pos) (unit : tree.Unit) → parse tokens end ≡ Ok unit → IsLevelled unit × Spells tokens end unit
  -- so a fault tells that there is none
  pub refused : (tokens : Tokens) (end : Pos) (fault : Fault) → parse tokens end ≡ Err fault → (unit : tree.Unit) → IsLevelled unit → Spells tokens end unit → ⊥

-- two units that the grammar has are one where their tokens and their ends are, however deep they nest
abbrev pub UnitsAreUnique : Type 0
UnitsAreUnique = (tokens : Tokens) (end : Pos) (a b : tree.Unit) → IsUnit a → IsUnit b → Spells tokens end a → Spells tokens end b → a ≡ b
