-- What the acts of a function cost, as the limit on its text counts them (the profile's limits): as they are counted, but each
-- store of a fill two and each unit of a copy four, since that many operations stand with them.
use Rattle.std.specs.Prelude.{ℕ, ◌+◌, ◌*◌, ◌/◌, List, [], ◌∷◌, length, slice_get}
use Rattle.core_lang.specs.declared.act.Core.{Core, Row_of-Core, end_of-Core, more_of-Core}
use Rattle.core_lang.specs.declared.act.Core.TheVariants as c
use Rattle.core_lang.specs.declared.program.CoreFunction.{CoreFunction}
use Rattle.core_lang.specs.Counts.{stores_of_fill}

abbrev mutual
  pub cost_of_act : (locals : List ℕ) → Core → ℕ
  cost_of_act ls (c.Fill x) = 2 * stores_of_fill (slice_get ls x)
  cost_of_act ls (c.Copy u v size alignment) = 4 * (size / alignment)
  cost_of_act ls (c.Call x f vs) = 1 + length vs
  cost_of_act ls (c.Block' n all) = 1 + cost_of_row ls all
  cost_of_act ls (c.Loop' n all) = 1 + cost_of_row ls all
  cost_of_act ls (c.If' v n first m second) = 1 + cost_of_row ls first + cost_of_row ls second
  cost_of_act ls a = 1

  pub cost_of_row : (locals : List ℕ) → {n : _} → Row_of-Core n → ℕ
  cost_of_row ls end_of-Core = 0
  cost_of_row ls (more_of-Core a rest) = cost_of_act ls a + cost_of_row ls rest

abbrev pub cost_of_acts : (locals : List ℕ) → List Core → ℕ
cost_of_acts ls [] = 0
cost_of_acts ls (a ∷ rest) = cost_of_act ls a + cost_of_acts ls rest

-- a function costs one itself, and one for each parameter
abbrev pub cost_of_function : CoreFunction → ℕ
cost_of_function g = 1 + g.params + cost_of_acts g.locals g.body
