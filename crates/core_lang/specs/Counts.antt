-- What the acts of a function count for, and how many variables they assign: the numbers in which limits are stated (the
-- profile's limits).
use Rattle.std.specs.Prelude.{ℕ, zero, suc, ◌+◌, ◌*◌, ◌/◌, nat_lt, List, [], ◌∷◌, length, Option, Some, None, slice_get}
use Rattle.word_ops.specs.Word.{number_of_truth}
use Rattle.core_lang.specs.declared.act.Core.{Core, Row_of-Core, end_of-Core, more_of-Core}
use Rattle.core_lang.specs.declared.act.Core.TheVariants as c
use Rattle.core_lang.specs.declared.program.CoreFunction.{CoreFunction}
use Rattle.core_lang.specs.Filling.{widths_of_fill}
use Rattle.core_lang.specs.WellFormed.{places_in}

-- ---- acts

-- how many stores fill an object
abbrev pub stores_of_fill : Option ℕ → ℕ
stores_of_fill None = 0
stores_of_fill (Some size) = length (widths_of_fill size)

-- a copy is a load and a store for each unit
abbrev pub accesses_of_copy : (size alignment : ℕ) → ℕ
accesses_of_copy size alignment = 2 * (size / alignment)

abbrev mutual
  -- an act counts one, but a fill and a copy one for each of their loads and stores, and a call one more for each argument
  pub count_of_act : (locals : List ℕ) → Core → ℕ
  count_of_act ls (c.Fill x) = stores_of_fill (slice_get ls x)
  count_of_act ls (c.Copy u v size alignment) = accesses_of_copy size alignment
  count_of_act ls (c.Call x f vs) = 1 + length vs
  count_of_act ls (c.Block' n all) = 1 + count_of_row ls all
  count_of_act ls (c.Loop' n all) = 1 + count_of_row ls all
  count_of_act ls (c.If' v n first m second) = 1 + count_of_row ls first + count_of_row ls second
  count_of_act ls a = 1

  pub count_of_row : (locals : List ℕ) → {n : _} → Row_of-Core n → ℕ
  count_of_row ls end_of-Core = 0
  count_of_row ls (more_of-Core a rest) = count_of_act ls a + count_of_row ls rest

abbrev pub count_of_acts : (locals : List ℕ) → List Core → ℕ
count_of_acts ls [] = 0
count_of_acts ls (a ∷ rest) = count_of_act ls a + count_of_acts ls rest

-- a function counts one itself, and one for each parameter
abbrev pub count_of_function : CoreFunction → ℕ
count_of_function g = 1 + g.params + count_of_acts g.locals g.body

-- ---- variables

-- how many of the first numbers acts assign
abbrev pub assigned_below : ℕ → List Core → ℕ
assigned_below zero xs = 0
assigned_below (suc x) xs = number_of_truth (nat_lt 0 (places_in x xs)) + assigned_below x xs

-- how many variables the acts of a function assign
abbrev pub variables_assigned : CoreFunction → ℕ
variables_assigned g = assigned_below g.vars g.body
