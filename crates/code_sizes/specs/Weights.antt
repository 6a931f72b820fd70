-- What acts come to in records of a listing (a choice of this project: what the interpreter makes of them at most), under any
-- weight for each kind of record.
use Rattle.std.specs.Prelude.{ℕ, ◌+◌, ◌*◌, ◌/◌, List, [], ◌∷◌, length, Option, Some, None, slice_get}
use Rattle.core_lang.specs.declared.act.Core.{Core, Row_of-Core, end_of-Core, more_of-Core}
use Rattle.core_lang.specs.declared.act.Core.TheVariants as c
use Rattle.core_lang.specs.declared.program.CoreFunction.{CoreFunction}
use Rattle.core_lang.specs.Counts.{stores_of_fill}

-- a weight for each kind of record that is no constant, no address of an object and no phi; of phis the arguments count
pub record Weights : Type 0 where
  pub operation : ℕ
  pub load : ℕ
  pub param : ℕ
  pub got : ℕ
  pub called : ℕ
  pub store : ℕ
  pub call : ℕ
  pub argument : ℕ
  pub get : ℕ
  pub put : ℕ
  pub exit : ℕ
  pub jump : ℕ
  pub branch : ℕ
  pub return : ℕ
  pub stop : ℕ

-- a unit of a copy: two sums for the addresses, a load and a store
abbrev pub weight_of_unit : Weights → ℕ
weight_of_unit w = 2 * w.operation + w.load + w.store

abbrev pub weight_of_result : Weights → Option ℕ → ℕ
weight_of_result w None = 0
weight_of_result w (Some x) = w.called

abbrev mutual
  -- what an act comes to at most, in a function with local objects of these sizes; its blocks end in jumps
  pub weight_of_act : Weights → (locals : List ℕ) → Core → ℕ
  weight_of_act w ls (c.Move x v) = 0
  weight_of_act w ls (c.Operate x op u v) = w.operation
  weight_of_act w ls (c.Pointer x op u v) = w.operation
  weight_of_act w ls (c.Load x k p) = w.load
  weight_of_act w ls (c.Store k p v) = w.store
  weight_of_act w ls (c.Enter x) = 0
  weight_of_act w ls (c.Fill x) = stores_of_fill (slice_get ls x) * (w.operation + w.store)
  weight_of_act w ls (c.Copy u v size alignment) = size / alignment * weight_of_unit w
  weight_of_act w ls (c.Call x f vs) = w.call + length vs * w.argument + weight_of_result w x
  weight_of_act w ls (c.Get x) = w.get + w.got
  weight_of_act w ls (c.Put v) = w.put
  weight_of_act w ls (c.Exit v) = w.exit + w.stop
  weight_of_act w ls (c.Block' n all) = w.jump + weight_of_row w ls all
  weight_of_act w ls (c.Loop' n all) = 2 * w.jump + weight_of_row w ls all
  weight_of_act w ls (c.Break k) = w.jump
  weight_of_act w ls (c.If' v n first m second) = w.branch + 2 * w.jump + weight_of_row w ls first + weight_of_row w ls second
  weight_of_act w ls (c.Return v) = w.return

  pub weight_of_row : Weights → (locals : List ℕ) → {n : _} → Row_of-Core n → ℕ
  weight_of_row w ls end_of-Core = 0
  weight_of_row w ls (more_of-Core a rest) = weight_of_act w ls a + weight_of_row w ls rest

abbrev pub weight_of_acts : Weights → (locals : List ℕ) → List Core → ℕ
weight_of_acts w ls [] = 0
weight_of_acts w ls (a ∷ rest) = weight_of_act w ls a + weight_of_acts w ls rest

-- a function has its parameters, and a return behind its last act
abbrev pub weight_of_function : Weights → CoreFunction → ℕ
weight_of_function w g = g.params * w.param + weight_of_acts w g.locals g.body + w.return
