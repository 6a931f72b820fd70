-- What the names of a function stand for (C11 6.2.1, 6.2.4).
use Rattle.std.specs.Prelude.{ℕ, List, ◌++◌, Option, slice_get, nat_lt}
use Rattle.std.specs.Option.{option_map}
use Rattle.word_ops.specs.Choice.{only_if}
use Rattle.word_ops.specs.Store.{Value, Pointer, in_a_row}

-- how many static objects there are, whose regions have their numbers, and the regions of the automatic objects in scope, by
-- their places: the parameters, and the objects of the blocks around, outer blocks first
pub record Environment : Type 0 where
  pub statics : ℕ
  pub objects : List ℕ

-- the address of the automatic object of a place in scope
abbrev pub automatic_place : Environment → ℕ → Option Value
automatic_place env x = option_map (λ r. Pointer r 0) (slice_get env.objects x)

-- the address of the static object of a number
abbrev pub static_place : Environment → ℕ → Option Value
static_place env x = only_if (nat_lt x env.statics) (Pointer x 0)

-- the environment with objects in scope besides, whose regions have numbers in a row (C11 6.2.1p4)
abbrev pub with_objects : Environment → (first count : ℕ) → Environment
with_objects env first count = record env { objects = env.objects ++ in_a_row first count }
