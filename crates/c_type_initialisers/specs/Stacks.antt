-- The aggregates that are being filled, as code keeps them: the innermost last.
-- The clauses of `frames`, `descent`, `expressions` and `initialisers` cite them.
use Rattle.std.specs.Prelude.{List, Option, Some, None, Result, Ok, Err, reverse}
use Rattle.word_ops.specs.declared.memory.Memory.{Memory}
use Rattle.c_typing.specs.declared.initialiser.Frame.{Frame}
use Rattle.c_typing.specs.declared.initialiser.Leaf.{Leaf}
use Rattle.c_typing.specs.OfInitialisers.{Placed}

-- the innermost first
abbrev pub stack : List Frame → List Frame
stack frames = reverse frames

-- what an item has filled, and the aggregates that are open behind it
abbrev pub placed_if : Option (List Leaf) → List Frame → Option Placed
placed_if (Some ls) frames = Some (record { leaves = ls; around = stack frames })
placed_if None frames = None

abbrev pub placed : Result (Option (List Leaf)) Memory → List Frame → Result (Option Placed) Memory
placed (Ok o) frames = Ok (placed_if o frames)
placed (Err e) frames = Err e
