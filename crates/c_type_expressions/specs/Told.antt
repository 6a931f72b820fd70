-- What the function of a row ensures that keeps what is given in another form than
-- the definition has.
use Rattle.std.specs.Prelude.{Option, Result, Ok, Err}
use Rattle.std.specs.Option.{option_map}
use Rattle.word_ops.specs.declared.memory.Memory.{Memory}
use Rattle.c_typing.specs.Scopes.{Walk}
use Rattle.c_type_walk.specs.declared.around.Around.{Around}
use Rattle.c_type_walk.specs.declared.found.Found.{Found}
use Rattle.c_type_walk.specs.Walks.{Gave, fixed}

-- what the given form stands for is what the walk gives
abbrev pub WalksAs : {A B : Type 0} → (B → A) → Walk A → Around → Found → Result (Option B) Memory → Found → Type 0
WalksAs f w c old (Ok given) new = Gave (w (fixed c) old.state) old new (option_map f given)
WalksAs f w c old (Err e) new = Unit {0}
