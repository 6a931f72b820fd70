-- A function value that walks over what stands inside a tree, where so many trees may stand inside one another.
-- Each crate that walks over nested trees requires it of the function value that its walker holds, and says what is meant of a tree.
use Rattle.std.specs.Prelude.{ℕ, Result}
use Rattle.std.specs.Borrow.{Bor}
use Rattle.std.specs.declared.alloc.Global.{Global}
use denote.Ref.{MutBor}
use Rattle.word_ops.specs.declared.memory.Memory.{Memory}
use Rattle.c_type_walk.specs.declared.around.Around.{Around}
use Rattle.c_type_walk.specs.declared.found.Found.{Found}

pub record Nests {Tree Made : Type 0} (Meant : Tree → Around → Found → Result Made Memory → Found → Type 0) (more : ℕ)
    (pre : Global → MutBor Found → Bor Around → ℕ → Tree → Type 0)
    (post : Global → MutBor Found → Bor Around → ℕ → Tree → Result Made Memory → MutBor Found → Type 0) : Type 0 where
  pub callable : (alloc : Global) (old : MutBor Found) (around : Bor Around) (tree : Tree) → pre alloc old around more tree
  pub walks : (alloc : Global) (old new : MutBor Found) (around : Bor Around) (tree : Tree) (r : Result Made Memory)
      → post alloc old around more tree r new → Meant tree around.now old.now r new.now
