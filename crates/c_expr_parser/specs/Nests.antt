-- A function value that reads what stands inside brackets, where so many more may be opened.
-- It is what each production asks of the value that it is given, and what the one recursive function is.
use Rattle.std.specs.Prelude.{ℕ, Result}
use Rattle.std.specs.declared.alloc.Global.{Global}
use denote.Ref.{MutBor}
use Rattle.c_grammar.specs.Read.Depth.{inside}
use Rattle.c_expr_parser.specs.declared.fault.Stop.{Stop}
use Rattle.c_expr_parser.specs.declared.wanted.Wanted.{Wanted}
use Rattle.c_expr_parser.specs.declared.wanted.Found.{Found}
use Rattle.c_expr_parser.specs.declared.cursor.Cursor.{Cursor}
use Rattle.c_expr_parser.specs.Reads.{Reads, Keeps}
use Rattle.c_expr_parser.specs.Wanted.{read}

pub record Nests (more : ℕ) (pre : Global → MutBor Cursor → ℕ → Wanted → Type 0)
    (post : Global → MutBor Cursor → ℕ → Wanted → Result Found Stop → MutBor Cursor → Type 0) : Type 0 where
  pub callable : (alloc : Global) (old : MutBor Cursor) (wanted : Wanted) → pre alloc old more wanted
  pub reads : (alloc : Global) (old new : MutBor Cursor) (wanted : Wanted) (r : Result Found Stop) → post alloc old more wanted r new
      → Reads (read (inside more) wanted old.now) r new.now
  pub keeps : (alloc : Global) (old new : MutBor Cursor) (wanted : Wanted) (r : Result Found Stop) → post alloc old more wanted r new
      → Keeps old.now new.now
