-- A function value that reads what is nested by one more, where so many could be nested with that one.
-- It is what each production asks of the value that it is given, and what the one recursive function is.
use Rattle.std.specs.Prelude.{◌≡◌, ℕ, ◌≤◌, Result, OnOk}
use Rattle.std.specs.declared.alloc.Global.{Global}
use denote.Ref.{MutBor}
use Rattle.c_expr_parser.specs.declared.fault.ParseFault.{ParseFault}
use Rattle.c_expr_parser.specs.Reads.{Keeps}
use Rattle.c_unit_parser.specs.declared.wanted.Wanted.{Wanted}
use Rattle.c_unit_parser.specs.declared.wanted.Found.{Found}
use Rattle.c_unit_parser.specs.declared.cursor.Cursor.{Cursor}
use Rattle.c_unit_parser.specs.Reads.{Reads}
use Rattle.c_unit_parser.specs.Wanted.{read}

pub record Nests (more : ℕ) (pre : Global → MutBor Cursor → ℕ → Wanted → Type 0)
    (post : Global → MutBor Cursor → ℕ → Wanted → Result Found ParseFault → MutBor Cursor → Type 0) : Type 0 where
  pub within : more ≤ 256
  pub callable : (alloc : Global) (old : MutBor Cursor) (wanted : Wanted) → pre alloc old more wanted
  pub reads : (alloc : Global) (old new : MutBor Cursor) (wanted : Wanted) (r : Result Found ParseFault) → post alloc old more wanted r new
      → Reads (read more wanted old.now.state) old.now.end r new.now
  pub keeps : (alloc : Global) (old new : MutBor Cursor) (wanted : Wanted) (r : Result Found ParseFault) → post alloc old more wanted r new
      → OnOk r (Keeps old.now.state new.now.state)
  pub ends : (alloc : Global) (old new : MutBor Cursor) (wanted : Wanted) (r : Result Found ParseFault) → post alloc old more wanted r new
      → new.now.end ≡ old.now.end
