-- What a function that reads from a cursor ensures.
-- It computes a parser of the grammar on lists, and leaves each mark of the names good.
use Rattle.std.specs.Prelude.{◌≡◌, ◌≢◌, ℕ, [], ◌∷◌, Option, Some, None, Result, Ok, Err}
use Rattle.scope_map.specs.Scopes.{Marked}
use Rattle.c_tree.specs.declared.token.Pos.{Pos}
use Rattle.c_tree.specs.Levels.Names.{Names}
use Rattle.c_grammar.specs.Input.{State, Tokens, Outcome, Reason, Syntax, Nest}
use Rattle.c_expr_parser.specs.declared.fault.Stop.{Stop}
use Rattle.c_expr_parser.specs.declared.fault.Stop.TheVariants as stop

abbrev pub reason_of : Stop → Reason
reason_of stop.Nest = Nest
reason_of _ = Syntax

-- The cursor reads what the parser reads, and stands where that stopped, unless memory is wanting.
abbrev pub Reads : {A : Type 0} → Outcome A → Result A Stop → State → Type 0
Reads outcome (Ok a) new = outcome ≡ Ok (a, new)
Reads outcome (Err e) new = e ≢ stop.Memory → outcome ≡ Err (reason_of e, new.1)

-- each mark of the names stays good
abbrev pub Keeps : State → State → Type 0
Keeps old new = (mark : ℕ) (at : Names) → Marked old.0 mark at → Marked new.0 mark at

-- where the next token stands
abbrev pub next_place : Tokens → Option Pos
next_place [] = None
next_place (t ∷ ts) = Some t.place
