-- What a cursor holds, and what a function that reads from one ensures.
-- It computes a parser of the grammar on lists, and a fault has the place where that stops.
use Rattle.std.specs.Prelude.{◌≡◌, ◌≢◌, Result, Ok, Err}
use Rattle.c_tree.specs.declared.token.Pos.{Pos}
use Rattle.c_grammar.specs.Input.{State, Fault, Outcome}
use Rattle.c_expr_parser.specs.declared.fault.ParseFault.{ParseFault}
use Rattle.c_expr_parser.specs.declared.fault.ParseFault.TheVariants as fault
use Rattle.c_expr_parser.specs.Reads.{next_place}
use Rattle.c_expr_parser.specs.Calls.{place_or, fault_at}

-- the names that are visible and the tokens that are left, and the place where the source ends
pub record Input : Type 0 where
  pub state : State
  pub end : Pos

-- why a parser stopped, at the place of the first token that it left
abbrev pub placed : Pos → Fault → ParseFault
placed end f = fault_at f.0 (place_or (next_place f.1) end)

-- the outcome of a parser, its fault with the place
abbrev pub answer : {A : Type 0} → Pos → Outcome A → Result (A × State) ParseFault
answer end (Ok p) = Ok p
answer end (Err f) = Err (placed end f)

-- The cursor reads what the parser reads, of which `f` tells more, and stands behind it; a refusal is that of the parser,
-- unless memory is wanting.
abbrev pub ReadsAs : {A B : Type 0} → (A → B) → Outcome B → Pos → Result A ParseFault → Input → Type 0
ReadsAs f outcome end (Ok a) new = outcome ≡ Ok (f a, new.state)
ReadsAs f outcome end (Err e) new = e ≢ fault.Memory → answer end outcome ≡ Err e

-- the same of what the parser reads itself
abbrev pub Reads : {A : Type 0} → Outcome A → Pos → Result A ParseFault → Input → Type 0
Reads outcome end (Ok a) new = outcome ≡ Ok (a, new.state)
Reads outcome end (Err e) new = e ≢ fault.Memory → answer end outcome ≡ Err e
