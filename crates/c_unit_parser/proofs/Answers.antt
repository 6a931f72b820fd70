-- The outcome of a parser with places, from that of its first part.
-- A parser that stops in its first part stops there, for the same reason.
use Rattle.std.specs.Prelude.{◌≡◌, Ok, Err, refl}
use Rattle.c_tree.specs.declared.token.Pos.{Pos}
use Rattle.c_grammar.specs.Input.{Reason, Tokens, Outcome, Parser, and_then}
use Rattle.c_expr_parser.specs.declared.fault.ParseFault.{ParseFault}
use Rattle.c_expr_parser.specs.Reads.{next_place}
use Rattle.c_expr_parser.specs.Calls.{place_or, fault_at}
use Rattle.c_unit_parser.specs.Reads.{answer}

-- what stops in its first part stops there
pub stops_first : {A B : Type 0} (end : Pos) (r : Outcome A) (f : A → Parser B) (e : ParseFault) → answer end r ≡ Err e → answer end (and_then r f) ≡ Err e
stops_first end (Ok p) f e h = absurd cc
stops_first end (Err g) f e h = cc

-- why it stopped, and the tokens that were left there
pub record Stopped {A : Type 0} (r : Outcome A) (end : Pos) (e : ParseFault) : Type 0 where
  pub reason : Reason
  pub left : Tokens
  pub stops : r ≡ Err (reason, left)
  pub is : e ≡ fault_at reason (place_or (next_place left) end)

pub stopped : {A : Type 0} (end : Pos) (r : Outcome A) (e : ParseFault) → answer end r ≡ Err e → Stopped r end e
stopped end (Ok p) e h = absurd cc
stopped {A} end (Err g) e h = record { reason = g.0; left = g.1; stops = refl; is = cc }
