-- What `parse` ensures, by the units of the grammar.
-- The unit is one of the grammar, its spelling is the tokens, and no other one has it.
use Rattle.std.specs.Prelude.{◌≡◌, ◌≢◌, Result, Ok, Err, IfOk, IfErr}
use Rattle.c_tree.specs.declared.token.Pos.{Pos}
use Rattle.c_tree.specs.declared.unit.Unit as tree
use Rattle.c_tree.specs.Levelled.{IsUnit, IsLevelled}
use Rattle.c_grammar.specs.Input.{Tokens, Reason}
use Rattle.c_expr_parser.specs.declared.fault.ParseFault.{ParseFault}
use Rattle.c_expr_parser.specs.declared.fault.ParseFault.TheVariants as fault
use Rattle.c_expr_parser.specs.Reads.{next_place}
use Rattle.c_expr_parser.specs.Calls.{place_or, fault_at}
use Rattle.c_unit_grammar.specs.Read.Units.{parse}
use Rattle.c_unit_grammar.specs.Sentences.{Spells}

-- Ok comes with a unit that the grammar has, nested no deeper than the limit,
abbrev pub Levelled : Result tree.Unit ParseFault → Type 0
Levelled result = IfOk result IsLevelled

-- of which the tokens are all those of the source,
abbrev pub Spelt : Tokens → Pos → Result tree.Unit ParseFault → Type 0
Spelt tokens end result = IfOk result (Spells tokens end)

-- and with the only one of these tokens, however deep another might nest;
abbrev pub Only : Tokens → Pos → Result tree.Unit ParseFault → Type 0
Only tokens end result = IfOk result (λ unit. (other : tree.Unit) → IsUnit other → Spells tokens end other → other ≡ unit)

-- it comes wherever there is one, unless memory is wanting.
abbrev pub Comes : Tokens → Pos → Result tree.Unit ParseFault → Type 0
Comes tokens end result = (unit : tree.Unit) → IsLevelled unit → Spells tokens end unit → result ≢ Err fault.Memory → result ≡ Ok unit

-- The grammar's function stops for this reason, at this place: that of the first token that it left, or the end.
pub record StopsAt (tokens : Tokens) (end : Pos) (e : ParseFault) : Type 0 where
  pub reason : Reason
  pub left : Tokens
  pub stops : parse tokens end ≡ Err (reason, left)
  pub is : e ≡ fault_at reason (place_or (next_place left) end)

-- A refusal that is not for memory is that of the grammar's function.
abbrev pub Refused : Tokens → Pos → Result tree.Unit ParseFault → Type 0
Refused tokens end result = IfErr result (λ e. e ≢ fault.Memory → StopsAt tokens end e)
