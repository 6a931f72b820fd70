-- From what is read of all the tokens to what `parse` ensures.
-- The laws of the grammar tell that the unit is levelled, spelt by the tokens, and the only one.
use Rattle.std.specs.Prelude.{◌≡◌, ◌≢◌, List, [], Result, Ok, Err}
use Rattle.std.proofs.Common.{ap, sym, ◌∙◌}
use Rattle.c_tree.specs.declared.token.Pos.{Pos}
use Rattle.c_tree.specs.declared.unit.External.{External}
use Rattle.c_tree.specs.declared.unit.Unit as tree
use Rattle.c_tree.specs.Levelled.{nesting_limit}
use Rattle.c_grammar.specs.Input.{Tokens, State, Fault, Outcome}
use Rattle.c_expr_parser.specs.declared.fault.ParseFault.{ParseFault}
use Rattle.c_expr_parser.specs.declared.fault.ParseFault.TheVariants as fault
use Rattle.c_unit_grammar.specs.Read.Units.{parse, unit_of}
use Rattle.c_unit_grammar.specs.Laws.Units.{ok_at_units, units_are_unique}
use Rattle.c_unit_parser.specs.Reads.{answer}
use Rattle.c_unit_parser.specs.Units as call
use Rattle.c_unit_parser.specs.Parts as parts
use Rattle.c_unit_parser.proofs.Firsts.{externals_are}
use Rattle.c_unit_parser.proofs.Answers.{stopped}

-- all clauses of the call
pub record Clauses (tokens : Tokens) (end : Pos) (r : Result tree.Unit ParseFault) : Type 0 where
  pub levelled : call.Levelled r
  pub spelt : call.Spelt tokens end r
  pub only : call.Only tokens end r
  pub comes : call.Comes tokens end r
  pub refused : call.Refused tokens end r

abbrev given : tree.Unit → Result tree.Unit ParseFault
given unit = Ok unit

abbrev given_up : ParseFault → Result tree.Unit ParseFault
given_up e = Err e

same_unit : (a b : tree.Unit) → ◌≡◌ {A = Result tree.Unit Fault} (Ok a) (Ok b) → a ≡ b
same_unit a b e = cc

module _ (tokens : Tokens) (end : Pos) where
  by_items : (r : Outcome (List External)) → parts.externals nesting_limit ([], tokens) ≡ r → parse tokens end ≡ unit_of end r
  unfolding parse
  by_items r e = ap (unit_of end) (externals_are nesting_limit ([], tokens) ∙ e)

  of_unit : (unit : tree.Unit) → parse tokens end ≡ Ok unit → Clauses tokens end (Ok unit)
  of_unit unit reads =
      let found = ok_at_units.found tokens end unit reads in
      record {
        levelled = found.0;
        spelt = found.1;
        only = λ other is spells. units_are_unique tokens end other unit is found.0.parts spells found.1;
        comes = λ other levelled spells _. ap given (same_unit unit other (sym reads ∙ ok_at_units.comes tokens end other levelled spells));
        refused = tt;
      }

  pub read_whole : (items : List External) (behind : State) → parts.externals nesting_limit ([], tokens) ≡ Ok (items, behind) → Clauses tokens end (Ok (record { items = items; end = end }))
  read_whole items behind e = of_unit (record { items = items; end = end }) (by_items (Ok (items, behind)) e)

  pub refused_whole : (e : ParseFault) → (e ≢ fault.Memory → answer end (parts.externals nesting_limit ([], tokens)) ≡ Err e) → Clauses tokens end (Err e)
  refused_whole e refuses =
      let stops : e ≢ fault.Memory → call.StopsAt tokens end e = λ not_memory.
      let s = stopped end (parts.externals nesting_limit ([], tokens)) e (refuses not_memory) in
      record { reason = s.reason; left = s.left; stops = by_items (Err (s.reason, s.left)) s.stops; is = s.is } in
      record {
        levelled = tt;
        spelt = tt;
        only = tt;
        comes = λ other levelled spells not_memory.
            let s = stops (λ m. not_memory (ap given_up m)) in
            absurd (ok_at_units.refused tokens end (s.reason, s.left) s.stops other levelled spells);
        refused = stops;
      }
