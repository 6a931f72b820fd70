-- Written by tools/parser_loops.py.
-- What is left of the tokens gives what is left of the list, item by item.
use Rattle.c_unit_parser.proofs.Turns.{Listing}
use Rattle.c_unit_grammar.specs.Read.Statements as statements
use Rattle.c_unit_parser.specs.Parts as parts
use Rattle.c_unit_parser.proofs.grammar.Grammar.items.Given as goal

abbrev pub invariant-loop-turn : goal.invariant-loop-turn
invariant-loop-turn g l = Listing statements.goes_item ((statements.within l.self.more).item l.labels) (parts.items l.self.more l.labels l.fn.input.state) l.fn.input l._turn-end l._turn l.found l.input
