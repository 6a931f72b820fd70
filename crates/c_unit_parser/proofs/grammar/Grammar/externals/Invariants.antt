-- Written by tools/parser_loops.py.
-- What is left of the tokens gives what is left of the list, item by item.
use Rattle.c_unit_parser.proofs.Turns.{Listing}
use Rattle.c_unit_grammar.specs.Read.Units as units
use Rattle.c_unit_parser.specs.Parts as parts
use Rattle.c_unit_parser.proofs.grammar.Grammar.externals.Given as goal

abbrev pub invariant-loop-turn : goal.invariant-loop-turn
invariant-loop-turn g l = Listing units.goes_external (units.one_external l.self.more) (parts.externals l.self.more l.fn.input.state) l.fn.input l._turn-end l._turn l.found l.input
