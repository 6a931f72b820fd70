-- Written by tools/parser_loops.py.
-- What is left of the tokens gives what is left of the list, item by item.
use Rattle.c_unit_parser.proofs.Turns.{Listing}
use Rattle.c_unit_grammar.specs.Read.Initialisers as initialisers
use Rattle.c_unit_parser.specs.Parts as parts
use Rattle.c_unit_parser.proofs.grammar.Grammar.initialisers.Given as goal

abbrev pub invariant-loop-turn : goal.invariant-loop-turn
invariant-loop-turn g l = Listing initialisers.goes_initialiser (initialisers.next_initialiser l.self.more (initialisers.inside_initialiser l.self.more)) (parts.initialisers l.self.more l.fn.input.state) l.fn.input l._turn-end l._turn l.found l.input
