-- Written by tools/parser_loops.py.
-- What is left of the tokens gives what is left of the list, item by item.
use Rattle.c_unit_parser.proofs.Turns.{TellingListing}
use Rattle.c_unit_grammar.specs.Read.Statements as statements
use Rattle.c_unit_parser.specs.Parts as parts
use Rattle.c_unit_parser.proofs.grammar.Grammar.others.Given as goal

abbrev pub invariant-loop-turn : goal.invariant-loop-turn
invariant-loop-turn g l = TellingListing statements.goes_else (λ _. statements.one_else l.self.more (statements.within l.self.more)) statements.goes_further (parts.others l.self.more l.fn.input.state) l.fn.input l._turn-end l._turn l.may l.found l.input
