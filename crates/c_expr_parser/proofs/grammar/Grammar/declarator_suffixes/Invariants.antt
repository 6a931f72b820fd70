-- Written by tools/parser_loops.py.
-- What is left of the tokens gives what is left of the list, item by item.
use Rattle.c_grammar.specs.Read.Depth.{inside}
use Rattle.c_expr_parser.proofs.Turns.{Listing}
use Rattle.c_grammar.specs.Read.Declarators as declarators
use Rattle.c_expr_parser.specs.Parts as parts
use Rattle.c_expr_parser.proofs.grammar.Grammar.declarator_suffixes.Given as goal

abbrev pub invariant-loop-turn : goal.invariant-loop-turn
invariant-loop-turn g l = Listing parts.goes_declarator_suffix (declarators.one_suffix l.self.more (inside l.self.more)) (parts.declarator_suffixes l.self.more (inside l.self.more) l.fn.input) l.fn.input l._turn-end l._turn l.found l.input
