-- Written by tools/parser_loops.py.
-- What is left of the tokens gives what is left of the list, item by item.
use Rattle.c_grammar.specs.Input.{sees}
use Rattle.c_expr_parser.proofs.Turns.{Listing}
use Rattle.c_tree.specs.declared.token.Punct.TheVariants as p
use Rattle.c_grammar.specs.Read.Declarators as declarators
use Rattle.c_expr_parser.proofs.declarators.pointers.Given as goal

abbrev pub invariant-loop-turn : goal.invariant-loop-turn
invariant-loop-turn l = Listing (sees p.Star) declarators.pointer (declarators.pointers l.fn.input) l.fn.input l._turn-end l._turn l.found l.input
