-- Written by tools/parser_loops.py.
-- What is left of the tokens gives what is left of the list, item by item.
use Rattle.c_grammar.specs.Input.{peek, one}
use Rattle.c_grammar.specs.Read.Inner.{is_const}
use Rattle.c_expr_parser.proofs.Turns.{Listing}
use Rattle.c_grammar.specs.Read.Declarators as declarators
use Rattle.c_expr_parser.specs.Parts as parts
use Rattle.c_expr_parser.proofs.declarators.constants.Given as goal

abbrev pub invariant-loop-turn : goal.invariant-loop-turn
invariant-loop-turn l = Listing (λ i. is_const (peek i.1)) (one declarators.const_at) (parts.constants l.fn.input) l.fn.input l._turn-end l._turn l.found l.input
