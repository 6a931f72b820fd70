-- Written by tools/parser_loops.py.
-- What is left of the tokens gives what is left of the list, item by item.
use Rattle.c_grammar.specs.Input.{peek, is_bytes, one}
use Rattle.c_expr_parser.proofs.Turns.{Listing}
use Rattle.c_grammar.specs.Read.Expressions as expressions
use Rattle.c_expr_parser.specs.Parts as parts
use Rattle.c_expr_parser.proofs.operands.more_literals.Given as goal

abbrev pub invariant-loop-turn : goal.invariant-loop-turn
invariant-loop-turn l = Listing (λ i. is_bytes (peek i.1)) (one expressions.literal_at) (parts.literals l.fn.first l.fn.input) l.fn.input l._turn-end l._turn l.found l.input
