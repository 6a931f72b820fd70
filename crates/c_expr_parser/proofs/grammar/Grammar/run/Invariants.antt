-- Written by tools/parser_loops.py.
-- What is left of the tokens gives what is left of the list, item by item.
use Rattle.c_grammar.specs.Read.Nodes.{ties}
use Rattle.c_grammar.specs.Read.Depth.{inside}
use Rattle.c_expr_parser.proofs.Turns.{TellingListing}
use Rattle.c_grammar.specs.Read.Expressions as expressions
use Rattle.c_expr_parser.specs.Parts as parts
use Rattle.c_expr_parser.proofs.grammar.Grammar.run.Given as goal

abbrev pub invariant-loop-turn : goal.invariant-loop-turn
invariant-loop-turn g l = TellingListing expressions.goes_prefix (λ _. expressions.one_prefix l.self.more (inside l.self.more)) (λ _. ties) (parts.run l.self.more (inside l.self.more) l.fn.input) l.fn.input l._turn-end l._turn l.tight l.found l.input
