-- Written by tools/parser_loops.py.
-- What is left of the tokens gives what is left of the list, item by item.
use Rattle.c_grammar.specs.Read.Nodes.{is_unary}
use Rattle.c_grammar.specs.Read.Depth.{inside}
use Rattle.c_expr_parser.proofs.Turns.{TellingListing}
use Rattle.c_grammar.specs.Read.Expressions as expressions
use Rattle.c_expr_parser.specs.Parts as parts
use Rattle.c_expr_parser.proofs.grammar.Grammar.targets.Given as goal

abbrev pub invariant-loop-turn : goal.invariant-loop-turn
invariant-loop-turn g l = TellingListing expressions.goes_assign (λ _. expressions.after_operator (expressions.conditional l.self.more (inside l.self.more))) expressions.last_unary (parts.targets l.self.more (inside l.self.more) (is_unary l.first) l.fn.input) l.fn.input l._turn-end l._turn l.unary l.found l.input
