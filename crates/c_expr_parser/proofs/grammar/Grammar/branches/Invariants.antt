-- Written by tools/parser_loops.py.
-- What is left of the tokens gives what is left of the list, item by item.
use Rattle.c_grammar.specs.Input.{goes}
use Rattle.c_grammar.specs.Read.Depth.{inside}
use Rattle.c_expr_parser.proofs.Turns.{Listing}
use Rattle.c_tree.specs.Levels.Productions as production
use Rattle.c_grammar.specs.Read.Expressions as expressions
use Rattle.c_expr_parser.specs.Parts as parts
use Rattle.c_expr_parser.proofs.grammar.Grammar.branches.Given as goal

abbrev pub invariant-loop-turn : goal.invariant-loop-turn
invariant-loop-turn g l = Listing (goes production.conditional) (expressions.branch l.self.more (inside l.self.more)) (parts.branches l.self.more (inside l.self.more) l.fn.input) l.fn.input l._turn-end l._turn l.found l.input
