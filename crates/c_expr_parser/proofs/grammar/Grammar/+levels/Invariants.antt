-- The invariants of the two loops of the cycle of `levels`, and its measures.
-- A level calls those below it alone, so three times the level goes down.
use Rattle.std.proofs.Common.{◌+◌, ◌*◌}
use Rattle.c_tree.specs.Levels.Productions as production
use Rattle.c_grammar.specs.Input.{goes}
use Rattle.c_grammar.specs.Read.Expressions as expressions
use Rattle.c_grammar.specs.Read.Depth.{inside}
use Rattle.c_expr_parser.specs.Parts as parts
use Rattle.c_expr_parser.proofs.Turns.{Listing}
use Rattle.c_expr_parser.proofs.Levels.{Climbing}
use Rattle.c_expr_parser.proofs.grammar.Grammar.+levels.Given as goal

abbrev pub invariant-level_rest-loop-turn : goal.invariant-level_rest-loop-turn
invariant-level_rest-loop-turn g l = Listing (goes (production.of_level (parts.level_at l.index))) (expressions.after_operator (parts.levels l.self.more (inside l.self.more) l.index)) (parts.level_rest l.self.more (inside l.self.more) l.index l.fn.input) l.fn.input l._turn-end l._turn l.found l.input

abbrev pub invariant-levels-loop-index : goal.invariant-levels-loop-index
invariant-levels-loop-index g l = Climbing l.self.more (inside l.self.more) (parts.levels l.self.more (inside l.self.more) l.count l.fn.input) l.fn.input l.count l.index l.tree l.input

abbrev pub decreases-levels : goal.decreases-levels
decreases-levels g l = 3 * l.count

abbrev pub decreases-level_next : goal.decreases-level_next
decreases-level_next g l = 3 * l.index + 1

abbrev pub decreases-level_rest : goal.decreases-level_rest
decreases-level_rest g l = 3 * l.index + 2
