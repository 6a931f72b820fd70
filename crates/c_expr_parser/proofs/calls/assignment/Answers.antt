-- `assignment` answers by the laws on assignment expressions.
-- They take what is read to all that a call ensures.
use Rattle.c_grammar.specs.Productions as trees
use Rattle.c_grammar.specs.Read.Depth as grammar
use Rattle.c_grammar.specs.Laws.Productions.{assignments_at_front, no_typedefs_declared}
use Rattle.c_tree.specs.Levels.Productions.{assignment}
use Rattle.c_expr_parser.proofs.AtFront.{clauses}
use Rattle.c_expr_parser.proofs.calls.assignment.Goals as goal

pub returns : goal.returns
returns c = clauses (trees.expressions assignment) (λ n. grammar.expression n assignment) assignments_at_front (no_typedefs_declared.0 assignment) c.args.names.now c.read_expression.new.names c.args.tokens.now.list c.args.at c.args.depth c.args.tokens.now.end c.requires.place c.requires.nesting c.read_expression.result c.read_expression.ensures
