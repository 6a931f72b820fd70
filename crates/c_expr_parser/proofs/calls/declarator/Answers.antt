-- `declarator` answers by the laws on declarators.
-- They take what is read to all that a call ensures.
use Rattle.c_grammar.specs.Productions as trees
use Rattle.c_grammar.specs.Read.Depth as grammar
use Rattle.c_grammar.specs.Laws.Productions.{declarators_at_front, no_typedefs_declared}
use Rattle.c_expr_parser.specs.Numbers.{use_of}
use Rattle.c_expr_parser.proofs.AtFront.{clauses}
use Rattle.c_expr_parser.proofs.calls.declarator.Goals as goal

pub returns : goal.returns
returns c = clauses (trees.declarators (use_of c.args.purpose) c.args.typed) (λ n. grammar.declarator n (use_of c.args.purpose) c.args.typed) (declarators_at_front (use_of c.args.purpose) c.args.typed) (no_typedefs_declared.2 (use_of c.args.purpose) c.args.typed) c.args.names.now c.read_declarator.new.names c.args.tokens.now.list c.args.at c.args.depth c.args.tokens.now.end c.requires.place c.requires.nesting c.read_declarator.result c.read_declarator.ensures
