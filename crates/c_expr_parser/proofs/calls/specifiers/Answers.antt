-- `specifiers` answers by the laws on lists of specifiers.
-- They take what is read to all that a call ensures.
use Rattle.c_grammar.specs.Productions as trees
use Rattle.c_grammar.specs.Read.Depth as grammar
use Rattle.c_grammar.specs.Laws.Productions.{specifiers_at_front, no_typedefs_declared}
use Rattle.c_expr_parser.proofs.AtFront.{clauses}
use Rattle.c_expr_parser.proofs.calls.specifiers.Goals as goal

pub returns : goal.returns
returns c = clauses (trees.specifier_lists c.args.with_storage) (λ n. grammar.specifiers n c.args.with_storage) (specifiers_at_front c.args.with_storage) (no_typedefs_declared.1 c.args.with_storage) c.args.names.now c.read_specifiers.new.names c.args.tokens.now.list c.args.at c.args.depth c.args.tokens.now.end c.requires.place c.requires.nesting c.read_specifiers.result c.read_specifiers.ensures
