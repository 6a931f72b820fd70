-- `inside` reads what the function of the grammar reads that has the same brackets left.
-- With none left it stops, and else one fewer is left.
use Rattle.std.proofs.Common.{◌≡◌, ◌∙◌, ap, arith}
use Rattle.c_grammar.specs.Read.Depth.{inside}
use Rattle.c_expr_parser.specs.Wanted.{read}
use Rattle.c_expr_parser.proofs.Turns.{deeper}
use Rattle.c_expr_parser.proofs.Depth.{no_deeper}
use Rattle.c_expr_parser.proofs.inside.+inside.Goals as goal

pub returns-then-more-eq0-clause-reads : goal.returns-then-more-eq0-clause-reads
returns-then-more-eq0-clause-reads t c _ = let none : c.args.more ≡ 0 = omega arith in ap (λ n. read (inside n) c.args.wanted c.args.input.now) none ∙ no_deeper c.args.wanted c.args.input.now

pub returns-clause-reads : goal.returns-clause-reads
unfolding inside
returns-clause-reads t c = rw (deeper (λ n. read (inside n) c.args.wanted c.args.input.now) c.args.more (omega arith)) c.read.ensures.reads
