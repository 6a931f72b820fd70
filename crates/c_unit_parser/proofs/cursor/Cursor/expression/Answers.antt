-- Written by tools/unit_calls.py.
-- What the call below reads is what the grammar reads there, by the lemma on calls.
use Rattle.std.proofs.Common.{◌-◌, refl, ap, sym, ◌∙◌}
use Rattle.c_tree.specs.Levels.Productions.{comma}
use Rattle.c_grammar.specs.Productions as trees
use Rattle.c_grammar.specs.Read.Depth as grammar
use Rattle.c_grammar.specs.Laws.Productions.{commas_at_front}
use Rattle.c_unit_parser.specs.Reads.{Input}
use Rattle.c_unit_parser.proofs.Called.{went}
use Rattle.c_unit_parser.proofs.cursor.Cursor.expression.Goals as goal

pub invariant_of-self-2 : goal.invariant_of-self-2
invariant_of-self-2 c =
    let w = went (trees.expressions comma) (λ n. grammar.expression n comma) commas_at_front c.self.inside.names c.expression.new.names c.self.inside.tokens.now.list c.self.inside.at (256 - c.args.more) c.args.more c.self.invariant c.requires refl c.in_ok-tree.tree c.in_ok-tree.behind c.in_ok-tree.ensures.found c.in_ok-tree.ensures.behind c.in_ok-tree.ensures.declared in
    w.within

pub returns-clause-reads : goal.returns-clause-reads
returns-clause-reads c =
    let w = went (trees.expressions comma) (λ n. grammar.expression n comma) commas_at_front c.self.inside.names c.expression.new.names c.self.inside.tokens.now.list c.self.inside.at (256 - c.args.more) c.args.more c.self.invariant c.requires refl c.in_ok-tree.tree c.in_ok-tree.behind c.in_ok-tree.ensures.found c.in_ok-tree.ensures.behind c.in_ok-tree.ensures.declared in
    ap (λ (i : Input). grammar.expression c.args.more comma i.state) (sym c.self.view_is) ∙ w.reads
