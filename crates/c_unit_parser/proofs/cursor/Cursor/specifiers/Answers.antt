-- Written by tools/unit_calls.py.
-- What the call below reads is what the grammar reads there, by the lemma on calls.
use Rattle.std.proofs.Common.{◌-◌, true, refl, ap, sym, ◌∙◌}
use Rattle.c_grammar.specs.Productions as trees
use Rattle.c_grammar.specs.Read.Depth as grammar
use Rattle.c_grammar.specs.Laws.Productions.{specifiers_at_front}
use Rattle.c_unit_parser.specs.Reads.{Input}
use Rattle.c_unit_parser.proofs.Called.{went}
use Rattle.c_unit_parser.proofs.cursor.Cursor.specifiers.Goals as goal

pub invariant_of-self-2 : goal.invariant_of-self-2
invariant_of-self-2 c =
    let w = went (trees.specifier_lists true) (λ n. grammar.specifiers n true) (specifiers_at_front true) c.self.inside.names c.specifiers.new.names c.self.inside.tokens.now.list c.self.inside.at (256 - c.args.more) c.args.more c.self.invariant c.requires refl c.in_ok-trees.trees c.in_ok-trees.behind c.in_ok-trees.ensures.found c.in_ok-trees.ensures.behind c.in_ok-trees.ensures.declared in
    w.within

pub returns-clause-reads : goal.returns-clause-reads
returns-clause-reads c =
    let w = went (trees.specifier_lists true) (λ n. grammar.specifiers n true) (specifiers_at_front true) c.self.inside.names c.specifiers.new.names c.self.inside.tokens.now.list c.self.inside.at (256 - c.args.more) c.args.more c.self.invariant c.requires refl c.in_ok-trees.trees c.in_ok-trees.behind c.in_ok-trees.ensures.found c.in_ok-trees.ensures.behind c.in_ok-trees.ensures.declared in
    ap (λ (i : Input). grammar.specifiers c.args.more true i.state) (sym c.self.view_is) ∙ w.reads
