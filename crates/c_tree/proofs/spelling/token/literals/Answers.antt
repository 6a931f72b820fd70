use Rattle.std.proofs.Common.{append_assoc}
use Rattle.c_tree.specs.Spelling.Tokens.{literal_spelling}
use Rattle.c_tree.proofs.Appends.{joined_more}
use Rattle.c_tree.proofs.spelling.token.literals.Goals as goal

pub loop-one-preserved : goal.loop-one-preserved
loop-one-preserved g c =
    let more = joined_more g.S.Taker.shown literal_spelling c.args.all.now c.loop-one.one-index c.one-item.result c.loop-one-test.true c.one-item.is in
    rw (more, c.in_ok-literal.ensures, c.loop-one.invariant) (simp append_assoc)
