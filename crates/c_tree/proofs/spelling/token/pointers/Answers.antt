use Rattle.std.proofs.Common.{append_assoc}
use Rattle.c_tree.specs.Spelling.Tokens.{pointer_spelling}
use Rattle.c_tree.proofs.Appends.{joined_more}
use Rattle.c_tree.proofs.spelling.token.pointers.Goals as goal

pub loop-one-preserved : goal.loop-one-preserved
loop-one-preserved g c =
    let more = joined_more g.S.Taker.shown pointer_spelling c.args.all.now c.loop-one.one-index c.one-item.result c.loop-one-test.true c.one-item.is in
    rw (more, c.in_ok-consts.ensures, c.as_slice.ensures, c.in_ok-punct.ensures, c.loop-one.invariant) (simp append_assoc)
