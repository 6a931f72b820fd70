use Rattle.std.proofs.Common.{append_assoc}
use Rattle.c_tree.specs.Spelling.Units.{external_spelling}
use Rattle.c_tree.proofs.Appends.{joined_more}
use Rattle.c_tree.proofs.spelling.unit.externals.Goals as goal

pub loop-one-preserved : goal.loop-one-preserved
loop-one-preserved g c =
    let more = joined_more g.S.Taker.shown external_spelling c.args.all.now c.loop-one.one-index c.one-item.result c.loop-one-test.true c.one-item.is in
    rw (more, c.in_ok-external.ensures, c.loop-one.invariant) (simp append_assoc)
