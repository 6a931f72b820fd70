use Rattle.std.proofs.Common.{append_assoc}
use Rattle.c_tree.specs.declared.token.Pos.{Pos}
use Rattle.c_tree.specs.Spelling.Tokens.{const_spelling}
use Rattle.c_tree.proofs.Appends.{joined_more_at}
use Rattle.c_tree.proofs.spelling.token.consts.Goals as goal

pub loop-place-preserved : goal.loop-place-preserved
loop-place-preserved g c =
    let any : Pos = record { line = 0; column = 0 } in
    let more = joined_more_at g.S.Taker.shown const_spelling c.args.all.now c.loop-place._place-index any c.loop-place-test.true in
    rw (more, c.in_ok-keyword.ensures, c.loop-place.invariant) (simp append_assoc)
