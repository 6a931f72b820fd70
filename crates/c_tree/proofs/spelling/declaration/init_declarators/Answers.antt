use Rattle.std.proofs.Common.{append_assoc}
use Rattle.c_tree.specs.Spelling.Declarations.{init_declarator_spelling}
use Rattle.c_tree.proofs.Appends.{joined_more, told-append}
use Rattle.c_tree.proofs.spelling.declaration.init_declarators.Goals as goal

pub loop-one-preserved : goal.loop-one-preserved
loop-one-preserved g c =
    let more = joined_more g.S.Taker.shown init_declarator_spelling c.args.all.now c.loop-one.one-index c.one-item.result c.loop-one-test.true c.one-item.is in
    rw (more, c.in_ok-start.ensures, c.in_ok-declarator.ensures, c.in_ok-comma_at.ensures, c.loop-one.invariant) (simp (told-append g.S.Taker.shown, append_assoc))
