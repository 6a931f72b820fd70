-- A number more was read.
use Rattle.image_form.proofs.Chain.{numbers_on, numbers_done}
use Rattle.image_form.proofs.contents.numbers_at.Goals as goal

pub loop-index-preserved : goal.loop-index-preserved
loop-index-preserved c =
    let on = numbers_on c.args.bytes.now c.loop-index.numbers.items _ c.args.at c.loop-index.index c.args.count c.loop-index-test.true c.loop-index.invariant in
    rw (c.in_ok-push.ensures.items, c.number.ensures) on

pub returns : goal.returns
returns c = numbers_done c.args.bytes.now c.loop-index.numbers.items _ c.args.at c.loop-index.index c.args.count c.loop-index-test.false c.loop-index.invariant
