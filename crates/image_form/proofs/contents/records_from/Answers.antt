-- A record more was read.
use Rattle.std.proofs.Common.{◌+◌, ◌*◌}
use Rattle.image_form.proofs.Chain.{listed_on, listed_done}
use Rattle.image_form.proofs.Right.{record_right_at, term_right}
use Rattle.image_form.proofs.contents.records_from.Goals as goal

pub record_at-requires-clause-code : goal.record_at-requires-clause-code
record_at-requires-clause-code c =
    let p = record_right_at c.args.bytes.now c.args.at c.loop-index.index c.args.count c.loop-index-test.true c.loop-index.invariant.right in
    term_right c.args.bytes.now (c.args.at + 64 * c.loop-index.index) p.0

pub loop-index-preserved : goal.loop-index-preserved
loop-index-preserved c =
    let p = record_right_at c.args.bytes.now c.args.at c.loop-index.index c.args.count c.loop-index-test.true c.loop-index.invariant.right in
    let on = listed_on c.args.bytes.now c.loop-index.records.items _ c.args.at c.loop-index.index c.args.count c.loop-index-test.true c.loop-index.invariant.all in
    record { all = rw (c.in_ok-push.ensures.items, c.record_at.ensures) on; right = p.1 }

pub returns : goal.returns
returns c = listed_done c.args.bytes.now c.loop-index.records.items _ c.args.at c.loop-index.index c.args.count c.loop-index-test.false c.loop-index.invariant.all
