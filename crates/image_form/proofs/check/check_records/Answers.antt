-- The first wrong record is that of the loop.
use Rattle.std.proofs.lemmas.Result.{err_from_is_err_and}
use Rattle.image_form.proofs.Chain.{records_on, records_found, records_done}
use Rattle.image_form.proofs.check.check_records.Goals as goal

pub returns-in_err-check_record : goal.returns-in_err-check_record
returns-in_err-check_record c =
    let p = err_from_is_err_and c.from_residual.result c.from_residual.ensures.1 in
    rw (p.1, p.2) (records_found c.args.bytes.now c.args.start c.loop-index.index c.args.count _ _ c.loop-index-test.true c.in_err-check_record.ensures c.loop-index.invariant)

pub loop-index-preserved : goal.loop-index-preserved
loop-index-preserved c = records_on c.args.bytes.now c.args.start c.loop-index.index c.args.count _ c.loop-index-test.true c.in_ok-check_record.ensures c.loop-index.invariant

pub returns : goal.returns
returns c = records_done c.args.bytes.now c.args.start c.loop-index.index c.args.count _ c.loop-index-test.false c.loop-index.invariant
