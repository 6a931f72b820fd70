-- The first wrong word of a record is that of the loop.
use Rattle.std.proofs.lemmas.Result.{err_from_is_err_and}
use Rattle.image_form.proofs.Chain.{words_on, words_found, words_done}
use Rattle.image_form.proofs.check.check_record.Goals as goal

pub returns-in_err-check_word : goal.returns-in_err-check_word
returns-in_err-check_word c =
    let p = err_from_is_err_and c.from_residual.result c.from_residual.ensures.1 in
    rw (p.1, p.2) (words_found c.args.bytes.now c.args.at c.loop-place.place c.padded_number-kind.result c.padded_number-effect.result _ _ c.padded_number-kind.ensures c.padded_number-effect.ensures c.loop-place-test.true c.in_err-check_word.ensures c.loop-place.invariant)

pub loop-place-preserved : goal.loop-place-preserved
loop-place-preserved c = words_on c.args.bytes.now c.args.at c.loop-place.place c.padded_number-kind.result c.padded_number-effect.result _ c.padded_number-kind.ensures c.padded_number-effect.ensures c.loop-place-test.true c.in_ok-check_word.ensures c.loop-place.invariant

pub returns : goal.returns
returns c = words_done c.args.bytes.now c.args.at c.loop-place.place _ c.loop-place-test.false c.loop-place.invariant
