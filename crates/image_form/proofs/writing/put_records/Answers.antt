-- A record more was put.
use Rattle.std.proofs.Common.{◌<◌, ◌^◌, subst, All, List, ℕ}
use Rattle.std.proofs.lemmas.List.Elements.{All-more}
use Rattle.image_form.specs.Limits.{IsRecord}
use Rattle.image_form.proofs.Put.{put_on}
use Rattle.image_form.proofs.writing.put_records.Goals as goal

pub loop-listed-preserved : goal.loop-listed-preserved
loop-listed-preserved c = record {
  bytes = put_on c.args.out.now.items c.loop-listed.out.items c.put_numbers.new.out.items c.record_words.result c.args.records.now c.loop-listed.listed-index _ c.loop-listed-test.true c.record_words.ensures.words c.loop-listed.invariant.bytes c.in_ok-put_numbers.ensures.bytes;
  fits = All-more IsRecord c.args.records.now c.loop-listed.listed-index _ c.loop-listed-test.true c.loop-listed.invariant.fits (record {
    words = subst (λ (ws : List ℕ). All (λ w. w < 2 ^ 32) ws) c.record_words.ensures.words c.put_numbers.ensures.fits;
    signed = c.record_words.ensures.signed;
  });
}
