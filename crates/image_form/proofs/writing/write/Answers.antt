-- The bytes that were put are those of the image.
use Rattle.std.proofs.Common.{rules, ◌<◌, ◌^◌, All, List, ℕ, subst}
use Rattle.std.proofs.lemmas.List.{append_assoc}
use Rattle.term_form.specs.declared.listing.Record.{Record}
use Rattle.image_form.specs.Limits.{IsRecord}
use Rattle.image_form.proofs.writing.write.Goals as goal

pub returns-clause-file : goal.returns-clause-file
returns-clause-file c = record {
  image = record {
    text = subst (λ (l : List ℕ). All (λ w. w < 2 ^ 32) l) c.as_slice.ensures c.put_numbers.ensures.fits;
    statics = subst (λ (l : List ℕ). All (λ x. x < 2 ^ 8) l) c.as_slice-2.ensures c.put_bytes.ensures.fits;
    stack = c.put_number-3.ensures.fits;
    entry = c.put_number-4.ensures.fits;
    records = subst (λ (l : List Record). All IsRecord l) c.as_slice-records.ensures c.in_ok-put_records.ensures.fits;
  };
  limits = c.requires;
  same = search (rules, append_assoc);
}
