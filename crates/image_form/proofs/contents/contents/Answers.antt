-- What is read lies within the bytes that were checked.
use Rattle.std.proofs.Common.{arith}
use Rattle.image_form.proofs.Whole.{whole}
use Rattle.image_form.proofs.contents.contents.Goals as goal

pub numbers_at-requires : goal.numbers_at-requires
numbers_at-requires c = let w = whole c.args.bytes.now c.requires.right in omega arith

pub slice_bounds-from_slice-end : goal.slice_bounds-from_slice-end
slice_bounds-from_slice-end c = let w = whole c.args.bytes.now c.requires.right in omega arith

pub records_from-requires-clause-there : goal.records_from-requires-clause-there
records_from-requires-clause-there c = let w = whole c.args.bytes.now c.requires.right in omega arith

pub records_from-requires-clause-right : goal.records_from-requires-clause-right
records_from-requires-clause-right c = let w = whole c.args.bytes.now c.requires.right in rw (c.records_start-start.ensures, c.requires.header.words, c.requires.header.statics, c.requires.header.records) w.records
