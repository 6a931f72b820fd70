-- The records before this one were read.
use Rattle.std.proofs.Common.{◌≡◌, ◌+◌, ◌*◌, ◌-◌, ◌++◌, None}
use Rattle.image_form.specs.Form.{records_wrong}
use Rattle.image_form.specs.Contents.{records_at}
use Rattle.image_form.proofs.contents.records_from.Given as goal

-- the records so far and those that are left, which are right, are all of them
abbrev pub invariant-loop-index : goal.invariant-loop-index
invariant-loop-index l = record {
  all : l.records.items ++ records_at l.bytes (l.at + 64 * l.index) (l.count - l.index) ≡ records_at l.bytes l.at l.count;
  right : records_wrong l.bytes (l.at + 64 * l.index) (l.count - l.index) ≡ None;
}
