-- No record before this one is wrong.
use Rattle.std.proofs.Common.{◌≡◌, ◌+◌, ◌-◌, ◌*◌}
use Rattle.image_form.specs.Form.{records_wrong}
use Rattle.image_form.proofs.check.check_records.Given as goal

-- the records so far are right, so the first wrong word is among the rest
abbrev pub invariant-loop-index : goal.invariant-loop-index
invariant-loop-index l = records_wrong l.bytes (l.start + 64 * l.index) (l.count - l.index) ≡ records_wrong l.bytes l.start l.count
