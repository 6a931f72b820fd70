-- No word of the record before this place is wrong.
use Rattle.std.proofs.Common.{◌≡◌, ◌-◌}
use Rattle.image_form.specs.Form.{words_wrong}
use Rattle.image_form.proofs.check.check_record.Given as goal

-- the words so far are right, so the first wrong one is among the rest
abbrev pub invariant-loop-place : goal.invariant-loop-place
invariant-loop-place l = words_wrong l.bytes l.at l.place (16 - l.place) ≡ words_wrong l.bytes l.at 0 16
