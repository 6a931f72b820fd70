-- The numbers before this place were read.
use Rattle.std.proofs.Common.{◌≡◌, ◌+◌, ◌*◌, ◌-◌, ◌++◌}
use Rattle.image_form.specs.Contents.{words_at}
use Rattle.image_form.proofs.contents.numbers_at.Given as goal

-- the numbers so far and those that are left are all of them
abbrev pub invariant-loop-index : goal.invariant-loop-index
invariant-loop-index l = l.numbers.items ++ words_at l.bytes (l.at + 4 * l.index) (l.count - l.index) ≡ words_at l.bytes l.at l.count
