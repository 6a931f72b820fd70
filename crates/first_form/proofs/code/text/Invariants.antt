-- The words of the constants before this one were put.
use Rattle.std.proofs.Common.{◌≡◌, take}
use Rattle.std.specs.List.{flat_map}
use Rattle.first_form.specs.Code.{put_words}
use Rattle.first_form.proofs.code.text.Given as goal

-- the calls for the constants so far are there
abbrev pub invariant-loop-constant : goal.invariant-loop-constant
invariant-loop-constant l = l.text.items ≡ flat_map put_words (take l.constant-index l.constant-items)
