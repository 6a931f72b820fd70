-- The words before this one were taken.
use Rattle.std.proofs.Common.{◌≡◌, ◌++◌, map, take}
use Rattle.first_form.proofs.form.expect.Given as goal

-- the words so far were taken
abbrev pub invariant-loop-word : goal.invariant-loop-word
invariant-loop-word l = l.fn.cursor ≡ map (λ w. w.now) (take l.word-index l.words) ++ l.cursor
