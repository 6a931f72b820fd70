-- The statements so far, and what is left of the source.
use Rattle.std.proofs.Common.{◌≡◌, ◌≤◌, ◌++◌, All, length}
use Rattle.std.specs.List.{flat_map}
use Rattle.first_form.specs.Form.{put_statement}
use Rattle.first_form.proofs.form.read_puts.Given as goal

-- the statements so far were taken
abbrev pub invariant-loop-cursor : goal.invariant-loop-cursor
invariant-loop-cursor l = record {
  small : All (λ k. k ≤ 2147483647) l.puts.items;
  taken : l.fn.cursor ≡ flat_map put_statement l.puts.items ++ l.cursor;
}

abbrev pub decreases-loop-cursor : goal.decreases-loop-cursor
decreases-loop-cursor l = length l.cursor
