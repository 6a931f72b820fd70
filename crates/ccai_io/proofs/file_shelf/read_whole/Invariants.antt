-- What the loop over the chunks of a file keeps.
use Rattle.std.proofs.Common.{◌≤◌, ◌-◌, ◌^◌, vec_len}
use Rattle.ccai_io.proofs.file_shelf.read_whole.Given as goal

abbrev pub invariant-loop-chunk : goal.invariant-loop-chunk
invariant-loop-chunk g l = vec_len l.bytes ≤ 2 ^ 30

abbrev pub decreases-loop-chunk : goal.decreases-loop-chunk
decreases-loop-chunk g l = 2 ^ 30 - vec_len l.bytes
