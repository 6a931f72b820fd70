-- What the loop over the parts of a piece keeps.
use Rattle.std.proofs.Common.{length}
use Rattle.ccai_io.proofs.std_sink.write_whole.Given as goal

abbrev pub decreases-loop-rest : goal.decreases-loop-rest
decreases-loop-rest g l = length l.rest
