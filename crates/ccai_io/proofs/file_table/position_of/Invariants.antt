-- No file before this one has the name.
use Rattle.std.proofs.Common.{◌≡◌, take, None}
use Rattle.ccai_io.proofs.Tables.{found}
use Rattle.ccai_io.proofs.file_table.position_of.Given as goal

abbrev pub invariant-loop-i : goal.invariant-loop-i
invariant-loop-i l = found l.name (take l.i l.files) ≡ None
