-- `copied_parts` of src/unit.rt: what holds in its loop.
-- Parts of static objects as parts of their own.
use Rattle.std.proofs.Common.{◌≡◌, ◌++◌, drop}
use Rattle.c_types.proofs.unit.copied_parts.Given as goal

abbrev pub invariant-loop-part : goal.invariant-loop-part
invariant-loop-part l = l.copy ++ drop l.part-index l.list ≡ l.list
