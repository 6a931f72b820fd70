-- `first_of` of src/first.rt: what holds in its loop.
-- The first of some faults.
use Rattle.std.proofs.Common.{◌≡◌, None, drop}
use Rattle.c_typing.specs.Faults as spec
use Rattle.c_types.proofs.first.first_of.Given as goal

abbrev pub invariant-loop-fault : goal.invariant-loop-fault
invariant-loop-fault l = spec.first_of l.first (drop l.fault-index l.list) ≡ spec.first_of None l.list
