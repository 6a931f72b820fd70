-- `little_endian` of src/bytes.rt: what holds in its loop.
-- The lowest bytes of a number, the lowest first.
use Rattle.std.proofs.Common.{◌≡◌, ◌++◌, ◌-◌}
use Rattle.c_typing.specs.Starts as spec
use Rattle.c_type_initialisers.proofs.bytes.little_endian.Given as goal

abbrev pub invariant-loop-place : goal.invariant-loop-place
invariant-loop-place l = l.bytes.items ++ spec.little_endian (l.count - l._place) l.rest ≡ spec.little_endian l.count l.number
