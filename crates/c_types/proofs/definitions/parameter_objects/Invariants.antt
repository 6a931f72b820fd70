-- `parameter_objects` of src/definitions.rt: what holds in its loop.
-- The objects that parameters are, numbered from 0.
use Rattle.std.proofs.Common.{◌≡◌, ◌++◌, drop}
use Rattle.c_typing.specs.Units as spec
use Rattle.c_types.proofs.definitions.parameter_objects.Given as goal

abbrev pub invariant-loop-one : goal.invariant-loop-one
invariant-loop-one l =
    l.objects ++ spec.parameter_objects l.state l.number (drop l.one-index l.list)
    ≡ spec.parameter_objects l.state 0 l.list
