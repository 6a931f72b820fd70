-- `defined_functions` of src/unit.rt: what holds in its loop.
-- The functions that a unit defines, by their names, in order.
use Rattle.std.proofs.Common.{◌≡◌, ◌++◌, drop, map}
use Rattle.c_typing.specs.Units as spec
use Rattle.c_types.proofs.unit.defined_functions.Given as goal

abbrev pub invariant-loop-one : goal.invariant-loop-one
invariant-loop-one l =
    l.names ++ spec.defined_functions (map spec.outer_of (drop l.one-index l.list)) ≡ spec.defined_functions (map spec.outer_of l.list)
