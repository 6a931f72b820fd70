-- `typed_objects` of src/unit.rt: what holds in its loop.
-- File-level objects with the types that all their declarations tell.
use Rattle.std.proofs.Common.{◌≡◌, ◌++◌, drop, map}
use Rattle.c_typing.specs.Units as spec
use Rattle.c_types.proofs.unit.typed_objects.Given as goal

abbrev pub invariant-loop-name : goal.invariant-loop-name
invariant-loop-name l =
    l.all ++ map (spec.file_object l.state) (drop l.name-index l.name-items) ≡ map (spec.file_object l.state) l.names
