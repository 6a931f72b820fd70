-- `file_objects` of src/unit.rt: what holds in its loop.
-- The file-level objects that a unit defines, each once, by their names, in order.
use Rattle.std.proofs.Common.{◌≡◌, [], drop, map}
use Rattle.c_typing.specs.Units as spec
use Rattle.c_type_declarations.specs.Counting.{named}
use Rattle.c_types.proofs.unit.file_objects.Given as goal

abbrev pub invariant-loop-one : goal.invariant-loop-one
invariant-loop-one l =
    spec.file_objects (named l.names) l.all (map spec.outer_of (drop l.one-index l.list))
    ≡ spec.file_objects spec.no_function [] (map spec.outer_of l.list)
