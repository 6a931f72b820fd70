-- `add_objects` of src/counting.rt: what holds in its loop.
-- Puts the names of objects behind those that are there already: of those with an initialiser alone, where that is told.
use Rattle.std.proofs.Common.{◌≡◌, drop, map}
use Rattle.c_typing.specs.Declarations as spec
use Rattle.c_typing.specs.Units.{with_new}
use Rattle.c_type_declarations.specs.Counting.{object_names}
use Rattle.c_type_declarations.proofs.counting.add_objects.Given as goal

abbrev pub invariant-loop-one : goal.invariant-loop-one
invariant-loop-one l =
    with_new l.all (object_names l.by_specifiers l.started_alone (map spec.beginning_of (drop l.one-index l.list)))
    ≡ with_new l.initial.all (object_names l.by_specifiers l.started_alone (map spec.beginning_of l.list))
