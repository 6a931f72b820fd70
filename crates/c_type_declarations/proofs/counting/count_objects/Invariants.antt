-- `count_objects` of src/counting.rt: what holds in its loop.
-- How many declarators of a list declare objects.
use Rattle.std.proofs.Common.{◌≡◌, ◌+◌, ◌≤◌, drop, length, map}
use Rattle.c_typing.specs.Declarations as spec
use Rattle.c_type_declarations.proofs.counting.count_objects.Given as goal

abbrev pub invariant-loop-one : goal.invariant-loop-one
invariant-loop-one l = record {
  counted :
      l.count + length (spec.objects_among l.by_specifiers (map spec.beginning_of (drop l.one-index l.list)))
      ≡ length (spec.objects_among l.by_specifiers (map spec.beginning_of l.list));
  below : l.count ≤ l.one-index;
}
