-- `tell_repeated` of src/structures.rt: what holds in its loop.
-- Tells of each member whose name stood before (C11 6.2.3p1), and whether there is one.
use Rattle.std.proofs.Common.{◌≡◌, ◌++◌, ◌||◌, [], ltb, length, drop}
use Rattle.c_typing.specs.Declarators.{repeated}
use Rattle.c_type_declarators.proofs.structures.tell_repeated.Given as goal

abbrev pub invariant-loop-member : goal.invariant-loop-member
invariant-loop-member l = record {
  any : ltb 0 (length (repeated [] l.members)) ≡ (l.any || ltb 0 (length (repeated l.seen (drop l.member-index l.members))));
  faults : l.initial.found.faults ++ repeated [] l.members ≡ l.found.faults ++ repeated l.seen (drop l.member-index l.members);
  state : l.found.state ≡ l.initial.found.state;
}
