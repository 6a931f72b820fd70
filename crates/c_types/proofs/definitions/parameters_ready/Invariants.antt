-- `parameters_ready` of src/definitions.rt: what holds in its loop.
-- Parameters of structure types have no typed tree yet.
use Rattle.std.proofs.Common.{◌≡◌, drop}
use Rattle.c_typing.specs.Units as spec
use Rattle.c_types.proofs.definitions.parameters_ready.Given as goal

abbrev pub invariant-loop-one : goal.invariant-loop-one
invariant-loop-one l = record {
  faults : l.found.faults ≡ l.initial.found.faults;
  state : spec.readied (drop l.one-index l.list) l.found.state ≡ spec.readied l.list l.initial.found.state;
}
