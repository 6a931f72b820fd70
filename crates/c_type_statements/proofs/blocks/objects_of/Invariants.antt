-- `objects_of` of src/blocks.rt: what holds in its loop.
-- The objects of the present block.
use Rattle.std.proofs.Common.{◌≡◌, ◌++◌, drop}
use Rattle.c_typing.specs.OfStatements as spec
use Rattle.c_type_statements.proofs.blocks.objects_of.Given as goal

abbrev pub invariant-loop-local : goal.invariant-loop-local
invariant-loop-local l = l.objects ++ spec.objects_of l.state (drop l.local-index l.local-items) ≡ spec.objects_of l.state l.state.own
