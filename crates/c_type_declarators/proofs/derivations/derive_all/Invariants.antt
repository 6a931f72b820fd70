-- `derive_all` of src/derivations.rt: what holds in its loop.
-- What the parts of a declarator make of a type, each of what the one before it makes; faults are told at the place that stands for the name (C11 6.7.6p4).
use Rattle.std.proofs.Common.{drop}
use Rattle.c_typing.specs.Declarators as spec
use Rattle.c_type_walk.specs.Walks.{fixed}
use Rattle.c_type_declarators.proofs.Left.{Left}
use Rattle.c_type_declarators.proofs.derivations.derive_all.Given as goal

abbrev pub invariant-loop-part : goal.invariant-loop-part
invariant-loop-part l = Left
    (spec.derive_all l.at l.parts l.fn.ctype (fixed l.around) l.fn.found.state)
    (spec.derive_all l.at (drop l.part-index l.parts) l.derived (fixed l.around) l.found.state)
    l.fn.found l.found
