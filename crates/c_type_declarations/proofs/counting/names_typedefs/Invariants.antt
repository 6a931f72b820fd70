-- `names_typedefs` of src/counting.rt: what holds in its loop.
-- Declares the typedef names of a list.
use Rattle.std.proofs.Common.{◌≡◌, drop, map}
use Rattle.c_typing.specs.Declarations as spec
use Rattle.c_type_declarations.specs.Counting.{named}
use Rattle.c_type_declarations.proofs.counting.names_typedefs.Given as goal

abbrev pub invariant-loop-one : goal.invariant-loop-one
invariant-loop-one l =
    spec.names_typedefs l.by_specifiers (named l.names) (map spec.beginning_of (drop l.one-index l.list))
    ≡ spec.names_typedefs l.by_specifiers (named l.initial.names) (map spec.beginning_of l.list)
