-- `as_declared` of src/structures.rt: what holds in its loop.
-- The members as they are declared, or `None` where a fault stands in one.
use Rattle.std.proofs.Common.{◌≡◌, ◌++◌, drop}
use Rattle.std.specs.Option.{option_map}
use Rattle.c_typing.specs.Declarators.{as_declared}
use Rattle.c_type_declarators.proofs.structures.as_declared.Given as goal

abbrev pub invariant-loop-name : goal.invariant-loop-name
invariant-loop-name l =
    as_declared l.members ≡ option_map (λ rest. l.declared.items ++ rest) (as_declared (drop l.name-index l.members))
