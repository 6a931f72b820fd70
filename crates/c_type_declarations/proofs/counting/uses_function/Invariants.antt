-- `uses_function` of src/counting.rt: what holds in its loop.
-- Whether a typedef name of a function type stands among specifiers.
use Rattle.std.proofs.Common.{◌≡◌, drop, map}
use Rattle.std.specs.List.{list_any}
use Rattle.c_typing.specs.Declarations as spec
use Rattle.c_typing.specs.Trees.{specifier_typing}
use Rattle.c_type_declarations.specs.Counting.{named}
use Rattle.c_type_declarations.proofs.counting.uses_function.Given as goal

abbrev pub invariant-loop-one : goal.invariant-loop-one
invariant-loop-one l =
    list_any (λ s. spec.uses_one (named l.names) s.specifying) (map specifier_typing (drop l.one-index l.list))
    ≡ spec.uses_function (named l.names) (map specifier_typing l.list)
