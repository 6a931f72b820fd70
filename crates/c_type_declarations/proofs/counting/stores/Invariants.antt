-- `stores` of src/counting.rt: what holds in its loop.
-- Whether such a storage word stands among specifiers.
use Rattle.std.proofs.Common.{◌≡◌, drop, map}
use Rattle.std.specs.List.{list_any}
use Rattle.c_typing.specs.Declarations as spec
use Rattle.c_typing.specs.Trees.{specifier_typing}
use Rattle.c_type_declarations.specs.Counting.{stored_by}
use Rattle.c_type_declarations.proofs.counting.stores.Given as goal

abbrev pub invariant-loop-one : goal.invariant-loop-one
invariant-loop-one l =
    list_any (λ s. spec.stores_by (stored_by l.what) s.specifying) (map specifier_typing (drop l.one-index l.list))
    ≡ spec.stores (stored_by l.what) (map specifier_typing l.list)
