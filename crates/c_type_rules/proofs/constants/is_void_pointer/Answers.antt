-- A type of several derivations, or of none,
-- is no plain pointer to `void`.
use Rattle.std.proofs.Common.{ap, arith, List, length}
use Rattle.c_tree.specs.declared.typed.types.Derived.{Derived}
use Rattle.c_type_rules.proofs.VoidPointers.{not_one}
use Rattle.c_type_rules.proofs.constants.is_void_pointer.Goals as goal

pub returns-in_default-4 : goal.returns-in_default-4
returns-in_default-4 c =
    let lengths = ap (λ (l : List Derived). length l) c.as_slice.ensures in
    not_one c.args.t.now (λ e. omega (arith, lengths, e, c.in_default.len_at_least))
