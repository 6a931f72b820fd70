-- A plain pointer to `void`
-- has one derivation.
use Rattle.std.proofs.Common.{◌≡◌, ◌≢◌, ◌∙◌, ap, Bool, false, ◌&&◌, [], ◌∷◌, length}
use Rattle.c_tree.specs.declared.typed.types.Derived.TheVariants as derived
use Rattle.c_tree.specs.declared.typed.types.Base.TheVariants as base
use Rattle.c_tree.specs.declared.typed.types.CType.{CType, out-CType}
use Rattle.c_typing.specs.Types.{is_compatible_base, same_truth, by_compatibility}
use Rattle.c_type_rules.specs.Constants.{is_plain_void_pointer}
use Rattle.c_type_rules.proofs.Rows.{and_false, all_same-lengths}

-- a type of several derivations, or of none
pub not_one : (t : CType) → length (out-CType t).derived ≢ 1 → false ≡ is_plain_void_pointer t
not_one t h =
    let heads = is_compatible_base (out-CType t).base base.Void && same_truth (out-CType t).constant false in
    and_false heads
    ∙ ap (λ (b : Bool). heads && b) (all_same-lengths by_compatibility (out-CType t).derived (derived.Pointer false ∷ []) h)
