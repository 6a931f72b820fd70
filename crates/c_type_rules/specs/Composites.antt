-- The words of `composites` for what c_typing says of composite types:
-- one item of a list with that of another list, which may be shorter.
use Rattle.std.specs.Prelude.{Option, Some, None}
use Rattle.c_tree.specs.declared.typed.types.CType.{CType}
use Rattle.c_tree.specs.declared.typed.types.Derived.{Derived}
use Rattle.c_typing.specs.Types.{composite_derived, composite}

abbrev pub item_with : {A : Type 0} → (A → A → A) → A → Option A → A
item_with f x (Some y) = f x y
item_with f x None = x

abbrev pub derivation_with : Derived → Option Derived → Derived
derivation_with = item_with composite_derived

abbrev pub type_with : CType → Option CType → CType
type_with = item_with composite
