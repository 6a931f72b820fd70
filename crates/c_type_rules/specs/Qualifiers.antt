-- Where the qualifier of a type stands,
-- and the derivations of the type with another one there.
use Rattle.std.specs.Prelude.{ℕ, ◌<◌, Bool, List, slice_set, reverse}
use Rattle.c_tree.specs.declared.typed.types.Derived.{Derived}
use Rattle.c_tree.specs.declared.typed.types.Derived.TheVariants as derived
use Rattle.c_type_rules.specs.declared.qualifiers.Place.{Place}
use Rattle.c_type_rules.specs.declared.qualifiers.Place.TheVariants as place

-- whether the base type is `const`, and the derivations, outermost first
abbrev pub requalified : (now base_has : Bool) → Place → (innermost_first : List Derived) → Bool × List Derived
requalified k c place.Base ds = (k, reverse ds)
requalified k c (place.Pointer at) ds = (c, reverse (slice_set ds at (derived.Pointer k)))
requalified k c place.Nowhere ds = (c, reverse ds)

-- the place is one of so many derivations
abbrev pub IsWithin : Place → ℕ → Type 0
IsWithin (place.Pointer at) n = at < n
IsWithin p n = Unit {0}
