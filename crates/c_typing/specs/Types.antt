-- Types: how they are made, which kinds there are, and which are compatible (C11 6.2.5, 6.2.7, 6.7.3, 6.7.6).
use Rattle.std.specs.Prelude.{ℕ, ◌-◌, ◌^◌, min, ◌==◌, Bool, true, false, ◌&&◌, ◌||◌, not, if◌then◌else◌, List, [], ◌∷◌, ◌++◌, Option, Some, None, reverse}
use Rattle.c_tree.specs.declared.typed.types.Base.{Base}
use Rattle.c_tree.specs.declared.typed.types.Base.TheVariants as base
use Rattle.c_tree.specs.declared.typed.types.Derived.{Derived, Row_of-CType, end_of-CType, more_of-CType, Row_of-Derived, end_of-Derived, more_of-Derived, items-the_row-CType}
use Rattle.c_tree.specs.declared.typed.types.Derived.TheVariants as derived
use Rattle.c_tree.specs.declared.typed.types.CType.{CType, out-CType, roll-CType}

-- a type has at most so many bytes; a larger one is TooLarge where it is made
abbrev pub most_bytes : ℕ
most_bytes = 2 ^ 24

-- a number of bytes as 32 bits hold it
abbrev pub in_word : ℕ → ℕ
in_word n = min n (2 ^ 32 - 1)

-- ---- how types are made

-- a base type, whether it is `const`, and the derivations, innermost first
abbrev pub made : Base → Bool → List Derived → CType
made b c ds = roll-CType (record { base = b; constant = c; derived = ds })

-- a base type that is not `const`
abbrev pub plain : Base → CType
plain b = made b false []

abbrev pub int : CType
int = plain base.Int

abbrev pub unsigned : CType
unsigned = plain base.Unsigned

abbrev pub void : CType
void = plain base.Void

abbrev pub derived_from : CType → Derived → CType
derived_from t d = made (out-CType t).base (out-CType t).constant ((out-CType t).derived ++ d ∷ [])

-- a pointer to a type (C11 6.7.6.1), whose own `const` is told
abbrev pub pointer_to : Bool → CType → CType
pointer_to c t = derived_from t (derived.Pointer c)

-- what a type is at its outside, and what it is derived from (C11 6.2.5p20)
pub data Shape : Type 0 where
  -- no derivation
  Basic : (of : Base) → Shape
  -- a pointer, whether it is `const` itself, and what it points to
  PointerTo : (constant : Bool) → (target : CType) → Shape
  -- an array, its number of elements where that is told, and their type
  ArrayOf : (count : Option ℕ) → (element : CType) → Shape
  -- a function, the types of its parameters, and that of its value
  FunctionOf : (parameters : List CType) → (result : CType) → Shape

abbrev pub shape_by : CType → Derived → Shape
shape_by t (derived.Pointer c) = PointerTo c t
shape_by t (derived.Array n) = ArrayOf n t
shape_by t (derived.Function' n row) = FunctionOf (items-the_row-CType _ row) t

abbrev pub shape_from : Base → Bool → (outermost_first : List Derived) → Shape
shape_from b c [] = Basic b
shape_from b c (d ∷ ds) = shape_by (made b c (reverse ds)) d

abbrev pub shape : CType → Shape
shape t = shape_from (out-CType t).base (out-CType t).constant (reverse (out-CType t).derived)

-- ---- kinds of types (C11 6.2.5)

-- integer types: `_Bool`, the character types, the others and enumerated types (p17)
abbrev pub is_integer_base : Base → Bool
is_integer_base base.Void = false
is_integer_base (base.Struct n) = false
is_integer_base b = true

abbrev pub is_void_base : Base → Bool
is_void_base base.Void = true
is_void_base b = false

abbrev pub is_struct_base : Base → Bool
is_struct_base (base.Struct n) = true
is_struct_base b = false

abbrev pub is_bool_base : Base → Bool
is_bool_base base.Bool = true
is_bool_base b = false

abbrev pub is_character_base : Base → Bool
is_character_base base.Char = true
is_character_base base.SignedChar = true
is_character_base base.UnsignedChar = true
is_character_base b = false

abbrev pub basic : (Base → Bool) → Shape → Bool
basic test (Basic b) = test b
basic test s = false

abbrev pub is_integer : CType → Bool
is_integer t = basic is_integer_base (shape t)

abbrev pub is_void : CType → Bool
is_void t = basic is_void_base (shape t)

abbrev pub is_struct : CType → Bool
is_struct t = basic is_struct_base (shape t)

abbrev pub is_bool : CType → Bool
is_bool t = basic is_bool_base (shape t)

abbrev pub is_character : CType → Bool
is_character t = basic is_character_base (shape t)

abbrev pub is_pointer_shape : Shape → Bool
is_pointer_shape (PointerTo c t) = true
is_pointer_shape s = false

abbrev pub is_pointer : CType → Bool
is_pointer t = is_pointer_shape (shape t)

abbrev pub is_array_shape : Shape → Bool
is_array_shape (ArrayOf n t) = true
is_array_shape s = false

abbrev pub is_array : CType → Bool
is_array t = is_array_shape (shape t)

abbrev pub is_function_shape : Shape → Bool
is_function_shape (FunctionOf ps t) = true
is_function_shape s = false

abbrev pub is_function : CType → Bool
is_function t = is_function_shape (shape t)

-- arithmetic types and pointers (p21)
abbrev pub is_scalar : CType → Bool
is_scalar t = is_integer t || is_pointer t

-- ---- qualifiers (C11 6.7.3)

-- the qualifier of an array is that of its element (p9)
abbrev pub is_constant_by : Bool → (outermost_first : List Derived) → Bool
is_constant_by c [] = c
is_constant_by c (derived.Pointer k ∷ ds) = k
is_constant_by c (derived.Array n ∷ ds) = is_constant_by c ds
is_constant_by c (d ∷ ds) = false

abbrev pub is_constant : CType → Bool
is_constant t = is_constant_by (out-CType t).constant (reverse (out-CType t).derived)

-- the outermost derivations with this qualifier, and whether the base type has it
abbrev pub qualified_by : (now base_has : Bool) → (outermost_first : List Derived) → Bool × List Derived
qualified_by k c [] = (k, [])
qualified_by k c (derived.Pointer old ∷ ds) = (c, derived.Pointer k ∷ ds)
qualified_by k c (derived.Array n ∷ ds) = let rest = qualified_by k c ds in (rest.0, derived.Array n ∷ rest.1)
qualified_by k c (d ∷ ds) = (c, d ∷ ds)

-- a type with or without `const`
abbrev pub with_constant : Bool → CType → CType
with_constant k t =
    let q = qualified_by k (out-CType t).constant (reverse (out-CType t).derived) in made (out-CType t).base q.0 (reverse q.1)

abbrev pub unqualified : CType → CType
unqualified t = with_constant false t

-- the outermost derivations without the qualifier of the type itself, and whether the base type has it: an array has no qualifier
-- of its own, whatever its elements have (p9)
abbrev pub bare_by : (base_has : Bool) → (outermost_first : List Derived) → Bool × List Derived
bare_by c [] = (false, [])
bare_by c (derived.Pointer old ∷ ds) = (c, derived.Pointer false ∷ ds)
bare_by c (d ∷ ds) = (c, d ∷ ds)

-- the unqualified version of a type (6.2.5p26)
abbrev pub bare : CType → CType
bare t = let q = bare_by (out-CType t).constant (reverse (out-CType t).derived) in made (out-CType t).base q.0 (reverse q.1)

-- whether a type is itself `const`
abbrev pub is_qualified_shape : (base_has : Bool) → Shape → Bool
is_qualified_shape c (Basic b) = c
is_qualified_shape c (PointerTo k t) = k
is_qualified_shape c s = false

abbrev pub is_qualified : CType → Bool
is_qualified t = is_qualified_shape (out-CType t).constant (shape t)

-- a type that is also `const`
abbrev pub constant_if : Bool → CType → CType
constant_if k t = if k then with_constant true t else t

-- ---- compatible types (C11 6.2.7, 6.7.3p10, 6.7.6)

-- a base type as a number of its kind and that of its tag
abbrev pub kind_number : Base → ℕ
kind_number base.Void = 0
kind_number base.Bool = 1
kind_number base.Char = 2
kind_number base.SignedChar = 3
kind_number base.UnsignedChar = 4
kind_number base.Short = 5
kind_number base.UnsignedShort = 6
kind_number base.Int = 7
kind_number base.Unsigned = 8
kind_number base.Long = 9
kind_number base.UnsignedLong = 10
kind_number (base.Enum n) = 11
kind_number (base.Struct n) = 12

abbrev pub tag_number : Base → ℕ
tag_number (base.Enum n) = n
tag_number (base.Struct n) = n
tag_number b = 0

abbrev pub is_same_base : Base → Base → Bool
is_same_base b d = (kind_number b == kind_number d) && (tag_number b == tag_number d)

abbrev pub is_enum_base : Base → Bool
is_enum_base (base.Enum n) = true
is_enum_base b = false

abbrev pub is_int_base : Base → Bool
is_int_base base.Int = true
is_int_base b = false

-- an enumerated type is compatible with int, and not with another enumerated type (6.7.2.2p4)
abbrev pub is_compatible_base : Base → Base → Bool
is_compatible_base b d = is_same_base b d || ((is_enum_base b && is_int_base d) || (is_int_base b && is_enum_base d))

-- how two types are compared: by their base types, and by the numbers of elements of two arrays
pub record Comparison : Type 0 where
  pub bases : Base → Base → Bool
  pub counts : Option ℕ → Option ℕ → Bool

-- arrays of which one has no number of elements may be compatible (6.7.6.2p6)
abbrev pub may_be_equal : Option ℕ → Option ℕ → Bool
may_be_equal (Some m) (Some n) = m == n
may_be_equal _ _ = true

-- arrays of the same type have the same number of elements, or none
abbrev pub are_equal : Option ℕ → Option ℕ → Bool
are_equal (Some m) (Some n) = m == n
are_equal None None = true
are_equal _ _ = false

abbrev pub by_compatibility : Comparison
by_compatibility = record { bases = is_compatible_base; counts = may_be_equal }

abbrev pub by_identity : Comparison
by_identity = record { bases = is_same_base; counts = are_equal }

abbrev pub same_truth : Bool → Bool → Bool
same_truth true b = b
same_truth false b = not b

abbrev mutual
  -- a derivation against another one
  pub same_derived : Comparison → Derived → Derived → Bool
  same_derived by (derived.Pointer c) (derived.Pointer k) = same_truth c k
  same_derived by (derived.Array m) (derived.Array n) = by.counts m n
  same_derived by (derived.Function' m ps) (derived.Function' n qs) = same_types by ps qs
  same_derived by _ _ = false

  -- the derivations of a type against those of another one
  pub same_derivations : Comparison → {m n : _} → Row_of-Derived m → Row_of-Derived n → Bool
  same_derivations by end_of-Derived end_of-Derived = true
  same_derivations by (more_of-Derived d ds) (more_of-Derived e es) = same_derived by d e && same_derivations by ds es
  same_derivations by _ _ = false

  -- the types of parameters against those of others (6.7.6.3p15)
  pub same_types : Comparison → {m n : _} → Row_of-CType m → Row_of-CType n → Bool
  same_types by end_of-CType end_of-CType = true
  same_types by (more_of-CType b c m ds ts) (more_of-CType d k n es us) =
      (by.bases b d && same_truth c k) && (same_derivations by ds es && same_types by ts us)
  same_types by _ _ = false

-- the same of lists of derivations
abbrev pub all_same : Comparison → List Derived → List Derived → Bool
all_same by [] [] = true
all_same by (d ∷ ds) (e ∷ es) = same_derived by d e && all_same by ds es
all_same by _ _ = false

abbrev pub agree : Comparison → CType → CType → Bool
agree by t u =
    (by.bases (out-CType t).base (out-CType u).base && same_truth (out-CType t).constant (out-CType u).constant)
    && all_same by (out-CType t).derived (out-CType u).derived

-- whether two types are compatible
abbrev pub compatible : CType → CType → Bool
compatible t u = agree by_compatibility t u

-- whether two types are the same
abbrev pub same_type : CType → CType → Bool
same_type t u = agree by_identity t u

-- the same but for the qualifiers of the types themselves
abbrev pub alike : CType → CType → Bool
alike t u = compatible (bare t) (bare u)

-- ---- the composite type of two compatible ones (C11 6.2.7p3)

abbrev mutual
  -- an array has the number of elements that either tells, and a function the composite types of its parameters
  pub composite_derived : Derived → Derived → Derived
  composite_derived (derived.Array None) (derived.Array n) = derived.Array n
  composite_derived (derived.Function' m ps) (derived.Function' n qs) = derived.Function' m (composite_types ps qs)
  composite_derived d e = d

  -- the derivations of a type, each with that of the other one
  pub composite_derivations : {m n : _} → Row_of-Derived m → Row_of-Derived n → Row_of-Derived m
  composite_derivations (more_of-Derived d ds) (more_of-Derived e es) =
      more_of-Derived (composite_derived d e) (composite_derivations ds es)
  composite_derivations ds es = ds

  -- the types of parameters, each with that of the other list
  pub composite_types : {m n : _} → Row_of-CType m → Row_of-CType n → Row_of-CType m
  composite_types (more_of-CType b c m ds ts) (more_of-CType d k n es us) =
      more_of-CType b c m (composite_derivations ds es) (composite_types ts us)
  composite_types ts us = ts

-- a list in which each item was put together with that of another list
abbrev pub with_each : {A : Type 0} → (A → A → A) → List A → List A → List A
with_each f (x ∷ xs) (y ∷ ys) = f x y ∷ with_each f xs ys
with_each f xs ys = xs

abbrev pub composite : CType → CType → CType
composite t u =
    made (out-CType t).base (out-CType t).constant (with_each composite_derived (out-CType t).derived (out-CType u).derived)
