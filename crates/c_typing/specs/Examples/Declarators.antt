-- Examples of specifiers and declarators, each fault with a neighbour that has none.
use Rattle.std.specs.Prelude.{◌≡◌, ℕ, List, [], ◌∷◌, Option, Some, None, false, refl}
use Rattle.std.specs.Option.{option_map}
use Rattle.c_tree.specs.declared.specifier.TypeWord.{TypeWord}
use Rattle.c_tree.specs.declared.specifier.TypeWord.TheVariants as word
use Rattle.c_tree.specs.declared.refusal.FaultKind.TheVariants as kind
use Rattle.c_tree.specs.declared.typed.types.Base.TheVariants as base
use Rattle.c_tree.specs.declared.typed.types.CType.{CType}
use Rattle.c_tree.specs.declared.typed.types.Derived.TheVariants as derived
use Rattle.c_tree.specs.declared.typed.types.Derived.TheBlock.{shown-the_row-Derived-0, hidden-the_row-CType-1}
use denote.Hole.Carrier.{shown, hidden}
use Rattle.c_tree.specs.declared.declarator.DeclaratorSuffix.TheOpen.{Direct-F, DeclaratorSuffix-F, Specifier-F, Enumerator-F, Expr-F}
use Rattle.c_layout.specs.ConstantNodes.{has_constant_form-Primary, number_of-Primary}
use Rattle.c_typing.specs.Faults.{Fault, fault}
use Rattle.c_typing.specs.Types.{made, composite}
use Rattle.c_typing.specs.Scopes.{Walk, ◌>>=◌}
use Rattle.c_typing.specs.Declarators.{Expressed, Declaring, Suffixed, Specified, Enumerated, Members, basis_type, declared_type, specifiers_row}
use Rattle.c_typing.specs.OfTrees.{typed_expr, typed_declarator, typed_direct, typed_declarator_suffix, typed_specifier, typed_member, typed_member_declarator, typed_enumerator, typed_type_name}
use Rattle.c_typing.specs.Examples.Read.{at, id, name, constant, words, inside, with, first_fault}

ruleset constants = (has_constant_form-Primary, number_of-Primary)

-- a name of one letter with these suffixes
abbrev named : ℕ → (letter : ℕ) → List Suffixed → Declaring
named n letter suffixes = typed_declarator (record { pointers = []; direct = typed_direct (Direct-F.Named (id n letter)); suffixes = suffixes })

abbrev pointer_named : ℕ → (letter : ℕ) → List Suffixed → Declaring
pointer_named n letter suffixes = typed_declarator (record { pointers = record { star = at n; constants = [] } ∷ []; direct = typed_direct (Direct-F.Named (id n letter)); suffixes = suffixes })

-- `(*` name `)` and suffixes
abbrev grouped : ℕ → (letter : ℕ) → List Suffixed → Declaring
grouped n letter suffixes = typed_declarator (record {
  pointers = [];
  direct = typed_direct (Direct-F.Grouped (at 0) (pointer_named n letter []) (at 0));
  suffixes = suffixes;
})

abbrev array_of : ℕ → Expressed → Suffixed
array_of n size = typed_declarator_suffix (DeclaratorSuffix-F.ArrayOf (at n) size (at 0))

abbrev no_parameters : Suffixed
no_parameters = typed_declarator_suffix (DeclaratorSuffix-F.Empty (at 0) (at 0))

-- the type that words and a declarator make
abbrev typed : List TypeWord → Declaring → Walk CType
typed ws d = specifiers_row false (words 1 ws) >>= λ b. declared_type d false (at 1) (option_map basis_type b)

abbrev fault_of : Walk CType → Option Fault
fault_of w = first_fault w (with [])

abbrev member : TypeWord → ℕ → (letter : ℕ) → Walk Members
member w n letter = typed_member (record {
  specifiers = words 0 (w ∷ []);
  declarators = typed_member_declarator (record { comma = None; declarator = named n letter [] }) ∷ [];
  semicolon = at 0;
})

abbrev struct_S : List (Walk Members) → Specified
struct_S members = typed_specifier (Specifier-F.Struct (at 1) (Some (id 8 83)) (at 9) members (at 0))

abbrev size_of_type : Specified → Expressed
size_of_type s = typed_expr (Expr-F.SizeofType (at 1) (at 2)
    (typed_type_name (record { specifiers = s ∷ []; declarator = typed_declarator (record { pointers = []; direct = typed_direct Direct-F.Nothing; suffixes = [] }) })) (at 0))

abbrev enum_of : List Enumerated → Expressed
enum_of enumerators = size_of_type (typed_specifier (Specifier-F.Enum (at 1) None (at 5) enumerators None (at 0)))

-- a function that gives an int and takes a pointer to an array of so many
abbrev takes_array : Option ℕ → CType
takes_array n = made base.Int false (derived.Function (made base.Int false (derived.Array n ∷ derived.Pointer false ∷ []) ∷ []) ∷ [])

-- what specifiers and declarators come to
pub record DeclaratorsTyped : Type 0 where
  -- `int a[3]`
  pub array : (typed (word.Int ∷ []) (named 5 97 (array_of 6 (constant 7 3) ∷ [])) inside (with [])).given ≡ Some (made base.Int false (derived.Array (Some 3) ∷ []))
  -- `int a[2][3]`: two arrays of three
  pub array_of_arrays : (typed (word.Int ∷ []) (named 5 97 (array_of 6 (constant 7 2) ∷ array_of 8 (constant 9 3) ∷ [])) inside (with [])).given ≡
      Some (made base.Int false (derived.Array (Some 3) ∷ derived.Array (Some 2) ∷ []))
  -- `int *a[3]`: an array of pointers, and `int (*a)[3]`: a pointer to an array
  pub array_of_pointers : (typed (word.Int ∷ []) (pointer_named 5 97 (array_of 6 (constant 7 3) ∷ [])) inside (with [])).given ≡
      Some (made base.Int false (derived.Pointer false ∷ derived.Array (Some 3) ∷ []))
  pub pointer_to_array : (typed (word.Int ∷ []) (grouped 5 97 (array_of 6 (constant 7 3) ∷ [])) inside (with [])).given ≡
      Some (made base.Int false (derived.Array (Some 3) ∷ derived.Pointer false ∷ []))
  -- BadSize: `int a[0]`, and `int a[-1]`
  pub no_element : fault_of (typed (word.Int ∷ []) (named 5 97 (array_of 6 (constant 7 0) ∷ []))) ≡ Some (fault kind.BadSize (at 6))
  -- Undeclared: `int a[x]`
  pub undeclared_size : fault_of (typed (word.Int ∷ []) (named 5 97 (array_of 6 (name 7 120) ∷ []))) ≡ Some (fault kind.Undeclared (at 7))
  -- TooLarge: `char a[16777217]`, and `char a[16777216]`
  pub too_large : fault_of (typed (word.Char ∷ []) (named 6 97 (array_of 7 (constant 8 16777217) ∷ []))) ≡ Some (fault kind.TooLarge (at 6))
  pub just_fits : fault_of (typed (word.Char ∷ []) (named 6 97 (array_of 7 (constant 8 16777216) ∷ []))) ≡ None
  -- Incomplete: `void a[3]`
  pub array_of_void : fault_of (typed (word.Void ∷ []) (named 6 97 (array_of 7 (constant 8 3) ∷ []))) ≡ Some (fault kind.Incomplete (at 6))
  -- FunctionUse: `int (*f)()`, `int f()()`, and `int f()`
  pub pointer_to_function : fault_of (typed (word.Int ∷ []) (grouped 7 102 (no_parameters ∷ []))) ≡ Some (fault kind.FunctionUse (at 7))
  pub function_giving_function : fault_of (typed (word.Int ∷ []) (named 5 102 (no_parameters ∷ no_parameters ∷ []))) ≡ Some (fault kind.FunctionUse (at 5))
  pub function : fault_of (typed (word.Int ∷ []) (named 5 102 (no_parameters ∷ []))) ≡ None
  -- `sizeof(struct S{char c;int n;})` is 8: `char a[sizeof(struct S{char c;int n;})]`
  pub padded_structure : (typed (word.Char ∷ []) (named 5 97 (array_of 6 (size_of_type (struct_S (member word.Char 10 99 ∷ member word.Int 11 110 ∷ []))) ∷ [])) inside (with [])).given ≡ Some (made base.Char false (derived.Array (Some 8) ∷ []))
  -- Redeclared: `struct S{char c;int c;}` at the later name
  pub member_twice : first_fault (size_of_type (struct_S (member word.Char 10 99 ∷ member word.Int 11 99 ∷ []))).typed (with []) ≡ Some (fault kind.Redeclared (at 11))
  -- Incomplete: `struct S{void c;}` at the name, and `sizeof(void)` at the operator
  pub void_member : first_fault (size_of_type (struct_S (member word.Void 10 99 ∷ []))).typed (with []) ≡ Some (fault kind.Incomplete (at 10))
  pub size_of_void : first_fault (size_of_type (typed_specifier (Specifier-F.Word word.Void (at 3)))).typed (with []) ≡ Some (fault kind.Incomplete (at 1))
  -- Redeclared: `enum{A,A}`, and `enum{A,B}`
  pub enumerator_twice : first_fault (enum_of (typed_enumerator (Enumerator-F.Plain None (id 6 65)) ∷ typed_enumerator (Enumerator-F.Plain None (id 8 65)) ∷ [])).typed (with []) ≡
      Some (fault kind.Redeclared (at 8))
  pub enumerators : first_fault (enum_of (typed_enumerator (Enumerator-F.Plain None (id 6 65)) ∷ typed_enumerator (Enumerator-F.Plain None (id 8 66)) ∷ [])).typed (with []) ≡ None
  -- `int f(int (*)[]);` with `int f(int (*)[3]);`, in this order and in the other
  pub parameter_completed : composite (takes_array None) (takes_array (Some 3)) ≡ takes_array (Some 3)
  pub parameter_kept : composite (takes_array (Some 3)) (takes_array None) ≡ takes_array (Some 3)

pub declarators_typed : DeclaratorsTyped
unfolding shown-the_row-Derived-0 hidden-the_row-CType-1 shown hidden
declarators_typed = record {
  array = simp constants;
  array_of_arrays = simp constants;
  array_of_pointers = simp constants;
  pointer_to_array = simp constants;
  no_element = simp constants;
  undeclared_size = refl;
  too_large = simp constants;
  just_fits = simp constants;
  array_of_void = simp constants;
  pointer_to_function = refl;
  function_giving_function = refl;
  function = refl;
  padded_structure = simp constants;
  member_twice = refl;
  void_member = refl;
  size_of_void = refl;
  enumerator_twice = refl;
  enumerators = refl;
  parameter_completed = refl;
  parameter_kept = refl;
}
