-- Examples of the rows of expressions, each with a neighbour that has no fault. `i` is an int, `c` a const int, `p` a pointer to int,
-- `q` a pointer to char, `v` a pointer to void, `r` a register int, `f` a function that takes an int, `a` an array of 3 ints.
use Rattle.std.specs.Prelude.{◌≡◌, [], ◌∷◌, Some, None, true, false, refl}
use Rattle.c_tree.specs.declared.token.Punct.TheVariants as p
use Rattle.c_tree.specs.declared.specifier.TypeWord.TheVariants as word
use Rattle.c_tree.specs.declared.refusal.FaultKind.TheVariants as kind
use Rattle.c_tree.specs.declared.typed.types.Base.TheVariants as base
use Rattle.c_tree.specs.declared.typed.types.Derived.{Derived, more_of-CType, end_of-CType, end_of-Derived}
use Rattle.c_tree.specs.declared.typed.types.Derived.TheVariants as derived
use Rattle.c_tree.specs.declared.typed.types.Derived.TheBlock.{shown-the_row-Derived-0}
use denote.Hole.Carrier.{shown}
use Rattle.c_typing.specs.Faults.{fault, first_of}
use Rattle.c_typing.specs.Types.{int, made}
use Rattle.c_typing.specs.Conversions.{common, promoted}
use Rattle.c_typing.specs.Scopes.{Automatic, Linked, State}
use Rattle.c_typing.specs.Declarators.{specifiers_row}
use Rattle.c_typing.specs.Examples.Read.{at, name, constant, assign, paren, prefix, suffix, call, call_with, words, among, with, first_fault, type_in}

-- `(int)`, by the row in which the type keeps its parameters
abbrev int_function : Derived
int_function = derived.Function' (tt ∷ []) (more_of-CType base.Int false [] end_of-Derived end_of-CType)

abbrev names : State
names = with (
    (105 ∷ [], Automatic int 0 0 false)
    ∷ (99 ∷ [], Automatic (made base.Int true []) 1 1 false)
    ∷ (112 ∷ [], Automatic (made base.Int false (derived.Pointer false ∷ [])) 2 2 false)
    ∷ (113 ∷ [], Automatic (made base.Char false (derived.Pointer false ∷ [])) 3 3 false)
    ∷ (118 ∷ [], Automatic (made base.Void false (derived.Pointer false ∷ [])) 4 4 false)
    ∷ (114 ∷ [], Automatic int 5 5 true)
    ∷ (102 ∷ [], Linked (made base.Int false (int_function ∷ [])))
    ∷ (97 ∷ [], Automatic (made base.Int false (derived.Array (Some 3) ∷ [])) 6 6 false)
    ∷ [])

-- what the rows of expressions say
pub record ExpressionsTyped : Type 0 where
  -- types (6.3.1.1, 6.3.1.8)
  pub char_is_promoted : promoted base.Char ≡ base.Int
  pub long_and_unsigned : common base.Long base.Unsigned ≡ base.UnsignedLong
  pub short_and_char : common base.Short base.UnsignedChar ≡ base.Int
  -- Undeclared: `x`, and `i`
  pub undeclared : first_fault (name 1 120).typed names ≡ Some (fault kind.Undeclared (at 1))
  pub declared : first_fault (name 1 105).typed names ≡ None
  -- ConstWrite: `c = 2`, and `i = 2`
  pub const_write : first_fault (assign (name 1 99) 2 p.Assign (constant 3 2)).typed names ≡ Some (fault kind.ConstWrite (at 2))
  -- NotLvalue: `1 = i`, `a = a`, `&r`, and `&i`
  pub constant_written : first_fault (assign (constant 1 1) 2 p.Assign (name 3 105)).typed names ≡ Some (fault kind.NotLvalue (at 2))
  pub array_written : first_fault (assign (name 1 97) 2 p.Assign (name 3 97)).typed names ≡ Some (fault kind.NotLvalue (at 2))
  pub address_of_register : first_fault (prefix 1 p.Ampersand (name 2 114)).typed names ≡ Some (fault kind.NotLvalue (at 1))
  pub address_of_int : type_in (prefix 1 p.Ampersand (name 2 105)) names ≡ Some (made base.Int false (derived.Pointer false ∷ []))
  -- the row asks of the left alone, so it comes before a fault to its right: `1 = x`
  pub left_alone : first_fault (assign (constant 1 1) 2 p.Assign (name 3 120)).typed names ≡ Some (fault kind.NotLvalue (at 2))
  -- FunctionUse: `f`, `(f)(1)`, and BadCall: `i()`, `f()`
  pub function_used : first_fault (name 1 102).typed names ≡ Some (fault kind.FunctionUse (at 1))
  pub function_in_parentheses : first_fault (suffix (paren 1 (name 2 102)) (call_with 4 (constant 5 1))).typed names ≡ Some (fault kind.FunctionUse (at 2))
  pub no_function : first_fault (suffix (name 1 105) (call 2)).typed names ≡ Some (fault kind.BadCall (at 2))
  -- a function without a body is called: NoBody at its name, before BadCall at `(`; with a body it is BadCall
  pub no_body : first_fault (suffix (name 1 102) (call_with 2 (constant 3 1))).typed names ≡ Some (fault kind.NoBody (at 1))
  pub no_body_first : first_fault (suffix (name 1 102) (call 2)).typed names ≡ Some (fault kind.NoBody (at 1))
  pub too_few_arguments : first_of None ((suffix (name 1 102) (call 2)).typed (among ((102 ∷ []) ∷ [])) names).faults ≡ Some (fault kind.BadCall (at 2))
  -- Incomplete: `*v`, `v + i`, and `*p`
  pub void_reached : first_fault (prefix 1 p.Star (name 2 118)).typed names ≡ Some (fault kind.Incomplete (at 1))
  pub int_reached : type_in (prefix 1 p.Star (name 2 112)) names ≡ Some int
  -- specifiers: `unsigned char` is a type, `char int` is none
  pub two_types : first_fault (specifiers_row false (words 1 (word.Char ∷ word.Int ∷ []))) names ≡ Some (fault kind.BadSpecifier (at 1))
  pub one_type : first_fault (specifiers_row false (words 1 (word.Int ∷ word.Long ∷ word.Unsigned ∷ []))) names ≡ None

pub expressions_typed : ExpressionsTyped
unfolding shown-the_row-Derived-0 shown
expressions_typed = record {
  char_is_promoted = refl;
  long_and_unsigned = refl;
  short_and_char = refl;
  undeclared = refl;
  declared = refl;
  const_write = refl;
  constant_written = refl;
  array_written = refl;
  address_of_register = refl;
  address_of_int = refl;
  left_alone = refl;
  function_used = refl;
  function_in_parentheses = refl;
  no_function = refl;
  no_body = refl;
  no_body_first = refl;
  too_few_arguments = refl;
  void_reached = refl;
  int_reached = refl;
  two_types = refl;
  one_type = refl;
}
