-- Examples of the table of operators, and small typed trees written out. `i` is an int, `u` an unsigned, `h` a signed char, `p` a
-- pointer to int, `q` a pointer to char, `v` a pointer to void, `k` a pointer to const int, `s` a structure without members,
-- `a` an array of 3 ints.
use Rattle.std.specs.Prelude.{◌≡◌, [], ◌∷◌, Option, Some, None, true, false, refl}
use Rattle.std.specs.Option.{option_map}
use Rattle.word_ops.specs.declared.operation.Op.TheVariants as op
use Rattle.word_ops.specs.declared.operation.Width.TheVariants as width
use Rattle.c_tree.specs.declared.token.Punct.TheVariants as p
use Rattle.c_tree.specs.declared.expression.Level.TheVariants as level
use Rattle.c_tree.specs.declared.refusal.FaultKind.TheVariants as kind
use Rattle.c_tree.specs.declared.typed.types.Base.TheVariants as base
use Rattle.c_tree.specs.declared.typed.types.Derived.TheVariants as derived
use Rattle.c_tree.specs.declared.typed.operator.Scalar.TheVariants as scalar
use Rattle.c_tree.specs.declared.typed.operator.Sign.TheVariants as sign
use Rattle.c_tree.specs.declared.typed.operator.Conversion.TheVariants as conversion
use Rattle.c_tree.specs.declared.typed.operator.Arithmetic.TheVariants as arithmetic
use Rattle.c_tree.specs.declared.typed.operator.Primary.TheVariants as primary
use Rattle.c_tree.specs.declared.typed.operator.Unary.TheVariants as unary
use Rattle.c_tree.specs.declared.typed.expression.TExpr.{TExpr}
use Rattle.c_tree.specs.declared.typed.expression.TExpr.TheVariants as x
use Rattle.c_tree.specs.declared.typed.expression.Step.TheVariants as step
use Rattle.c_tree.specs.declared.typed.expression.Target.TheVariants as target
use Rattle.c_typing.specs.Faults.{fault}
use Rattle.c_typing.specs.Types.{int, unsigned, void, plain, made}
use Rattle.c_typing.specs.Scopes.{Automatic, State}
use Rattle.c_typing.specs.Operands.{tree_of, valued, dropping}
use Rattle.c_typing.specs.Declarators.{Expressed}
use Rattle.c_typing.specs.Examples.Read.{at, id, name, binary, assign, prefix, suffix, index, member, inside, with, first_fault, type_in}

abbrev names : State
names = with (
    (105 ∷ [], Automatic int 0 0 false)
    ∷ (117 ∷ [], Automatic unsigned 1 1 false)
    ∷ (104 ∷ [], Automatic (plain base.SignedChar) 2 2 false)
    ∷ (112 ∷ [], Automatic (made base.Int false (derived.Pointer false ∷ [])) 3 3 false)
    ∷ (113 ∷ [], Automatic (made base.Char false (derived.Pointer false ∷ [])) 4 4 false)
    ∷ (118 ∷ [], Automatic (made base.Void false (derived.Pointer false ∷ [])) 5 5 false)
    ∷ (107 ∷ [], Automatic (made base.Int true (derived.Pointer false ∷ [])) 6 6 false)
    ∷ (115 ∷ [], Automatic (plain (base.Struct 0)) 7 7 false)
    ∷ (97 ∷ [], Automatic (made base.Int false (derived.Array (Some 3) ∷ [])) 8 8 false)
    ∷ [])

-- ---- typed trees

abbrev tree_in : Expressed → Option TExpr
tree_in e = option_map (λ o. tree_of (valued o)) (e.typed inside names).given

abbrev dropped_in : Expressed → Option TExpr
dropped_in e = option_map (λ o. tree_of (dropping o)) (e.typed inside names).given

-- what the table of operators says
pub record OperatorsTyped : Type 0 where
  -- types of results
  pub int_and_unsigned : type_in (binary level.Sum (name 1 105) 2 p.Plus (name 3 117)) names ≡ Some unsigned
  pub char_is_negated : type_in (prefix 1 p.Minus (name 2 104)) names ≡ Some int
  pub shift_has_left_type : type_in (binary level.Shift (name 1 104) 2 p.ShiftLeft (name 3 117)) names ≡ Some int
  pub less_is_int : type_in (binary level.Relation (name 1 117) 2 p.Less (name 3 117)) names ≡ Some int
  pub pointer_and_int : type_in (binary level.Sum (name 1 112) 2 p.Plus (name 3 105)) names ≡ Some (made base.Int false (derived.Pointer false ∷ []))
  pub pointer_difference : type_in (binary level.Sum (name 1 112) 2 p.Minus (name 3 112)) names ≡ Some int
  pub array_element : type_in (suffix (name 1 97) (index 2 (name 3 105))) names ≡ Some int
  -- Mismatch: `p + p`, `p < q`, `s + i`, `!s`, `p = q`, `p = k`, `i = p`, `*i`, `i.x`
  pub sum_of_pointers : first_fault (binary level.Sum (name 1 112) 2 p.Plus (name 3 112)).typed names ≡ Some (fault kind.Mismatch (at 2))
  pub other_pointers : first_fault (binary level.Relation (name 1 112) 2 p.Less (name 3 113)).typed names ≡ Some (fault kind.Mismatch (at 2))
  pub void_pointer_is_equal : type_in (binary level.Equality (name 1 112) 2 p.Equal (name 3 118)) names ≡ Some int
  pub structure_in_sum : first_fault (binary level.Sum (name 1 115) 2 p.Plus (name 3 105)).typed names ≡ Some (fault kind.Mismatch (at 2))
  pub structure_negated : first_fault (prefix 1 p.Not (name 2 115)).typed names ≡ Some (fault kind.Mismatch (at 1))
  pub other_target : first_fault (assign (name 1 112) 2 p.Assign (name 3 113)).typed names ≡ Some (fault kind.Mismatch (at 2))
  pub loses_const : first_fault (assign (name 1 112) 2 p.Assign (name 3 107)).typed names ≡ Some (fault kind.Mismatch (at 2))
  pub gains_const : first_fault (assign (name 1 107) 2 p.Assign (name 3 112)).typed names ≡ None
  pub int_from_pointer : first_fault (assign (name 1 105) 2 p.Assign (name 3 112)).typed names ≡ Some (fault kind.Mismatch (at 2))
  pub int_reached : first_fault (prefix 1 p.Star (name 2 105)).typed names ≡ Some (fault kind.Mismatch (at 1))
  pub member_of_int : first_fault (suffix (name 1 105) (member 2 (id 3 120))).typed names ≡ Some (fault kind.Mismatch (at 2))
  -- StructValue: `s = s`
  pub structure_assigned : first_fault (assign (name 1 115) 2 p.Assign (name 3 115)).typed names ≡ Some (fault kind.StructValue (at 2))
  -- Undeclared: `s.x`, where `s` has no such member
  pub no_member : first_fault (suffix (name 1 115) (member 2 (id 3 120))).typed names ≡ Some (fault kind.Undeclared (at 3))
  -- a fault in a part silences the row around it: `x + s`
  pub silent_around : first_fault (binary level.Sum (name 1 120) 2 p.Plus (name 3 115)).typed names ≡ Some (fault kind.Undeclared (at 1))
  -- `i + u`: `i` is read and converted to unsigned
  pub sum_tree : tree_in (binary level.Sum (name 1 105) 2 p.Plus (name 3 117)) ≡
      Some (x.Applied unsigned (x.Primary int (primary.Variable (scalar.Integer width.Word) 0))
      (step.Unary (unary.Convert (conversion.Integer width.Word))
      ∷ step.Binary (arithmetic.Word op.Add) (x.Primary unsigned (primary.Variable (scalar.Integer width.Word) 1))
      ∷ []))
  -- `a[i]`: the address of `a`, an element's size each, and a read
  pub element_tree : tree_in (suffix (name 1 97) (index 2 (name 3 105))) ≡
      Some (x.Applied int (x.Primary (made base.Int false (derived.Array (Some 3) ∷ [])) (primary.Address 8))
      (step.Binary (arithmetic.PointerPlus (record { element = 4; sign = sign.Signed })) (x.Primary int (primary.Variable (scalar.Integer width.Word) 0))
      ∷ step.Unary (unary.Load (scalar.Integer width.Word))
      ∷ []))
  -- `&i`: its address
  pub address_tree : tree_in (prefix 1 p.Ampersand (name 2 105)) ≡ Some (x.Primary (made base.Int false (derived.Pointer false ∷ [])) (primary.Address 0))
  -- `h = u`: what is stored is converted to the width of a signed char
  pub assignment_tree : tree_in (assign (name 1 104) 2 p.Assign (name 3 117)) ≡
      Some (x.Assign (plain base.SignedChar)
      (target.Variable 2 (record { scalar = scalar.Integer width.S8; operator = None; conversion = conversion.Integer width.S8 }) ∷ [])
      (x.Primary unsigned (primary.Variable (scalar.Integer width.Word) 1)))
  -- `i;`: the value is dropped
  pub dropped_tree : dropped_in (name 1 105) ≡
      Some (x.Applied void (x.Primary int (primary.Variable (scalar.Integer width.Word) 0)) (step.Unary unary.Drop ∷ []))

pub operators_typed : OperatorsTyped
operators_typed = record {
  int_and_unsigned = refl;
  char_is_negated = refl;
  shift_has_left_type = refl;
  less_is_int = refl;
  pointer_and_int = refl;
  pointer_difference = refl;
  array_element = refl;
  sum_of_pointers = refl;
  other_pointers = refl;
  void_pointer_is_equal = refl;
  structure_in_sum = refl;
  structure_negated = refl;
  other_target = refl;
  loses_const = refl;
  gains_const = refl;
  int_from_pointer = refl;
  int_reached = refl;
  member_of_int = refl;
  structure_assigned = refl;
  no_member = refl;
  silent_around = refl;
  sum_tree = refl;
  element_tree = refl;
  address_tree = refl;
  assignment_tree = refl;
  dropped_tree = refl;
}
