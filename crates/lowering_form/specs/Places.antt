-- Where the objects of a function are kept (C11 6.2.4), and how a scalar object is read and written there. What is read of a
-- variable goes into a temporary at once, since a later operand may assign the variable.
use Rattle.std.specs.Prelude.{ℕ, ◌==◌, if◌then◌else◌, List, Option, Some, None, slice_get}
use Rattle.core_lang.specs.declared.act.Atom.{Atom}
use Rattle.core_lang.specs.declared.act.Atom.TheVariants as at
use Rattle.core_lang.specs.declared.act.PointerOp.TheVariants as pointer
use Rattle.core_lang.specs.declared.act.Core.TheVariants as c
use Rattle.c_tree.specs.declared.typed.operator.Scalar.{Scalar}
use Rattle.c_tree.specs.TypedKinds.{width_of}
use Rattle.lowering_form.specs.declared.place.Place.{Place}
use Rattle.lowering_form.specs.declared.place.Place.TheVariants as place
use Rattle.lowering_form.specs.Code.{Code, Valued, given, with_act, assigned}

-- what stands around a part of a function: the places of the objects in scope, outer ones first; the variable of the next switch,
-- until then that of the joins; and how many blocks and loops `break` and `continue` leave behind the innermost (C11 6.2.1,
-- 6.8.6.2, 6.8.6.3)
pub record Scope : Type 0 where
  pub places : List Place
  pub level : ℕ
  pub breaks : ℕ
  pub continues : ℕ

-- the place of an object in scope by its number there, where it has one
abbrev pub place_or_first : Option Place → Place
place_or_first (Some p) = p
place_or_first None = place.Variable 0

abbrev pub place_in : Scope → ℕ → Place
place_in sc i = place_or_first (slice_get sc.places i)

-- the address of an object; what is kept in a variable has none, and the null pointer stands for it (C11 6.5.3.2p3)
abbrev pub address_of : Place → Atom
address_of (place.Memory p) = p
address_of (place.Variable x) = at.Word 0

-- the value of a scalar object (C11 6.3.2.1p2)
abbrev pub read_code : Place → Scalar → Code → Valued
read_code (place.Variable x) s k = assigned (λ t. c.Move t (at.Var x)) k
read_code (place.Memory p) s k = assigned (λ t. c.Load t (width_of s) p) k

-- a scalar object gets a value (C11 6.5.16.1p2)
abbrev pub write_code : Place → Scalar → Atom → Code → Code
write_code (place.Variable x) s v k = with_act (c.Move x v) k
write_code (place.Memory p) s v k = with_act (c.Store (width_of s) p v) k

-- a pointer moved by a constant number of bytes, where that is not 0 (C11 6.5.2.3, 6.7.9p17)
abbrev pub offset_code : Atom → ℕ → Code → Valued
offset_code p n k = if n == 0 then given p k else assigned (λ t. c.Pointer t pointer.Offset p (at.Word n)) k
