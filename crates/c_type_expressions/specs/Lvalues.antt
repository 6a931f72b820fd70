-- What is known of the left sides of rows,
-- and of operands that stand for others.
use Rattle.std.specs.Prelude.{◌≡◌, true, Option, Some, None}
use Rattle.c_tree.specs.declared.typed.types.CType.{CType}
use Rattle.c_typing.specs.declared.operand.Operand.{Operand}
use Rattle.c_typing.specs.Operands.{number, is_lvalue}

-- what is given is an lvalue
abbrev pub IsLvalue : Option Operand → Type 0
IsLvalue (Some o) = is_lvalue o ≡ true
IsLvalue None = Unit {0}

-- a value of this type that is no null pointer constant
abbrev pub stand_in_of : CType → Operand
stand_in_of t = number t 1
