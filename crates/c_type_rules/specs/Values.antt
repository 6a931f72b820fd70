-- What is read of an operand
-- that is no array.
use Rattle.std.specs.Prelude.{if◌then◌else◌}
use Rattle.c_typing.specs.Conversions.{scalar_of}
use Rattle.c_typing.specs.declared.operand.Operand.{Operand}
use Rattle.c_typing.specs.Operands.{is_lvalue, read_if}

abbrev pub read_if_lvalue : Operand → Operand
read_if_lvalue o = if is_lvalue o then read_if (scalar_of o.ctype) o else o
