-- The parts of what a null pointer constant is:
-- a plain pointer to `void`, and the tree of a null pointer.
use Rattle.std.specs.Prelude.{Bool, false, ◌&&◌}
use Rattle.c_tree.specs.declared.typed.types.CType.{CType}
use Rattle.c_typing.specs.Types.{compatible, pointer_to, void}
use Rattle.c_typing.specs.declared.operand.Operand.{Operand}
use Rattle.c_typing.specs.Operands.{is_nil, is_null}

abbrev pub is_plain_void_pointer : CType → Bool
is_plain_void_pointer t = compatible t (pointer_to false void)

abbrev pub is_null_base : Operand → Bool
is_null_base o = is_nil o.steps && is_null o.base
