-- `specifier` of src/specifying.rt: what the check leaves open of its proof.
-- A specifier more (C11 6.7).
use Rattle.std.proofs.Common.{refl}
use Rattle.c_typing.specs.Trees.{specifier_typing-Storage, specifier_typing-Const, specifier_typing-Word, specifier_typing-StructTag, specifier_typing-Struct, specifier_typing-EnumTag, specifier_typing-Enum, specifier_typing-TypedefName}
use Rattle.c_type_declarators.specs.Specifiers.{parts_of}
use Rattle.c_type_trees.proofs.After.{answered_as}
use Rattle.c_type_trees.proofs.Nodes.{offered}
use Rattle.c_type_trees.proofs.walker.Walker.specifier.Goals as goal

pub returns-in-Storage : goal.returns-in-Storage
returns-in-Storage g c =
    rw (c.in-Storage.is, specifier_typing-Storage) (answered_as parts_of _ c.args.around.now _ _ _ _ c.with_storage.ensures refl)

pub returns-in-Const : goal.returns-in-Const
returns-in-Const g c =
    rw (c.in-Const.is, specifier_typing-Const) (rw c.with_constant.ensures (offered _ c.args.around.now c.args.found.now))

pub returns-in-Word : goal.returns-in-Word
returns-in-Word g c =
    rw (c.in-Word.is, specifier_typing-Word) (answered_as parts_of _ c.args.around.now _ _ _ _ c.with_word.ensures refl)

pub returns-in-StructTag : goal.returns-in-StructTag
returns-in-StructTag g c =
    rw (c.in-StructTag.is, specifier_typing-StructTag) (rw (c.in-StructTag.is, specifier_typing-StructTag) at c.typed.ensures)

pub returns-in-Struct : goal.returns-in-Struct
returns-in-Struct g c =
    rw (c.in-Struct.is, specifier_typing-Struct) (rw (c.in-Struct.is, specifier_typing-Struct) at c.typed-in-Struct.ensures)

pub returns-in-EnumTag : goal.returns-in-EnumTag
returns-in-EnumTag g c =
    rw (c.in-EnumTag.is, specifier_typing-EnumTag) (rw (c.in-EnumTag.is, specifier_typing-EnumTag) at c.typed-in-EnumTag.ensures)

pub returns-in-Enum : goal.returns-in-Enum
returns-in-Enum g c =
    rw (c.in-Enum.is, specifier_typing-Enum) (rw (c.in-Enum.is, specifier_typing-Enum) at c.typed-in-Enum.ensures)

pub returns-in-TypedefName : goal.returns-in-TypedefName
returns-in-TypedefName g c =
    rw (c.in-TypedefName.is, specifier_typing-TypedefName) (rw (c.in-TypedefName.is, specifier_typing-TypedefName) at c.typed-in-TypedefName.ensures)
