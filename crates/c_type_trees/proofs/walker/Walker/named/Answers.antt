-- `named` of src/specifying.rt: what the check leaves open of its proof.
-- The type that a specifier names (C11 6.7.2).
use Rattle.c_typing.specs.Trees.{specifier_typing-Storage, specifier_typing-Const, specifier_typing-Word, specifier_typing-StructTag, specifier_typing-Struct, specifier_typing-EnumTag, specifier_typing-Enum, specifier_typing-TypedefName}
use Rattle.std.proofs.Common.{None}
use Rattle.c_type_trees.proofs.Nodes.{offered}
use Rattle.c_type_trees.proofs.walker.Walker.named.Goals as goal

pub returns-in-Storage : goal.returns-in-Storage
returns-in-Storage g c =
    rw (c.in-Storage.is, specifier_typing-Storage) (offered None c.args.around.now c.args.found.now)

pub returns-in-Const : goal.returns-in-Const
returns-in-Const g c =
    rw (c.in-Const.is, specifier_typing-Const) (offered None c.args.around.now c.args.found.now)

pub returns-in-Word : goal.returns-in-Word
returns-in-Word g c =
    rw (c.in-Word.is, specifier_typing-Word) (offered None c.args.around.now c.args.found.now)

pub returns-in-StructTag : goal.returns-in-StructTag
returns-in-StructTag g c =
    rw (c.in-StructTag.is, specifier_typing-StructTag) c.struct_tag_row.ensures

pub returns-in-Struct : goal.returns-in-Struct
returns-in-Struct g c =
    rw (c.in-Struct.is, specifier_typing-Struct) (rw c.as_slice.ensures at c.structure.ensures)

pub returns-in-EnumTag : goal.returns-in-EnumTag
returns-in-EnumTag g c =
    rw (c.in-EnumTag.is, specifier_typing-EnumTag) c.enum_tag_row.ensures

pub returns-in-Enum : goal.returns-in-Enum
returns-in-Enum g c =
    rw (c.in-Enum.is, specifier_typing-Enum) (rw c.as_slice-in-Enum.ensures at c.enumeration.ensures)

pub returns-in-TypedefName : goal.returns-in-TypedefName
returns-in-TypedefName g c =
    rw (c.in-TypedefName.is, specifier_typing-TypedefName) c.typedef_named.ensures
