-- `stores_one` of src/counting.rt: what the check leaves open of its proof.
-- Whether a specifier is a storage word of those that are asked for.
use Rattle.std.proofs.Common.{refl}
use Rattle.c_typing.specs.Trees.{specifier_typing-Const, specifier_typing-Enum, specifier_typing-EnumTag, specifier_typing-Storage, specifier_typing-Struct, specifier_typing-StructTag, specifier_typing-TypedefName, specifier_typing-Word}
use Rattle.c_type_declarations.proofs.counting.stores_one.Goals as goal

pub returns-in-Storage : goal.returns-in-Storage
returns-in-Storage c = rw (c.in-Storage.is, specifier_typing-Storage, c.covers.ensures) refl

pub returns-in-Const : goal.returns-in-Const
returns-in-Const c = rw (c.in-Const.is, specifier_typing-Const) refl

pub returns-in-Word : goal.returns-in-Word
returns-in-Word c = rw (c.in-Word.is, specifier_typing-Word) refl

pub returns-in-StructTag : goal.returns-in-StructTag
returns-in-StructTag c = rw (c.in-StructTag.is, specifier_typing-StructTag) refl

pub returns-in-Struct : goal.returns-in-Struct
returns-in-Struct c = rw (c.in-Struct.is, specifier_typing-Struct) refl

pub returns-in-EnumTag : goal.returns-in-EnumTag
returns-in-EnumTag c = rw (c.in-EnumTag.is, specifier_typing-EnumTag) refl

pub returns-in-Enum : goal.returns-in-Enum
returns-in-Enum c = rw (c.in-Enum.is, specifier_typing-Enum) refl

pub returns-in-TypedefName : goal.returns-in-TypedefName
returns-in-TypedefName c = rw (c.in-TypedefName.is, specifier_typing-TypedefName) refl
