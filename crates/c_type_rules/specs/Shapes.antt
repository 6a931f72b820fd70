-- What the types of this crate stand for:
-- a lent type, and the shape of a type.
use Rattle.std.specs.Prelude.{Option, Some, None}
use Rattle.c_tree.specs.declared.typed.types.CType.{CType}
use Rattle.c_typing.specs.Types.{made, Shape, Basic, PointerTo, ArrayOf, FunctionOf, shape}
use Rattle.c_type_rules.specs.declared.shapes.LentType.{LentType}
use Rattle.c_type_rules.specs.declared.shapes.TypeShape.{TypeShape}
use Rattle.c_type_rules.specs.declared.shapes.TypeShape.TheVariants as told

-- the type that is lent
abbrev pub lent : LentType → CType
lent t = made t.base t.constant t.derived.now

-- the shape that is told
abbrev pub meant : TypeShape → Shape
meant (told.Basic b) = Basic b
meant (told.PointerTo c t) = PointerTo c (lent t)
meant (told.ArrayOf n t) = ArrayOf n (lent t)
meant (told.FunctionOf ps t) = FunctionOf ps.now (lent t)

-- the type of an array's elements
abbrev pub element_of_shape : Shape → Option CType
element_of_shape (ArrayOf n t) = Some t
element_of_shape s = None

abbrev pub element_of : CType → Option CType
element_of t = element_of_shape (shape t)
