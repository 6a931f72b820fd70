-- Conversions of integer types, and how a value of a type is kept (C11 6.3.1, 6.2.6).
use Rattle.std.specs.Prelude.{ℕ, nat_lt, nat_le, Bool, true, false, if◌then◌else◌, Option, Some, None}
use Rattle.word_ops.specs.declared.operation.Width.{Width}
use Rattle.word_ops.specs.declared.operation.Width.TheVariants as width
use Rattle.c_tree.specs.declared.token.IntKind.{IntKind}
use Rattle.c_tree.specs.declared.token.IntKind.TheVariants as number
use Rattle.c_tree.specs.declared.typed.types.Base.{Base}
use Rattle.c_tree.specs.declared.typed.types.Base.TheVariants as base
use Rattle.c_tree.specs.declared.typed.types.CType.{CType}
use Rattle.c_tree.specs.declared.typed.operator.Scalar.{Scalar}
use Rattle.c_tree.specs.declared.typed.operator.Scalar.TheVariants as scalar
use Rattle.c_tree.specs.declared.typed.operator.Sign.{Sign}
use Rattle.c_tree.specs.declared.typed.operator.Sign.TheVariants as sign
use Rattle.c_typing.specs.Types.{Shape, Basic, PointerTo, shape, is_integer_base}

-- ---- integers (C11 6.3.1)

-- the conversion rank (6.3.1.1p1); an enumerated type has that of int
abbrev pub integer_rank : Base → ℕ
integer_rank base.Bool = 0
integer_rank base.Char = 1
integer_rank base.SignedChar = 1
integer_rank base.UnsignedChar = 1
integer_rank base.Short = 2
integer_rank base.UnsignedShort = 2
integer_rank base.Long = 4
integer_rank base.UnsignedLong = 4
integer_rank b = 3

-- signed types; `char` is unsigned
abbrev pub is_signed : Base → Bool
is_signed base.SignedChar = true
is_signed base.Short = true
is_signed base.Int = true
is_signed base.Long = true
is_signed (base.Enum n) = true
is_signed b = false

abbrev pub sign_of : Base → Sign
sign_of b = if is_signed b then sign.Signed else sign.Unsigned

-- the unsigned type of a rank from that of int on
abbrev pub unsigned_of : Base → Base
unsigned_of base.Long = base.UnsignedLong
unsigned_of base.UnsignedLong = base.UnsignedLong
unsigned_of b = base.Unsigned

-- an enumerated type counts as int
abbrev pub as_int : Base → Base
as_int (base.Enum n) = base.Int
as_int b = b

-- the integer promotions: every type of lower rank than int fits in int (6.3.1.1p2)
abbrev pub promoted : Base → Base
promoted b = if nat_lt (integer_rank b) 3 then base.Int else as_int b

-- two promoted types of one signedness: that of the higher rank; else the unsigned one where its rank is not lower; else the
-- unsigned type of the signed one, whose values int and long, of four bytes, do not all hold (6.3.1.8p1)
abbrev pub balanced : (signed unsigned : Base) → Base
balanced s u = if nat_le (integer_rank s) (integer_rank u) then u else unsigned_of s

abbrev pub higher : Base → Base → Base
higher a b = if nat_lt (integer_rank a) (integer_rank b) then b else a

abbrev pub common_of : Base → Base → Base
common_of a b =
    if is_signed a then (if is_signed b then higher a b else balanced a b)
    else (if is_signed b then balanced b a else higher a b)

-- the usual arithmetic conversions (6.3.1.8)
abbrev pub common : Base → Base → Base
common a b = common_of (promoted a) (promoted b)

-- the type of an integer constant (6.4.4.1p5)
abbrev pub base_of_constant : IntKind → Base
base_of_constant number.Int = base.Int
base_of_constant number.Unsigned = base.Unsigned
base_of_constant number.Long = base.Long
base_of_constant number.UnsignedLong = base.UnsignedLong

-- ---- how a value of a type is kept

abbrev pub width_of_base : Base → Width
width_of_base base.Bool = width.U8
width_of_base base.Char = width.U8
width_of_base base.SignedChar = width.S8
width_of_base base.UnsignedChar = width.U8
width_of_base base.Short = width.S16
width_of_base base.UnsignedShort = width.U16
width_of_base b = width.Word

abbrev pub scalar_of_shape : Shape → Option Scalar
scalar_of_shape (Basic b) = if is_integer_base b then Some (scalar.Integer (width_of_base b)) else None
scalar_of_shape (PointerTo c t) = Some scalar.Pointer
scalar_of_shape s = None

-- none for a type that is not scalar
abbrev pub scalar_of : CType → Option Scalar
scalar_of t = scalar_of_shape (shape t)
