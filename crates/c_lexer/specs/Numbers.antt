-- Numbers (C11 6.4.8), and which of them are integer constants (C11 6.4.4.1).
use Rattle.std.specs.Prelude.{ℕ, ◌-◌, ◌^◌, Bool, true, false, ◌&&◌, ◌||◌, ◌==◌, nat_le, if◌then◌else◌, List, [], ◌∷◌, take, drop, codes, Option, Some, None}
use Rattle.std.specs.Char.{is_ascii_digit, is_digit}
use Rattle.std.specs.List.{list_any, find, prefix_len}
use Rattle.std.specs.Str.Parse.{digits_value}
use Rattle.c_tree.specs.declared.refusal.Feature.TheVariants as feature
use Rattle.c_tree.specs.declared.token.IntKind.TheVariants as kind
use Rattle.c_tree.specs.declared.token.TokenKind.TheVariants as token
use Rattle.c_lexer.specs.declared.number.IntType.{IntType}
use Rattle.c_lexer.specs.declared.number.IntType.TheVariants.{Int, Unsigned, Long, UnsignedLong, LongLong, UnsignedLongLong}
use Rattle.c_lexer.specs.declared.number.Suffix.{Suffix}
use Rattle.c_lexer.specs.declared.reading.Reading.{Reading}
use Rattle.c_lexer.specs.declared.reading.Reading.TheVariants.{Bad, LeftOut, Token}
use Rattle.c_lexer.specs.Fronts.{Text, begins_with, is_one_of}
use Rattle.c_lexer.specs.Names.{is_word}

-- ---- numbers

-- `.`
abbrev pub is_point : ℕ → Bool
is_point b = b == 46

abbrev pub is_e : ℕ → Bool
is_e b = is_one_of (codes "eE") b

abbrev pub is_p : ℕ → Bool
is_p b = is_one_of (codes "pP") b

abbrev pub is_sign : ℕ → Bool
is_sign b = is_one_of (codes "+-") b

-- a byte of a number, by the byte before it
abbrev pub goes_on : ℕ → ℕ → Bool
goes_on last b = is_word b || is_point b || (is_sign b && (is_e last || is_p last))

abbrev pub all_go_on : ℕ → Text → Bool
all_go_on last [] = true
all_go_on last (b ∷ bytes) = goes_on last b && all_go_on b bytes

-- a digit, or a point and a digit
abbrev pub begins_number : Text → Bool
begins_number [] = false
begins_number (b ∷ bytes) = is_ascii_digit b || (is_point b && begins_with is_ascii_digit bytes)

abbrev pub is_number : Text → Bool
is_number [] = false
is_number (b ∷ bytes) = begins_number (b ∷ bytes) && all_go_on b bytes

-- ---- integer constants

abbrev pub is_u : ℕ → Bool
is_u b = is_one_of (codes "uU") b

abbrev pub is_l : ℕ → Bool
is_l b = is_one_of (codes "lL") b

abbrev pub suffix : Bool → ℕ → Option Suffix
suffix unsigned longs = Some (record { unsigned = unsigned; longs = longs })

-- u or U, and l, L, ll or LL, in either order, each at most once
abbrev pub suffix_of : Text → Option Suffix
suffix_of [] = suffix false 0
suffix_of (a ∷ []) = if is_u a then suffix true 0 else (if is_l a then suffix false 1 else None)
suffix_of (a ∷ b ∷ []) =
    if (is_u a && is_l b) || (is_l a && is_u b) then suffix true 1 else (if is_l a && a == b then suffix false 2 else None)
suffix_of (a ∷ b ∷ c ∷ []) =
    if (is_u a && (is_l b && b == c)) || ((is_l a && a == b) && is_u c) then suffix true 2 else None
suffix_of (a ∷ b ∷ c ∷ d ∷ bytes) = None

-- 0x or 0X
abbrev pub begins_hexadecimal : Text → Bool
begins_hexadecimal [] = false
begins_hexadecimal (a ∷ bytes) = a == 48 && begins_with (is_one_of (codes "xX")) bytes

-- how many digits of a base stand in front
abbrev pub digit_count : ℕ → Text → ℕ
digit_count base text = prefix_len (λ b. is_digit b base) text

-- an integer constant: its base, the value of its digits, and its suffix
pub record Constant : Type 0 where
  pub base : ℕ
  pub value : ℕ
  pub suffix : Suffix

abbrev pub constant_from : ℕ → Text → Option Suffix → Option Constant
constant_from base digits None = None
constant_from base digits (Some s) = Some (record { base = base; value = digits_value base digits; suffix = s })

-- digits of a base, one or more, and a suffix
abbrev pub constant_in : ℕ → Text → Option Constant
constant_in base text =
    let count = digit_count base text in
    if count == 0 then None else constant_from base (take count text) (suffix_of (drop count text))

-- a hexadecimal constant begins with 0x or 0X, an octal one with another 0, and a decimal one with another digit
unfoldable pub constant_of : Text → Option Constant
constant_of text =
    if begins_hexadecimal text then constant_in 16 (drop 2 text) else (if begins_with (λ b. b == 48) text then constant_in 8 text else constant_in 10 text)

abbrev pub greatest : IntType → ℕ
greatest Int = 2 ^ 31 - 1
greatest Unsigned = 2 ^ 32 - 1
greatest Long = 2 ^ 31 - 1
greatest UnsignedLong = 2 ^ 32 - 1
greatest LongLong = 2 ^ 63 - 1
greatest UnsignedLongLong = 2 ^ 64 - 1

-- how many times `long` stands in the name of a type
abbrev pub longs_of : IntType → ℕ
longs_of Int = 0
longs_of Unsigned = 0
longs_of Long = 1
longs_of UnsignedLong = 1
longs_of LongLong = 2
longs_of UnsignedLongLong = 2

-- the list of types, by the base and by a u in the suffix
abbrev pub types : ℕ → Bool → List IntType
types base true = Unsigned ∷ UnsignedLong ∷ UnsignedLongLong ∷ []
types base false =
    if base == 10 then Int ∷ Long ∷ LongLong ∷ [] else Int ∷ Unsigned ∷ Long ∷ UnsignedLong ∷ LongLong ∷ UnsignedLongLong ∷ []

-- a type holds the value, and its name has `long` at least as often as the suffix has l
abbrev pub fits : Constant → IntType → Bool
fits c t = nat_le c.suffix.longs (longs_of t) && nat_le c.value (greatest t)

-- the first type of its list that fits
unfoldable pub type_of : Constant → Option IntType
type_of c = find (fits c) (types c.base c.suffix.unsigned)

-- ---- what a number is read as

-- no type holds the constant, the profile leaves its type out, or it has this type
abbrev pub reading_of_type : ℕ → Option IntType → Reading
reading_of_type value None = Bad 0
reading_of_type value (Some Int) = Token (token.Number value kind.Int)
reading_of_type value (Some Unsigned) = Token (token.Number value kind.Unsigned)
reading_of_type value (Some Long) = Token (token.Number value kind.Long)
reading_of_type value (Some UnsignedLong) = Token (token.Number value kind.UnsignedLong)
reading_of_type value (Some LongLong) = LeftOut feature.LongLong
reading_of_type value (Some UnsignedLongLong) = LeftOut feature.LongLong

-- a number that is no integer constant is a floating one where it holds a point, or without 0x an e, or with 0x a p
abbrev pub is_floating : Text → Bool
is_floating text = list_any is_point text || (if begins_hexadecimal text then list_any is_p text else list_any is_e text)

abbrev pub reading_of_constant : Constant → Reading
reading_of_constant c = reading_of_type c.value (type_of c)

abbrev pub reading_by : Text → Option Constant → Reading
reading_by text (Some c) = reading_of_constant c
reading_by text None = if is_floating text then LeftOut feature.Float else Bad 0

unfoldable pub reading_of_number : Text → Reading
reading_of_number text = reading_by text (constant_of text)
