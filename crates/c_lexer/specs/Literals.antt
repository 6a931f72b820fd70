-- Character constants (C11 6.4.4.4) and string literals (C11 6.4.5).
use Rattle.std.specs.Prelude.{ℕ, zero, suc, ◌+◌, ◌-◌, min, Bool, true, false, not, ◌&&◌, ◌||◌, ◌==◌, nat_lt, if◌then◌else◌, List, [], ◌∷◌, length, take, drop, codes, Option, Some, None}
use Rattle.std.specs.Char.{is_digit}
use Rattle.std.specs.Str.Parse.{digits_value}
use Rattle.c_tree.specs.declared.refusal.Feature.TheVariants as feature
use Rattle.c_tree.specs.declared.token.TokenKind.TheVariants as token
use Rattle.c_lexer.specs.declared.literal.Element.{Element}
use Rattle.c_lexer.specs.declared.literal.Element.TheVariants as element
use Rattle.c_lexer.specs.declared.literal.Opening.{Opening}
use Rattle.c_lexer.specs.declared.reading.Reading.{Reading}
use Rattle.c_lexer.specs.declared.reading.Reading.TheVariants.{Bad, LeftOut, Token}
use Rattle.c_lexer.specs.Fronts.{Text, begins_with, is_one_of, is_empty, lookup}
use Rattle.c_lexer.specs.Numbers.{digit_count}
use Rattle.c_lexer.specs.WhiteSpace.{is_newline}

-- ---- where a literal ends

abbrev pub is_single_quote : ℕ → Bool
is_single_quote b = b == 39

abbrev pub is_double_quote : ℕ → Bool
is_double_quote b = b == 34

abbrev pub is_quote : ℕ → Bool
is_quote b = is_single_quote b || is_double_quote b

abbrev pub is_backslash : ℕ → Bool
is_backslash b = b == 92

-- an encoding prefix of one letter
abbrev pub is_prefix : ℕ → Bool
is_prefix b = is_one_of (codes "LuU") b

abbrev pub opens : ℕ → ℕ → Option Opening
opens quote length = Some (record { quote = quote; length = length })

-- the opening quote in front, and its length with a prefix: L, u or U before either quote, u8 before a double one only
abbrev pub opening_of : Text → Option Opening
opening_of [] = None
opening_of (a ∷ []) = if is_quote a then opens a 1 else None
opening_of (a ∷ b ∷ bytes) =
    if is_quote a then opens a 1 else (if is_prefix a && is_quote b then opens b 2
    else (if (a == 117 && b == 56) && begins_with is_double_quote bytes then opens 34 3 else None))  -- `u8"`

-- the text ends with its first closing quote, and no newline stands in it; a backslash may stand before it
abbrev pub closes : ℕ → Bool → Text → Bool
closes quote after_backslash [] = false
closes quote true (b ∷ bytes) = not (is_newline b) && closes quote false bytes
closes quote false (b ∷ bytes) = if b == quote then is_empty bytes else not (is_newline b) && closes quote (is_backslash b) bytes

abbrev pub is_closed : Text → Option Opening → Bool
is_closed text None = false
is_closed text (Some o) = closes o.quote false (drop o.length text)

-- a character constant or a string literal, whatever its elements are
unfoldable pub is_literal : Text → Bool
is_literal text = is_closed text (opening_of text)

-- ---- elements

abbrev pub byte_or_bad : ℕ → Element
byte_or_bad value = if nat_lt value 256 then element.Byte value else element.Bad

-- the simple escapes by what follows their backslash, with their bytes (C11 5.2.2, 6.4.4.4)
abbrev pub simple_escapes : List (Text × ℕ)
simple_escapes =
    (codes "'", 39) ∷ (codes "\"", 34) ∷ (codes "?", 63) ∷ (codes "\\", 92) ∷ (codes "a", 7) ∷ (codes "b", 8) ∷ (codes "f", 12)
    ∷ (codes "n", 10) ∷ (codes "r", 13) ∷ (codes "t", 9) ∷ (codes "v", 11) ∷ []

abbrev pub found_or_bad : Option ℕ → Element
found_or_bad None = element.Bad
found_or_bad (Some value) = element.Byte value

abbrev pub simple_escape : ℕ → Element
simple_escape b = found_or_bad (lookup simple_escapes (b ∷ []))

-- an escape without its backslash, and its length: one to three octal digits, x and hexadecimal digits, u or U, or a simple one
abbrev pub escape : Text → Element × ℕ
escape [] = (element.Bad, 0)
escape (b ∷ bytes) =
    if is_digit b 8 then (let count = min (digit_count 8 (b ∷ bytes)) 3 in (byte_or_bad (digits_value 8 (take count (b ∷ bytes))), count))
    else (if b == 120 then (let count = digit_count 16 bytes in (if count == 0 then element.Bad else byte_or_bad (digits_value 16 (take count bytes)), count + 1))
    else (if is_one_of (codes "uU") b then (element.Universal, 1) else (simple_escape b, 1)))

-- the element in front, and its length
unfoldable pub element_of : Text → Element × ℕ
element_of [] = (element.Bad, 0)
element_of (b ∷ bytes) = if is_backslash b then (let e = escape bytes in (e.0, e.1 + 1)) else (element.Byte b, 1)

-- each element with its place. The first number counts the bytes that are left of one, the second is the place of the front.
abbrev pub elements_from : ℕ → ℕ → Text → List (ℕ × Element)
elements_from left at [] = []
elements_from (suc left) at (b ∷ body) = elements_from left (at + 1) body
elements_from zero at (b ∷ body) = let e = element_of (b ∷ body) in (at, e.0) ∷ elements_from (e.1 - 1) (at + 1) body

abbrev pub first_bad : List (ℕ × Element) → Option ℕ
first_bad [] = None
first_bad ((at, element.Bad) ∷ elements) = Some at
first_bad ((at, element.Byte value) ∷ elements) = first_bad elements
first_bad ((at, element.Universal) ∷ elements) = first_bad elements

abbrev pub has_universal : List (ℕ × Element) → Bool
has_universal [] = false
has_universal ((at, element.Universal) ∷ elements) = true
has_universal ((at, element.Byte value) ∷ elements) = has_universal elements
has_universal ((at, element.Bad) ∷ elements) = has_universal elements

abbrev pub values : List (ℕ × Element) → List ℕ
values [] = []
values ((at, element.Byte value) ∷ elements) = value ∷ values elements
values ((at, element.Universal) ∷ elements) = values elements
values ((at, element.Bad) ∷ elements) = values elements

-- ---- what a literal is read as

abbrev pub reading_of_character : List ℕ → Reading
reading_of_character [] = Bad 0
reading_of_character (value ∷ []) = Token (token.Char value)
reading_of_character (value ∷ other ∷ more) = LeftOut feature.MultiChar

abbrev pub reading_of_values : Opening → List (ℕ × Element) → Reading
reading_of_values o elements = if is_single_quote o.quote then reading_of_character (values elements) else Token (token.Bytes (values elements))

abbrev pub reading_of_elements : Opening → List (ℕ × Element) → Option ℕ → Reading
reading_of_elements o elements (Some at) = Bad at
reading_of_elements o elements None =
    if is_single_quote o.quote && is_empty elements then Bad 0
    else (if nat_lt 1 o.length then LeftOut feature.Wide else (if has_universal elements then LeftOut feature.UniversalName else reading_of_values o elements))

-- the elements between the quotes, each with its place in the literal
abbrev pub elements_of : Text → Opening → List (ℕ × Element)
elements_of text o = elements_from 0 o.length (take (length text - 1 - o.length) (drop o.length text))

abbrev pub reading_of_opened : Text → Option Opening → Reading
reading_of_opened text None = Bad 0
reading_of_opened text (Some o) = let elements = elements_of text o in reading_of_elements o elements (first_bad elements)

unfoldable pub reading_of_literal : Text → Reading
reading_of_literal text = reading_of_opened text (opening_of text)
