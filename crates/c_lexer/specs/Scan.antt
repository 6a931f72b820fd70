-- What the functions of the scanner compute. No public contract names it: proofs/ shows that it meets the definitions beside it.
use Rattle.std.specs.Prelude.{◌≡◌, ℕ, ◌+◌, ◌<◌, ◌≤◌, Bool, true, false, not, ◌&&◌, ◌||◌, ◌==◌, nat_lt, if◌then◌else◌, List, [], ◌∷◌, ◌++◌, length, take, drop, Option, Some, None, Result}
use Rattle.std.specs.List.{prefix_len}
use Rattle.std.specs.Option.{option_map, option_or}
use Rattle.c_tree.specs.declared.refusal.Feature.{Feature}
use Rattle.c_tree.specs.declared.refusal.Feature.TheVariants as feature
use Rattle.c_tree.specs.declared.token.Pos.{Pos}
use Rattle.c_tree.specs.declared.token.Punct.{Punct}
use Rattle.c_tree.specs.declared.token.TokenKind.TheVariants as token
use Rattle.c_tree.specs.declared.token.Tokens.{Tokens}
use Rattle.c_lexer.specs.declared.fault.LexFault.{LexFault}
use Rattle.c_lexer.specs.declared.fault.LexFault.TheVariants as fault
use Rattle.c_lexer.specs.declared.literal.Opening.{Opening}
use Rattle.c_lexer.specs.declared.lexeme.Form.{Form}
use Rattle.c_lexer.specs.declared.lexeme.Form.TheVariants as form
use Rattle.c_lexer.specs.declared.lexer.Reader.{Reader}
use Rattle.c_lexer.specs.declared.literal.Body.{Body}
use Rattle.c_lexer.specs.declared.literal.Body.TheVariants as body
use Rattle.c_lexer.specs.declared.literal.Element.{Element}
use Rattle.c_lexer.specs.declared.literal.Element.TheVariants as element
use Rattle.c_lexer.specs.declared.reading.Reading.{Reading}
use Rattle.c_lexer.specs.declared.reading.Reading.TheVariants.{Bad, LeftOut, Token}
use Rattle.c_lexer.specs.Features.{is_long, is_with_long, feature_of}
use Rattle.c_lexer.specs.Fronts.{Text, begins_with}
use Rattle.c_lexer.specs.WhiteSpace.{is_newline, is_white_space, opens_comment, opens_marker}
use Rattle.c_lexer.specs.Names.{is_letter, is_word, keyword_of}
use Rattle.c_lexer.specs.Numbers.{goes_on, begins_number, reading_of_number}
use Rattle.c_lexer.specs.Literals.{is_backslash, is_single_quote, opening_of, reading_of_character, reading_of_opened}
use Rattle.c_lexer.specs.Punctuators.{punctuator_of}
use Rattle.c_lexer.specs.Lexemes.{reading_of_word, reading_of_mark, reading_of}
use Rattle.c_lexer.specs.Tokens.{place_after, Piece, pieces_from, first_bad, placed, token_of, tokens_of_pieces, outcome}

-- ---- between tokens

-- how many bytes in front stand before the next newline
abbrev pub line_len : Text → ℕ
line_len bytes = prefix_len (λ b. not (is_newline b)) bytes

-- a length further on
abbrev pub beyond : ℕ → Option ℕ → Option ℕ
beyond n length = option_map (λ k. n + k) length

-- the length up to and with the first `*/`
abbrev pub comment_len : Bool → Text → Option ℕ
comment_len after_star [] = None
comment_len after_star (b ∷ bytes) = if after_star && b == 47 then Some 1 else beyond 1 (comment_len (b == 42) bytes)

abbrev pub length_or_none : ℕ → Option ℕ → ℕ
length_or_none n None = 0
length_or_none n (Some k) = n + k

-- the length of white space or a comment in front
abbrev pub space_len : Text → ℕ
space_len [] = 0
space_len (a ∷ []) = if is_white_space a then 1 else 0
space_len (a ∷ b ∷ bytes) =
    if a == 47 && b == 47 then line_len (a ∷ b ∷ bytes) else (if a == 47 && b == 42 then length_or_none 2 (comment_len false bytes)
    else (if is_white_space a then 1 else 0))

abbrev pub gap_len : Bool → Text → ℕ
gap_len at_line_start bytes = if at_line_start && opens_marker bytes then line_len bytes else space_len bytes

-- ---- tokens

-- how many bytes go on with a number, by its last byte so far
abbrev pub number_len : ℕ → Text → ℕ
number_len last [] = 0
number_len last (b ∷ bytes) = if goes_on last b then 1 + number_len b bytes else 0

-- the length up to and with the closing quote
abbrev pub closing_len : ℕ → Bool → Text → Option ℕ
closing_len quote after_backslash [] = None
closing_len quote after_backslash (b ∷ bytes) =
    if is_newline b then None else (if b == quote && not after_backslash then Some 1 else beyond 1 (closing_len quote (is_backslash b && not after_backslash) bytes))

abbrev pub mark_of : ℕ → Option Punct → Option (Punct × ℕ)
mark_of n None = None
mark_of n (Some mark) = Some (mark, n)

abbrev pub first_mark : Option (Punct × ℕ) → Option (Punct × ℕ) → Option (Punct × ℕ)
first_mark None other = other
first_mark (Some found) other = Some found

-- the longest punctuator in front, and its length
unfoldable pub punctuator_in : Text → Option (Punct × ℕ)
punctuator_in [] = None
punctuator_in (a ∷ []) = mark_of 1 (punctuator_of (a ∷ []))
punctuator_in (a ∷ b ∷ []) = first_mark (mark_of 2 (punctuator_of (a ∷ b ∷ []))) (mark_of 1 (punctuator_of (a ∷ [])))
punctuator_in (a ∷ b ∷ c ∷ bytes) =
    first_mark (mark_of 3 (punctuator_of (a ∷ b ∷ c ∷ []))) (first_mark (mark_of 2 (punctuator_of (a ∷ b ∷ []))) (mark_of 1 (punctuator_of (a ∷ []))))

-- the elements of a literal gathered from the left: whether \u or \U is among those so far, and the values of the others
abbrev pub body_from : Bool → List ℕ → List (ℕ × Element) → Body
body_from universal values [] = if universal then body.Universal else body.Values values
body_from universal values ((at, element.Byte value) ∷ elements) = body_from universal (values ++ value ∷ []) elements
body_from universal values ((at, element.Universal) ∷ elements) = body_from true values elements
body_from universal values ((at, element.Bad) ∷ elements) = body.Bad at

abbrev pub body_of : List (ℕ × Element) → Body
body_of elements = body_from false [] elements

abbrev pub reading_of_body : Opening → Body → Reading
reading_of_body o (body.Bad at) = Bad at
reading_of_body o body.Universal = if nat_lt 1 o.length then LeftOut feature.Wide else LeftOut feature.UniversalName
reading_of_body o (body.Values values) =
    if nat_lt 1 o.length then LeftOut feature.Wide else (if is_single_quote o.quote then reading_of_character values else Token (token.Bytes values))

-- ---- a token and its form

abbrev pub literal_lexeme : Opening → Text → Option (Form × ℕ)
literal_lexeme o bytes = option_map (λ n. (form.Literal o, o.length + n)) (closing_len o.quote false (drop o.length bytes))

abbrev pub number_lexeme : Text → Form × ℕ
number_lexeme [] = (form.Number, 0)
number_lexeme (b ∷ bytes) = (form.Number, 1 + number_len b bytes)

-- a token that begins with no quote, or none
abbrev pub unquoted_lexeme : Text → Option (Form × ℕ)
unquoted_lexeme bytes =
    if begins_number bytes then Some (number_lexeme bytes) else (if opens_comment bytes then None
    else (if begins_with is_letter bytes then Some (form.Word, prefix_len is_word bytes) else option_map (λ found. (form.Punctuator found.0, found.1)) (punctuator_in bytes)))

abbrev pub lexeme_by : Text → Option Opening → Option (Form × ℕ)
lexeme_by bytes (Some o) = literal_lexeme o bytes
lexeme_by bytes None = unquoted_lexeme bytes

-- the longest token in front, by its form and its length
unfoldable pub lexeme : Text → Option (Form × ℕ)
lexeme bytes = lexeme_by bytes (opening_of bytes)

-- a length that a token of a form may have
abbrev pub Suits : Form → ℕ → Type 0
Suits form.Word n = Unit {0}
Suits form.Number n = Unit {0}
Suits (form.Literal o) n = o.length < n
Suits (form.Punctuator mark) n = Unit {0}

abbrev pub reading_as : Form → Text → Reading
reading_as form.Word text = reading_of_word text (keyword_of text)
reading_as form.Number text = reading_of_number text
reading_as (form.Literal o) text = reading_of_opened text (Some o)
reading_as (form.Punctuator mark) text = reading_of_mark mark

-- ---- what is kept of the pieces so far

-- whether a `long` stands before, by whether one stood before this token
abbrev pub long_after : Bool → Reading → Bool
long_after after_long r = is_long r || (is_with_long r && after_long)

-- the first token that is left out, with `after_long` for what stands before
abbrev pub left_out_in : Bool → List Piece → Option (Feature × Pos)
left_out_in after_long [] = None
left_out_in after_long (Piece.Stray place ∷ pieces) = None
left_out_in after_long (Piece.Lexeme place text ∷ pieces) =
    option_or (placed place (feature_of after_long (reading_of text))) (left_out_in (long_after after_long (reading_of text)) pieces)

-- what is wrong in a token of so many bytes stands within it
abbrev pub IsWithin : ℕ → Reading → Type 0
IsWithin n (Bad at) = at ≤ n
IsWithin n (LeftOut left_out) = Unit {0}
IsWithin n (Token kind) = Unit {0}

-- a token is refused at the place of what is wrong in it, or memory is wanting
abbrev pub IsFaultOf : Option Pos → LexFault → Type 0
IsFaultOf bad fault.Memory = Unit {0}
IsFaultOf bad (fault.BadToken place) = bad ≡ Some place
IsFaultOf bad (fault.Unsupported left_out place) = ⊥

-- one more token is kept
pub record Keeps (old new : Reader) (place : Pos) (r : Reading) : Type 0 where
  pub list : new.list.items ≡ old.list.items ++ token_of place r
  pub left_out : new.left_out ≡ option_or old.left_out (placed place (feature_of old.after_long r))
  pub after_long : new.after_long ≡ long_after old.after_long r

-- the outcome of a source, by what is kept of it and the pieces that are left
unfoldable pub outcome_from : Reader → List Piece → Pos → Result Tokens LexFault
outcome_from reader pieces end =
    outcome (first_bad pieces) (option_or reader.left_out (left_out_in reader.after_long pieces)) (record { list = reader.list.items ++ tokens_of_pieces pieces; end = end })

-- a piece of so many bytes is taken from what is left
pub record Advances (old new : Reader) (place : Pos) (bytes : Text) (n : ℕ) : Type 0 where
  pub some : 0 < n
  pub within : n ≤ length bytes
  pub same : (end : Pos) → outcome_from new (pieces_from 0 (place_after place (take n bytes)) (drop n bytes)) end ≡ outcome_from old (pieces_from 0 place bytes) end
