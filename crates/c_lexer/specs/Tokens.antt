-- The tokens of a source, each with its place, or why and where the source is refused.
use Rattle.std.specs.Prelude.{◌≡◌, ℕ, zero, suc, ◌+◌, ◌-◌, Bool, true, false, ◌&&◌, ◌||◌, ◌==◌, if◌then◌else◌, List, [], ◌∷◌, ◌++◌, take, Option, Some, None, Result, Ok, Err}
use Rattle.std.specs.Option.{option_or, option_map, is_some}
use Rattle.c_tree.specs.declared.refusal.Feature.{Feature}
use Rattle.c_tree.specs.declared.token.Pos.{Pos}
use Rattle.c_tree.specs.declared.token.Token.{Token}
use Rattle.c_tree.specs.declared.token.Tokens.{Tokens}
use Rattle.c_lexer.specs.declared.fault.LexFault.{LexFault}
use Rattle.c_lexer.specs.declared.fault.LexFault.TheVariants.{BadToken, Unsupported, Memory}
use Rattle.c_lexer.specs.declared.reading.Reading.{Reading}
use Rattle.c_lexer.specs.declared.reading.Reading.TheVariants as reading
use Rattle.c_lexer.specs.Features.{has_long, feature_of}
use Rattle.c_lexer.specs.Fronts.{Text, longest}
use Rattle.c_lexer.specs.WhiteSpace.{is_newline, is_gap, opens_comment}
use Rattle.c_lexer.specs.Literals.{is_literal, opening_of}
use Rattle.c_lexer.specs.Lexemes.{is_lexeme, reading_of}

-- ---- places

abbrev pub start : Pos
start = record { line = 1; column = 1 }

-- a newline ends its line, and any other byte is a column
abbrev pub place_after_byte : Pos → ℕ → Pos
place_after_byte place b = if is_newline b then record { line = place.line + 1; column = 1 } else record { line = place.line; column = place.column + 1 }

abbrev pub place_after : Pos → Text → Pos
place_after place [] = place
place_after place (b ∷ bytes) = place_after (place_after_byte place b) bytes

-- ---- a source in pieces

-- what stands in front: so many bytes between tokens, a token of so many bytes, or neither
pub data Front : Type 0 where
  Gap : ℕ → Front
  Lexeme : ℕ → Front
  Stray : Front

-- a comment or a literal begins in front and does not end
abbrev pub is_unclosed : Text → Bool
is_unclosed bytes = opens_comment bytes || (is_some (opening_of bytes) && longest is_literal bytes == 0)

abbrev pub front_by : ℕ → Bool → ℕ → Front
front_by (suc gap) unclosed lexeme = Gap (suc gap)
front_by zero true lexeme = Stray
front_by zero false (suc lexeme) = Lexeme (suc lexeme)
front_by zero false zero = Stray

-- the longest of what may stand between tokens, else the longest of the tokens
unfoldable pub front_of : Bool → Text → Front
front_of at_line_start bytes = front_by (longest (is_gap at_line_start) bytes) (is_unclosed bytes) (longest is_lexeme bytes)

-- a token, or a place where none begins
pub data Piece : Type 0 where
  Lexeme : Pos → Text → Piece
  Stray : Pos → Piece

abbrev pub piece_of : Pos → Text → Front → List Piece
piece_of place bytes (Front.Gap n) = []
piece_of place bytes (Front.Lexeme n) = Piece.Lexeme place (take n bytes) ∷ []
piece_of place bytes Front.Stray = Piece.Stray place ∷ []

abbrev pub length_of : Front → ℕ
length_of (Front.Gap n) = n
length_of (Front.Lexeme n) = n
length_of Front.Stray = 1

-- The pieces of what is left of a source. The number counts the bytes that are left of a piece, the place is that of the
-- front. What follows a stray byte is taken to begin anew, and nothing asks for it.
abbrev pub pieces_from : ℕ → Pos → Text → List Piece
pieces_from left place [] = []
pieces_from (suc left) place (b ∷ bytes) = pieces_from left (place_after_byte place b) bytes
pieces_from zero place (b ∷ bytes) =
    let front = front_of (place.column == 1) (b ∷ bytes) in
    piece_of place (b ∷ bytes) front ++ pieces_from (length_of front - 1) (place_after_byte place b) bytes

-- ---- the first refusal, and the tokens

abbrev pub bad_place : Pos → Text → Reading → Option Pos
bad_place place text (reading.Bad at) = Some (place_after place (take at text))
bad_place place text (reading.LeftOut left_out) = None
bad_place place text (reading.Token kind) = None

-- the first place where a token is bad or none begins
abbrev pub first_bad : List Piece → Option Pos
first_bad [] = None
first_bad (Piece.Stray place ∷ pieces) = Some place
first_bad (Piece.Lexeme place text ∷ pieces) = option_or (bad_place place text (reading_of text)) (first_bad pieces)

abbrev pub placed : Pos → Option Feature → Option (Feature × Pos)
placed place found = option_map (λ left_out. (left_out, place)) found

-- the first token of a feature that the profile leaves out; `before` is what stands before, the nearest first
abbrev pub first_left_out : List Reading → List Piece → Option (Feature × Pos)
first_left_out before [] = None
first_left_out before (Piece.Stray place ∷ pieces) = None
first_left_out before (Piece.Lexeme place text ∷ pieces) =
    option_or (placed place (feature_of (has_long before) (reading_of text))) (first_left_out (reading_of text ∷ before) pieces)

abbrev pub token_of : Pos → Reading → List Token
token_of place (reading.Token kind) = record { kind = kind; place = place } ∷ []
token_of place (reading.LeftOut left_out) = []
token_of place (reading.Bad at) = []

abbrev pub tokens_of_pieces : List Piece → List Token
tokens_of_pieces [] = []
tokens_of_pieces (Piece.Stray place ∷ pieces) = []
tokens_of_pieces (Piece.Lexeme place text ∷ pieces) = token_of place (reading_of text) ++ tokens_of_pieces pieces

-- a bad place comes first, even behind a token that is left out; then the first token that is left out; else the tokens
abbrev pub outcome : Option Pos → Option (Feature × Pos) → Tokens → Result Tokens LexFault
outcome (Some place) left_out tokens = Err (BadToken place)
outcome None (Some found) tokens = Err (Unsupported found.0 found.1)
outcome None None tokens = Ok tokens

-- the tokens of a source with the place just past its last byte, or its first refusal
unfoldable pub tokens_of : Text → Result Tokens LexFault
tokens_of bytes =
    let pieces = pieces_from 0 start bytes in
    outcome (first_bad pieces) (first_left_out [] pieces) (record { list = tokens_of_pieces pieces; end = place_after start bytes })

-- why a source is refused: want of memory may come wherever memory is taken
abbrev pub Refuses : LexFault → Result Tokens LexFault → Type 0
Refuses Memory expected = Unit {0}
Refuses (BadToken place) expected = expected ≡ Err (BadToken place)
Refuses (Unsupported left_out place) expected = expected ≡ Err (Unsupported left_out place)
