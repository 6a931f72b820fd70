-- The tokens by their spelling (C11 6.4), and what each is read as.
use Rattle.std.specs.Prelude.{Bool, ◌||◌, is_some, if◌then◌else◌, Option, Some, None}
use Rattle.c_tree.specs.declared.refusal.Feature.{Feature}
use Rattle.c_tree.specs.declared.token.Keyword.{Keyword}
use Rattle.c_tree.specs.declared.token.Punct.{Punct}
use Rattle.c_tree.specs.declared.token.TokenKind.{TokenKind}
use Rattle.c_tree.specs.declared.token.TokenKind.TheVariants as token
use Rattle.c_lexer.specs.declared.reading.Reading.{Reading}
use Rattle.c_lexer.specs.declared.reading.Reading.TheVariants.{Bad, LeftOut, Token}
use Rattle.c_lexer.specs.Features.{feature_of_keyword, feature_of_punctuator}
use Rattle.c_lexer.specs.Fronts.{Text}
use Rattle.c_lexer.specs.Names.{is_name, keyword_of}
use Rattle.c_lexer.specs.Numbers.{is_number, reading_of_number}
use Rattle.c_lexer.specs.Literals.{is_literal, reading_of_literal}
use Rattle.c_lexer.specs.Punctuators.{punctuator_of}

-- A reading is a token of the profile, the feature that leaves it out, or how far behind the first byte stands what is wrong.

-- a name or keyword, a number, a character constant or string literal, or a punctuator
abbrev pub is_lexeme : Text → Bool
is_lexeme text = is_name text || (is_number text || (is_literal text || is_some (punctuator_of text)))

abbrev pub left_out_or : Option Feature → TokenKind → Reading
left_out_or (Some left_out) kind = LeftOut left_out
left_out_or None kind = Token kind

abbrev pub reading_of_word : Text → Option Keyword → Reading
reading_of_word text (Some keyword) = left_out_or (feature_of_keyword keyword) (token.Keyword keyword)
reading_of_word text None = Token (token.Name text)

abbrev pub reading_of_mark : Punct → Reading
reading_of_mark mark = left_out_or (feature_of_punctuator mark) (token.Punct mark)

abbrev pub reading_of_punctuator : Option Punct → Reading
reading_of_punctuator (Some mark) = reading_of_mark mark
reading_of_punctuator None = Bad 0

-- what the bytes of a token are read as
unfoldable pub reading_of : Text → Reading
reading_of text =
    if is_name text then reading_of_word text (keyword_of text)
    else (if is_number text then reading_of_number text
    else (if is_literal text then reading_of_literal text else reading_of_punctuator (punctuator_of text)))
