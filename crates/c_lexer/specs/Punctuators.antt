-- Punctuators (C11 6.4.6), without digraphs, `#` and `##`.
use Rattle.std.specs.Prelude.{List, [], ◌∷◌, Option, codes}
use Rattle.c_tree.specs.declared.token.Punct.{Punct}
use Rattle.c_tree.specs.declared.token.Punct.TheVariants as mark
use Rattle.c_lexer.specs.Fronts.{Text, lookup}

abbrev pub punctuators : List (Text × Punct)
punctuators =
    (codes "[", mark.LeftBracket) ∷ (codes "]", mark.RightBracket) ∷ (codes "(", mark.LeftParen) ∷ (codes ")", mark.RightParen)
    ∷ (codes "{", mark.LeftBrace) ∷ (codes "}", mark.RightBrace) ∷ (codes ".", mark.Dot) ∷ (codes "->", mark.Arrow)
    ∷ (codes "++", mark.Increment) ∷ (codes "--", mark.Decrement) ∷ (codes "&", mark.Ampersand) ∷ (codes "*", mark.Star)
    ∷ (codes "+", mark.Plus) ∷ (codes "-", mark.Minus) ∷ (codes "~", mark.Tilde) ∷ (codes "!", mark.Not)
    ∷ (codes "/", mark.Slash) ∷ (codes "%", mark.Percent) ∷ (codes "<<", mark.ShiftLeft) ∷ (codes ">>", mark.ShiftRight)
    ∷ (codes "<", mark.Less) ∷ (codes ">", mark.Greater) ∷ (codes "<=", mark.LessEqual) ∷ (codes ">=", mark.GreaterEqual)
    ∷ (codes "==", mark.Equal) ∷ (codes "!=", mark.NotEqual) ∷ (codes "^", mark.Caret) ∷ (codes "|", mark.Bar)
    ∷ (codes "&&", mark.AndAnd) ∷ (codes "||", mark.OrOr) ∷ (codes "?", mark.Question) ∷ (codes ":", mark.Colon)
    ∷ (codes ";", mark.Semicolon) ∷ (codes "...", mark.Ellipsis) ∷ (codes "=", mark.Assign) ∷ (codes "*=", mark.StarAssign)
    ∷ (codes "/=", mark.SlashAssign) ∷ (codes "%=", mark.PercentAssign) ∷ (codes "+=", mark.PlusAssign) ∷ (codes "-=", mark.MinusAssign)
    ∷ (codes "<<=", mark.ShiftLeftAssign) ∷ (codes ">>=", mark.ShiftRightAssign) ∷ (codes "&=", mark.AmpersandAssign)
    ∷ (codes "^=", mark.CaretAssign) ∷ (codes "|=", mark.BarAssign) ∷ (codes ",", mark.Comma) ∷ []

-- the punctuator of a text, if it is one
unfoldable pub punctuator_of : Text → Option Punct
punctuator_of text = lookup punctuators text
