-- Names (C11 6.4.2.1) and keywords (C11 6.4.1).
use Rattle.std.specs.Prelude.{ℕ, Bool, false, ◌&&◌, ◌||◌, ◌==◌, List, [], ◌∷◌, Option, codes}
use Rattle.std.specs.Char.{is_ascii_digit, is_ascii_alphabetic}
use Rattle.std.specs.List.{list_all}
use Rattle.c_tree.specs.declared.token.Keyword.{Keyword}
use Rattle.c_tree.specs.declared.token.Keyword.TheVariants as word
use Rattle.c_lexer.specs.Fronts.{Text, lookup}

-- a letter or `_`
abbrev pub is_letter : ℕ → Bool
is_letter b = is_ascii_alphabetic b || b == 95

-- a letter, a digit or `_`
abbrev pub is_word : ℕ → Bool
is_word b = is_letter b || is_ascii_digit b

abbrev pub is_name : Text → Bool
is_name [] = false
is_name (b ∷ bytes) = is_letter b && list_all is_word bytes

abbrev pub keywords : List (Text × Keyword)
keywords =
    (codes "auto", word.Auto) ∷ (codes "break", word.Break) ∷ (codes "case", word.Case) ∷ (codes "char", word.Char)
    ∷ (codes "const", word.Const) ∷ (codes "continue", word.Continue) ∷ (codes "default", word.Default) ∷ (codes "do", word.Do)
    ∷ (codes "double", word.Double) ∷ (codes "else", word.Else) ∷ (codes "enum", word.Enum) ∷ (codes "extern", word.Extern)
    ∷ (codes "float", word.Float) ∷ (codes "for", word.For) ∷ (codes "goto", word.Goto) ∷ (codes "if", word.If)
    ∷ (codes "inline", word.Inline) ∷ (codes "int", word.Int) ∷ (codes "long", word.Long) ∷ (codes "register", word.Register)
    ∷ (codes "restrict", word.Restrict) ∷ (codes "return", word.Return) ∷ (codes "short", word.Short) ∷ (codes "signed", word.Signed)
    ∷ (codes "sizeof", word.Sizeof) ∷ (codes "static", word.Static) ∷ (codes "struct", word.Struct) ∷ (codes "switch", word.Switch)
    ∷ (codes "typedef", word.Typedef) ∷ (codes "union", word.Union) ∷ (codes "unsigned", word.Unsigned) ∷ (codes "void", word.Void)
    ∷ (codes "volatile", word.Volatile) ∷ (codes "while", word.While) ∷ (codes "_Alignas", word.AlignAs) ∷ (codes "_Alignof", word.AlignOf)
    ∷ (codes "_Atomic", word.Atomic) ∷ (codes "_Bool", word.Bool) ∷ (codes "_Complex", word.Complex) ∷ (codes "_Generic", word.Generic)
    ∷ (codes "_Imaginary", word.Imaginary) ∷ (codes "_Noreturn", word.NoReturn) ∷ (codes "_Static_assert", word.StaticAssert)
    ∷ (codes "_Thread_local", word.ThreadLocal) ∷ []

-- the keyword of a text, if it is one
unfoldable pub keyword_of : Text → Option Keyword
keyword_of text = lookup keywords text
