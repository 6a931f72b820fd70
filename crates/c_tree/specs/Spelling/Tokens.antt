-- Tokens and lists of tokens, from which spellings are made.
use Rattle.std.specs.Prelude.{ℕ, zero, suc, List, [], ◌∷◌, ◌++◌, Option, Some, None, map}
use Rattle.c_tree.specs.declared.token.Pos.{Pos}
use Rattle.c_tree.specs.declared.token.Punct.{Punct}
use Rattle.c_tree.specs.declared.token.Punct.TheVariants as p
use Rattle.c_tree.specs.declared.token.Keyword.{Keyword}
use Rattle.c_tree.specs.declared.token.Keyword.TheVariants as word
use Rattle.c_tree.specs.declared.token.TokenKind.{TokenKind}
use Rattle.c_tree.specs.declared.token.TokenKind.TheVariants as k
use Rattle.c_tree.specs.declared.token.Token.{Token}
use Rattle.c_tree.specs.declared.expression.Identifier.{Identifier}
use Rattle.c_tree.specs.declared.expression.Literal.{Literal}
use Rattle.c_tree.specs.declared.expression.Mark.{Mark}
use Rattle.c_tree.specs.declared.declarator.Pointer.{Pointer}
use Rattle.c_tree.specs.declared.specifier.Storage.{Storage}
use Rattle.c_tree.specs.declared.specifier.Storage.TheVariants as storage
use Rattle.c_tree.specs.declared.specifier.TypeWord.{TypeWord}
use Rattle.c_tree.specs.declared.specifier.TypeWord.TheVariants as type

-- tokens in order
abbrev pub Spelling : Type 0
Spelling = List Token

-- a token of this kind at this place
abbrev pub token : TokenKind → Pos → Token
token kind place = record { kind = kind; place = place }

-- a punctuator at this place
abbrev pub punct : Punct → Pos → Token
punct mark place = token (k.Punct mark) place

-- a keyword at this place
abbrev pub keyword : Keyword → Pos → Token
keyword text place = token (k.Keyword text) place

-- the token of a punctuator with its place
abbrev pub mark : Mark → Token
mark m = punct m.punct m.place

-- the token of a name with its place
abbrev pub name : Identifier → Token
name id = token (k.Name id.text) id.place

-- the kinds of tokens, without their places
abbrev pub kinds : Spelling → List TokenKind
kinds [] = []
kinds (t ∷ ts) = t.kind ∷ kinds ts

-- what is kept of the kinds of tokens
abbrev pub told : {A : Type 0} → (TokenKind → A) → Spelling → List A
told shown [] = []
told shown (t ∷ ts) = shown t.kind ∷ told shown ts

-- a list of nothing but its length
abbrev pub units : ℕ → List (Unit {0})
units zero = []
units (suc n) = tt ∷ units n

-- spellings one after another
abbrev pub joined : List Spelling → Spelling
joined [] = []
joined (s ∷ ss) = s ++ joined ss

-- a string literal
abbrev pub literal_spelling : Literal → Spelling
literal_spelling l = token (k.Bytes l.bytes) l.place ∷ []

-- tokens between two
abbrev pub between : Token → Spelling → Token → Spelling
between first inner last = first ∷ (inner ++ last ∷ [])

-- `(` .. `)`
abbrev pub parens : Pos → Spelling → Pos → Spelling
parens from inner to = between (punct p.LeftParen from) inner (punct p.RightParen to)

-- `[` .. `]`
abbrev pub brackets : Pos → Spelling → Pos → Spelling
brackets from inner to = between (punct p.LeftBracket from) inner (punct p.RightBracket to)

-- `{` .. `}`
abbrev pub braces : Pos → Spelling → Pos → Spelling
braces from inner to = between (punct p.LeftBrace from) inner (punct p.RightBrace to)

-- a comma where one stands
abbrev pub comma_at : Option Pos → Spelling
comma_at None = []
comma_at (Some place) = punct p.Comma place ∷ []

-- a name where one stands
abbrev pub name_at : Option Identifier → Spelling
name_at None = []
name_at (Some id) = name id ∷ []

-- `const` behind a `*`
abbrev pub const_spelling : Pos → Spelling
const_spelling place = keyword word.Const place ∷ []

-- `*` and the `const` words behind it
abbrev pub pointer_spelling : Pointer → Spelling
pointer_spelling one = punct p.Star one.star ∷ joined (map const_spelling one.constants)

-- the keyword of a storage word (C11 6.7.1)
abbrev pub storage_word : Storage → Keyword
storage_word storage.Typedef = word.Typedef
storage_word storage.Extern = word.Extern
storage_word storage.Static = word.Static
storage_word storage.Auto = word.Auto
storage_word storage.Register = word.Register

-- the keyword of a type word (C11 6.7.2)
abbrev pub type_word : TypeWord → Keyword
type_word type.Void = word.Void
type_word type.Char = word.Char
type_word type.Short = word.Short
type_word type.Int = word.Int
type_word type.Long = word.Long
type_word type.Signed = word.Signed
type_word type.Unsigned = word.Unsigned
type_word type.Bool = word.Bool
