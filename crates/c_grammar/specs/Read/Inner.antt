-- What is read inside brackets, and which token begins it.
use Rattle.std.specs.Prelude.{ℕ, Bool, true, false, not, ◌&&◌, ◌||◌, List, Option, Some, None, is_some}
use Rattle.c_tree.specs.declared.token.Keyword.{Keyword}
use Rattle.c_tree.specs.declared.token.Keyword.TheVariants as word
use Rattle.c_tree.specs.declared.token.Punct.TheVariants as p
use Rattle.c_tree.specs.declared.token.TokenKind.{TokenKind}
use Rattle.c_tree.specs.declared.token.TokenKind.TheVariants as k
use Rattle.c_tree.specs.declared.expression.Expr.{Expr}
use Rattle.c_tree.specs.declared.expression.TypeName.{TypeName, roll-TypeName}
use Rattle.c_tree.specs.declared.specifier.Specifier.{Specifier}
use Rattle.c_tree.specs.declared.specifier.Storage.{Storage}
use Rattle.c_tree.specs.declared.specifier.Storage.TheVariants as storage
use Rattle.c_tree.specs.declared.specifier.TypeWord.{TypeWord}
use Rattle.c_tree.specs.declared.specifier.TypeWord.TheVariants as type
use Rattle.c_tree.specs.declared.declarator.Declarator.{Declarator}
use Rattle.c_tree.specs.Levels.Names.{Names, is_typedef_name}
use Rattle.c_tree.specs.Levels.Facts.{Use, Abstract}
use Rattle.c_grammar.specs.Input.{Parser, ◌>>=◌, pure, is_mark}
use Rattle.c_grammar.specs.Read.Nodes.{name_type}

-- The parsers of what stands inside brackets, all at one depth.
pub record Inner : Type 0 where
  -- an expression of this production
  pub expr : ℕ → Parser Expr
  -- specifiers, with storage words or without
  pub specifiers : Bool → Parser (List Specifier)
  -- a declarator for this use, behind specifiers that name a type or do not
  pub declarator : Use → Bool → Parser Declarator

-- a type name (C11 6.7.7)
unfoldable pub type_name : Inner → Parser TypeName
type_name inner = do
  specifiers ← inner.specifiers false
  declarator ← inner.declarator Abstract (name_type specifiers)
  pure (roll-TypeName (record { specifiers = specifiers; declarator = declarator }))

-- ---- the words of specifiers

abbrev pub storage_of : Keyword → Option Storage
storage_of word.Typedef = Some storage.Typedef
storage_of word.Extern = Some storage.Extern
storage_of word.Static = Some storage.Static
storage_of word.Auto = Some storage.Auto
storage_of word.Register = Some storage.Register
storage_of _ = None

abbrev pub type_of : Keyword → Option TypeWord
type_of word.Void = Some type.Void
type_of word.Char = Some type.Char
type_of word.Short = Some type.Short
type_of word.Int = Some type.Int
type_of word.Long = Some type.Long
type_of word.Signed = Some type.Signed
type_of word.Unsigned = Some type.Unsigned
type_of word.Bool = Some type.Bool
type_of _ = None

abbrev pub is_sizeof : Option TokenKind → Bool
is_sizeof (Some (k.Keyword word.Sizeof)) = true
is_sizeof _ = false

abbrev pub is_const : Option TokenKind → Bool
is_const (Some (k.Keyword word.Const)) = true
is_const _ = false

abbrev pub is_struct : Option TokenKind → Bool
is_struct (Some (k.Keyword word.Struct)) = true
is_struct _ = false

abbrev pub is_enum : Option TokenKind → Bool
is_enum (Some (k.Keyword word.Enum)) = true
is_enum _ = false

abbrev pub is_void : Option TokenKind → Bool
is_void (Some (k.Keyword word.Void)) = true
is_void _ = false

-- a word that is a specifier or begins one, with storage words or without
abbrev pub word_begins : Bool → Keyword → Bool
word_begins with_storage word.Const = true
word_begins with_storage word.Struct = true
word_begins with_storage word.Enum = true
word_begins with_storage key = is_some (type_of key) || (with_storage && is_some (storage_of key))

-- a token that begins a specifier, where `typed` tells whether one before it named a type
abbrev pub begins_specifier : Bool → Bool → Names → Option TokenKind → Bool
begins_specifier with_storage typed names (Some (k.Keyword key)) = word_begins with_storage key
begins_specifier with_storage typed names (Some (k.Name text)) = not typed && is_typedef_name names text
begins_specifier with_storage typed names _ = false

-- a token that begins a type name
abbrev pub begins_type : Names → Option TokenKind → Bool
begins_type names kind = begins_specifier false false names kind

-- a token behind `(` that makes it the bracket of parameters
abbrev pub begins_parameters : Names → Option TokenKind → Bool
begins_parameters names kind = is_mark p.RightParen kind || begins_specifier true false names kind
